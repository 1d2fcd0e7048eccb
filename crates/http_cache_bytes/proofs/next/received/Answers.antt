-- The next exchange is stored and sent.
use Rattle.std.proofs.lemmas.Result.{IfOk-weaker}
use Rattle.std.proofs.Common.{◌≡◌, sym, ◌∙◌, subst}
use Rattle.http_cache_semantics.specs.Exchange.{Exchange}
use Rattle.http_cache_semantics.specs.Answer.{parts_in}
use Rattle.http_cache_semantics.specs.Fresh.{IsFreshParts}
use Rattle.http_cache_bytes.specs.Form.{IsStoredFor}
use Rattle.http_cache_semantics.specs.Kept.{kept_exchange}
use Rattle.http_cache_semantics.specs.Update.{next_where}
use Rattle.http_cache_policy.proofs.KeptLemmas.{kept-settled}
use Rattle.http_cache_bytes.proofs.next.received.Goals as goal

pub bytes_of_next-requires : goal.bytes_of_next-requires
unfolding next_where
bytes_of_next-requires c =
    subst (λ (e : Exchange). kept_exchange e ≡ e) (sym c.in_ok-answer.ensures.policy) (kept-settled _)

pub returns-clause-next : goal.returns-clause-next
returns-clause-next c =
    let after = c.in_ok-answer.ensures in
    let answer = c.in_ok-answer.answer in
    IfOk-weaker c.bytes_of_next.result _ _
    (λ n is. record {
      not_modified = is.0 ∙ after.selected;
      stored = subst (λ (e : Exchange). IsStoredFor e n.stored) after.policy is.1;
      parts = parts_in answer;
      is_fresh =
          subst (λ (e : Exchange). IsFreshParts e c.args.now.nanosecond (parts_in answer)) after.policy after.parts;
      head = is.2;
    })
    c.bytes_of_next.ensures.next
