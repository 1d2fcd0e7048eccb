-- What is found is among the stored responses.
use Rattle.std.proofs.Common.{ap, sym, ◌∙◌}
use Rattle.http_cache_decisions.specs.Asking.{incoming_seen}
use Rattle.http_cache_policy.specs.Lookup.{answers_once_validated, may_be_used}
use Rattle.http_cache_rules.specs.Messages.{RequestSeen}
use Rattle.http_cache_decisions.specs.Judge.{answering, usable}
use Rattle.http_cache_decisions.proofs.FindLemmas.{found_among}
use Rattle.http_cache_decisions.proofs.judge.select.Goals as goal

pub returns-in-Some-clause-among : goal.returns-in-Some-clause-among
returns-in-Some-clause-among c =
    let stored = c.args.stored.now in
    let now = c.args.now.nanosecond in
    found_among (λ r. may_be_used r.policy (incoming_seen c.args.incoming.now) now) stored c.in-Some.one.now
    (ap (λ (q : RequestSeen). usable q now stored) (sym c.as_received-asking.ensures) ∙ sym c.in-Some.ensures)

pub returns-in-Some-answering-clause-among : goal.returns-in-Some-answering-clause-among
returns-in-Some-answering-clause-among c =
    let stored = c.args.stored.now in
    found_among (λ r. answers_once_validated r.policy (incoming_seen c.args.incoming.now)) stored
    c.in-Some-answering.one.now
    (ap (λ (q : RequestSeen). answering q stored) (sym c.as_received-asking.ensures) ∙ sym c.in-Some-answering.ensures)
