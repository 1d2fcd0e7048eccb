use Rattle.std.proofs.Common.{rules, ◌≡◌, ◌∙◌, sym, ap, length}
use Rattle.http_cache_semantics.specs.Messages.{RequestSeen}
use Rattle.http_cache_walk.specs.Assume.{assumed_seen}
use Rattle.http_cache_walk.specs.Stored.{stored_seen, answer_to, answer}
use Rattle.http_cache_walk.proofs.StoredLemmas.{compared_known}
use Rattle.http_cache_walk.proofs.stored.Stored.answer.Goals as goal

pub returns-then-is_empty-2-clause-value : goal.returns-then-is_empty-2-clause-value
unfolding answer
returns-then-is_empty-2-clause-value c =
    let none : length c.args.self.now.unknown.items ≡ 0 = search rules in
    let all : length c.args.asked.now.unknown.items ≡ 0 = search rules in
    c.answer_to.ensures.value
    ∙ ap (λ (r : RequestSeen). answer_to (stored_seen c.args.self.now) r c.args.index c.args.now.nanosecond)
    (sym (compared_known (assumed_seen c.args.asked.now) _ _ all none))
