-- The lines are removed, or one line is set.
use Rattle.std.proofs.Common.{[], ◌∷◌, codes, ap, sym, ◌∙◌, cond, Some, None}
use Rattle.std.specs.FinMap as fin
use Rattle.http_header.specs.FieldValue.{FieldValue}
use Rattle.http_cache_fields.specs.Headers.{headers_of}
use Rattle.http_cache_decisions.specs.StoredHead.{or_number, repeated_length}
use Rattle.http_cache_decisions.proofs.HeadLemmas.{get-remove_same, KeepsOthers-remove, set-is}
use Rattle.http_cache_decisions.proofs.head.fix_length.Goals as goal

pub returns-then-contains_key-clause-length : goal.returns-then-contains_key-clause-length
returns-then-contains_key-clause-length c =
    let old = headers_of c.args.headers.now in
    let lines = fin.get old (codes "content-length") in
    ap (λ h. fin.get h (codes "content-length")) c.remove.ensures
    ∙ get-remove_same old (codes "content-length")
    ∙ sym (ap (λ b. cond b None (or_number (repeated_length (headers_of c.args.received.now)) lines))
    (sym c.contains_key.ensures ∙ c.if-contains_key.true))

pub returns-then-contains_key-clause-others : goal.returns-then-contains_key-clause-others
returns-then-contains_key-clause-others c = λ other apart.
    ap (λ h. fin.get h other) c.remove.ensures
    ∙ KeepsOthers-remove (headers_of c.args.headers.now) (codes "content-length") other apart

pub returns-in_ok-insert-in-Some-clause-length : goal.returns-in_ok-insert-in-Some-clause-length
returns-in_ok-insert-in-Some-clause-length c =
    let old = headers_of c.args.headers.now in
    let received = headers_of c.args.received.now in
    let lines = fin.get old (codes "content-length") in
    let value = c.in_ok-value-in-Some.value in
    (set-is old (headers_of c.insert.new.map) (codes "content-length") value.bytes c.in_ok-insert-in-Some.ensures.ok).0
    ∙ ap (λ (v : FieldValue). Some (v.bytes ∷ [])) c.in_ok-value-in-Some.ensures
    ∙ ap (λ o. or_number o lines) c.in-Some.ensures
    ∙ sym (ap (λ b. cond b None (or_number (repeated_length received) lines))
    (sym c.contains_key.ensures ∙ c.if-contains_key.false))

pub returns-in_ok-insert-in-Some-clause-others : goal.returns-in_ok-insert-in-Some-clause-others
returns-in_ok-insert-in-Some-clause-others c =
    (set-is (headers_of c.args.headers.now) (headers_of c.insert.new.map) (codes "content-length")
    c.in_ok-value-in-Some.value.bytes c.in_ok-insert-in-Some.ensures.ok).1
