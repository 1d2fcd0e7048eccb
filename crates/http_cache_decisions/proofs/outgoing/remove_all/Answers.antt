use Rattle.std.proofs.Common.{ℕ, List, [], map, take, get_or, ap, sym, ◌∙◌, arith}
use Rattle.std.specs.Borrow.{Bor}
use Rattle.std.specs.FinMap as fin
use Rattle.std.proofs.lemmas.List.{map_more}
use Rattle.http_header.specs.Token.{lowercase}
use Rattle.http_cache_fields.specs.Headers.{Headers, headers_of}
use Rattle.http_cache_rules.specs.Forwarding.{without_named}
use Rattle.http_cache_rules.proofs.ForwardingLemmas.{without_named-none, without_named-push}
use Rattle.http_cache_decisions.proofs.outgoing.remove_all.Goals as goal

pub loop-name-init : goal.loop-name-init
loop-name-init c = sym (without_named-none (headers_of c.args.headers.now))

pub loop-name-preserved : goal.loop-name-preserved
loop-name-preserved c =
    let names = c.args.names.now in
    let at = c.loop-name.name-index in
    let h = headers_of c.args.headers.now in
    let none : Bor (List ℕ) = record { ref_ptr = (0, 0); now = [] } in
    let bytes = λ (name : Bor (List ℕ)). name.now in
    let text = (get_or names at none).now in
    c.remove.ensures
    ∙ ap (λ (g : Headers). fin.remove g (lowercase text)) c.loop-name.invariant
    ∙ without_named-push (map bytes (take at names)) text h
    ∙ ap (λ (ts : List (List ℕ)). without_named ts h) (sym (map_more bytes names at none (omega arith)))
