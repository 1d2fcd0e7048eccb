-- A field is kept, told of, or removed.
use Rattle.std.proofs.Common.{ap, sym, ◌∙◌, inl, inr}
use Rattle.http_cache_fields.specs.Headers.{headers_of}
use Rattle.http_cache_rules.proofs.SweepLemmas.{absent-from_holds}
use Rattle.http_cache_decisions.proofs.NeededLemmas.{changes-told, changes-gone}
use Rattle.http_cache_decisions.proofs.needed.retain_needed.Goals.{else-is_authorization-via-then-is_authorization+else-contains_key, else-is_authorization-via-else-is_authorization}
use Rattle.http_cache_decisions.proofs.needed.retain_needed.Goals as goal

pub returns-then-contains_key : goal.returns-then-contains_key
returns-then-contains_key c =
    changes-told (headers_of c.args.response.now) (headers_of c.args.map.now) (headers_of c.replace.new.map)
    c.args.name.now c.from_static.result.bytes
    (sym c.is_needed.ensures ∙ c.if-is_needed.false)
    (sym c.is_authorization.ensures ∙ c.if-is_authorization.true)
    (sym c.contains_key.ensures ∙ c.if-contains_key.true)
    (ap (λ v. v.bytes) c.from_static.ensures) c.replace.ensures

pub returns : goal.returns
returns c =
    changes-gone (headers_of c.args.response.now) (headers_of c.args.map.now) (headers_of c.remove.new.map)
    c.args.name.now (sym c.is_needed.ensures ∙ c.if-is_needed.false)
    (elim c.else-is_authorization.branch [
      | else-is_authorization-via-then-is_authorization+else-contains_key w ↦ inr (absent-from_holds c.args.map.now c.args.name.now
          c.reveal_header_map.ensures (sym w.contains_key.ensures ∙ w.if-contains_key.false))
      | else-is_authorization-via-else-is_authorization w ↦ inl (sym c.is_authorization.ensures ∙ w.if-is_authorization.false)
    ])
    c.remove.ensures
