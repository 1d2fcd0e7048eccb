use Rattle.std.proofs.Common.{◌++◌, ◌∷◌, [], map, sym, ap, ◌∙◌, append_assoc}
use Rattle.std.specs.List.{flat_map}
use Rattle.http_cache_json.specs.Pairs.{Pair}
use Rattle.http_cache_compact.specs.Written.{field_text}
use Rattle.http_cache_compact.proofs.PairLemmas.{flat_push, all_push}
use Rattle.http_cache_compact.proofs.write.push_fields.Invariants.{line}
use Rattle.http_cache_compact.proofs.write.push_fields.Goals as goal

pub loop-name-preserved : goal.loop-name-preserved
loop-name-preserved c =
    let (done, left, written, all) = c.loop-name.invariant in
    let p : Pair = (c.in-Some.name.now, c.in-Some.value.now.bytes) in (
      done ++ p ∷ [],
      append_assoc done (p ∷ []) (map line c.next.new.self)
          ∙ ap (λ ps. done ++ map line ps) (sym c.in-Some.ensures.steps) ∙ left,
      c.in_ok-push_field.ensures.text ∙ ap (λ t. t ++ field_text p) written
          ∙ append_assoc c.args.out.now.items (flat_map field_text done) (field_text p)
          ∙ ap (λ t. c.args.out.now.items ++ t) (sym (flat_push done p)),
      all_push done p all c.in_ok-push_field.ensures.writable,
    )
