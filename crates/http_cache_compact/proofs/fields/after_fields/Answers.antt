use Rattle.std.proofs.Common.{◌∷◌, [], ◌++◌, arith}
use Rattle.http_cache_json.specs.Pairs.{Pair}
use Rattle.http_cache_compact.proofs.FieldLemmas.{reading_more, reading_end, no_field}
use Rattle.http_cache_compact.proofs.TextLemmas.{none_holds}
use Rattle.http_cache_compact.proofs.fields.after_fields.Goals as goal

pub returns-in_err-rest-clause-none : goal.returns-in_err-rest-clause-none
returns-in_err-rest-clause-none c =
    let (done, reading) = c.loop-left.invariant in
    none_holds c.from_residual.result _
    (reading.none (no_field c.loop-left.left c.loop-left.rest.now (omega arith) c.in_err-rest.ensures.none))

pub loop-left-preserved : goal.loop-left-preserved
loop-left-preserved c =
    let (done, reading) = c.loop-left.invariant in
    let p : Pair = (c.in_ok-rest.field-0.name.now, c.in_ok-rest.field-0.value.now) in (
      done ++ p ∷ [],
      reading_more c.args.count c.args.bytes.now c.loop-left.left c.loop-left.rest.now done p c.in_ok-rest.field-0.rest.now
          (omega arith) c.in_ok-rest.ensures.some reading,
    )

pub returns-clause-some : goal.returns-clause-some
returns-clause-some c =
    let (done, reading) = c.loop-left.invariant in
    (done, reading_end c.args.count c.args.bytes.now c.loop-left.left c.loop-left.rest.now done (omega arith) reading)
