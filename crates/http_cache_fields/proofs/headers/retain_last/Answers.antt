-- A name keeps its last value. With as many values as names each has only one already.
use Rattle.std.proofs.Common.{sym, ap, ◌∙◌}
use Rattle.http_cache_fields.specs.Headers.{headers_of, set}
use Rattle.http_cache_fields.proofs.LastLemmas.{retain_last-none, retain_last-some, retain_last-single}
use Rattle.http_cache_fields.proofs.LastLemmas.{contains_key-from_last}
use Rattle.http_cache_fields.proofs.headers.retain_last.Goals as goal

pub returns-then-len-keys_len : goal.returns-then-len-keys_len
returns-then-len-keys_len c =
    retain_last-single c.args.map.now c.args.name.now c.len.ensures.valid
    (sym c.len.ensures.value ∙ c.if-len-keys_len.true ∙ c.keys_len.ensures.value)

pub returns-in_default : goal.returns-in_default
returns-in_default c =
    retain_last-none c.args.map.now c.args.name.now c.len.ensures.valid c.in_default.ensures

pub replace-requires-clause-there : goal.replace-requires-clause-there
replace-requires-clause-there c =
    contains_key-from_last c.args.map.now c.args.name.now c.in-Some.ensures.front c.in-Some.value.now
    c.in-Some.ensures.is

pub returns : goal.returns
returns c =
    let m = c.args.map.now in
    let name = c.args.name.now in
    let last = c.in-Some.ensures in
    let same = c.replace.ensures ∙ ap (λ v. set (headers_of m) name v.bytes) c.in_ok-last.ensures.cases in
    retain_last-some
    (headers_of c.replace.new.map) m name last.front c.in-Some.value.now c.len.ensures.valid last.is
    same
