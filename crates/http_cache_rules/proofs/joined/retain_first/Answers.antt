-- A singleton keeps its first line, and an absent name stays absent.
use Rattle.std.proofs.Common.{◌≡◌, ◌∙◌, Some, is_some, slice_get, option_map, sym, ap}
use Rattle.std.specs.Option.{option_copied}
use Rattle.http_header.specs.HeaderMap.{get_all}
use Rattle.http_cache_fields.specs.Headers.{headers_of, bytes_of, first, set}
use Rattle.http_cache_fields.proofs.HeadersLemmas.{contains_key-headers_of, first-headers_of, values-headers_of}
use Rattle.http_cache_rules.proofs.JoinedLemmas.{changes-one, joined_values-singleton}
use Rattle.http_cache_rules.specs.Joined.{joined_values}
use Rattle.http_cache_rules.proofs.SweepLemmas.{absent-from_holds, changes-absent}
use Rattle.http_cache_rules.proofs.joined.retain_first.Goals as goal

pub returns-in_default : goal.returns-in_default
returns-in_default c =
    let m = c.args.map.now in
    let name = c.args.name.now in
    let none = sym (contains_key-headers_of m name c.get.result c.get.ensures.value) ∙ ap is_some c.in_default.is in
    changes-absent (headers_of m) name (joined_values name) (absent-from_holds m name c.reveal_header_map.ensures none)

pub replace-requires-clause-there : goal.replace-requires-clause-there
replace-requires-clause-there c =
    sym (contains_key-headers_of c.args.map.now c.args.name.now c.get.result c.get.ensures.value)
    ∙ ap is_some c.in-Some.is

pub returns : goal.returns
returns c =
    let m = c.args.map.now in
    let name = c.args.name.now in
    let v = c.in-Some.first.now.bytes in
    let there : first (headers_of m) name ≡ Some v =
    first-headers_of m name
    ∙ ap (option_map (λ v. v.bytes)) (sym c.get.ensures.value ∙ ap option_copied c.in-Some.is) in
    changes-one m name v (headers_of c.replace.new.map) c.reveal_header_map.ensures
    (joined_values-singleton name v (bytes_of (get_all m name)) c.requires
    (ap (λ vs. slice_get vs 0) (sym (values-headers_of m name)) ∙ there))
    (c.replace.ensures ∙ ap (λ w. set (headers_of m) name w.bytes) c.in_ok-first.ensures.cases)
