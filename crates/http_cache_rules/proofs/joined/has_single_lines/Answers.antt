-- With as many values as names each has one line.
use Rattle.std.proofs.Common.{◌≡◌, sym, ◌∙◌, arith}
use Rattle.std.proofs.lemmas.Bool.Decides.{nat_tests}
use Rattle.http_cache_rules.proofs.JoinedLemmas.{joined_headers-single}
use Rattle.http_cache_rules.proofs.joined.has_single_lines.Goals as goal

pub returns : goal.returns
returns c = λ same.
    let equal : c.len.result ≡ c.keys_len.result = grind (arith, nat_tests) in
    sym (joined_headers-single c.args.headers.now c.len.ensures.valid
    (sym c.len.ensures.value ∙ equal ∙ c.keys_len.ensures.value))
