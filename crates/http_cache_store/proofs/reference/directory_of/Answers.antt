-- The directory of a path is all before its last slash.
use Rattle.std.proofs.Common.{◌∙◌, sym, arith}
use Rattle.http_cache_store.proofs.PathLemmas.{before_last-at, before_last-none}
use Rattle.http_cache_store.proofs.reference.directory_of.Goals as goal

pub returns-in-Some : goal.returns-in-Some
returns-in-Some c =
    let h = c.in-Some.ensures.cases in
    h.3 ∙ sym (before_last-at c.args.path.now h.0 h.1 (omega (arith, h.7)) h.2)

pub returns-in-None : goal.returns-in-None
returns-in-None c = sym (before_last-none c.args.path.now c.in-None.ensures.cases)
