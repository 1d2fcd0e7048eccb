-- A path without a slash in front stays.
use Rattle.std.proofs.Common.{None, lit<}
use Rattle.std.proofs.lemmas.Str.Pattern.{strip_prefix_char}
use Rattle.http_cache_store.proofs.PathLemmas.{after_root-none}
use Rattle.http_cache_store.proofs.reference.after_root.Goals as goal

pub returns-in-None : goal.returns-in-None
returns-in-None c =
    let path = c.args.path.now in
    after_root-none path (strip_prefix_char 47 path None c.in-None.ensures.cases (lit< tt))
