-- The written form reads back, and begins with the version.
use Rattle.std.proofs.lemmas.Result.{IfOk-weaker}
use Rattle.http_cache_compact.proofs.ReadsBackLemmas.{three_ok, written_back, version_first}
use Rattle.http_cache_compact.proofs.write.compact_of.Goals as goal

pub returns-clause-reads_back : goal.returns-clause-reads_back
returns-clause-reads_back c =
    three_ok c.write.result _ _ _ _ (λ out is writable maps. written_back c.args.kept.now out.items is writable maps)
    c.write.ensures.text c.write.ensures.writable c.write.ensures.maps

pub returns-clause-version : goal.returns-clause-version
returns-clause-version c =
    IfOk-weaker c.write.result _ _ (λ out is. version_first _ _ out.items is) c.write.ensures.text
