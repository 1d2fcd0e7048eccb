-- Before any directive is read, names are distinct.
use Rattle.http_cache_fields.proofs.AreDirectivesLemmas.{AreDirectives-none}
use Rattle.http_cache_fields.proofs.reading.FirstDirectives.new.Goals as goal

pub invariant_of-result : goal.invariant_of-result
invariant_of-result c = AreDirectives-none
