-- A reply that refuses nothing ends the request whose outcome the frame reports.
use Rattle.serde_json.specs.View.{view}
use Rattle.http_cache_wire.proofs.HandedLemmas.{handed}
use Rattle.http_cache_session.proofs.session.Session.answer.Goals as goal

pub returns-in-Ok-clause-over : goal.returns-in-Ok-clause-over
returns-in-Ok-clause-over g c = λ refuses token over whole.
    c.in-Ok.ensures.over token (handed (view c.args.frame.line) c.in-Some.operation token c.in-Some.ensures over) whole
