-- Reading the body changes nothing before the plan's change is made.
use Rattle.http_cache_store.specs.Target.{text_of}
use Rattle.http_cache_client.proofs.KeepLemmas.{KeepsLasting-same, KeepsMost-after}
use Rattle.http_cache_client.proofs.client.Client.confirmed.Goals as goal

pub returns-in-Ok-clause-others : goal.returns-in-Ok-clause-others
returns-in-Ok-clause-others g c =
    let own = text_of c.args.target.now in
    KeepsMost-after _ _ _ _ own _ (KeepsLasting-same _ _ _ _ own c.body_of.ensures.kept.stored c.body_of.ensures.lasting)
    (c.finish.ensures.others own c.requires.target)
