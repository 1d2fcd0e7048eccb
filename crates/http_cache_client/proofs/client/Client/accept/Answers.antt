-- Other targets keep what `taken` keeps of them.
use Rattle.std.proofs.Common.{ℕ, List, subst}
use Rattle.http.specs.declared.request.Request.{Request}
use Rattle.http_cache_store.specs.Store.{KeepsMost}
use Rattle.http_cache_client.specs.Receive.{own_text}
use Rattle.http_cache_client.proofs.client.Client.accept.Goals as goal

pub returns-clause-others : goal.returns-clause-others
returns-clause-others g c =
    subst (λ (r : Request (List ℕ)). KeepsMost (g.S.Store.stored c.args.self.now.store) (g.S.Store.lasting c.args.self.now.store)
    (g.S.Store.stored c.taken.new.self.store) (own_text r)) c.in_ok-incoming.ensures.request c.taken.ensures.others
