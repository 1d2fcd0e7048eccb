-- Other targets keep what `validated` keeps of them.
use Rattle.std.proofs.Common.{ℕ, List, IfOk, subst}
use Rattle.http.specs.declared.request.Request.{Request}
use Rattle.http_cache_client.specs.Keep.{KeepsLasting}
use Rattle.http_cache_client.specs.Receive.{own_text, IsAgain}
use Rattle.http_cache_client.proofs.client.Client.receive.Goals as goal

pub returns-then-eq-clause-lasting : goal.returns-then-eq-clause-lasting
returns-then-eq-clause-lasting g c =
    let old = c.args.self.now.store in
    let new = c.validated.new.self.store in
    subst (λ (r : Request (List ℕ)). IfOk c.validated.result (λ received. IsAgain received
    → KeepsLasting (g.S.Store.stored old) (g.S.Store.lasting old) (g.S.Store.stored new) (g.S.Store.lasting new) (own_text r)))
    c.in_ok-incoming.ensures.request c.validated.ensures.lasting
