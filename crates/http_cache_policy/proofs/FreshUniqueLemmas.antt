-- An exchange has one set of fresh headers at a time.
use Rattle.std.proofs.Common.{◌≡◌, ℤ, codes, sym, ap, ◌∙◌}
use Rattle.http_cache_fields.specs.Headers.{Headers, set}
use Rattle.http_cache_rules.proofs.DateUniqueLemmas.{IsDateText-unique}
use Rattle.http_cache_policy.specs.Exchange.{Exchange}
use Rattle.http_cache_policy.specs.Fresh.{aged_headers, IsFreshHeaders}

pub IsFreshHeaders-unique : (e : Exchange) (now : ℤ) (h k : Headers)
    → IsFreshHeaders e now h → IsFreshHeaders e now k → h ≡ k
IsFreshHeaders-unique e now h k p q =
    let date = IsDateText-unique now p.date q.date p.is_date q.is_date in
    p.headers ∙ ap (λ text. set (aged_headers e now) (codes "date") text) date ∙ sym q.headers
