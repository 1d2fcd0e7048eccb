-- The texts of lifetimes, and of why a response may be stored or not.
use Rattle.std.specs.Prelude.{ℕ, ◌/◌, Bool, List, [], ◌∷◌, ◌++◌, codes, decimal}
use Rattle.std.specs.Prelude.{if◌then◌else◌}
use Rattle.http_cache_rules.specs.Freshness.{Sourced}
use Rattle.http_cache_rules.specs.declared.freshness.LifetimeSource.{LifetimeSource}
use Rattle.http_cache_rules.specs.declared.freshness.LifetimeSource.TheVariants.{NotStorable, NoCache, OwnCookies}
use Rattle.http_cache_rules.specs.declared.freshness.LifetimeSource.TheVariants.{VaryAny, ProxyRevalidate, SMaxage}
use Rattle.http_cache_rules.specs.declared.freshness.LifetimeSource.TheVariants.{MaxAge, UnreadableExpires}
use Rattle.http_cache_rules.specs.declared.freshness.LifetimeSource.TheVariants.{PastExpires, Expires, LastModified}
use Rattle.http_cache_rules.specs.declared.freshness.LifetimeSource.TheVariants.{Immutable, Nothing}
use Rattle.http_cache_rules.specs.declared.storability.Permission.{Permission}
use Rattle.http_cache_rules.specs.declared.storability.Permission.TheVariants.{Public, Status}
use Rattle.http_cache_rules.specs.declared.storability.Permission.TheVariants.{Expires as ByExpires}
use Rattle.http_cache_rules.specs.declared.storability.Permission.TheVariants.{MaxAge as ByMaxAge}
use Rattle.http_cache_rules.specs.declared.storability.Permission.TheVariants.{SMaxage as BySMaxage}
use Rattle.http_cache_rules.specs.declared.storability.Obstacles.{Obstacles}
use Rattle.http_cache_rules.specs.declared.storability.Storability.{Storability}
use Rattle.http_cache_rules.specs.declared.storability.Storability.TheVariants.{Allowed, Forbidden}

abbrev pub source_words : LifetimeSource → List ℕ
source_words NotStorable = codes "not storable"
source_words NoCache = codes "no-cache"
source_words OwnCookies = codes "Set-Cookie in a shared cache"
source_words VaryAny = codes "Vary: *"
source_words ProxyRevalidate = codes "proxy-revalidate"
source_words SMaxage = codes "s-maxage"
source_words MaxAge = codes "max-age"
source_words UnreadableExpires = codes "Expires is no date"
source_words PastExpires = codes "Expires isn't after Date"
source_words Expires = codes "Expires"
source_words LastModified = codes "Last-Modified"
source_words Immutable = codes "immutable"
source_words Nothing = codes "nothing says how long"

-- the seconds of a lifetime, unless its source always means zero
abbrev pub seconds_after : LifetimeSource → ℕ → List ℕ
seconds_after NotStorable seconds = []
seconds_after NoCache seconds = []
seconds_after OwnCookies seconds = []
seconds_after VaryAny seconds = []
seconds_after ProxyRevalidate seconds = []
seconds_after SMaxage seconds = codes "=" ++ decimal seconds
seconds_after MaxAge seconds = codes "=" ++ decimal seconds
seconds_after UnreadableExpires seconds = []
seconds_after PastExpires seconds = codes ", " ++ decimal seconds ++ codes " s"
seconds_after Expires seconds = codes ", " ++ decimal seconds ++ codes " s"
seconds_after LastModified seconds = codes ", " ++ decimal seconds ++ codes " s"
seconds_after Immutable seconds = codes ", " ++ decimal seconds ++ codes " s"
seconds_after Nothing seconds = []

abbrev pub freshness_text : Sourced → List ℕ
freshness_text f = source_words f.0 ++ seconds_after f.0 (f.1 / 1_000_000_000)

abbrev pub permission_text : Permission → List ℕ
permission_text ByExpires = codes "Expires"
permission_text ByMaxAge = codes "max-age"
permission_text BySMaxage = codes "s-maxage"
permission_text Public = codes "public"
permission_text Status = codes "status"

abbrev pub obstacle_rows : Obstacles → List (Bool × List ℕ)
obstacle_rows o =
    (o.request_no_store, codes "no-store of the request")
    ∷ (o.method, codes "method")
    ∷ (o.status, codes "status")
    ∷ (o.response_no_store, codes "no-store")
    ∷ (o.private, codes "private")
    ∷ (o.authorization, codes "Authorization")
    ∷ (o.no_permission, codes "nothing allows it")
    ∷ []

-- the words of the rows that hold, with commas between them
abbrev pub listed : List ℕ → List (Bool × List ℕ) → List ℕ
listed separator [] = []
listed separator ((holds, words) ∷ rows) =
    if holds then separator ++ words ++ listed (codes ", ") rows else listed separator rows

abbrev pub obstacles_text : Obstacles → List ℕ
obstacles_text o = listed [] (obstacle_rows o)

abbrev pub storability_text : Storability → List ℕ
storability_text (Allowed permission) = codes "storable: " ++ permission_text permission
storability_text (Forbidden obstacles) = codes "not storable: " ++ obstacles_text obstacles
