-- What stored responses count, and what is within the limits of an index.
use Rattle.std.specs.Prelude.{◌≡◌, ◌≤◌, ◌<◌, ◌+◌, ◌-◌, ◌*◌, ◌^◌, min, ℕ, List, length}
use Rattle.std.specs.List.{sum_by}
use Rattle.std.specs.Option.{option_map_or}
use Rattle.std.specs.FinMap as fin
use Rattle.http_uri.specs.Uri.{uri_authority, uri_path, uri_query}
use Rattle.http_uri.specs.declared.uri.Uri.{Uri}
use Rattle.http_cache_fields.specs.Headers.{Headers}
use Rattle.http_cache_policy.specs.Exchange.{Exchange}
use Rattle.http_cache_memory_store.specs.declared.index.limit.Limits.{Limits}
use Rattle.http_cache_memory_store.specs.declared.index.size.Amount.{Amount}

-- the number, or the greatest one of 64 bits
abbrev pub capped : ℕ → ℕ
capped n = min n (2 ^ 64 - 1)

-- a field line counts its name, its value and 192
abbrev pub line_cost : List ℕ → List ℕ → ℕ
line_cost name value = length name + length value + 192

abbrev pub lines_cost : List ℕ × List (List ℕ) → ℕ
lines_cost e = sum_by (line_cost e.0) e.1

unfoldable pub headers_cost : Headers → ℕ
headers_cost h = sum_by lines_cost (fin.entries h)

unfoldable pub target_cost : Uri → ℕ
target_cost uri =
    length (uri_path uri) + option_map_or length (uri_query uri) 0 + option_map_or length (uri_authority uri) 0

unfoldable pub response_cost : Exchange → List ℕ → ℕ
response_cost e body =
    capped
    (3072 + headers_cost e.response_headers + headers_cost e.request_headers + target_cost e.target + length body)

-- neither number is greater
pub record IsAtMost (a b : Amount) : Type 0 where
  pub responses : a.responses ≤ b.responses
  pub bytes : a.bytes ≤ b.bytes

-- both numbers fit in 64 bits
pub record IsSmall (a : Amount) : Type 0 where
  pub responses : a.responses < 2 ^ 64
  pub bytes : a.bytes < 2 ^ 64

-- the amount of fewer than 2^64 responses, of at most u64.MAX bytes each
pub record IsOfList (a : Amount) : Type 0 where
  pub responses : a.responses < 2 ^ 64
  pub bytes : a.bytes ≤ (2 ^ 64 - 1) * (2 ^ 64 - 1)

pub record IsAllowed (l : Limits) (a : Amount) : Type 0 where
  pub responses : a.responses ≤ l.responses
  pub bytes : a.bytes ≤ l.bytes

-- a response with this cost and a body of this length is within the limits if nothing else is stored
pub record FitsAlone (l : Limits) (cost body : ℕ) : Type 0 where
  pub responses : 0 < l.responses
  pub variants : 0 < l.variants
  pub short : body ≤ l.body
  pub bytes : cost ≤ l.bytes

module _ {E : Type 0} (cost : E → ℕ) where
  -- the amount of some responses
  pub record IsAmountOf (a : Amount) (all : List E) : Type 0 where
    pub responses : a.responses ≡ length all
    pub bytes : a.bytes ≡ sum_by cost all

  -- some responses of one target are within the limits if nothing else is stored
  pub record FitTogether (l : Limits) (all : List E) : Type 0 where
    pub variants : length all ≤ l.variants
    pub responses : length all ≤ l.responses
    pub bytes : sum_by cost all ≤ l.bytes

  -- there is room for one more response, which counts so much, beside all that is stored, of which so many are under its text
  pub record HasRoom (l : Limits) (all : List E) (under added : ℕ) : Type 0 where
    pub variants : under < l.variants
    pub responses : length all < l.responses
    pub bytes : sum_by cost all + added ≤ l.bytes

abbrev pub replaced : Amount → Amount → Amount → Amount
replaced held before after = record {
  responses = held.responses - before.responses + after.responses;
  bytes = held.bytes - before.bytes + after.bytes;
}
