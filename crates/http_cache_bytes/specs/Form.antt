-- The stored form of a policy.
use Rattle.std.specs.Prelude.{◌≡◌, ◌↔◌, ◌==◌, List, ℕ, ℤ, Bool, true, false, Some, IsUtf8, slice_index}
use Rattle.serde_json.specs.Data.{Data}
use Rattle.serde_json.specs.Read.{read}
use Rattle.http.specs.declared.request.Parts as Request
use Rattle.http.specs.declared.response.Parts as Response
use Rattle.http_heads.specs.Heads.{IsRequest, IsResponse}
use Rattle.http_cache_semantics.specs.Options.{Options}
use Rattle.http_cache_semantics.specs.Messages.{request_seen, response_seen}
use Rattle.http_cache_semantics.specs.Exchange.{Exchange, exchange_of}
use Rattle.http_cache_semantics.specs.Kept.{kept_exchange}
use Rattle.http_cache_semantics.specs.Storability.{is_storable}
use Rattle.http_cache_semantics.specs.Stored.{Reads, ReadsBack, with_target}
use Rattle.http_cache_compact.specs.Compact.{IsCompactOf}
use Rattle.http_cache_bytes.specs.declared.form.Stored.{Stored}

-- the bytes are JSON whose value is of the exchange
pub record IsTextOf (bytes : List ℕ) (e : Exchange) : Type 0 where
  pub value : Data
  pub json : read bytes ≡ Some value
  pub stored : Reads value e

-- the bytes are also UTF-8
pub record IsJsonOf (bytes : List ℕ) (e : Exchange) : Type 0 where
  pub utf8 : IsUtf8 bytes
  pub text : IsTextOf bytes e

-- the first byte is the version of the compact form
abbrev pub is_compact : List ℕ → Bool
is_compact bytes = slice_index bytes 0 == 1

-- the bytes are a stored form of the exchange; the first byte says whether it is compact or JSON
pub record IsFormOf (bytes : List ℕ) (e : Exchange) : Type 0 where
  pub compact : is_compact bytes ≡ true → IsCompactOf bytes e
  pub json : is_compact bytes ≡ false → IsJsonOf bytes e

unfoldable pub IsNoJson : List ℕ → Type 0
IsNoJson bytes = (e : Exchange) → IsJsonOf bytes e → ⊥

unfoldable pub IsNoCompact : List ℕ → Type 0
IsNoCompact bytes = (e : Exchange) → IsCompactOf bytes e → ⊥

unfoldable pub IsNoForm : List ℕ → Type 0
IsNoForm bytes = (e : Exchange) → IsFormOf bytes e → ⊥

-- a stored form's policy has what is kept of the form's exchange
pub record IsPolicyIn (stored : List ℕ) (e : Exchange) : Type 0 where
  pub read : Exchange
  pub is_read : IsFormOf stored read
  pub kept : e ≡ kept_exchange read

-- the bytes read as the exchange, except that the target is the one that the printed target reads
-- as
pub record IsWrittenFor (e : Exchange) (bytes : List ℕ) : Type 0 where
  pub back : (f : Exchange) → IsFormOf bytes f ↔ ReadsBack e f
  pub restored : (f : Exchange) → IsFormOf bytes f → kept_exchange f ≡ with_target e f.target

-- the JSON text reads as the exchange
pub record IsTextFor (e : Exchange) (bytes : List ℕ) : Type 0 where
  pub back : (f : Exchange) → IsTextOf bytes f ↔ ReadsBack e f

pub record IsStoredFor (e : Exchange) (s : Stored) : Type 0 where
  pub form : IsWrittenFor e s.form.items
  pub storable : s.storable ≡ is_storable e

abbrev pub IsPolicyOf : List ℕ → List ℕ → Options → ℤ → Exchange → Type 0
IsPolicyOf request response options received e =
    (asked : Request.Parts) × IsRequest request asked
    × (answered : Response.Parts) × IsResponse response answered
    × (e ≡ kept_exchange (exchange_of (request_seen asked) (response_seen answered) options received))
