-- What is read of a value that was written.
use Rattle.std.specs.Prelude.{◌≡◌, ℕ, ◌^◌, ◌<◌, ◌≤◌, List}
use Rattle.std.specs.List.{AllByRecursion}
use Rattle.std.specs.FinMap as fin
use Rattle.hex.specs.Hex.{IsBytes}
use Rattle.http.specs.StatusCode.{IsStatusCode}
use Rattle.http_header.specs.FieldName.{IsHeaderName}
use Rattle.http_header.specs.FieldValue.{IsFieldValue}
use Rattle.http_header.specs.HeaderMap.{Entry}
use Rattle.http_header.specs.Token.{IsToken}
use Rattle.http_uri.specs.Uri.{Spells, uri_text}
use Rattle.serde_json.specs.Data.{Data}
use Rattle.jiff_core.specs.Timestamp.{IsTimestampNanos}
use Rattle.http_cache_fields.specs.Headers.{Headers, value_count}
use Rattle.http_cache_json.specs.FormData.{AreInRange}
use Rattle.http_cache_json.specs.HeaderObject.{IsFilled}
use Rattle.http_cache_rules.specs.Exchange.{Exchange}
use Rattle.http_cache_json.specs.Stored.{stored_data}

pub record IsReadableValue (v : List ℕ) : Type 0 where
  pub bytes : IsBytes v
  pub value : IsFieldValue v

pub record IsReadableEntry (e : Entry (List ℕ)) : Type 0 where
  pub name : IsHeaderName e.0
  pub values : AllByRecursion IsReadableValue e.1

-- headers that the library of headers accepts
pub record AreReadable (h : Headers) : Type 0 where
  pub entries : AllByRecursion IsReadableEntry (fin.entries h)
  pub filled : IsFilled h
  pub names_fit : fin.len h ≤ 24_576
  pub values_fit : value_count h < 2 ^ 64

-- what holds of all that is written
pub record IsWritable (e : Exchange) : Type 0 where
  pub method : IsToken e.method
  pub status : IsStatusCode e.status
  pub request : AreReadable e.request_headers
  pub response : AreReadable e.response_headers
  pub options : AreInRange e.options
  pub response_time : IsTimestampNanos e.response_time

pub record IsWrittenFor (d : Data) (e : Exchange) : Type 0 where
  pub is : d ≡ stored_data e
  pub writable : IsWritable e

-- f is e, except for the target, which is read from the printed one
pub record IsReadBack (e f : Exchange) : Type 0 where
  pub same : f ≡ record e { target = f.target }
  pub target : Spells (uri_text e.target) f.target
