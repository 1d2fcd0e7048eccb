-- The stored form of a policy, as a JSON value.
use Rattle.serde_json.specs.Data.{Data}
use Rattle.http_uri.specs.declared.uri.Uri.{Uri}
use Rattle.http_cache_json.specs.Stored.{IsStored, stored_data}
use Rattle.http_cache_json.specs.ReadBack.{IsReadBack}
use Rattle.http_cache_policy.specs.Exchange.{Exchange}

-- the value has the exchange, as it was before `kept_exchange`
abbrev pub Reads : Data → Exchange → Type 0
Reads = IsStored

abbrev pub writes : Exchange → Data
writes = stored_data

-- f is e with the target that is read from the printed one
abbrev pub ReadsBack : Exchange → Exchange → Type 0
ReadsBack = IsReadBack

abbrev pub with_target : Exchange → Uri → Exchange
with_target e target = record e { target = target }
