-- The depth of the value that is written for a policy.
use Rattle.std.proofs.Common.{◌≤◌, ℕ, List, [], ◌∷◌, map, max, arith}
use Rattle.std.proofs.Math.Nat.{max-le}
use Rattle.std.specs.FinMap as fin
use Rattle.serde_json.specs.Data.{depth, items_depth, members_depth}
use Rattle.serde_json.specs.View.{items_of}
use Rattle.http_header.specs.HeaderMap.{Entries}
use Rattle.http_cache_fields.specs.Headers.{Headers}
use Rattle.http_cache_rules.specs.Exchange.{Exchange}
use Rattle.http_cache_json.specs.FormData.{options_data, moment_data}
use Rattle.http_cache_json.specs.HeaderObject.{text_data, members_data, headers_data}
use Rattle.http_cache_json.specs.Stored.{stored_data}

texts-flat : (vs : List (List ℕ)) → items_depth (items_of (map text_data vs)) ≤ 0
texts-flat [] = omega arith
texts-flat (v ∷ vs) = max-le (omega arith) (texts-flat vs)

members-flat : (es : Entries (List ℕ)) → members_depth (members_data es) ≤ 1
members-flat [] = omega arith
members-flat (e ∷ es) = max-le (omega (arith, texts-flat e.1)) (members-flat es)

headers-flat : (h : Headers) → depth (headers_data h) ≤ 2
headers-flat h = omega (arith, members-flat (fin.entries h))

pub stored-flat : (e : Exchange) → depth (stored_data e) ≤ 3
unfolding stored_data options_data moment_data
stored-flat e =
    let request = headers-flat e.request_headers in
    let response = headers-flat e.response_headers in
    let two : max (depth (headers_data e.response_headers)) 1 ≤ 2 = max-le response (omega arith) in
    let three = max-le request two in
    let members
    : max 0 (max 2 (max (depth (headers_data e.request_headers)) (max (depth (headers_data e.response_headers)) 1))) ≤ 2
    = max-le (omega arith) (max-le (omega arith) three) in
    omega (arith, members)
