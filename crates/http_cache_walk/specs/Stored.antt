-- The responses that are stored for one target and method, the newest first.
use Rattle.std.specs.Prelude.{ℕ, suc, ℤ, Bool, true, false, not, ◌||◌, nat_le, List, [], ◌∷◌, ◌++◌, codes, bytes_eq}
use Rattle.std.specs.Prelude.{Option, Some, None, is_some, is_none, map, filter, fold, take, remove, slice_get, position}
use Rattle.std.specs.Prelude.{option_and_then, if◌then◌else◌}
use Rattle.std.specs.List.{find, list_any}
use Rattle.std.specs.Option.{option_or, option_map_or, option_to_list}
use Rattle.http_header.specs.Token.{lowercase}
use Rattle.http_cache_fields.specs.Headers.{Headers, first_under, first_text}
use Rattle.http_cache_fields.specs.Pieces.{pieces_under}
use Rattle.http_cache_fields.specs.Directives.{same_value}
use Rattle.http_cache_semantics.specs.Lookup.{answers_once_validated, may_be_used}
use Rattle.http_cache_semantics.specs.Messages.{RequestSeen, ResponseSeen}
use Rattle.http_cache_semantics.specs.Options.{Options}
use Rattle.http_cache_semantics.specs.Exchange.{Exchange, exchange_of}
use Rattle.http_cache_semantics.specs.Kept.{kept_exchange}
use Rattle.http_cache_semantics.specs.Storability.{is_storable}
use Rattle.http_cache_semantics.specs.Storability.{obstacles}
use Rattle.http_cache_semantics.specs.Age.{age_at, time_to_live_at, is_stale_at}
use Rattle.http_cache_semantics.specs.Explain.{explanation}
use Rattle.http_cache_semantics.specs.Update.{selects, next_exchange}
use Rattle.http_cache_semantics.specs.Reason.{ReasonSeen, other_target, other_host, other_of_get_and_head}
use Rattle.http_cache_semantics.specs.Reason.{other_method, varies_by, asks_no_cache, asks_pragma, asks_max_age}
use Rattle.http_cache_semantics.specs.Reason.{asks_min_fresh, is_stale}
use Rattle.http_cache_semantics.specs.declared.explain.Obstacles.{Obstacles}
use Rattle.http_cache_walk.specs.declared.row.Demand.{Demand}
use Rattle.http_cache_walk.specs.declared.row.Demand.TheVariants.{NoCache, Limit}
use Rattle.http_cache_walk.specs.declared.stored.Stored.{Stored}
use Rattle.http_cache_walk.specs.declared.stored.Chosen.{Chosen}
use Rattle.http_cache_walk.specs.Order.{SentSeen}
use Rattle.http_cache_walk.specs.Assume.{AssumedSeen, request_of, compared}
use Rattle.http_cache_walk.specs.Row.{UsedSeen, ReceivedSeen, stored, updated, updated_other, not_storable, nothing_stored}
use Rattle.http_cache_walk.specs.Row.{not_selected}
use Rattle.http_cache_walk.specs.Lifetime.{whole_seconds, lifetime_of, kept_of}

-- its exchange, names that are unknown in its request, the entry of its full response, and the
-- bytes sent for it
pub record StoredSeen : Type 0 where
  pub exchange : Exchange
  pub unknown : List (List ℕ)
  pub from : ℕ
  pub sent : Option ℕ

abbrev pub stored_seen : Stored → StoredSeen
stored_seen s = record { exchange = s.policy; unknown = s.unknown.items; from = s.from; sent = s.sent }

-- ---- which of them answers a request

-- what the request asks for, according to a reason
abbrev pub demand_of : ReasonSeen → Option Demand
demand_of other_target = None
demand_of other_host = None
demand_of other_of_get_and_head = None
demand_of other_method = None
demand_of (varies_by name) = None
demand_of asks_no_cache = Some NoCache
demand_of asks_pragma = Some NoCache
demand_of (asks_max_age seconds) = Some Limit
demand_of (asks_min_fresh seconds) = Some Limit
demand_of (is_stale why) = None

abbrev pub compared_to : StoredSeen → AssumedSeen → AssumedSeen
compared_to s a = compared a s.exchange.request_headers s.unknown

abbrev pub validated_for : StoredSeen → RequestSeen → ℕ → ℤ → Chosen
validated_for s request index now = record {
  index = index;
  is_fresh = false;
  demand = option_and_then demand_of (explanation s.exchange request now).reason;
}

-- without validation if the stored response may be used so, or else if it answers once validated
abbrev pub answer_to : StoredSeen → RequestSeen → ℕ → ℤ → Option Chosen
answer_to s request index now =
    if may_be_used s.exchange request now
    then Some (record { index = index; is_fresh = true; demand = None })
    else if answers_once_validated s.exchange request then Some (validated_for s request index now)
    else None

unfoldable pub answer : StoredSeen → AssumedSeen → ℕ → ℤ → Option Chosen
answer s a index now = answer_to s (request_of (compared_to s a)) index now

-- with their indices from the given one on
abbrev pub answers : ℕ → List StoredSeen → AssumedSeen → ℤ → List Chosen
answers index [] a now = []
answers index (s ∷ ss) a now = option_to_list (answer s a index now) ++ answers (suc index) ss a now

abbrev pub first_of : List Chosen → Option Chosen
first_of [] = None
first_of (c ∷ cs) = Some c

-- the first that may be used without validation, or else the first
abbrev pub chosen_among : List Chosen → Option Chosen
chosen_among cs = option_or (find (λ c. c.is_fresh) cs) (first_of cs)

unfoldable pub choose : List StoredSeen → AssumedSeen → ℤ → Option Chosen
choose ss a now = chosen_among (answers 0 ss a now)

abbrev pub used_of : StoredSeen → ℤ → UsedSeen
used_of s now = record {
  from = s.from;
  saved = s.sent;
  age = whole_seconds (age_at s.exchange now);
  left = whole_seconds (time_to_live_at s.exchange now);
  lifetime = lifetime_of s.exchange;
  is_stale = is_stale_at s.exchange now;
}

-- RFC 9110, section 8.8
unfoldable pub validator_of : Headers → Option (List ℕ)
validator_of h =
    if is_some (first_text h (codes "etag")) then Some (codes "etag")
    else (if is_some (first_text h (codes "last-modified")) then Some (codes "last-modified") else None)

-- the name is `*`, or the first values under it differ
abbrev pub differs : Headers → Headers → List ℕ → Bool
differs old h name =
    bytes_eq name (codes "*") || not (same_value (first_under old name) (first_under h name))

-- in lower case
unfoldable pub differing : StoredSeen → AssumedSeen → List (List ℕ)
differing s a =
    map lowercase (filter (differs s.exchange.request_headers (compared_to s a).headers)
    (pieces_under s.exchange.response_headers (codes "vary")))

-- ---- what a new response leaves of them

unfoldable pub varies_by_all : Headers → Bool
varies_by_all h = list_any (λ name. bytes_eq name (codes "*")) (pieces_under h (codes "vary"))

abbrev pub is_of_all : StoredSeen → Bool
is_of_all s = varies_by_all s.exchange.response_headers

-- a stored response stays after a new one if it isn't for the same request; of those that vary by
-- everything, only the newest stays
unfoldable pub stays : AssumedSeen → ℤ → List StoredSeen → StoredSeen → Bool
stays a now kept s = if is_of_all s then not (list_any is_of_all kept) else is_none (answer s a 0 now)

abbrev pub with_staying : AssumedSeen → ℤ → List StoredSeen → StoredSeen → List StoredSeen
with_staying a now kept s = if stays a now kept s then kept ++ s ∷ [] else kept

abbrev pub left_by : AssumedSeen → ℤ → List StoredSeen → List StoredSeen
left_by a now ss = fold (with_staying a now) [] ss

-- at most 64 responses are kept
abbrev pub put_first : StoredSeen → List StoredSeen → List StoredSeen
put_first s ss = s ∷ take 63 ss

-- ---- a full response

abbrev pub exchange_for : Options → AssumedSeen → ResponseSeen → ℤ → Exchange
exchange_for options a r received = kept_exchange (exchange_of (request_of a) r options received)

abbrev pub forbidden_by : Exchange → Option Obstacles
forbidden_by e = if is_storable e then None else Some (obstacles e)

-- the origin server has an error (RFC 9111, section 4.3.3), or the request has `no-store`
abbrev pub keeps_all : ℕ → Option Obstacles → Bool
keeps_all status forbidden =
    nat_le 500 status || option_map_or (λ (o : Obstacles). o.request_no_store) forbidden false

-- what is stored after a response, and what became of it
abbrev pub Receipt : Type 0
Receipt = List StoredSeen × ReceivedSeen

abbrev pub stored_new : Exchange → SentSeen → List StoredSeen → Receipt
stored_new e sent ss = (
  put_first (record { exchange = e; unknown = []; from = sent.index; sent = Some sent.recorded.printed.sent }) ss,
  stored (kept_of e sent.entry.received),
)

abbrev pub received_by : Option Obstacles → Exchange → SentSeen → List StoredSeen → Receipt
received_by None e sent ss = stored_new e sent ss
received_by (Some o) e sent ss = (ss, not_storable o)

abbrev pub left_of : Option Obstacles → SentSeen → AssumedSeen → ℕ → List StoredSeen → List StoredSeen
left_of forbidden sent a status ss = if keeps_all status forbidden then ss else left_by a sent.entry.received ss

-- a full response replaces those for its request, and is stored if it may be
unfoldable pub receive_full : Options → SentSeen → AssumedSeen → ResponseSeen → List StoredSeen → Receipt
receive_full options sent a r ss =
    let e = exchange_for options a r sent.entry.received in
    received_by (forbidden_by e) e sent (left_of (forbidden_by e) sent a r.status ss)

-- ---- a 304

-- RFC 9111, section 4.3.4
abbrev pub updated_one : AssumedSeen → ResponseSeen → ℤ → StoredSeen → StoredSeen
updated_one a r now s = record s { exchange = next_exchange s.exchange (request_of a) r now; unknown = [] }

-- for a validated response, which is updated and put first, or is removed
unfoldable pub receive_304 : AssumedSeen → ResponseSeen → ℤ → ℕ → StoredSeen → List StoredSeen → Receipt
receive_304 a r now index s ss =
    let next = updated_one a r now s in
    if selects s.exchange r then (put_first next (remove ss index), updated (kept_of next.exchange now))
    else (remove ss index, not_selected)

-- by the 304's validator
unfoldable pub selected : ResponseSeen → List StoredSeen → Option ℕ
selected r ss = if is_some (validator_of r.headers) then position (λ s. selects s.exchange r) ss else None

-- for the client's own condition: the first that is selected is updated and put first; its old form
-- stays too, unless it varies by everything
abbrev pub updated_own : AssumedSeen → ResponseSeen → ℤ → List StoredSeen → ℕ → StoredSeen → Receipt
updated_own a r now ss index s =
    let next = updated_one a r now s in
    (put_first next (if is_of_all s then remove ss index else ss), updated_other (kept_of next.exchange now))

unfoldable pub receive_own_304 : AssumedSeen → ResponseSeen → ℤ → List StoredSeen → Receipt
receive_own_304 a r now ss =
    option_map_or (λ index. option_map_or (updated_own a r now ss index) (slice_get ss index) (ss, nothing_stored))
    (selected r ss) (ss, nothing_stored)
