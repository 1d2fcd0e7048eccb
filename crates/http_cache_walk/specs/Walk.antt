-- What a cache would have done with each entry of a recording, in order.
use Rattle.std.specs.Prelude.{◌≡◌, ℕ, ℤ, ◌+◌, Bool, true, false, ◌&&◌, ◌||◌, ◌==◌, not, nat_le, nat_lt, List, [], ◌∷◌, ◌++◌}
use Rattle.std.specs.Prelude.{codes, bytes_eq, length, map, fold, slice_get, Option, Some, None, option_and_then, is_some, unwrap_or}
use Rattle.std.specs.Prelude.{option_map, if◌then◌else◌, String, Vec}
use Rattle.std.specs.List.{flat_map, enumerate_from}
use Rattle.std.specs.Option.{option_map_or}
use Rattle.std.specs.BTreeMap.{BTreeMap, get_by_text}
use Rattle.std.specs.declared.alloc.Global.{Global}
use Rattle.http_uri.specs.declared.uri.Uri.{Uri}
use Rattle.http_cache_fields.specs.Headers.{Headers, value_count}
use Rattle.http_cache_fields.specs.Directives.{cache_control, has}
use Rattle.http_cache_fields.specs.Pragma.{pragma_forbids}
use Rattle.http_cache_rules.specs.Joined.{joined_headers}
use Rattle.http_cache_semantics.specs.Messages.{ResponseSeen}
use Rattle.http_cache_semantics.specs.Options.{Options, options_of}
use Rattle.http_cache_semantics.specs.Exchange.{Exchange}
use Rattle.http_cache_recording.specs.Entry.{RecordedSeen, recorded_seen, ReadingSeen, entry, skipped, EntrySeen, BodySeen}
use Rattle.http_cache_recording.specs.Entry.{AnswerSeen, failed as no_answer, cached, received as from_network}
use Rattle.http_cache_recording.specs.declared.entry.Kind.{Kind}
use Rattle.http_cache_recording.specs.declared.entry.Kind.TheVariants as kind
use Rattle.http_cache_walk.specs.declared.row.Outcome.{Outcome}
use Rattle.http_cache_walk.specs.declared.row.Outcome.TheVariants.{Apart, Fresh, Validate, Refetch, Miss, MissVary}
use Rattle.http_cache_walk.specs.declared.row.Demand.TheVariants.{Condition}
use Rattle.http_cache_walk.specs.declared.row.Again.{Again}
use Rattle.http_cache_walk.specs.declared.stored.Stored.{Stored}
use Rattle.http_cache_walk.specs.declared.stored.Chosen.{Chosen}
use Rattle.http_cache_walk.specs.declared.walk.Walk.{Walk}
use Rattle.http_cache_walk.specs.Row.{ReceivedSeen, nothing, failed, browser, passed, updated, not_storable, AuditVerdictSeen, RowSeen}
use Rattle.http_cache_walk.specs.Order.{SentSeen, IsWalk, target_of}
use Rattle.http_cache_walk.specs.Sources.{is_asked, is_received, SourcesSeen, source_in, sources_of}
use Rattle.http_cache_walk.specs.Lifetime.{kept_of}
use Rattle.http_cache_walk.specs.Assume.{AssumedSeen, without_assumptions, with_response}
use Rattle.http_cache_walk.specs.Stored.{StoredSeen, stored_seen, choose, used_of, validator_of, differing, put_first}
use Rattle.http_cache_walk.specs.Stored.{exchange_for, forbidden_by, receive_full, receive_304, receive_own_304}
use Rattle.http_cache_walk.specs.Stored.{varies_by_all, Receipt}
use Rattle.http_cache_walk.specs.Again.{again_of, again_by_own}
use Rattle.http_cache_walk.specs.Own.{received_of, has_own_condition, shown_by}

-- one target stands for all, since each list of stored responses has one
pub record WalkSeen : Type 0 where
  pub recorded : List RecordedSeen
  pub options : Options
  pub target : Uri

abbrev pub walk_seen : Walk → WalkSeen
walk_seen k = record {
  recorded = map recorded_seen k.recorded.now;
  options = options_of k.options;
  target = k.target.now;
}

-- ---- requests that are counted apart

abbrev pub received_apart : AnswerSeen → ReceivedSeen
received_apart no_answer = failed
received_apart (cached r) = browser
received_apart (from_network r) = passed

abbrev pub is_passed : Kind → Bool
is_passed kind.Internal = false
is_passed kind.Preflight = false
is_passed kind.Passed = true
is_passed kind.Range = false
is_passed kind.Failed = false
is_passed kind.Asked = false

-- the response shows that an unsafe request was done (RFC 7234, section 4.4)
abbrev pub has_done : AnswerSeen → Bool
has_done no_answer = false
has_done (cached r) = false
has_done (from_network r) = nat_le 200 r.status && nat_lt r.status 400

-- RFC 7234, section 4.4
unfoldable pub invalidates : EntrySeen → Bool
invalidates e =
    is_passed e.kind && not (bytes_eq e.method (codes "OPTIONS")) && not (bytes_eq e.method (codes "TRACE"))
    && has_done e.answer

-- only the outcome and what became of the response are known
abbrev pub verdict_with : Outcome → ReceivedSeen → AuditVerdictSeen
verdict_with outcome received = record {
  outcome = outcome;
  used = None;
  demand = None;
  validator = None;
  missed_by = [];
  received = received;
  again = None;
  seeded = false;
}

-- ---- the request as a store is asked

-- an entry, and the earlier request from which each header is assumed
pub record WalkedSeen : Type 0 where
  pub sent : SentSeen
  pub source : List ℕ → Option EntrySeen

abbrev pub walked_in : SourcesSeen → SentSeen → WalkedSeen
walked_in sources sent = record { sent = sent; source = source_in sources (target_of sent.recorded) }

abbrev pub assumed_by : WalkedSeen → AssumedSeen → List StoredSeen → AssumedSeen
assumed_by w a ss = fold (λ b s. with_response w.source b s.exchange.response_headers) a ss

-- if nothing is stored, by the Vary of the browser's own answer
abbrev pub assumed_by_own : WalkedSeen → AssumedSeen → List StoredSeen → AnswerSeen → AssumedSeen
assumed_by_own w a ss no_answer = a
assumed_by_own w a [] (cached r) = with_response w.source a r.headers
assumed_by_own w a (s ∷ ss) (cached r) = a
assumed_by_own w a ss (from_network r) = a

-- a recording may lack headers of requests that didn't use the network
unfoldable pub asked_of : WalkSeen → WalkedSeen → List StoredSeen → AssumedSeen
asked_of k w ss =
    let a = without_assumptions k.target w.sent.entry.method (joined_headers w.sent.entry.headers) in
    if is_received w.sent.entry.answer then a
    else assumed_by_own w (assumed_by w a ss) ss w.sent.entry.answer

-- ---- if a stored response is for the request

abbrev pub body_in : ReadingSeen → Option BodySeen
body_in (entry e) = e.body
body_in (skipped s) = None

unfoldable pub body_at : WalkSeen → ℕ → Option BodySeen
body_at k index = option_and_then (λ r. body_in r.reading) (slice_get k.recorded index)

abbrev pub again_for : WalkSeen → StoredSeen → EntrySeen → AnswerSeen → Option Again
again_for k s e no_answer = None
again_for k s e (cached r) = None
again_for k s e (from_network r) =
    if r.status == 304 then None else Some (again_of s.exchange (body_at k s.from) e r)

-- for the validated response at an index, or for the client's own condition
abbrev pub receive_not_modified : SentSeen → AssumedSeen → ResponseSeen → Option ℕ → List StoredSeen → Receipt
receive_not_modified sent a r None ss = receive_own_304 a r sent.entry.received ss
receive_not_modified sent a r (Some index) ss =
    option_map_or (λ s. receive_304 a r sent.entry.received index s ss) (slice_get ss index) (ss, failed)

-- if a stored response wasn't used without validation
unfoldable pub receipt_of : WalkSeen → SentSeen → AssumedSeen → AnswerSeen → Option ℕ → List StoredSeen → Receipt
receipt_of k sent a no_answer index ss = (ss, failed)
receipt_of k sent a (cached r) index ss = (ss, browser)
receipt_of k sent a (from_network r) index ss =
    if r.status == 304 then receive_not_modified sent a r index ss else receive_full k.options sent a r ss

abbrev pub Judgement : Type 0
Judgement = AuditVerdictSeen × List StoredSeen

abbrev pub unasked : AnswerSeen → ReceivedSeen
unasked no_answer = failed
unasked (cached r) = nothing
unasked (from_network r) = nothing

unfoldable pub used_fresh : StoredSeen → EntrySeen → AuditVerdictSeen
used_fresh s e = record (verdict_with Fresh (unasked e.answer)) { used = Some (used_of s e.started) }

-- a stored response is validated
unfoldable pub asked_about : WalkSeen → SentSeen → AssumedSeen → Chosen → StoredSeen → List StoredSeen → Judgement
asked_about k sent a c s ss =
    let by = validator_of s.exchange.response_headers in
    let receipt = receipt_of k sent a sent.entry.answer (Some c.index) ss in (
      record (verdict_with (if is_some by then Validate else Refetch) receipt.1) {
        used = Some (used_of s sent.entry.started);
        demand = c.demand;
        validator = by;
        again = again_for k s sent.entry sent.entry.answer;
      },
      receipt.0,
    )

abbrev pub missed_by : AssumedSeen → List StoredSeen → List (List ℕ)
missed_by a [] = []
missed_by a (s ∷ ss) = differing s a

abbrev pub missed_as : List StoredSeen → Outcome
missed_as [] = Miss
missed_as (s ∷ ss) = MissVary

-- no stored response is for the request
unfoldable pub missed : WalkSeen → SentSeen → AssumedSeen → List StoredSeen → Judgement
missed k sent a ss =
    let receipt = receipt_of k sent a sent.entry.answer None ss in
    (record (verdict_with (missed_as ss) receipt.1) { missed_by = missed_by a ss }, receipt.0)

abbrev pub answered : WalkSeen → SentSeen → AssumedSeen → Chosen → List StoredSeen → StoredSeen → Judgement
answered k sent a c ss s =
    if c.is_fresh then (used_fresh s sent.entry, ss) else asked_about k sent a c s ss

unfoldable pub judged : WalkSeen → SentSeen → AssumedSeen → List StoredSeen → Judgement
judged k sent a ss =
    option_map_or
    (λ c. option_map_or (answered k sent a c ss) (slice_get ss c.index) (missed k sent a ss))
    (choose ss a sent.entry.started) (missed k sent a ss)

-- ---- if nothing is stored, and the entry shows an earlier stored response

abbrev pub seed_of : WalkSeen → SentSeen → AssumedSeen → ResponseSeen → ℤ → StoredSeen
seed_of k sent a r received = record {
  exchange = exchange_for k.options a r received;
  unknown = a.unknown;
  from = sent.index;
  sent = None;
}

-- if it may not be stored
unfoldable pub refused : Exchange → Option AuditVerdictSeen
refused e = option_map (λ o. verdict_with Miss (not_storable o)) (forbidden_by e)

abbrev pub as_seeded : Judgement → Judgement
as_seeded j = (record j.0 { seeded = true }, j.1)

unfoldable pub judged_cached : WalkSeen → SentSeen → AssumedSeen → ResponseSeen → Judgement
judged_cached k sent a r =
    let s = seed_of k sent a r (received_of r.headers sent.entry.started) in
    option_map_or (λ v. (v, [])) (refused s.exchange) (as_seeded (judged k sent a (put_first s [])))

-- a 304 to the client's own condition
unfoldable pub confirmed_own : WalkSeen → SentSeen → AssumedSeen → ResponseSeen → Judgement
confirmed_own k sent a r =
    let shown = shown_by sent.entry r in
    let s = seed_of k sent a shown sent.entry.received in
    option_map_or (λ v. (v, [])) (refused s.exchange) (
      record (verdict_with Validate (updated (kept_of s.exchange sent.entry.received))) {
        demand = Some Condition;
        validator = validator_of shown.headers;
        seeded = true;
      },
      put_first s [],
    )

-- a full response to the client's own condition
abbrev pub replaced_own : WalkSeen → SentSeen → AssumedSeen → ResponseSeen → Judgement
replaced_own k sent a r =
    let receipt = receipt_of k sent a sent.entry.answer None [] in (
      record (verdict_with Validate receipt.1) {
        demand = Some Condition;
        again = Some (again_by_own sent.entry.headers r sent.entry.received);
        seeded = true;
      },
      receipt.0,
    )

unfoldable pub judged_own : WalkSeen → SentSeen → AssumedSeen → ResponseSeen → Judgement
judged_own k sent a r =
    if not (r.status == 304) then replaced_own k sent a r
    else (if varies_by_all r.headers then judged k sent a [] else confirmed_own k sent a r)

-- an answer of the browser shows a response, unless it is a 304 or has no headers
abbrev pub shows : ResponseSeen → Bool
shows r = not (r.status == 304) && nat_lt 0 (value_count r.headers)

abbrev pub judged_alone : WalkSeen → SentSeen → AssumedSeen → AnswerSeen → Judgement
judged_alone k sent a no_answer = judged k sent a []
judged_alone k sent a (cached r) = if shows r then judged_cached k sent a r else judged k sent a []
judged_alone k sent a (from_network r) =
    if has_own_condition sent.entry then judged_own k sent a r else judged k sent a []

unfoldable pub judged_all : WalkSeen → SentSeen → AssumedSeen → List StoredSeen → Judgement
judged_all k sent a [] = judged_alone k sent a sent.entry.answer
judged_all k sent a (s ∷ ss) = judged k sent a (s ∷ ss)

-- ---- one entry

-- by method and target
abbrev pub key_of : List ℕ → List ℕ → List ℕ
key_of method target = method ++ codes " " ++ target

abbrev pub key_in : SentSeen → List ℕ
key_in sent = key_of sent.entry.method (target_of sent.recorded)

abbrev pub judgement_of : WalkSeen → WalkedSeen → List StoredSeen → Judgement
judgement_of k w ss = judged_all k w.sent (asked_of k w ss) ss

-- GET and HEAD have a shelf for each target
abbrev pub is_of_target : List ℕ → List ℕ → Bool
is_of_target target key = bytes_eq (key_of (codes "GET") target) key || bytes_eq (key_of (codes "HEAD") target) key

-- requests that a store could answer, and those without a whole response
abbrev pub asks_store : Kind → Bool
asks_store kind.Internal = false
asks_store kind.Preflight = false
asks_store kind.Passed = false
asks_store kind.Range = false
asks_store kind.Failed = true
asks_store kind.Asked = true

-- None if no request for the store had the method and the target
abbrev pub ShelfSeen : Type 0
ShelfSeen = Option (List StoredSeen)

abbrev pub on_shelf : ShelfSeen → List StoredSeen
on_shelf shelf = unwrap_or shelf []

abbrev pub left_by_asked : WalkSeen → WalkedSeen → ShelfSeen → ShelfSeen
left_by_asked k w shelf =
    if is_asked w.sent.entry.kind || is_some shelf then Some (judgement_of k w (on_shelf shelf)).1 else None

abbrev pub left_by_passed : List ℕ → SentSeen → ShelfSeen → ShelfSeen
left_by_passed key sent shelf =
    if invalidates sent.entry && is_of_target (target_of sent.recorded) key then option_map (λ ss. []) shelf else shelf

unfoldable pub left_under : WalkSeen → List ℕ → ShelfSeen → WalkedSeen → ShelfSeen
left_under k key shelf w =
    if asks_store w.sent.entry.kind then (if bytes_eq (key_in w.sent) key then left_by_asked k w shelf else shelf)
    else left_by_passed key w.sent shelf

abbrev pub shelf_under : WalkSeen → List WalkedSeen → List ℕ → ShelfSeen
shelf_under k ws key = fold (left_under k key) None ws

abbrev pub invalidated_from : (List ℕ → ShelfSeen) → SentSeen → ℕ
invalidated_from at sent =
    if invalidates sent.entry
    then length (on_shelf (at (key_of (codes "GET") (target_of sent.recorded))))
    + length (on_shelf (at (key_of (codes "HEAD") (target_of sent.recorded))))
    else 0

abbrev pub says_no_cache : Headers → Bool
says_no_cache h = has (cache_control h) (codes "no-cache") || pragma_forbids h

-- `is_known` is whether an earlier request had the method and the target
abbrev pub asked_row : WalkSeen → Bool → List StoredSeen → WalkedSeen → RowSeen
asked_row k is_known ss w = record {
  index = w.sent.index;
  recorded = w.sent.recorded;
  assumed = (asked_of k w ss).assumed;
  verdict = Some (judgement_of k w ss).0;
  repeated = is_asked w.sent.entry.kind && (is_known || (judgement_of k w ss).0.seeded);
  no_cache = says_no_cache w.sent.entry.headers;
  invalidated = 0;
}

abbrev pub asked_row_on : WalkSeen → ShelfSeen → WalkedSeen → RowSeen
asked_row_on k shelf w = asked_row k (is_some shelf) (on_shelf shelf) w

abbrev pub apart_row : ℕ → SentSeen → RowSeen
apart_row invalidated sent = record {
  index = sent.index;
  recorded = sent.recorded;
  assumed = [];
  verdict = Some (verdict_with Apart (received_apart sent.entry.answer));
  repeated = false;
  no_cache = false;
  invalidated = invalidated;
}

abbrev pub passed_row : (List ℕ → ShelfSeen) → SentSeen → RowSeen
passed_row at sent = apart_row (invalidated_from at sent) sent

abbrev pub row_on : WalkSeen → (List ℕ → ShelfSeen) → WalkedSeen → RowSeen
row_on k at w =
    if asks_store w.sent.entry.kind
    then asked_row_on k (at (key_in w.sent)) w
    else passed_row at w.sent

abbrev pub row_by : WalkSeen → List WalkedSeen → WalkedSeen → RowSeen
row_by k before w = row_on k (shelf_under k before) w

-- ---- all of them

abbrev pub walked_by : List SentSeen → SentSeen → WalkedSeen
walked_by before sent = walked_in (sources_of before) sent

abbrev pub walked_after : List SentSeen → List SentSeen → List WalkedSeen
walked_after before [] = []
walked_after before (s ∷ sent) = walked_by before s ∷ walked_after (before ++ s ∷ []) sent

abbrev pub rows_after : WalkSeen → List WalkedSeen → List WalkedSeen → List RowSeen
rows_after k before [] = []
rows_after k before (w ∷ ws) = row_by k before w ∷ rows_after k (before ++ w ∷ []) ws

abbrev pub rows_of : WalkSeen → List SentSeen → List RowSeen
rows_of k sent = rows_after k [] (walked_after [] sent)

abbrev pub skipped_row : ℕ × RecordedSeen → RowSeen
skipped_row at = record {
  index = at.0;
  recorded = at.1;
  assumed = [];
  verdict = None;
  repeated = false;
  no_cache = false;
  invalidated = 0;
}

abbrev pub skipped_rows_at : ℕ × RecordedSeen → ReadingSeen → List RowSeen
skipped_rows_at at (entry e) = []
skipped_rows_at at (skipped s) = skipped_row at ∷ []

-- in the order of the recording
abbrev pub skipped_rows : List RecordedSeen → List RowSeen
skipped_rows rs = flat_map (λ at. skipped_rows_at at at.1.reading) (enumerate_from 0 rs)

-- its entries in the order of the walk, then those that aren't audited
pub record AreRows (k : WalkSeen) (rows : List RowSeen) : Type 0 where
  pub sent : List SentSeen
  pub in_order : IsWalk k.recorded sent
  pub each : rows ≡ rows_of k sent ++ skipped_rows k.recorded

-- ---- what is stored under each key

abbrev pub Shelves : Type 0
Shelves = BTreeMap (String Global) (Vec Stored Global)

abbrev pub shelf_at : Shelves → List ℕ → ShelfSeen
shelf_at shelves key = option_map (λ (l : Vec Stored Global). map stored_seen l.items) (get_by_text shelves key)

abbrev pub HaveLeft : WalkSeen → List WalkedSeen → Shelves → Type 0
HaveLeft k before shelves = (key : List ℕ) → shelf_at shelves key ≡ shelf_under k before key
