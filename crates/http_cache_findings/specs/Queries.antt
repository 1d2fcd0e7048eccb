-- Queries that change while the response doesn't.
use Rattle.std.specs.Prelude.{ℕ, ◌==◌, ◌&&◌, nat_lt, Bool, true, false, List, [], ◌∷◌, ◌++◌, length, map, slice_get, codes}
use Rattle.std.specs.Prelude.{Option, Some, None, option_map, option_and_then, if◌then◌else◌}
use Rattle.std.specs.List.{flat_map}
use Rattle.std.specs.Option.{option_or}
use Rattle.http_cache_fields.specs.Headers.{first_text}
use Rattle.http_cache_rules.specs.Messages.{ResponseSeen}
use Rattle.http_cache_recording.specs.Entry.{RecordedSeen, BodySeen}
use Rattle.http_cache_walk.specs.Row.{RowSeen}
use Rattle.http_cache_walk.specs.Order.{shown_url, target_of}
use Rattle.http_cache_findings.specs.Counts.{Addition, label_of}
use Rattle.http_cache_walk.specs.Walk.{body_in}
use Rattle.http_cache_findings.specs.Cost.{response_of, text_at}
use Rattle.http_cache_findings.specs.declared.urls.Url.{Url}
use Rattle.http_cache_findings.specs.Visit.{full_of}

abbrev pub base_of : List ℕ → List ℕ
base_of url = shown_url true url

abbrev pub has_query : List ℕ → Bool
has_query url = nat_lt (length (base_of url)) (length url)

abbrev pub tag_of : ResponseSeen → Option (List ℕ)
tag_of r = option_or (first_text r.headers (codes "etag")) (first_text r.headers (codes "last-modified"))

abbrev pub tag_in : RecordedSeen → Option (List ℕ)
tag_in r = option_and_then tag_of (response_of r.reading)

-- what distinguishes a response: its recorded body, else its ETag or Last-Modified
abbrev pub mark_of : RecordedSeen → Option (List ℕ)
mark_of r = option_or (option_map (λ (b : BodySeen). b.text) (body_in r.reading)) (tag_in r)

abbrev pub mark_at : List RecordedSeen → ℕ → Option (List ℕ)
mark_at rs index = option_and_then mark_of (slice_get rs index)

abbrev pub marked : List ℕ → List ℕ → List ℕ
marked base mark = base ++ (codes "\n" ++ mark)

abbrev pub mark_additions : List ℕ → Option (List ℕ) → List Addition
mark_additions base None = []
mark_additions base (Some mark) = (label_of (codes "marked") (marked base mark), 1) ∷ []

abbrev pub base_additions : List ℕ → Option (List ℕ) → List Addition
base_additions base mark = (label_of (codes "base") base, 1) ∷ mark_additions base mark

abbrev pub query_additions : List ℕ → Option (List ℕ) → List Addition
query_additions url mark = if has_query url then base_additions (base_of url) mark else []

-- a url with a query counts for its base, and for that with its mark
abbrev pub bases_at : List RecordedSeen → Url → List Addition
bases_at rs u = query_additions (text_at rs u.entry) (mark_at rs u.full)

-- the number of urls with each base, and the number of these with one response
abbrev pub bases_of : List RecordedSeen → List Url → List Addition
bases_of rs us = flat_map (bases_at rs) us

-- several urls have the base, and all of them the mark
abbrev pub is_one_body : (List ℕ → ℕ) → List ℕ → List ℕ → Bool
is_one_body sum base mark =
    nat_lt 1 (sum (label_of (codes "base") base))
    && (sum (label_of (codes "marked") (marked base mark)) == sum (label_of (codes "base") base))

-- the url is one of several that differ only in their query, and have one response
abbrev pub is_changing : (List ℕ → ℕ) → List ℕ → Option (List ℕ) → Bool
is_changing sum url None = false
is_changing sum url (Some mark) = has_query url && is_one_body sum (base_of url) mark

abbrev pub changing_by : (List ℕ → ℕ) → List RecordedSeen → RowSeen → Bool
changing_by sum rs r = is_changing sum (target_of r.recorded) (mark_at rs (full_of (length rs) r))

abbrev pub changing_of : (List ℕ → ℕ) → List RecordedSeen → List RowSeen → List Bool
changing_of sum rs rows = map (changing_by sum rs) rows
