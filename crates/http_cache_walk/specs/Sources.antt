-- The last requests over the network, whose headers may be assumed.
use Rattle.std.specs.Prelude.{◌≡◌, ℕ, ◌+◌, ◌==◌, Bool, true, false, ◌&&◌, ◌||◌, List, codes, bytes_eq, take, drop}
use Rattle.std.specs.Prelude.{reverse}
use Rattle.std.specs.Prelude.{Option, option_map, if◌then◌else◌}
use Rattle.std.specs.List.{find, position_or_len}
use Rattle.std.specs.Option.{option_or}
use Rattle.std.specs.BTreeMap.{get_by_text}
use Rattle.http_cache_recording.specs.Entry.{EntrySeen, entry_seen, AnswerSeen, failed, cached, received}
use Rattle.http_cache_recording.specs.declared.entry.Kind.{Kind}
use Rattle.http_cache_recording.specs.declared.entry.Kind.TheVariants as kind
use Rattle.http_cache_walk.specs.declared.sources.Sources.{Sources}
use Rattle.http_cache_walk.specs.Order.{SentSeen, target_of}

abbrev pub is_asked : Kind → Bool
is_asked kind.Internal = false
is_asked kind.Preflight = false
is_asked kind.Passed = false
is_asked kind.Range = false
is_asked kind.Failed = false
is_asked kind.Asked = true

abbrev pub is_received : AnswerSeen → Bool
is_received failed = false
is_received (cached r) = false
is_received (received r) = true

-- the network was asked as a store would have asked
abbrev pub is_source : EntrySeen → Bool
is_source e = is_asked e.kind && is_received e.answer

abbrev pub is_end : ℕ → Bool
is_end b = b == 47 || b == 63

-- up to the first `/` or `?`
abbrev pub len_to_end : List ℕ → ℕ
len_to_end text = position_or_len is_end text

-- the scheme and the authority of a target, up to the first `/` or `?` after `//`
unfoldable pub host_of : List ℕ → List ℕ
host_of target = let start = len_to_end target + 2 in take (start + len_to_end (drop start target)) target

-- the last source whose target, in some form, is a text
abbrev pub last_by : (List ℕ → List ℕ) → List ℕ → List SentSeen → Option EntrySeen
last_by form text before =
    option_map (λ o. o.entry)
    (find (λ o. is_source o.entry && bytes_eq (form (target_of o.recorded)) text) (reverse before))

abbrev pub last_for : List ℕ → List SentSeen → Option EntrySeen
last_for target before = last_by (λ t. t) target before

abbrev pub last_at : List ℕ → List SentSeen → Option EntrySeen
last_at host before = last_by host_of host before

pub record SourcesSeen : Type 0 where
  pub by_target : List ℕ → Option EntrySeen
  pub by_host : List ℕ → Option EntrySeen

abbrev pub sources_seen : Sources → SourcesSeen
sources_seen s = record {
  by_target = λ t. option_map (λ e. entry_seen e.now) (get_by_text s.by_target t);
  by_host = λ h. option_map (λ e. entry_seen e.now) (get_by_text s.by_host h);
}

abbrev pub sources_of : List SentSeen → SourcesSeen
sources_of before = record { by_target = λ t. last_for t before; by_host = λ h. last_at h before }

abbrev pub HoldsSources : List SentSeen → SourcesSeen → Type 0
HoldsSources before s = s ≡ sources_of before

-- the last for the target, or else at the host; for cookies always at the host
unfoldable pub source_in : SourcesSeen → List ℕ → List ℕ → Option EntrySeen
source_in s target name =
    if bytes_eq name (codes "cookie") then s.by_host (host_of target)
    else option_or (s.by_target target) (s.by_host (host_of target))

abbrev pub source_for : List SentSeen → List ℕ → List ℕ → Option EntrySeen
source_for before target name = source_in (sources_of before) target name
