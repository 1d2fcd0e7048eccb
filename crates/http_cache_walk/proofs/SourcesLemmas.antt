-- The last requests whose headers may be assumed, after one more.
use Rattle.std.proofs.Common.{arith, ◌≡◌, ap, refl, ℕ, ◌+◌, ◌<◌, Bool, true, false, ◌&&◌, cond, List, [], ◌∷◌, ◌++◌}
use Rattle.std.proofs.Common.{Option, Some, option_map, length, length-drop, drop, bytes_eq, get_or, get_or-drop}
use Rattle.std.proofs.lemmas.Bool.Decides.{nat_tests}
use Rattle.std.proofs.lemmas.List.{reverse-append}
use Rattle.std.proofs.lemmas.List.Sums.{passes_at_first}
use mathlib.Core.Path.{fun_ext}
use Rattle.http_cache_recording.specs.Entry.{EntrySeen}
use Rattle.http_cache_walk.specs.Order.{SentSeen, target_of}
use Rattle.http_cache_walk.specs.Sources.{is_source, is_end, len_to_end, host_of, last_by, SourcesSeen, sources_of}

-- a text can be cut before an ASCII byte
pub ascii_at_end : (text : List ℕ) (start len : ℕ) → len ≡ len_to_end (drop start text) → start + len < length text
    → get_or text (start + len) 0 < 128
ascii_at_end text start len is within =
    let at : len_to_end (drop start text) < length (drop start text) = omega (arith, length-drop start text) in
    let ends : is_end (get_or text (start + len) 0) ≡ true =
    rw (is, ← get_or-drop start text (len_to_end (drop start text)) 0) (passes_at_first is_end (drop start text) 0 at) in
    grind (arith, nat_tests)

-- ---- one more source

pub put-seen : {X Y : Type 0} (f : X → Y) (x : X) (old new : Option X) (b : Bool) → new ≡ cond b (Some x) old
    → option_map f new ≡ cond b (Some (f x)) (option_map f old)
put-seen f x old new true is = ap (option_map f) is
put-seen f x old new false is = ap (option_map f) is

last_by-next : (form : List ℕ → List ℕ) (text : List ℕ) (before : List SentSeen) (o : SentSeen)
    → last_by form text (before ++ o ∷ [])
    ≡ cond (is_source o.entry && bytes_eq (form (target_of o.recorded)) text) (Some o.entry) (last_by form text before)
last_by-next form text before o =
    rw (reverse-append before (o ∷ []))
    (put-seen (λ (s : SentSeen). s.entry) o _ _ (is_source o.entry && bytes_eq (form (target_of o.recorded)) text) refl)

last_by-source : (form : List ℕ → List ℕ) (before : List SentSeen) (o : SentSeen)
    (old new : List ℕ → Option EntrySeen) → is_source o.entry ≡ true
    → ((text : List ℕ) → old text ≡ last_by form text before)
    → ((text : List ℕ) → new text ≡ cond (bytes_eq (form (target_of o.recorded)) text) (Some o.entry) (old text))
    → new ≡ (λ text. last_by form text (before ++ o ∷ []))
last_by-source form before o old new source holds put =
    fun_ext (λ text. rw (put text, holds text, last_by-next form text before o, source) refl)

pub sources-next : (before : List SentSeen) (o : SentSeen) (old new : SourcesSeen) → is_source o.entry ≡ true
    → old ≡ sources_of before
    → ((t : List ℕ) → new.by_target t ≡ cond (bytes_eq (target_of o.recorded) t) (Some o.entry) (old.by_target t))
    → ((h : List ℕ) → new.by_host h ≡ cond (bytes_eq (host_of (target_of o.recorded)) h) (Some o.entry) (old.by_host h))
    → new ≡ sources_of (before ++ o ∷ [])
sources-next before o old new source holds targets hosts =
    let by_target = last_by-source (λ t. t) before o old.by_target new.by_target source
    (λ t. ap (λ (s : SourcesSeen). s.by_target t) holds) targets in
    let by_host = last_by-source host_of before o old.by_host new.by_host source
    (λ h. ap (λ (s : SourcesSeen). s.by_host h) holds) hosts in
    λ i. record { by_target = by_target i; by_host = by_host i }

last_by-other : (form : List ℕ → List ℕ) (before : List SentSeen) (o : SentSeen) → is_source o.entry ≡ false
    → (text : List ℕ) → last_by form text (before ++ o ∷ []) ≡ last_by form text before
last_by-other form before o other text = rw (last_by-next form text before o, other) refl

-- an entry that is no source changes nothing
pub sources-same : (before : List SentSeen) (o : SentSeen) → is_source o.entry ≡ false
    → sources_of (before ++ o ∷ []) ≡ sources_of before
sources-same before o other =
    λ i. record {
      by_target = λ t. last_by-other (λ t. t) before o other t i;
      by_host = λ h. last_by-other host_of before o other h i;
    }
