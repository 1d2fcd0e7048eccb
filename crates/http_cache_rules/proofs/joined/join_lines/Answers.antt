-- The lines of a name are joined if each is text; an absent name stays absent.
use Rattle.std.proofs.Common.{◌≡◌, ◌∙◌, ℕ, Bool, true, false, not, ◌||◌, List, [], ◌∷◌, Some, None, is_some, slice_get}
use Rattle.std.proofs.Common.{Option, option_map, Global, string_bytes, if◌then◌else◌, codes, bytes_eq, refl, sym, ap, subst}
use Rattle.std.specs.List.{list_all}
use Rattle.http_header.specs.FieldValue.{IsFieldValue}
use Rattle.http_header.specs.HeaderMap.{get_all}
use Rattle.http_cache_fields.specs.Text.{is_text}
use Rattle.http_cache_fields.specs.Headers.{headers_of, bytes_of, set}
use Rattle.http_cache_fields.proofs.HeadersLemmas.{values-headers_of}
use Rattle.http_cache_rules.specs.Joined.{joined_text, joined_values}
use Rattle.http_cache_rules.proofs.JoinedLemmas.{changes-none, changes-one, joined_values-joined, joined_text-is_value}
use Rattle.http_cache_rules.proofs.SweepLemmas.{absent-from_holds, changes-absent}
use Rattle.http_cache_rules.proofs.joined.join_lines.Goals.{then-eq-via-then-eq, then-eq-via-else-eq+then-not-contains_key}
use Rattle.http_cache_rules.proofs.joined.join_lines.Goals as goal

none_means : (all : Bool) (text : List ℕ) (o : Option (List ℕ)) → o ≡ None
    → o ≡ (if all then Some text else None) → all ≡ false
none_means true text o none is = let no : None ≡ Some text = sym none ∙ is in cc
none_means false text o none is = refl

some_means : (all : Bool) (text line : List ℕ) (o : Option (List ℕ)) → o ≡ Some line
    → o ≡ (if all then Some text else None) → (all ≡ true) × (line ≡ text)
some_means true text line o some is = let same : Some line ≡ Some text = sym some ∙ is in (refl, cc)
some_means false text line o some is = let no : Some line ≡ None = sym some ∙ is in cc

pub returns-then-eq : goal.returns-then-eq
returns-then-eq c =
    let m = c.args.map.now in
    let name = c.args.name.now in
    let valid = c.reveal_header_map.ensures in
    elim c.then-eq.branch [
      | then-eq-via-then-eq w ↦
          let cookie = ap (λ (n : List ℕ). bytes_eq n (codes "set-cookie")) (sym c.as_str.ensures.value)
          ∙ sym c.eq.ensures ∙ w.if-eq.true in
          changes-none m name valid (sym c.is_singleton.ensures ∙ c.if-is_singleton.false)
          (ap (λ b. b || not (list_all is_text (bytes_of (get_all m name)))) cookie)
      | then-eq-via-else-eq+then-not-contains_key w ↦
          changes-absent (headers_of m) name (joined_values name)
          (absent-from_holds m name valid (sym w.contains_key.ensures ∙ w.if-not-contains_key.true))
    ]

pub returns-in_default : goal.returns-in_default
returns-in_default c =
    let m = c.args.map.now in
    let name = c.args.name.now in
    let lines = bytes_of c.get_all.result in
    let none = ap (option_map (string_bytes {Z = Global})) c.in_default.is in
    let apart = none_means (list_all is_text lines) (joined_text lines) _ none c.in_ok-line.ensures in
    let cookie = ap (λ (n : List ℕ). bytes_eq n (codes "set-cookie")) (sym c.as_str.ensures.value)
    ∙ sym c.eq.ensures ∙ c.if-eq.false in
    changes-none m name c.reveal_header_map.ensures (sym c.is_singleton.ensures ∙ c.if-is_singleton.false)
    (ap (λ b. b || not (list_all is_text (bytes_of (get_all m name)))) cookie
    ∙ ap (λ vs. not (list_all is_text (bytes_of vs))) (sym c.get_all.ensures.value) ∙ ap not apart)

pub value_of-requires : goal.value_of-requires
value_of-requires c =
    let lines = bytes_of c.get_all.result in
    let some = ap (option_map (string_bytes {Z = Global})) c.in-Some.is in
    let of_text = some_means (list_all is_text lines) (joined_text lines) _ _ some c.in_ok-line.ensures in
    subst IsFieldValue (sym (ap (λ v. v.items) c.into_bytes.ensures.value ∙ of_text.1)) (joined_text-is_value lines of_text.0)

pub returns : goal.returns
returns c =
    let m = c.args.map.now in
    let name = c.args.name.now in
    let valid = c.reveal_header_map.ensures in
    let lines = bytes_of c.get_all.result in
    let some = ap (option_map (string_bytes {Z = Global})) c.in-Some.is in
    let of_text = some_means (list_all is_text lines) (joined_text lines) _ _ some c.in_ok-line.ensures in
    let cookie = ap (λ (n : List ℕ). bytes_eq n (codes "set-cookie")) (sym c.as_str.ensures.value)
    ∙ sym c.eq.ensures ∙ c.if-eq.false in
    let there = sym c.contains_key.ensures ∙ c.if-not-contains_key.false in
    let joined : joined_values name lines ≡ joined_text lines ∷ [] =
    joined_values-joined name lines (sym c.is_singleton.ensures ∙ c.if-is_singleton.false)
    (ap (λ b. b || not (list_all is_text lines)) cookie ∙ ap not of_text.0)
    (ap (λ vs. is_some (slice_get (bytes_of vs) 0)) c.get_all.ensures.value
    ∙ ap (λ vs. is_some (slice_get vs 0)) (sym (values-headers_of m name)) ∙ there) in
    changes-one m name (joined_text lines) (headers_of c.replace.new.map) valid
    (ap (λ vs. joined_values name (bytes_of vs)) (sym c.get_all.ensures.value) ∙ joined)
    (c.replace.ensures
    ∙ ap (λ v. set (headers_of m) name v.bytes) c.in_ok-value_of.ensures
    ∙ ap (set (headers_of m) name) (ap (λ v. v.items) c.into_bytes.ensures.value ∙ of_text.1))
