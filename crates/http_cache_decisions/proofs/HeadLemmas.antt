-- What each step leaves of a head that is stored, and what the steps leave together.
use Rattle.std.proofs.Common.{◌≡◌, ◌≤◌, ◌&&◌, ◌||◌, ℕ, ℤ, pos, Bool, true, false, List, [], ◌∷◌}
use Rattle.std.proofs.Common.{Option, Some, None, option_map, option_and_then, unwrap_or, is_some, slice_get, cond, codes, decimal, bytes_eq, nat_le}
use Rattle.std.proofs.Common.{◌↔◌, Result, Ok, Err, IsOk, IfOk, refl, sym, ap, subst, ◌∙◌, inl, inr, arith}
use Rattle.std.specs.Option.{option_map_or}
use Rattle.std.specs.Cmp.Lexicographic.{nat_list_cmp_total}
use Rattle.std.specs.FinMap as fin
use Rattle.std.proofs.lemmas.Int.{ints}
use Rattle.std.proofs.lemmas.Bool.{cases_Bool}
use Rattle.std.proofs.lemmas.Bool.Decides.{nat_tests}
use Rattle.std.proofs.lemmas.Slice.Eq.{bytes_eq-Decides}
use Rattle.std.specs.Result.{result_ok}
use Rattle.jiff.specs.declared.timestamp.Timestamp.{Timestamp}
use Rattle.jiff.specs.Words.{IsTimestampNanos}
use Rattle.http_cache_fields.specs.Headers.{Headers, contains_key, set}
use Rattle.http_cache_fields.specs.Text.{text_of}
use Rattle.http_cache_fields.proofs.HeadersLemmas.{ties, get-remove_other}
use Rattle.http_cache_rules.specs.Dates.{second_start}
use Rattle.http_cache_decisions.specs.StoredHead.{KeepsOthers}
use Rattle.http_cache_decisions.specs.StoredHead.{last_second, time_of_second, stored_age, LacksDate, IsDated, AreLinesOf}
use Rattle.http_cache_decisions.specs.StoredHead.{obsolete_time, obsolete_date, AreFixed, IsStoredDate}
use Rattle.http_cache_decisions.specs.StoredHead.{is_date_text, has_date, IsStoredExpires, length_lines}
use Rattle.http_cache_decisions.specs.StoredHead.{names_rules, joined_fields, is_adjusted, most_names, IsStoredHead}

-- Tests.

pub and-left : (a b : Bool) → a && b ≡ true → a ≡ true
and-left true b e = refl
and-left false b e = let no = e in cc

pub and-right : (a b : Bool) → a && b ≡ true → b ≡ true
and-right true b e = e
and-right false b e = let no = e in cc

pub or-false : (a b : Bool) → a || b ≡ false → (a ≡ false) × (b ≡ false)
or-false true b e = let no = e in cc
or-false false b e = (refl, e)

-- Times.

-- a timestamp is made of a second up to the latest
pub time_of_second-read : {E : Type 0} (z : ℤ) (second : ℕ) → z ≡ pos second → (r : Result Timestamp E)
    → (IsOk r ↔ IsTimestampNanos (second_start z)) → IfOk r (λ t. t.nanosecond ≡ second_start z)
    → option_map (λ t. t.nanosecond) (result_ok r) ≡ time_of_second second
time_of_second-read z second same (Ok t) made value =
    let in_range : IsTimestampNanos (second_start z) = made.0 refl in
    let most : second ≤ last_second = omega (arith, ints) in
    let test : nat_le second last_second ≡ true = grind (arith, nat_tests) in
    ap Some (value ∙ ap second_start same)
    ∙ sym (ap (λ b. cond b (Some (second_start (pos second))) None) test)
time_of_second-read z second same (Err e) made value =
    elim (cases_Bool (nat_le second last_second)) [
      | inl t ↦
          let most : second ≤ last_second = grind (arith, nat_tests) in
          let in_range : IsTimestampNanos (second_start z) = (omega (arith, ints), omega (arith, ints)) in
          let no = made.1 in_range in cc
      | inr f ↦ sym (ap (λ b. cond b (Some (second_start (pos second))) None) f)
    ]

-- Lines.

abbrev Lines : Type 0
Lines = Option (List (List ℕ))

get-set : (h : Headers) (name value other : List ℕ)
    → fin.get (set h name value) other ≡ cond (bytes_eq name other) (Some (value ∷ [])) (fin.get h other)
get-set h name value other =
    fin.get-insert nat_list_cmp_total h name (value ∷ []) other
    ∙ ap (λ b. cond b (Some (value ∷ [])) (fin.get h other)) (ties other name)

pub get-set_same : (h : Headers) (name value : List ℕ) → fin.get (set h name value) name ≡ Some (value ∷ [])
get-set_same h name value =
    get-set h name value name
    ∙ ap (λ b. cond b (Some (value ∷ [])) (fin.get h name)) ((bytes_eq-Decides name name).1 refl)

pub KeepsOthers-set : (h : Headers) (name value : List ℕ) → KeepsOthers name h (set h name value)
KeepsOthers-set h name value other apart =
    get-set h name value other ∙ ap (λ b. cond b (Some (value ∷ [])) (fin.get h other)) apart

pub get-remove_same : (h : Headers) (name : List ℕ) → fin.get (fin.remove h name) name ≡ None
get-remove_same h name =
    fin.get-remove nat_list_cmp_total h name name
    ∙ ap (λ b. cond b None (fin.get h name)) (ties name name ∙ (bytes_eq-Decides name name).1 refl)

pub KeepsOthers-remove : (h : Headers) (name : List ℕ) → KeepsOthers name h (fin.remove h name)
KeepsOthers-remove h name other apart = get-remove_other h name other apart

-- a head that is the same with its lines set
pub set-is : (old new : Headers) (name value : List ℕ) → new ≡ set old name value
    → (fin.get new name ≡ Some (value ∷ [])) × KeepsOthers name old new
set-is old new name value is = (
  ap (λ h. fin.get h name) is ∙ get-set_same old name value,
  λ other apart. ap (λ h. fin.get h other) is ∙ KeepsOthers-set old name value other apart,
)

pub set-there : (old new : Headers) (name value : List ℕ) → new ≡ set old name value → contains_key new name ≡ true
set-there old new name value is =
    ap (λ (o : Option (List (List ℕ))). is_some (slice_get (unwrap_or o []) 0)) (set-is old new name value is).0

abbrev first_line : Lines → Option (List ℕ)
first_line lines = slice_get (unwrap_or lines []) 0

abbrev obsolete_in : Lines → Option ℤ
obsolete_in lines = option_and_then obsolete_time (option_and_then text_of (first_line lines))

AreFixed-along : (a b x y : Lines) → a ≡ b → x ≡ y → AreFixed (obsolete_in a) a x → AreFixed (obsolete_in b) b y
AreFixed-along a b x y old new fixed =
    subst (λ (o : Lines). AreFixed (obsolete_in b) b o) new
    (subst (λ (o : Lines). AreFixed (obsolete_in o) o x) old fixed)

IsStoredExpires-along : (g h s t : Headers) → fin.get g (codes "expires") ≡ fin.get h (codes "expires")
    → fin.get s (codes "expires") ≡ fin.get t (codes "expires") → IsStoredExpires g s → IsStoredExpires h t
IsStoredExpires-along g h s t old new expires =
    let there : contains_key g (codes "expires") ≡ contains_key h (codes "expires") =
    ap (λ (o : Lines). is_some (first_line o)) old in
    let dated : has_date g (codes "expires") ≡ has_date h (codes "expires") =
    ap (λ (o : Lines). option_map_or is_date_text (option_and_then text_of (first_line o)) false) old in
    record {
      absent = λ none. sym new ∙ expires.absent (there ∙ none) ∙ old;
      date = λ is. AreFixed-along (fin.get g (codes "expires")) (fin.get h (codes "expires"))
          (fin.get s (codes "expires")) (fin.get t (codes "expires")) old new (expires.date (dated ∙ is));
      other = λ some no. sym new ∙ expires.other (there ∙ some) (dated ∙ no);
    }

IsStoredDate-along : (received : ℤ) (h s t : Headers) → fin.get s (codes "date") ≡ fin.get t (codes "date")
    → IsStoredDate received h s → IsStoredDate received h t
IsStoredDate-along received h s t new date = record {
  known = λ some. subst (λ (o : Lines). AreFixed (obsolete_date h (codes "date")) (fin.get h (codes "date")) o)
      new (date.known some);
  added = λ none. subst (λ (o : Lines). AreLinesOf received o) new (date.added none);
}

-- Dates that are added.

module _ (received : ℤ) (old new : Headers) (dated : IsDated received old new)
    (none : contains_key old (codes "date") ≡ false) where
  pub still-undated : contains_key new (codes "date") ≡ false → LacksDate received old
  still-undated still =
      elim (dated.added none) [
        | inl a ↦ let no : true ≡ false = sym (set-there old new (codes "date") a.text a.is) ∙ still in cc
        | inr l ↦ l.0
      ]

  pub IsStoredDate-added : contains_key new (codes "date") ≡ true → IsStoredDate received old new
  IsStoredDate-added there = record {
    known = λ some. let no : true ≡ false = sym some ∙ none in cc;
    added = λ _. elim (dated.added none) [
      | inl a ↦ (a.text, a.date, (set-is old new (codes "date") a.text a.is).0)
      | inr l ↦
          let no : true ≡ false = sym there ∙ ap (λ h. contains_key h (codes "date")) l.1 ∙ none in cc
    ];
  }

  pub KeepsOthers-added : KeepsOthers (codes "date") old new
  KeepsOthers-added other apart =
      elim (dated.added none) [
        | inl a ↦ (set-is old new (codes "date") a.text a.is).1 other apart
        | inr l ↦ ap (λ h. fin.get h other) l.1
      ]

-- The steps together.

abbrev IsApart : List ℕ → Type 0
IsApart name =
    (bytes_eq (codes "age") name ≡ false) × (bytes_eq (codes "content-length") name ≡ false)
    × (bytes_eq (codes "date") name ≡ false) × (bytes_eq (codes "expires") name ≡ false)

pub apart : (name : List ℕ) → is_adjusted name ≡ false → IsApart name
unfolding is_adjusted
apart name other =
    let a = bytes_eq (codes "age") name in
    let b = bytes_eq (codes "content-length") name in
    let c = bytes_eq (codes "date") name in
    let d = bytes_eq (codes "expires") name in
    let last = or-false ((a || b) || c) d other in
    let third = or-false (a || b) c last.0 in
    let first = or-false a b third.0 in (first.0, first.1, third.1, last.1)

module _ (sent received : ℤ) (h dated sized fixed : Headers)
    (few : fin.len h ≤ most_names) (unnamed : names_rules h ≡ false)
    (date : IsStoredDate received (joined_fields h) dated) (date_only : KeepsOthers (codes "date") (joined_fields h) dated)
    (sizes : fin.get sized (codes "content-length") ≡ length_lines h (fin.get dated (codes "content-length")))
    (size_only : KeepsOthers (codes "content-length") dated sized)
    (expires : IsStoredExpires sized fixed) (expires_only : KeepsOthers (codes "expires") sized fixed) where
  others-fixed : (name : List ℕ) → is_adjusted name ≡ false → fin.get fixed name ≡ fin.get (joined_fields h) name
  others-fixed name other =
      let is = apart name other in
      expires_only name is.3 ∙ size_only name is.1 ∙ date_only name is.2

  pub IsStoredHead-by_steps : (stored : Headers)
      → stored ≡ set fixed (codes "age") (decimal (stored_age h sent)) → IsStoredHead sent received h stored
  IsStoredHead-by_steps stored is =
      let age = set-is fixed stored (codes "age") (decimal (stored_age h sent)) is in
      let new_length : fin.get stored (codes "content-length") ≡ fin.get sized (codes "content-length") =
      age.1 (codes "content-length") refl ∙ expires_only (codes "content-length") refl in
      let old_length : fin.get dated (codes "content-length") ≡ fin.get (joined_fields h) (codes "content-length") =
      date_only (codes "content-length") refl in
      let new_date : fin.get stored (codes "date") ≡ fin.get dated (codes "date") =
      age.1 (codes "date") refl ∙ expires_only (codes "date") refl ∙ size_only (codes "date") refl in
      let old_expires : fin.get sized (codes "expires") ≡ fin.get (joined_fields h) (codes "expires") =
      size_only (codes "expires") refl ∙ date_only (codes "expires") refl in
      record {
        few = few;
        unnamed = unnamed;
        age = age.0;
        content_length = new_length ∙ sizes ∙ ap (length_lines h) old_length;
        date = IsStoredDate-along received (joined_fields h) dated stored (sym new_date) date;
        expires = IsStoredExpires-along sized (joined_fields h) fixed stored old_expires
            (sym (age.1 (codes "expires") refl)) expires;
        others = λ name other. age.1 name (apart name other).0 ∙ others-fixed name other;
      }
