-- The member of Cache-Status is an item with its parameters.
use Rattle.std.proofs.Common.{◌≡◌, ◌⊎◌, inl, inr, ℕ, ◌≤◌, Bool, true, false, nat_le, List, [], ◌∷◌, ◌++◌}
use Rattle.std.proofs.Common.{codes, map, decimal, Option, Some, None, if◌then◌else◌, append-nil, refl, sym, subst, arith}
use Rattle.std.specs.Prelude.{IfSome}
use Rattle.std.proofs.lemmas.Bool.{and_from, leb-true}
use Rattle.std.specs.List.{list_all}
use Rattle.http_header.specs.Token.{is_token_byte}
use Rattle.http_cache_reasons.specs.StructuredField.{is_printable, printable, string_item, is_bare_token, name_item}
use Rattle.http_cache_reasons.specs.StructuredField.{IsBareItem, is_string, is_token, is_integer, is_negative}
use Rattle.http_cache_reasons.specs.StructuredField.{IsParameter, is_flag, has_value, IsItem, is_bare, with_parameter}
use Rattle.http_cache_reasons.specs.Member.{forward_word, outcome_parameter, status_parameter, stored_parameter}
use Rattle.http_cache_reasons.specs.Member.{seconds_parameter, ttl_parameter, detail_parameter, MemberSeen, member_text}
use Rattle.http_cache_reasons.specs.declared.member.Forward.{Forward}
use Rattle.http_cache_reasons.specs.declared.member.Forward.TheVariants.{Bypass, Method, UriMiss, VaryMiss, Miss}
use Rattle.http_cache_reasons.specs.declared.member.Forward.TheVariants.{Request, Stale}
use Rattle.http_cache_reasons.specs.declared.member.CacheOutcome.{CacheOutcome}
use Rattle.http_cache_reasons.specs.declared.member.CacheOutcome.TheVariants.{Hit, Forwarded, Generated}
use Rattle.http_cache_reasons.specs.declared.member.TimeLeft.{TimeLeft}
use Rattle.http_cache_reasons.specs.declared.member.TimeLeft.TheVariants.{Left, Past}

printable-is : (b : ℕ) → is_printable (printable b) ≡ true
printable-is b = by (is_printable b) refl
  where
    by : (t : Bool) → is_printable b ≡ t → is_printable (if t then b else 63) ≡ true
    by true is = is
    by false is = refl

all-printable : (text : List ℕ) → list_all is_printable (map printable text) ≡ true
all-printable [] = refl
all-printable (b ∷ bs) =
    and_from (is_printable (printable b)) (list_all is_printable (map printable bs)) (printable-is b) (all-printable bs)

string-is_item : (text : List ℕ) → IsBareItem (string_item text)
string-is_item text = is_string (map printable text) (all-printable text)

name-is_item : (text : List ℕ) → IsBareItem (name_item text)
name-is_item text = by (is_bare_token text) refl
  where
    by : (t : Bool) → is_bare_token text ≡ t → IsBareItem (if t then text else string_item text)
    by true is = is_token text is
    by false is = string-is_item text

word-is_token : (why : Forward) → is_bare_token (forward_word why) ≡ true
unfolding is_token_byte
word-is_token Bypass = refl
word-is_token Method = refl
word-is_token UriMiss = refl
word-is_token VaryMiss = refl
word-is_token Miss = refl
word-is_token Request = refl
word-is_token Stale = refl

abbrev MayBeParameter : List ℕ → Type 0
MayBeParameter text = (text ≡ []) ⊎ IsParameter text

outcome-may_be : (outcome : CacheOutcome) → MayBeParameter (outcome_parameter outcome)
outcome-may_be Hit = inr (is_flag (codes "hit") refl)
outcome-may_be (Forwarded why) =
    inr (has_value (codes "fwd") (forward_word why) refl (is_token (forward_word why) (word-is_token why)))
outcome-may_be Generated = inl refl

status-may_be : (status : Option ℕ) → IfSome status (λ n. n ≤ 999) → MayBeParameter (status_parameter status)
status-may_be None few = inl refl
status-may_be (Some n) few =
    let within : n ≤ 999_999_999_999_999 = omega (arith, few) in
    inr (has_value (codes "fwd-status") (decimal n) refl (is_integer n within))

stored-may_be : (stored : Bool) → MayBeParameter (stored_parameter stored)
stored-may_be true = inr (is_flag (codes "stored") refl)
stored-may_be false = inl refl

left-may_be : (n : ℕ) → MayBeParameter (seconds_parameter (codes "; ttl=") n)
left-may_be n = by (nat_le n 999_999_999_999_999) refl
  where
    by : (t : Bool) → nat_le n 999_999_999_999_999 ≡ t
        → MayBeParameter (if t then codes "; ttl=" ++ decimal n else [])
    by true few = inr (has_value (codes "ttl") (decimal n) refl (is_integer n (leb-true n 999_999_999_999_999 few)))
    by false few = inl refl

past-may_be : (n : ℕ) → MayBeParameter (seconds_parameter (codes "; ttl=-") n)
past-may_be n = by (nat_le n 999_999_999_999_999) refl
  where
    by : (t : Bool) → nat_le n 999_999_999_999_999 ≡ t
        → MayBeParameter (if t then codes "; ttl=-" ++ decimal n else [])
    by true few =
        inr (has_value (codes "ttl") (codes "-" ++ decimal n) refl
        (is_negative n (leb-true n 999_999_999_999_999 few)))
    by false few = inl refl

ttl-may_be : (left : Option TimeLeft) → MayBeParameter (ttl_parameter left)
ttl-may_be None = inl refl
ttl-may_be (Some (Left seconds)) = left-may_be seconds
ttl-may_be (Some (Past seconds)) = past-may_be seconds

detail-may_be : (reported : Option (List ℕ)) → MayBeParameter (detail_parameter reported)
detail-may_be None = inl refl
detail-may_be (Some text) = inr (has_value (codes "detail") (string_item text) refl (string-is_item text))

item-with : (front part : List ℕ) → IsItem front → MayBeParameter part → IsItem (front ++ part)
item-with front part is (inl none) =
    subst (λ (p : List ℕ). IsItem (front ++ p)) (sym none) (subst IsItem (sym (append-nil front)) is)
item-with front part is (inr more) = with_parameter front part is more

pub member-is_item : (x : MemberSeen) → IfSome x.forward_status (λ n. n ≤ 999) → IsItem (member_text x)
unfolding member_text
member-is_item x few =
    let outcome = item-with _ _ (is_bare (name_item x.cache) (name-is_item x.cache)) (outcome-may_be x.outcome) in
    let status = item-with _ _ outcome (status-may_be x.forward_status few) in
    let stored = item-with _ _ status (stored-may_be x.stored) in
    item-with _ _ (item-with _ _ stored (ttl-may_be x.left)) (detail-may_be x.detail)
