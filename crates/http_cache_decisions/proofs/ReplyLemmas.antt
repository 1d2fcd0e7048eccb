-- A sweep over a head's names leaves the fields of a 304; and only a condition can be false.
use Rattle.std.proofs.Common.{◌≡◌, ℕ, true, false, List, bytes_eq, Bool, Option, None, refl, sym, ◌∙◌, inl, inr}
use Rattle.std.specs.FinMap as fin
use Rattle.std.specs.Prelude.{◌&&◌, if◌then◌else◌}
use Rattle.std.specs.Cmp.Lexicographic.{nat_list_cmp_total}
use Rattle.std.proofs.lemmas.Bool.{cases_Bool}
use Rattle.http.specs.Request.{head_of}
use Rattle.http.specs.declared.request.Request.{Request}
use Rattle.http_cache_fields.specs.Headers.{Headers, ChangesUnder, headers_of}
use Rattle.http_cache_fields.proofs.HeadersLemmas.{ties}
use Rattle.http_cache_rules.specs.Conditions.{has_stored_already, is_conditional}
use Rattle.http_cache_rules.proofs.ConditionLemmas.{stored-conditional}
use Rattle.http_cache_rules.proofs.SweepLemmas.{IsSettling}
use Rattle.http_cache_policy.specs.Exchange.{Exchange}
use Rattle.http_cache_policy.specs.NotModified.{is_not_modified_for}
use Rattle.http_cache_decisions.specs.Reply.{is_field_of_304, is_known, kept_in_304}

twice : (k : Bool) (o : Option (List (List ℕ)))
    → (if k then (if k then o else None) else None) ≡ (if k then o else None)
twice true o = refl
twice false o = refl

none : (k : Bool) (o : Option (List (List ℕ))) → o ≡ None → (if k then o else None) ≡ None
none true o e = e
none false o e = refl

pub kept_in_304-settles : IsSettling kept_in_304
kept_in_304-settles =
    record {
      again = λ name o. twice (is_field_of_304 name) o;
      nothing = λ name. none (is_field_of_304 name) None refl;
    }

pub kept-changes : (h : Headers) (name : List ℕ) → is_field_of_304 name ≡ true
    → ChangesUnder name (kept_in_304 name) h h
kept-changes h name kept other =
    elim (cases_Bool (bytes_eq name other)) [
      | inl t ↦ rw (t, kept) refl
      | inr f ↦ rw f refl
    ]

pub removed-changes : (h : Headers) (name : List ℕ) → is_field_of_304 name ≡ false
    → ChangesUnder name (kept_in_304 name) h (fin.remove h name)
removed-changes h name gone other =
    fin.get-remove nat_list_cmp_total h name other
    ∙ elim (cases_Bool (bytes_eq name other)) [
      | inl t ↦ rw (ties other name, t, gone) refl
      | inr f ↦ rw (ties other name, f) refl
    ]

last : (a b : Bool) → (a && b) ≡ true → b ≡ true
last true b h = h
last false b h = absurd (let no : false ≡ true = h in cc)

known-conditional : (request : Request (List ℕ)) (e : Exchange) → is_known request e ≡ true
    → is_conditional (headers_of (head_of request).headers) ≡ true
unfolding is_not_modified_for
known-conditional request e known =
    stored-conditional e.response_headers e.response_time (headers_of (head_of request).headers)
    (last _ (has_stored_already e.response_headers e.response_time (headers_of (head_of request).headers)) known)

-- a request without a condition has none that is false
pub unconditional-unknown : (request : Request (List ℕ)) (e : Exchange)
    → is_conditional (headers_of (head_of request).headers) ≡ false → is_known request e ≡ false
unconditional-unknown request e without =
    elim (cases_Bool (is_known request e)) [
      | inl t ↦ absurd (let no : true ≡ false = sym (known-conditional request e t) ∙ without in cc)
      | inr f ↦ f
    ]
