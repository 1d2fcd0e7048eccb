-- The texts of a form, one after another.
use Rattle.std.proofs.Common.{◌≡◌, ℕ, ◌==◌, suc, List, [], ◌∷◌, length, drop, Option, Some, None, refl, subst, false, arith}
use Rattle.std.specs.Prelude.{IfNone}
use Rattle.std.proofs.lemmas.Bool.{ne_eqb}
use Rattle.http_cache_json.specs.Form.{given}
use Rattle.http_cache_json.specs.Pairs.{Pair}
use Rattle.http_cache_compact.specs.Compact.{number_4, cut, fields_of, texts_of, AreTextsIn}

pub none_holds : {A : Type 0} (o : Option A) (P : Type 0) → P → IfNone o P
none_holds (Some x) P p = tt
none_holds None P p = p

pub no_method : (bytes : List ℕ) → cut (number_4 bytes 36) (drop 52 bytes) ≡ None → texts_of bytes ≡ None
unfolding texts_of
no_method bytes none = rw none refl

pub no_target : (bytes method rest : List ℕ) → cut (number_4 bytes 36) (drop 52 bytes) ≡ Some (method, rest)
    → cut (number_4 bytes 40) rest ≡ None → texts_of bytes ≡ None
unfolding texts_of
no_target bytes method rest first none = rw first (rw none refl)

pub no_request : (bytes method rest target request : List ℕ) → cut (number_4 bytes 36) (drop 52 bytes) ≡ Some (method, rest)
    → cut (number_4 bytes 40) rest ≡ Some (target, request)
    → fields_of (number_4 bytes 44) request ≡ None → texts_of bytes ≡ None
unfolding texts_of
no_request bytes method rest target request first second none = rw first (rw second (rw none refl))

pub no_response : (bytes method rest target request : List ℕ) (asked : List Pair) (response : List ℕ)
    → cut (number_4 bytes 36) (drop 52 bytes) ≡ Some (method, rest)
    → cut (number_4 bytes 40) rest ≡ Some (target, request)
    → fields_of (number_4 bytes 44) request ≡ Some (asked, response)
    → fields_of (number_4 bytes 48) response ≡ None → texts_of bytes ≡ None
unfolding texts_of
no_response bytes method rest target request asked response first second third none =
    rw first (rw second (rw third (rw none refl)))

not_none : {A : Type 0} (x : A) (n : ℕ) → given (suc n == 0) x ≡ None
not_none x n = rw (never n) refl
  where
    never : (n : ℕ) → (suc n == 0) ≡ false
    never n = ne_eqb (suc n) 0 (λ is. absurd (omega arith))

pub no_end : (bytes method rest target request : List ℕ) (asked : List Pair) (response : List ℕ) (answered : List Pair)
    (end : List ℕ) → cut (number_4 bytes 36) (drop 52 bytes) ≡ Some (method, rest)
    → cut (number_4 bytes 40) rest ≡ Some (target, request)
    → fields_of (number_4 bytes 44) request ≡ Some (asked, response)
    → fields_of (number_4 bytes 48) response ≡ Some (answered, end) → (end ≡ [] → ⊥) → texts_of bytes ≡ None
unfolding texts_of
no_end bytes method rest target request asked response answered [] first second third fourth more = absurd (more refl)
no_end bytes method rest target request asked response answered (b ∷ end) first second third fourth more =
    rw first (rw second (rw third (rw fourth (not_none _ (length end)))))

pub all_texts : (bytes method rest target request : List ℕ) (asked : List Pair) (response : List ℕ) (answered : List Pair)
    (end : List ℕ) → cut (number_4 bytes 36) (drop 52 bytes) ≡ Some (method, rest)
    → cut (number_4 bytes 40) rest ≡ Some (target, request)
    → fields_of (number_4 bytes 44) request ≡ Some (asked, response)
    → fields_of (number_4 bytes 48) response ≡ Some (answered, end) → length end ≡ 0
    → AreTextsIn bytes method target request response
unfolding texts_of
all_texts bytes method rest target request asked response answered [] first second third fourth none = record {
  asked = asked;
  answered = answered;
  request_is = third;
  response_is = fourth;
  texts = rw first (rw second (rw third (rw fourth refl)));
}
all_texts bytes method rest target request asked response answered (b ∷ end) first second third fourth none = absurd (omega arith)

pub same_cut : (n m : ℕ) (xs ys : List ℕ) (o : Option (List ℕ × List ℕ)) → n ≡ m → xs ≡ ys → cut n xs ≡ o → cut m ys ≡ o
same_cut n m xs ys o ns is h = subst (λ k. cut k ys ≡ o) ns (subst (λ zs. cut n zs ≡ o) is h)

pub same_fields : (n m : ℕ) (xs : List ℕ) (o : Option (List Pair × List ℕ)) → n ≡ m → fields_of n xs ≡ o → fields_of m xs ≡ o
same_fields n m xs o ns h = subst (λ k. fields_of k xs ≡ o) ns h
