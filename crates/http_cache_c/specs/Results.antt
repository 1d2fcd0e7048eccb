-- What is written for each result.
use Rattle.std.specs.Prelude.{◌≡◌, ◌<◌, ◌⊎◌, ℕ, ℤ, List, length, Option, Some, None}
use Rattle.http_cache_bytes.specs.declared.answer.Answer.{Answer}
use Rattle.http_cache_bytes.specs.declared.answer.Verdict.TheVariants.{Forward}
use Rattle.http_cache_bytes.specs.declared.choice.Chosen.{Chosen}
use Rattle.http_cache_bytes.specs.declared.form.Stored.{Stored}
use Rattle.http_cache_bytes.specs.declared.next.Next.{Next}
use Rattle.http_cache_c.specs.Codes.{verdict_code, bool_code, next_code}
use Rattle.http_cache_c.specs.Buffer.{IsWritten, IsHanded, LacksRoom}

-- the stored form is written; the code says whether the response may be stored
abbrev pub IsStoredOut : Stored → ℤ → ℕ → List ℕ → List ℕ → Type 0
IsStoredOut s result needed old new =
    IsHanded (bool_code s.storable) s.form.items result needed old new

-- the head is written, and the code of the verdict returned
abbrev pub IsAnswerOut : Answer → ℤ → ℕ → List ℕ → List ℕ → Type 0
IsAnswerOut a result needed old new =
    IsHanded (verdict_code a.verdict) a.head.items result needed old new

-- the index and the head of the chosen response; for none the number of responses, and no head
abbrev pub IsChosenOut : Option Chosen → ℕ → ℤ → ℕ → ℕ → List ℕ → List ℕ → Type 0
IsChosenOut (Some c) count result index needed old new =
    (index ≡ c.index) × IsAnswerOut c.answer result needed old new
IsChosenOut None count result index needed old new =
    (index ≡ count) × (result ≡ verdict_code Forward) × (needed ≡ 0) × (new ≡ old)

-- the index of the chosen response, whose head has no room
abbrev pub LacksRoomForChosen : Option Chosen → ℕ → ℕ → List ℕ → Type 0
LacksRoomForChosen (Some c) index needed old = (index ≡ c.index) × LacksRoom c.answer.head.items needed old
LacksRoomForChosen None index needed old = ⊥

pub record IsNextOut (n : Next) (result : ℤ) (form_needed : ℕ) (old_form new_form : List ℕ)
    (needed : ℕ) (old new : List ℕ) : Type 0 where
  pub code_is : result ≡ next_code n
  pub form : IsWritten n.stored.form.items form_needed old_form new_form
  pub head : IsWritten n.head.items needed old new

-- the lengths of the form and of the head, one of which has no room
pub record LacksRoomForNext (n : Next) (form_needed : ℕ) (old_form : List ℕ) (needed : ℕ) (old : List ℕ)
    : Type 0 where
  pub form_needed_is : form_needed ≡ length n.stored.form.items
  pub needed_is : needed ≡ length n.head.items
  pub short : (length old_form < form_needed) ⊎ (length old < needed)
