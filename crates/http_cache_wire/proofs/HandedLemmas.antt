-- A frame that reports an outcome is read as one.
use Rattle.std.proofs.Common.{◌≡◌, ◌⊎◌, ℕ, List, Option, Some, None, true, codes, is_some, option_and_then, sym, ap, subst, ◌∙◌, inl, inr}
use Rattle.std.proofs.lemmas.Bool.{false≢true}
use Rattle.std.proofs.lemmas.Option.{none-some}
use Rattle.serde_json.specs.Data.{Data}
use Rattle.serde_json.specs.Find.{get, as_number, as_u64}
use Rattle.http_cache_frames.specs.Line.{exact, number_under}
use Rattle.http_cache_wire.specs.Wire.{HandsOver, HandsOverNothing, IsOperationOf}
use Rattle.http_cache_wire.specs.declared.operation.Operation.{Operation}
use Rattle.http_cache_wire.specs.declared.operation.Operation.TheVariants.{Ask, Received, Failed, Complete, Part, Next, Remove, Sweep, Stats, Quit}

-- an absent member is no number
absent : (name : List ℕ) (line : Data) (token : ℕ) → get name line ≡ None → number_under name line ≡ Some token → ⊥
absent name line token none some =
    none-some token
    (subst (λ there. option_and_then exact (option_and_then as_u64 (option_and_then as_number there)) ≡ Some token) none some)

not_there : (o : Option Data) → o ≡ None → is_some o ≡ true → ⊥
not_there o none some = false≢true (subst (λ there. is_some there ≡ true) none some)

-- a frame can't both report an outcome and report none
nothing : (line : Data) (token : ℕ) → HandsOverNothing line → HandsOver line token → ⊥
nothing line token (ask, received, failed, complete) (none, inl got) = absent (codes "received") line token received got
nothing line token (ask, received, failed, complete) (none, inr (inl (other, got))) = absent (codes "failed") line token failed got
nothing line token (ask, received, failed, complete) (none, inr (inr (other, third, got))) =
    absent (codes "complete") line token complete got

pub handed : (line : Data) (operation : Operation) (token : ℕ) → IsOperationOf line (Some operation) → HandsOver line token
    → (operation ≡ Received (Some token)) ⊎ (operation ≡ Failed (Some token)) ⊎ (operation ≡ Complete (Some token))
handed line (Ask id) token is (none, got) = absurd (none-some id (sym none ∙ is))
handed line (Received given) token (ask, there, is) (none, inl got) = inl (ap (λ t. Received t) (sym is ∙ got))
handed line (Received given) token (ask, there, is) (none, inr (inl (other, got))) =
    absurd (not_there (get (codes "received") line) other there)
handed line (Received given) token (ask, there, is) (none, inr (inr (other, third, got))) =
    absurd (not_there (get (codes "received") line) other there)
handed line (Failed given) token (ask, other, there, is) (none, inl got) = absurd (absent (codes "received") line token other got)
handed line (Failed given) token (ask, other, there, is) (none, inr (inl (same, got))) =
    inr (inl (ap (λ t. Failed t) (sym is ∙ got)))
handed line (Failed given) token (ask, other, there, is) (none, inr (inr (same, third, got))) =
    absurd (not_there (get (codes "failed") line) third there)
handed line (Complete given) token (ask, other, third, is) (none, inl got) =
    absurd (absent (codes "received") line token other got)
handed line (Complete given) token (ask, other, third, is) (none, inr (inl (same, got))) =
    absurd (absent (codes "failed") line token third got)
handed line (Complete given) token (ask, other, third, is) (none, inr (inr (same, also, got))) =
    inr (inr (ap (λ t. Complete t) (sym is ∙ got)))
handed line (Part given) token is over = absurd (nothing line token is over)
handed line (Next given) token is over = absurd (nothing line token is over)
handed line (Remove id) token is over = absurd (nothing line token is over)
handed line (Sweep id) token is over = absurd (nothing line token is over)
handed line (Stats id) token is over = absurd (nothing line token is over)
handed line (Quit id) token is over = absurd (nothing line token is over)
