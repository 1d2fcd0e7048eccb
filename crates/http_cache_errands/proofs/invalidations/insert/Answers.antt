-- An insertion changes the token of one text only.
use Rattle.std.proofs.Common.{rules, ◌≡◌, ◌⊎◌, ℕ, Bool, true, false, Option, Some, cond, bytes_eq, string_bytes, unwrap_or, subst, sym, refl, inl, inr}
use Rattle.std.specs.BTreeMap.{get_by_text}
use Rattle.std.proofs.lemmas.Map.Text.{btree_map_updates_text}
use Rattle.http_cache_errands.proofs.invalidations.insert.Goals as goal

either : (b : Bool) (token : ℕ) (old : Option ℕ)
    → (unwrap_or (cond b (Some token) old) 0 ≡ token) ⊎ (unwrap_or (cond b (Some token) old) 0 ≡ unwrap_or old 0)
either true token old = inl refl
either false token old = inr refl

pub returns-clause-others : goal.returns-clause-others
returns-clause-others c = λ text.
    let m = c.args.by_text.now in
    let n = c.insert.new.self in
    let key = string_bytes c.in_ok-text.text in
    let there : get_by_text n text ≡ cond (bytes_eq key text) (Some c.args.token) (get_by_text m text) =
    btree_map_updates_text key m n (Some c.args.token) (search rules) text in
    subst (λ o. (unwrap_or o 0 ≡ c.args.token) ⊎ (unwrap_or o 0 ≡ unwrap_or (get_by_text m text) 0)) (sym there)
    (either (bytes_eq key text) c.args.token (get_by_text m text))
