-- Rule 7 for pc and mrk, on keys: the definitions of the specification's `meet`, `partner_P` and `lone_P` with keys in
-- place of items.
use Rattle.std.specs.Prelude.{ℕ, Bool, true, false, not, ◌&&◌, cond, List, [], ◌∷◌, eqb}
use Rattle.std.proofs.Math.Option.{Option, none, some}
use Rattle.keys.specs.Keys.{half_key, form_key, is_other_key}

unfoldable pub meet_key : Option (List ℕ) → ℕ → Option (List ℕ)
meet_key none k = none
meet_key (some []) k = some []
meet_key (some (x ∷ xs)) k =
    cond (form_key k) (cond (eqb (half_key x) (half_key k)) (some (k ∷ x ∷ xs)) (cond (is_other_key x k) (some xs) none)) (some (x ∷ xs))

unfoldable pub meet_keys : Option (List ℕ) → List ℕ → Option (List ℕ)
meet_keys halves [] = halves
meet_keys halves (k ∷ keys) = meet_keys (meet_key halves k) keys

unfoldable pub all_met_keys : Option (List ℕ) → Bool
all_met_keys none = false
all_met_keys (some []) = true
all_met_keys (some (x ∷ xs)) = false

-- a half of pc or mrk without partner; what stands before it in its content, the nearest first, and after it
unfoldable pub lone_p_Key : List ℕ → ℕ → List ℕ → Bool
lone_p_Key before k after =
    not (eqb (half_key k) 0) && (form_key k && not (all_met_keys (meet_keys (some (k ∷ [])) (cond (eqb (half_key k) 1) after before))))
