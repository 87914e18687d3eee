-- What a slot holds of a value is below `absent`: numbers are 1 to 65535, hexadecimal digits four, letters bytes.
use Prim.Native.Nat.{ℕ, ◌-◌, ◌≤◌, ◌<◌}
use mathlib.Core.Path.{◌≡◌, refl}
use mathlib.Core.Bool.{Bool, true, false, not, ◌&&◌, cond}
use mathlib.Core.List.{List, [], ◌∷◌}
use mathlib.Core.Option.{Option, none, some}
use native.Mathlib.Omega.{arith}
use lib.ListN.{get_or}
use lib.Dec.{eqb, ltb, leb}
use borrow.Author.Tests.{leb-true}
use Rattle.xliff.specs.Bytes.{'F', 'I', 'N', 'R', 'T', 'Y', equal}
use Rattle.xliff.specs.Text.{between}
use Rattle.xliff.proofs.lists.Tests.{and_left, and_right}
use Rattle.xml.specs.Attributes.{Word, word, with, all_digits, decimal_value, number, upper_hex, hexadecimal, yes_no, yes_first_no, states, letter_of}
use Rattle.xml_slots.specs.Slots.{value_read, bad, absent, or_bad, in_slot}

-- a value from `low` on and below `high`, or none
pub data Within (low high : ℕ) : Option ℕ → Type 0 where
  nothing : Within low high none
  value : {x : ℕ} → low ≤ x → x < high → Within low high (some x)

pub within_with : (m low high : ℕ) (o : Option ℕ) (f : ℕ → Option ℕ) → Within 0 m o
    → ((x : ℕ) → x < m → Within low high (f x)) → Within low high (with o f)
unfolding with
within_with m low high none f h k = nothing
within_with m low high (some x) f (value l g) k = k x g

pub within_cond : (low high : ℕ) (b : Bool) (o p : Option ℕ) → (b ≡ true → Within low high o) → Within low high p
    → Within low high (cond b o p)
within_cond low high true o p h k = h refl
within_cond low high false o p h k = k

pub within_wider : (low high : ℕ) (o : Option ℕ) → high ≤ bad → Within low high o → Within 0 bad o
within_wider low high none h nothing = nothing
within_wider low high (some x) h (value l g) = value {x = x} (omega arith) (omega arith)

range : (low c high : ℕ) → between low c high ≡ true → (low ≤ c) × (c ≤ high)
unfolding between
range low c high e = (leb-true low c (and_left _ _ e), leb-true c high (and_right (leb low c) _ e))

pub number_within : (v : List ℕ) → Within 1 bad (number v)
unfolding number
number_within v =
    let n : ℕ = decimal_value 0 v in
    let no_zero : Bool = not (eqb (get_or v 0 48) 48) in
    within_cond 1 bad (all_digits v && (no_zero && between 1 n 65535)) (some n) none
    (λ e. let (l, h) = range 1 n 65535 (and_right no_zero _ (and_right (all_digits v) _ e)) in value l (omega arith)) nothing

pub digit_within : (b : ℕ) → Within 0 16 (upper_hex b)
unfolding upper_hex
digit_within b =
    within_cond 0 16 (between 48 b 57) (some (b - 48)) _
    (λ e. let (l, h) = range 48 b 57 e in value (omega arith) (omega arith))
    (within_cond 0 16 (between 65 b 70) (some (b - 55)) none
    (λ e. let (l, h) = range 65 b 70 e in value (omega arith) (omega arith)) nothing)

pub hexadecimal_within : (v : List ℕ) → Within 0 bad (hexadecimal v)
unfolding hexadecimal
hexadecimal_within [] = nothing
hexadecimal_within (a ∷ []) = nothing
hexadecimal_within (a ∷ b ∷ []) = nothing
hexadecimal_within (a ∷ b ∷ c ∷ []) = nothing
hexadecimal_within (a ∷ b ∷ c ∷ d ∷ []) =
    within_with 16 0 bad (upper_hex a) _ (digit_within a) (λ i p.
    within_with 16 0 bad (upper_hex b) _ (digit_within b) (λ j q.
    within_with 16 0 bad (upper_hex c) _ (digit_within c) (λ k r.
    within_with 16 0 bad (upper_hex d) _ (digit_within d) (λ l s. value (omega arith) (omega arith)))))
hexadecimal_within (a ∷ b ∷ c ∷ d ∷ e ∷ v) = nothing

-- letters
module _ (v : List ℕ) where
  no_letter : Within 1 256 (letter_of [] v)
  unfolding letter_of
  no_letter = nothing

  one_letter : (l : ℕ) (w : List ℕ) (ws : List Word) → 1 ≤ l → l < 256 → Within 1 256 (letter_of ws v)
      → Within 1 256 (letter_of (word w l ∷ ws) v)
  unfolding letter_of
  one_letter l w ws p q rest = within_cond 1 256 (equal v w) (some l) (letter_of ws v) (λ e. value p q) rest

  pub yes_no_within : Within 1 256 (letter_of yes_no v)
  unfolding yes_no
  yes_no_within =
      one_letter 'Y' _ _ (omega arith) (omega arith) (one_letter 'N' _ _ (omega arith) (omega arith) no_letter)

  pub yes_first_no_within : Within 1 256 (letter_of yes_first_no v)
  unfolding yes_first_no
  yes_first_no_within =
      one_letter 'Y' _ _ (omega arith) (omega arith)
      (one_letter 'F' _ _ (omega arith) (omega arith) (one_letter 'N' _ _ (omega arith) (omega arith) no_letter))

  pub states_within : Within 1 256 (letter_of states v)
  unfolding states
  states_within =
      one_letter 'I' _ _ (omega arith) (omega arith)
      (one_letter 'T' _ _ (omega arith) (omega arith)
      (one_letter 'R' _ _ (omega arith) (omega arith) (one_letter 'F' _ _ (omega arith) (omega arith) no_letter)))

pub value_within : (k : ℕ) (v : List ℕ) → Within 0 bad (value_read k v)
unfolding value_read
value_within k v =
    within_cond 0 bad (ltb k 7) _ _ (λ e. within_wider 1 bad _ (omega arith) (number_within v))
    (within_cond 0 bad (eqb k 7) _ _ (λ e. hexadecimal_within v)
    (within_cond 0 bad (eqb k 8) _ _ (λ e. within_wider 1 256 _ (omega arith) (states_within v))
    (within_cond 0 bad (eqb k 9) _ _ (λ e. within_wider 1 256 _ (omega arith) (yes_first_no_within v))
    (within_wider 1 256 _ (omega arith) (yes_no_within v)))))

pub or_bad_most : (o : Option ℕ) → Within 0 bad o → or_bad o ≤ bad
unfolding or_bad
or_bad_most none nothing = omega arith
or_bad_most (some x) (value l h) = omega arith

-- a slot is absent exactly where its attribute is
pub slot_absent : (k : ℕ) (o : Option (List ℕ)) → in_slot k o ≡ absent → o ≡ none
unfolding in_slot
slot_absent k none e = refl
slot_absent k (some v) e =
    absurd (let most = or_bad_most (value_read k v) (value_within k v) in let z : ⊥ = omega (arith, e, most) in z)
