-- What the slots tell of a tag's attributes: numbers, letters, and what is absent.
use Prim.Native.Nat.{ℕ, zero, suc, ◌+◌, ◌≤◌, ◌<◌}
use mathlib.Core.Path.{◌≡◌, refl, sym, ap, ◌∙◌}
use mathlib.Core.Bool.{Bool, true, false, cond}
use mathlib.Core.List.{List, [], ◌∷◌}
use mathlib.Core.Option.{Option, none, some}
use native.Mathlib.Omega.{arith}
use lib.ListN.{length, get_or}
use lib.Dec.{eqb, leb}
use borrow.Author.Tests.{ne_eqb, lt-ltb, le-ltb, leb-true, leb-false}
use Rattle.std.specs.Prelude.{Result, Ok, Err, OkIff}
use Rattle.std.specs.Result.{result_ok}
use Rattle.xml.specs.Tokens.{Attribute}
use Rattle.xml.specs.Attributes.{with, value_of, number, required, optional, hexadecimal, yes_no, yes_first_no, states, letter_of, choice}
use Rattle.xml_slots.specs.Slots.{value_read, bad, absent, or_bad, good, in_slot, slot, slots_of}
use Rattle.xml_slots.proofs.ValueLaws.{Within, nothing, value, states_within, yes_first_no_within, yes_no_within, value_within, slot_absent}
use Rattle.xml_elements.specs.Reading.{name_of, words_of, value_meaning}

-- the letters of the table
letter_within : (k : ℕ) (v : List ℕ) → Within 1 256 (letter_of (words_of k) v)
unfolding words_of
letter_within k v = by (eqb k 8) (eqb k 9)
  where
    by : (a b : Bool) → Within 1 256 (letter_of (cond a states (cond b yes_first_no yes_no)) v)
    by true b = states_within v
    by false true = yes_first_no_within v
    by false false = yes_no_within v

-- which kind of value a slot has
number_slot : (k : ℕ) (v : List ℕ) → k < 7 → value_read k v ≡ number v
unfolding value_read
number_slot k v h = rw (lt-ltb k 7 h) refl

letter_slot : (k : ℕ) (v : List ℕ) → 8 ≤ k → value_read k v ≡ letter_of (words_of k) v
unfolding value_read words_of
letter_slot k v h =
    rw (le-ltb k 7 (omega arith), ne_eqb k 7 (λ (e : k ≡ 7). let z : ⊥ = omega (arith, e) in z)) (by (eqb k 8) (eqb k 9))
  where
    by : (a b : Bool) → cond a (letter_of states v) (cond b (letter_of yes_first_no v) (letter_of yes_no v))
        ≡ letter_of (cond a states (cond b yes_first_no yes_no)) v
    by true b = refl
    by false true = refl
    by false false = refl

-- a value, as its slot tells it
good_back : (o : Option ℕ) → Within 0 bad o → good (or_bad o) ≡ o
unfolding good or_bad
good_back none nothing = refl
good_back (some x) (value l h) = rw (lt-ltb x bad h) refl

pub good_some : (v : ℕ) → v < bad → good v ≡ some v
unfolding good
good_some v h = rw (lt-ltb v bad h) refl

pub good_none : (v : ℕ) → bad ≤ v → good v ≡ none
unfolding good
good_none v h = rw (le-ltb v bad h) refl

small : {low : ℕ} (o : Option ℕ) → Within low 256 o → or_bad o < bad → or_bad o < 256
unfolding or_bad
small none nothing p = omega arith
small (some x) (value l h) p = h

-- The attribute of the slot k, if it is there
module _ (k : ℕ) where
  told_with : (o : Option (List ℕ)) → with o (value_read k) ≡ good (in_slot k o)
  unfolding with in_slot good
  told_with none = refl
  told_with (some v) = sym (good_back (value_read k v) (value_within k v))

  pub is_there : (v : List ℕ) → eqb (in_slot k (some v)) absent ≡ false
  is_there v =
      ne_eqb _ _ (λ (e : in_slot k (some v) ≡ absent).
      let f : some v ≡ none = slot_absent k (some v) e in let z : ◌≡◌ {A = ℕ} 0 1 = cc in omega arith)

  -- a letter's slot that is good holds less than 256
  small_letter : (o : Option (List ℕ)) → 8 ≤ k → in_slot k o < bad → in_slot k o < 256
  unfolding in_slot
  small_letter none h p = omega arith
  small_letter (some v) h p =
      rw (letter_slot k v h) (small (letter_of (words_of k) v) (letter_within k v) (rw (letter_slot k v h) at p))

-- the slots in their sequence
abbrev from : (ℕ → ℕ) → ℕ → ℕ → List ℕ
from f j zero = []
from f j (suc n) = f j ∷ from f (suc j) n

getD_from : (f : ℕ → ℕ) (j n k : ℕ) → k < n → get_or (from f j n) k 0 ≡ f (j + k)
getD_from f j zero k h = absurd (let z : ⊥ = omega arith in z)
getD_from f j (suc n) zero h = ap f (omega arith)
getD_from f j (suc n) (suc k) h = getD_from f (suc j) n k (omega arith) ∙ ap f (omega arith)

pub slots_long : (ats : List Attribute) → length (slots_of ats) ≡ 16
unfolding slots_of
slots_long ats = refl

module _ (slots : List ℕ) (ats : List Attribute) (told : slots ≡ slots_of ats) where
  pub told_long : length slots ≡ 16
  told_long = ap length told ∙ slots_long ats

  -- four hexadecimal digits
  pub hexadecimal_told : with (value_of (name_of 7) ats) hexadecimal ≡ good (get_or slots 7 0)
  unfolding slots_of value_read
  hexadecimal_told = told_with 7 (value_of (name_of 7) ats) ∙ ap good (sym (ap (λ (l : List ℕ). get_or l 7 0) told))

  module _ (k : ℕ) where
    pub told_at : k < 16 → get_or slots k 0 ≡ slot k ats
    unfolding slots_of
    told_at h =
        let same : 0 + k ≡ k = omega arith in
        ap (λ (l : List ℕ). get_or l k 0) told ∙ getD_from (λ j. slot j ats) 0 16 k h ∙ ap (λ (j : ℕ). slot j ats) same

    -- a number that must be there
    pub required_told : k < 7 → required (name_of k) ats ≡ good (get_or slots k 0)
    unfolding required with
    required_told h = rw (told_at (omega arith)) (by (value_of (name_of k) ats) ∙ told_with k (value_of (name_of k) ats))
      where
        by : (o : Option (List ℕ)) → with o number ≡ with o (value_read k)
        by none = refl
        by (some v) = sym (number_slot k v h)

    -- one that may be absent, which is 0
    pub optional_told : k < 7 → optional (name_of k) ats ≡ good (cond (eqb (get_or slots k 0) absent) 0 (get_or slots k 0))
    unfolding optional in_slot good with
    optional_told h = rw (told_at (omega arith)) (by (value_of (name_of k) ats))
      where
        by : (o : Option (List ℕ)) → elim o [ none ↦ some 0 | some v ↦ number v ]
            ≡ good (cond (eqb (in_slot k o) absent) 0 (in_slot k o))
        by none = refl
        by (some v) = rw (is_there k v, ← number_slot k v h) (told_with k (some v))

    -- a letter that may be absent, which is its default
    pub choice_told : 8 ≤ k → k < 16 → (d : ℕ)
        → choice (name_of k) (words_of k) d ats ≡ cond (eqb (get_or slots k 0) absent) (some d) (good (get_or slots k 0))
    unfolding choice in_slot with
    choice_told l h d = rw (told_at h) (by (value_of (name_of k) ats))
      where
        by : (o : Option (List ℕ)) → elim o [ none ↦ some d | some v ↦ letter_of (words_of k) v ]
            ≡ cond (eqb (in_slot k o) absent) (some d) (good (in_slot k o))
        by none = refl
        by (some v) = rw (is_there k v, ← letter_slot k v l) (told_with k (some v))

    -- one that is good is below 256
    pub letter_small : 8 ≤ k → k < 16 → get_or slots k 0 < bad → get_or slots k 0 < 256
    letter_small l h p = rw (told_at h) (small_letter k (value_of (name_of k) ats) l (rw (told_at h) at p))

-- what a conversion to u16 or u8 tells of a slot: `bound` is where the type's numbers end
module _ {E : Type 0} (bound v : ℕ) (small : bound ≤ bad) (fits : v < bad → v < bound) where
  pub value_is : (r : Result ℕ E) → OkIff r (v < bound) v → value_meaning (result_ok r) ≡ good v
  value_is (Ok x) (h, same) = rw same (sym (good_some v (omega arith)))
  value_is (Err e) h = sym (good_none v (by (leb bad v) refl))
    where
      by : (b : Bool) → leb bad v ≡ b → bad ≤ v
      by true e = leb-true bad v e
      by false e = absurd (h (fits (leb-false bad v e)))

-- a letter, or its default
pub letter_good : (d x : ℕ) → d < 256 → good (cond (eqb x absent) d x) ≡ cond (eqb x absent) (some d) (good x)
letter_good d x h = by (eqb x absent)
  where
    by : (b : Bool) → good (cond b d x) ≡ cond b (some d) (good x)
    by true = good_some d (omega arith)
    by false = refl

pub letter_fits : (d x : ℕ) → d < 256 → (x < bad → x < 256) → cond (eqb x absent) d x < bad → cond (eqb x absent) d x < 256
letter_fits d x h fits = by (eqb x absent)
  where
    by : (b : Bool) → cond b d x < bad → cond b d x < 256
    by true p = h
    by false p = fits p

-- what the functions tell that read a slot
module _ {E : Type 0} (slots : List ℕ) (k : ℕ) (ats : List Attribute) (told : slots ≡ slots_of ats) where
  pub required_read : k < 7 → (r : Result ℕ E) → OkIff r (get_or slots k 0 < bad) (get_or slots k 0)
      → value_meaning (result_ok r) ≡ required (name_of k) ats
  required_read h r made =
      value_is bad (get_or slots k 0) (omega arith) (λ p. p) r made ∙ sym (required_told slots ats told k h)

  pub optional_read : k < 7 → (v : ℕ) → v ≡ cond (eqb (get_or slots k 0) absent) 0 (get_or slots k 0)
      → (r : Result ℕ E) → OkIff r (v < bad) v → value_meaning (result_ok r) ≡ optional (name_of k) ats
  optional_read h v is r made =
      value_is bad v (omega arith) (λ p. p) r made ∙ ap good is ∙ sym (optional_told slots ats told k h)

  pub letter_read : 8 ≤ k → k < 16 → (d : ℕ) → d < 256
      → (v : ℕ) → v ≡ cond (eqb (get_or slots k 0) absent) d (get_or slots k 0)
      → (r : Result ℕ E) → OkIff r (v < 256) v → value_meaning (result_ok r) ≡ choice (name_of k) (words_of k) d ats
  letter_read l h d small v is r made =
      let x = get_or slots k 0 in
      let fits : v < bad → v < 256 = rw is (letter_fits d x small (letter_small slots ats told k l h)) in
      value_is 256 v (omega arith) fits r made ∙ ap good is ∙ letter_good d x small
      ∙ sym (choice_told slots ats told k l h d)
