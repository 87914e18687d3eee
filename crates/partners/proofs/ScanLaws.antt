-- The loops over keys, one key further.
use Prim.Native.Nat.{ℕ, suc, ◌+◌, ◌≤◌, ◌<◌}
use mathlib.Core.Path.{◌≡◌, refl, sym, ap, ap₂, ◌∙◌}
use mathlib.Core.Bool.{Bool, true, false, not, ◌&&◌, ◌||◌, cond, true≢false, false≢true}
use mathlib.Core.List.{List, [], ◌∷◌, reverse, reverse-append}
use native.Mathlib.Omega.{arith}
use lib.ListN.{length, take, drop, get_or, drop_of_length-le}
use lib.Seq.{take-suc, drop-cons}
use lib.Dec.{eqb}
use Rattle.xliff.specs.Bytes.{any}
use Rattle.xliff.specs.Sequences.{first_of, least}
use Rattle.xliff.proofs.lists.Tests.{any_append, or_none, or_left, or_right}
use Rattle.answers.specs.Answers.{refusal_at, lower, toward}
use Rattle.std.specs.Prelude.{Option, None, Some}
use Rattle.keys.specs.Keys.{half_key, form_key}
use Rattle.partners.specs.Partners.{partner_s_Key, lone_s_Key, some_key, lone_among_keys, blamed_keys}
use Rattle.answers.proofs.Places.{toward_if}

-- the next key, and the keys before it, the nearest first
pub next_key : (keys : List ℕ) (i : ℕ) → i < length keys → drop i keys ≡ get_or keys i 0 ∷ drop (i + 1) keys
next_key keys i h = drop-cons keys i 0 h ∙ ap (λ (n : ℕ). get_or keys i 0 ∷ drop n keys) (let z : suc i ≡ i + 1 = omega arith in z)

pub key_before : (keys : List ℕ) (i : ℕ) → i < length keys → reverse (take (i + 1) keys) ≡ get_or keys i 0 ∷ reverse (take i keys)
key_before keys i h =
    ap (λ (n : ℕ). reverse (take n keys)) (let z : i + 1 ≡ suc i = omega arith in z)
    ∙ ap reverse (take-suc keys i 0 h)
    ∙ reverse-append (take i keys) (get_or keys i 0 ∷ [])

-- a key that is no half with the mark of a start or an end; a start; an end
module _ (before : List ℕ) (k : ℕ) (after : List ℕ) where
  pub lone_not : eqb (half_key k) 0 || form_key k ≡ true → lone_s_Key before k after ≡ false
  unfolding lone_s_Key
  lone_not e = by (eqb (half_key k) 0) (form_key k) (not (partner_s_Key k (cond (eqb (half_key k) 1) after before))) e
    where
      by : (a b c : Bool) → a || b ≡ true → not a && (not b && c) ≡ false
      by true b c e = refl
      by false true c e = refl
      by false false c e = absurd (false≢true e)

  lone_looks : eqb (half_key k) 0 || form_key k ≡ false → lone_s_Key before k after ≡ not (partner_s_Key k (cond (eqb (half_key k) 1) after before))
  unfolding lone_s_Key
  lone_looks e = by (eqb (half_key k) 0) (form_key k) (not (partner_s_Key k (cond (eqb (half_key k) 1) after before))) e
    where
      by : (a b c : Bool) → a || b ≡ false → not a && (not b && c) ≡ c
      by true b c e = absurd (true≢false e)
      by false true c e = absurd (true≢false e)
      by false false c e = refl

  pub lone_start : eqb (half_key k) 0 || form_key k ≡ false → eqb (half_key k) 1 ≡ true → lone_s_Key before k after ≡ not (partner_s_Key k after)
  lone_start e f = lone_looks e ∙ ap (λ (b : Bool). not (partner_s_Key k (cond b after before))) f

  pub lone_end : eqb (half_key k) 0 || form_key k ≡ false → eqb (half_key k) 1 ≡ false → lone_s_Key before k after ≡ not (partner_s_Key k before)
  lone_end e f = lone_looks e ∙ ap (λ (b : Bool). not (partner_s_Key k (cond b after before))) f

or_swap : (a b : Bool) → a || b ≡ b || a
or_swap true true = refl
or_swap true false = refl
or_swap false true = refl
or_swap false false = refl

pub any_reverse : (p : ℕ → Bool) (keys : List ℕ) → any p (reverse keys) ≡ any p keys
unfolding any
any_reverse p [] = refl
any_reverse p (k ∷ keys) =
    ap (any p) (reverse-append (k ∷ []) keys)
    ∙ any_append p (reverse keys) (k ∷ [])
    ∙ ap₂ ◌||◌ (any_reverse p keys) (or_none (p k))
    ∙ or_swap (any p keys) (p k)

-- a key that waits for x
module _ (p : List ℕ → ℕ → List ℕ → Bool) (keys : List ℕ) (i : ℕ) where
  pub some_first : i < length keys
      → some_key p (reverse (take i keys)) (drop i keys)
      ≡ p (reverse (take i keys)) (get_or keys i 0) (drop (i + 1) keys) || some_key p (reverse (take (i + 1) keys)) (drop (i + 1) keys)
  unfolding some_key
  some_first h =
      ap (some_key p (reverse (take i keys))) (next_key keys i h)
      ∙ ap (λ (b : List ℕ). p (reverse (take i keys)) (get_or keys i 0) (drop (i + 1) keys) || some_key p b (drop (i + 1) keys)) (sym (key_before keys i h))

  pub some_on : i < length keys → p (reverse (take i keys)) (get_or keys i 0) (drop (i + 1) keys) ≡ true → some_key p (reverse (take i keys)) (drop i keys) ≡ true
  some_on h e = some_first h ∙ ap (λ (b : Bool). b || some_key p (reverse (take (i + 1) keys)) (drop (i + 1) keys)) e

  pub some_off : i < length keys → p (reverse (take i keys)) (get_or keys i 0) (drop (i + 1) keys) ≡ false
      → some_key p (reverse (take i keys)) (drop i keys) ≡ some_key p (reverse (take (i + 1) keys)) (drop (i + 1) keys)
  some_off h e = some_first h ∙ ap (λ (b : Bool). b || some_key p (reverse (take (i + 1) keys)) (drop (i + 1) keys)) e

  pub some_end : length keys ≤ i → some_key p (reverse (take i keys)) (drop i keys) ≡ false
  unfolding some_key
  some_end h = ap (some_key p (reverse (take i keys))) (drop_of_length-le keys h)

-- where no half is lone in the target sequence, none is at fault
pub none_blamed : (bars before markers keys : List ℕ) → some_key lone_s_Key before keys ≡ false → blamed_keys (lone_among_keys bars) before markers keys ≡ []
unfolding some_key blamed_keys lone_among_keys
none_blamed bars before [] keys e = refl
none_blamed bars before (o ∷ markers) [] e = refl
none_blamed bars before (o ∷ markers) (k ∷ keys) e =
    rw (or_left (lone_s_Key before k keys) (some_key lone_s_Key (k ∷ before) keys) e)
    (none_blamed bars (k ∷ before) markers keys (or_right (lone_s_Key before k keys) (some_key lone_s_Key (k ∷ before) keys) e))

-- nothing is lower than a place
pub none_lower : (n : ℕ) (p : Option ℕ) → toward n p [] ≡ refusal_at n p
unfolding toward first_of least
none_lower n None = refl
none_lower n (Some a) = refl

-- what a test of keys blames, one key further
blamed_first : (bad : List ℕ → ℕ → List ℕ → Bool) (before : List ℕ) (o : ℕ) (markers : List ℕ) (k : ℕ) (keys : List ℕ)
    → blamed_keys bad before (o ∷ markers) (k ∷ keys) ≡ cond (bad before k keys) (o ∷ blamed_keys bad (k ∷ before) markers keys) (blamed_keys bad (k ∷ before) markers keys)
unfolding blamed_keys
blamed_first bad before o markers k keys = refl

module _ (bad : List ℕ → ℕ → List ℕ → Bool) (markers keys : List ℕ) (same : length keys ≡ length markers) (n : ℕ) (best : Option ℕ) (i : ℕ) where
  -- `b` is whether the key at i is at fault, `at` its offset, `next` the lower place
  pub blamed_on : (b : Bool) (at : ℕ) (next : Option ℕ) → i < length markers → b ≡ bad (reverse (take i keys)) (get_or keys i 0) (drop (i + 1) keys) → at ≡ get_or markers i 0
      → next ≡ cond b (lower best at) best
      → toward n best (blamed_keys bad (reverse (take i keys)) (drop i markers) (drop i keys))
      ≡ toward n next (blamed_keys bad (reverse (take (i + 1) keys)) (drop (i + 1) markers) (drop (i + 1) keys))
  blamed_on b at next h e f g =
      let l : i < length keys = omega arith in
      let B : List ℕ = blamed_keys bad (get_or keys i 0 ∷ reverse (take i keys)) (drop (i + 1) markers) (drop (i + 1) keys) in
      ap (toward n best)
      (ap₂ (blamed_keys bad (reverse (take i keys))) (next_key markers i h) (next_key keys i l)
      ∙ blamed_first bad (reverse (take i keys)) (get_or markers i 0) (drop (i + 1) markers) (get_or keys i 0) (drop (i + 1) keys)
      ∙ ap₂ (λ (c : Bool) (k : ℕ). cond c (k ∷ B) B) (sym e) (sym f))
      ∙ toward_if n b best at B
      ∙ ap₂ (λ (p : Option ℕ) (l : List ℕ). toward n p (blamed_keys bad l (drop (i + 1) markers) (drop (i + 1) keys))) (sym g) (sym (key_before keys i l))

  pub blamed_end : length markers ≤ i → toward n best (blamed_keys bad (reverse (take i keys)) (drop i markers) (drop i keys)) ≡ refusal_at n best
  unfolding blamed_keys
  blamed_end h = rw (drop_of_length-le markers h) (none_lower n best)
