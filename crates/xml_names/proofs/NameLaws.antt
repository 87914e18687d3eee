-- One more byte of a name.
use Prim.Native.Nat.{ℕ, suc, ◌+◌, ◌-◌, ◌≤◌, ◌<◌}
use native.Mathlib.Omega.{arith}
use mathlib.Core.Path.{◌≡◌, sym, ap, ◌∙◌}
use mathlib.Core.Bool.{true}
use mathlib.Core.List.{List, [], ◌∷◌, ◌++◌, append_assoc, append-nil}
use lib.ListN.{length, take, drop, get_or, length-drop}
use lib.Seq.{take-suc, drop-cons, get_or-drop}
use Rattle.xml.specs.Characters.{in_a_name, continues_name}
use Rattle.xml.specs.Tokens.{State, in_name, in_attribute, go, step}
use Rattle.xml.specs.Places.{tokens_at}
use Rattle.xml.proofs.PlaceLaws.{to_next}
use Rattle.xml_names.specs.Names.{bytes_between, NameRead}

none_between : (s n : List ℕ) (at : ℕ) → n ≡ n ++ bytes_between s at at
none_between s n at =
    sym (append-nil n) ∙ ap (λ (k : ℕ). n ++ take k (drop at s)) (let e : 0 ≡ at - at = omega arith in e)

pub name_begins : (s : List ℕ) (at : ℕ) → at ≤ length s → NameRead s at at
name_begins s at h =
    record {
      low = omega arith;
      high = h;
      tag = λ p e a n. ap (λ (l : List ℕ). tokens_at s (in_name p e (a ∷ l)) at) (none_between s n at);
      attribute = λ t a n. ap (λ (l : List ℕ). tokens_at s (in_attribute t (a ∷ l)) at) (none_between s n at);
    }

module _ (s : List ℕ) (from at : ℕ) (low : from ≤ at) (inside : at < length s) where
  last_byte : get_or (drop from s) (at - from) 0 ≡ get_or s at 0
  last_byte = rw get_or-drop (ap (λ (k : ℕ). get_or s k 0) (let e : from + (at - from) ≡ at = omega arith in e))

  one_more : bytes_between s from (at + 1) ≡ bytes_between s from at ++ (get_or s at 0 ∷ [])
  one_more =
      ap (λ (k : ℕ). take k (drop from s)) (let e : at + 1 - from ≡ suc (at - from) = omega arith in e)
      ∙ take-suc (drop from s) (at - from) 0 (let z = length-drop from s in omega arith)
      ∙ ap (λ (b : ℕ). bytes_between s from at ++ (b ∷ [])) last_byte

  -- the name so far and one byte more
  name_more : (n : List ℕ) → (n ++ bytes_between s from at) ++ (get_or s at 0 ∷ []) ≡ n ++ bytes_between s from (at + 1)
  name_more n =
      append_assoc n (bytes_between s from at) (get_or s at 0 ∷ []) ∙ ap (λ (m : List ℕ). n ++ m) (sym one_more)

pub name_goes_on : (s : List ℕ) (from at : ℕ) → NameRead s from at → at < length s → in_a_name (get_or s at 0) ≡ true
    → NameRead s from (at + 1)
name_goes_on s from at r h c =
    let low = r.low in
    record {
      low = omega arith;
      high = omega arith;
      tag = λ p e a n. r.tag p e a n ∙ on (λ l. in_name p e (a ∷ l)) n (unfold step continues_name in rw c);
      attribute = λ t a n. r.attribute t a n ∙ on (λ l. in_attribute t (a ∷ l)) n (unfold step continues_name in rw c);
    }
  where
    so_far : List ℕ → List ℕ
    so_far n = n ++ bytes_between s from at

    on : (st : List ℕ → State) (n : List ℕ)
        → step (st (so_far n)) at (get_or s at 0) (drop (suc at) s) ≡ go (st (so_far n ++ (get_or s at 0 ∷ []))) 0
        → tokens_at s (st (so_far n)) at ≡ tokens_at s (st (n ++ bytes_between s from (at + 1))) (at + 1)
    on st n e =
        to_next s (st (so_far n)) at h (st (so_far n ++ (get_or s at 0 ∷ []))) e
        ∙ ap (λ (l : List ℕ). tokens_at s (st l) (at + 1)) (name_more s from at r.low h n)

-- a name from its first byte on
pub first_byte : (s : List ℕ) (i upto : ℕ) → i < length s → i + 1 ≤ upto
    → get_or s i 0 ∷ bytes_between s (i + 1) upto ≡ bytes_between s i upto
first_byte s i upto h k =
    ap (λ (j : ℕ). get_or s i 0 ∷ take (upto - (i + 1)) (drop j s)) (let z : i + 1 ≡ suc i = omega arith in z)
    ∙ sym
    (ap (λ (j : ℕ). take j (drop i s)) (let z : upto - i ≡ suc (upto - (i + 1)) = omega arith in z)
    ∙ ap (take (suc (upto - (i + 1)))) (drop-cons s i 0 h))
