-- The letters of which names are made, and what values are made of.
use Prim.Native.Nat.{ℕ, ◌≤◌, ◌<◌}
use mathlib.Core.Path.{◌≡◌, refl}
use mathlib.Core.Bool.{Bool, true, false, not, ◌&&◌, ◌||◌}
use mathlib.Core.List.{List, [], ◌∷◌}
use mathlib.Core.Option.{some}
use native.Mathlib.Omega.{arith}
use lib.Dec.{eqb, leb}
use borrow.Author.Tests.{lt-ltb, le-leb, leb-true, not-true}
use Rattle.xliff.specs.Text.{between, xml_allows, utf8, allowed_first}
use Rattle.xliff.proofs.lists.Tests.{and_left, and_right, or-true}
use Rattle.xliff.proofs.text.Utf8.{allowed_first_utf8}
use Rattle.xml.specs.Characters.{found, front_character, starts_name, in_a_name, continues_name}

-- what XML allows
pub allows : (c : ℕ) → 32 ≤ c → c ≤ 0xD7FF → xml_allows c ≡ true
unfolding xml_allows between
allows c l h = rw (le-leb 32 c l, le-leb c 0xD7FF h, or-true (eqb c 9 || eqb c 10 || eqb c 13))

pub ascii_front : (b : ℕ) (s : List ℕ) → 32 ≤ b → b < 128 → front_character (b ∷ s) ≡ found b 0
unfolding front_character utf8
ascii_front b s l h =
    let e : utf8 b ≡ b ∷ [] = rw (lt-ltb b 0x80 h) in
    let f : allowed_first (b ∷ s) ≡ some b = rw e at (allowed_first_utf8 b s (allows b l (omega arith))) in
    rw (f, front_character, lt-ltb b 0x80 h)

-- Letters, of which all names of the subset are made; and what values are made of
unfoldable pub is_letter : ℕ → Bool
is_letter c = between 65 c 90 || between 97 c 122

unfoldable pub letters : List ℕ → Bool
letters [] = true
letters (c ∷ n) = is_letter c && letters n

pub record Letter (c : ℕ) : Type 0 where
  pub low : 65 ≤ c
  pub high : c ≤ 122
  pub starts : starts_name c ≡ true
  pub goes_on : in_a_name c ≡ true

range : (low c high : ℕ) → between low c high ≡ true → (low ≤ c) × (c ≤ high)
unfolding between
range low c high e = (leb-true low c (and_left _ _ e), leb-true c high (and_right (leb low c) _ e))

pub letter : (c : ℕ) → is_letter c ≡ true → Letter c
unfolding is_letter starts_name in_a_name
letter c e = record { low = let (l, h) = bounds in l; high = let (l, h) = bounds in h; starts = rw e; goes_on = rw e }
  where
    bounds : (65 ≤ c) × (c ≤ 122)
    bounds = by (between 65 c 90) refl e
      where
        by : (b : Bool) → between 65 c 90 ≡ b → b || between 97 c 122 ≡ true → (65 ≤ c) × (c ≤ 122)
        by true p q = let (l, h) = range 65 c 90 p in (l, omega arith)
        by false p q = let (l, h) = range 97 c 122 q in (omega arith, h)

pub record Plain (c : ℕ) : Type 0 where
  pub low : 48 ≤ c
  pub high : c ≤ 122
  pub other : eqb c 60 ≡ false

unfoldable pub plain : List ℕ → Bool
plain [] = true
plain (c ∷ v) = leb 48 c && (leb c 122 && not (eqb c 60)) && plain v

pub plain_one : (c : ℕ) → leb 48 c && (leb c 122 && not (eqb c 60)) ≡ true → Plain c
plain_one c e =
    record {
      low = leb-true 48 c (and_left _ _ e);
      high = leb-true c 122 (and_left _ _ (and_right (leb 48 c) _ e));
      other = not-true _ (and_right (leb c 122) _ (and_right (leb 48 c) _ e));
    }

-- names
pub continues : (n : List ℕ) (c : ℕ) → Letter c → continues_name n c ≡ true
unfolding continues_name
continues [] c l = l.starts
continues (a ∷ n) c l = l.goes_on
