-- Which cuts are bad.
use Prim.Native.Nat.{ℕ}
use mathlib.Core.Path.{◌≡◌, refl, sym, ap₂}
use mathlib.Core.Bool.{Bool, true, false, not, ◌||◌}
use lib.ListN.{length}
use lib.Dec.{eqb, leb, ltb}
use borrow.Author.Tests.{lt-ltb, le-ltb, le-leb, lt-leb, ltb-true, ltb-false, leb-true, leb-false}
use Rattle.xliff.specs.Unit.{Part, target_items}
use Rattle.xliff.specs.Split.{bad_cut}

-- tests turned
pub not_less : (k n : ℕ) → not (ltb k n) ≡ leb n k
not_less k n = by (ltb k n) refl
  where
    by : (b : Bool) → ltb k n ≡ b → not b ≡ leb n k
    by true e = sym (lt-leb n k (ltb-true k n e))
    by false e = sym (le-leb n k (ltb-false k n e))

pub not_most : (k n : ℕ) → not (leb k n) ≡ ltb n k
not_most k n = by (leb k n) refl
  where
    by : (b : Bool) → leb k n ≡ b → not b ≡ ltb n k
    by true e = sym (le-ltb n k (leb-true k n e))
    by false e = sym (lt-ltb n k (leb-false k n e))

pub bad_cut_is : (p : Part) (source_cut target_cut : ℕ) (x y : Bool) → x ≡ leb (length p.source) source_cut → y ≡ ltb (length (target_items p.target)) target_cut
    → eqb source_cut 0 || (x || y) ≡ bad_cut p source_cut target_cut
unfolding bad_cut
bad_cut_is p source_cut target_cut x y e f = ap₂ (λ (u w : Bool). eqb source_cut 0 || (u || w)) e f
