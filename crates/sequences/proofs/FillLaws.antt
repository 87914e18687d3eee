-- An array that a walk fills.
use Prim.Native.Nat.{ℕ, ◌+◌, ◌≤◌}
use mathlib.Core.Path.{◌≡◌, refl, sym, ◌∙◌, ap}
use mathlib.Core.List.{List, [], ◌++◌, append-nil}
use native.Mathlib.Omega.{arith}
use lib.ListN.{length, take, length-append}
use Rattle.sequences.proofs.MarkLaws.{collected, counted}

-- the first m of the array and what is still to come are the whole
pub record Filled (out : List ℕ) (m : ℕ) (rest whole : List ℕ) (total size : ℕ) : Type 0 where
  pub sized : length out ≡ size
  pub all : take m out ++ rest ≡ whole
  pub count : length rest + m ≡ total

pub fill_room : {out rest whole : List ℕ} {m total size : ℕ} (found rest' : List ℕ) → Filled out m rest whole total size → rest ≡ found ++ rest' → total ≤ size
    → length found + m ≤ length out
fill_room found rest' f e l = omega (arith, f.sized, f.count, ap length e, length-append found rest', l)

pub fill_on : {out out' rest whole : List ℕ} {m m' total size : ℕ} (found rest' : List ℕ) → Filled out m rest whole total size → rest ≡ found ++ rest'
    → (take m' out' ≡ take m out ++ found) × (m' ≡ length found + m) × (length out' ≡ length out) → Filled out' m' rest' whole total size
fill_on {out} {out'} {rest} {whole} {m} {m'} {total} found rest' f e p =
    record {
      sized = p.2 ∙ f.sized;
      all = collected found rest rest' (take m out) (take m' out') whole e p.0 f.all;
      count = counted found rest rest' m m' total e p.1 f.count;
    }

pub fill_end : {out rest whole : List ℕ} {m total size : ℕ} → Filled out m rest whole total size → rest ≡ [] → (take m out ≡ whole) × (m ≡ total)
fill_end {out} {rest} {whole} {m} f e =
    (sym (append-nil (take m out)) ∙ ap (λ (l : List ℕ). take m out ++ l) (sym e) ∙ f.all, omega (arith, f.count, ap length e))

pub fill_none : (out found : List ℕ) (n : ℕ) → found ≡ [] → (take n out ≡ take n out ++ found) × (n ≡ length found + n) × (length out ≡ length out)
fill_none out found n e = (sym (append-nil (take n out)) ∙ ap (λ (l : List ℕ). take n out ++ l) (sym e), omega (arith, ap length e), refl)
