-- A mark written at the head of an output, and pieces written directly behind it.
use Prim.Native.Nat.{ℕ, ◌+◌, ◌/◌, ◌%◌}
use mathlib.Core.Path.{◌≡◌, refl, ap, ◌∙◌}
use mathlib.Core.List.{List, [], ◌++◌}
use native.Mathlib.Omega.{arith}
use lib.ListN.{length, length-append}
use Rattle.xliff.specs.Bytes.{four}
use Rattle.writer.specs.Pieces.{lead, overlay, number_bytes, Written}
use Rattle.writer.proofs.PieceLaws.{over_lead}

-- the output that was `out` is now `last`, with a piece at its head that ends at the index `n`
pub record Stands (piece out : List ℕ) (n : ℕ) (last : List ℕ) : Type 0 where
  pub ends : n ≡ length piece
  pub there : last ≡ lead piece out

-- nothing as yet
pub none_yet : (out : List ℕ) → Stands [] out 0 out
none_yet out = record { ends = refl; there = refl }

-- a first piece, written by a function of its own
pub stands : (piece out : List ℕ) {n : ℕ} {l : List ℕ} → Written piece out n l → Stands piece out n l
stands piece out (e, k) = record { ends = e; there = k }

-- one piece more, directly behind; what the writers of `writer` promise
pub behind : {piece out l : List ℕ} {n : ℕ} → Stands piece out n l → (more : List ℕ) {m : List ℕ} {r : ℕ}
    → (r ≡ n + length more) × (m ≡ overlay l n more) → Stands (piece ++ more) out r m
behind {piece} {out} {l} {n} s more {m} {r} (k, e) =
    record {
      ends = let h = s.ends in omega (arith, length-append piece more);
      there = e ∙ over_lead out piece more l n s.there s.ends;
    }

-- the pieces are the bytes of a record
pub written : {piece out l : List ℕ} {n : ℕ} → Stands piece out n l → (bytes : List ℕ) → piece ≡ bytes
    → Written bytes out n l
written {piece} {out} s bytes e = (s.ends ∙ ap length e, s.there ∙ ap (λ (b : List ℕ). lead b out) e)

-- a four-byte number is two two-byte numbers
pub four_halves : (c : ℕ) → number_bytes (c / 65536) ++ number_bytes (c % 65536) ≡ four c
unfolding four
four_halves c = cc (first, third, fourth)
  where
    first : c / 65536 / 256 ≡ c / 16777216
    first = omega arith

    third : c % 65536 / 256 ≡ c / 256 % 256
    third = omega arith

    fourth : c % 65536 % 256 ≡ c % 256
    fourth = omega arith
