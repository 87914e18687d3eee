-- A record written at the head of an array.
use Prim.Native.Nat.{ℕ, ◌≤◌}
use mathlib.Core.Path.{◌≡◌, sym, ap, ap₂, ◌∙◌}
use mathlib.Core.List.{List, ◌++◌, append-nil}
use lib.ListN.{length, take, drop, drop_of_length-le}
use lib.Seq.{take-append_seam}
use Rattle.writer.specs.Pieces.{Written}

module _ (piece out : List ℕ) {n : ℕ} {l : List ℕ} (w : Written piece out n l) where
  -- it is the front of the array
  pub front_is : piece ≡ take n l
  front_is = sym (ap₂ take w.0 w.1 ∙ take-append_seam piece (drop (length piece) out))

  -- an array no longer than it is that record
  pub array_is : length out ≤ length piece → piece ≡ l
  array_is h =
      sym (w.1 ∙ ap (λ (x : List ℕ). piece ++ x) (drop_of_length-le out {i = length piece} h) ∙ append-nil piece)
