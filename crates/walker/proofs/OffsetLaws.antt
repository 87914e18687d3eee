-- What is read at an offset: the offset behind a record by its width, a mark, a width by the mark.
use Prim.Native.Nat.{ℕ, ◌+◌, ◌<◌, ◌≤◌}
use mathlib.Core.Path.{◌≡◌, refl, sym, ap}
use mathlib.Core.Bool.{false}
use mathlib.Core.List.{List}
use native.Mathlib.Omega.{arith}
use lib.ListN.{length, drop, length-drop}
use Rattle.xliff.specs.Parse.{mark_at, size_of}
use Rattle.marks.specs.declared.Mark.TheVariants.{Unknown}
use Rattle.marks.proofs.MarkLaws.{no_mark}
use Rattle.table.specs.Known.{KnownWidth}
use Rattle.table.specs.declared.Read.TheVariants.{Broken}
use Rattle.table.proofs.ReadLaws.{nothing_there}
use Rattle.walker.specs.Offsets.{After, MarkAt, WidthAt}

pub after_end : (t : List ℕ) (at : ℕ) → length t ≤ at → After t at at
after_end t at h = record { found = Broken false; known = nothing_there t at h; offset = omega arith; fits = omega arith }

pub after_width : (t : List ℕ) (at w : ℕ) → KnownWidth (drop at t) w → After t at (at + w)
after_width t at w k =
    record { found = k.found; known = k.known; offset = ap (λ (n : ℕ). at + n) k.wide; fits = omega (arith, k.wide, k.fits) }

-- beyond the end is no mark
pub no_mark_there : (t : List ℕ) (at : ℕ) → length t ≤ at → MarkAt t at Unknown
no_mark_there t at h = sym (no_mark (drop at t) (omega (arith, length-drop at t)))

-- fewer than four bytes are left, or four are
pub no_width : (t : List ℕ) (at : ℕ) → length t < at + 4 → WidthAt t at 0
no_width t at h = (λ k. absurd (let y : ⊥ = omega (arith, length-drop at t) in y), λ k. refl)

pub width_is : (t : List ℕ) (at w : ℕ) → at + 4 ≤ length t → w ≡ size_of (mark_at (drop at t)) (drop at t) → WidthAt t at w
width_is t at w h e = (λ k. e, λ k. absurd (let y : ⊥ = omega (arith, length-drop at t) in y))
