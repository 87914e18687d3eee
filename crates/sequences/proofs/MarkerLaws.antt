-- The fronts of four arrays: the markers of the two sequences and their keys.
use Prim.Native.Nat.{ℕ, ◌≤◌}
use mathlib.Core.Path.{◌≡◌, sym, ap, ◌∙◌}
use mathlib.Core.Bool.{true}
use mathlib.Core.List.{List}
use native.Mathlib.Omega.{arith}
use lib.ListN.{length, take}
use lib.Seq.{length-take-le}
use Rattle.xliff.specs.Parse.{unit, most_bytes, most_records}
use Rattle.places.specs.Passes.{Passes}
use Rattle.places.specs.Markers.{target_offsets}
use Rattle.keys.specs.Keys.{keys_at}
use Rattle.sequences.specs.Marks.{offsets}
use Rattle.sequences.specs.Markers.{Markers}

-- k offsets at the front of an array of 1,024
abbrev pub Front : List ℕ → List ℕ → ℕ → Type 0
Front offsets l k = (take k l ≡ offsets) × (k ≤ most_records) × (length l ≡ most_records)

pub front_long : (offsets l : List ℕ) (k : ℕ) → Front offsets l k → k ≡ length (take k l)
front_long offsets l k f = sym (length-take-le k l (omega (arith, f.1, f.2)))

keys_front : (t offsets l keys : List ℕ) (k r : ℕ) → Front offsets l k → r ≡ length (take k l) → take r keys ≡ keys_at t (take k l)
    → take k keys ≡ keys_at t (take k l)
keys_front t offsets l keys k r f e g = ap (λ (n : ℕ). take n keys) (front_long offsets l k f ∙ sym e) ∙ g

pub both_markers : (t : List ℕ) (parts : ℕ) → Passes t → length t ≤ most_bytes → parts ≡ length (unit t).parts
    → (source_markers source_keys target_markers target_keys : List ℕ) (k m i j : ℕ) → Front (offsets true 0 t) source_markers k → Front (target_offsets t 0 parts) target_markers m
    → i ≡ length (take k source_markers) → take i source_keys ≡ keys_at t (take k source_markers)
    → j ≡ length (take m target_markers) → take j target_keys ≡ keys_at t (take m target_markers)
    → Markers t (take k source_markers) (take k source_keys) (take m target_markers) (take m target_keys)
both_markers t parts p s e source_markers source_keys target_markers target_keys k m i j a b a' x b' y = (
  p,
  a.0,
  keys_front t _ source_markers source_keys k i a a' x,
  b.0 ∙ ap (target_offsets t 0) e,
  keys_front t _ target_markers target_keys m j b b' y,
  omega (arith, front_long _ source_markers k a, a.1),
  omega (arith, front_long _ target_markers m b, b.1),
  s,
)
