-- The slices of a table around a part, and that of its target.
use Rattle.xliff.specs.Good.{bytes_of}
use Prim.Native.Nat.{ℕ, ◌+◌, ◌-◌, ◌≤◌}
use mathlib.Core.Path.{◌≡◌, sym, ap, ◌∙◌}
use mathlib.Core.List.{List, ◌++◌}
use native.Mathlib.Omega.{arith}
use lib.ListN.{length, take, drop, length-append, length-drop}
use lib.Seq.{take-add, take_at, drop_at, drop-drop, length-take-le}
use Rattle.xliff.specs.Bytes.{gather}
use Rattle.xliff.specs.Unit.{Target, no_target, target, Part}
use Rattle.xliff.specs.Encode.{closing, target_head, record_bytes, target_records, spell, content_bytes}
use Rattle.part_at.specs.declared.PartPlace.{PartPlace}
use Rattle.part_at.specs.Stands.{TargetStands, PartStands}

module _ (t : List ℕ) (b : List Part) (p : Part) (a : List Part) (x : PartPlace) (s : PartStands t b p a x) where
  -- before the part, from the end of UN
  head_within : (3 ≤ x.head) × (x.head ≤ length t)
  head_within = (let z = s.offset in omega arith, let z = s.head.ordered in let y = s.head.within in omega arith)

  pub before_is : take (x.head - 3) (drop 3 t) ≡ bytes_of b
  unfolding record_bytes
  before_is =
      let (m, k) = head_within in
      let l : length (take 3 t) ≡ 3 = length-take-le 3 t (omega arith) in
      let e : x.head ≡ 3 + (x.head - 3) = omega arith in
      sym (drop_at (take 3 t) (take (x.head - 3) (drop 3 t)) 3 l)
      ∙ ap (drop 3) (sym (take-add 3 (x.head - 3) t) ∙ ap (λ (n : ℕ). take n t) (sym e) ∙ s.before)

  -- behind it, up to UE
  behind_long : length (drop x.end t) ≡ length (bytes_of a) + 2
  unfolding record_bytes
  behind_long = ap length s.behind ∙ length-append (bytes_of a) (record_bytes closing)

  pub end_within : x.end + 2 ≤ length t
  end_within = omega (arith, behind_long, length-drop x.end t)

  pub behind_is : take (length t - 2 - x.end) (drop x.end t) ≡ bytes_of a
  behind_is =
      ap (take (length t - 2 - x.end)) s.behind
      ∙ take_at (bytes_of a) (record_bytes closing) (length t - 2 - x.end) (let z : length (bytes_of a) ≡ length t - 2 - x.end = omega (arith, behind_long, length-drop x.end t) in z)

-- its target, or nothing
pub target_is : (t : List ℕ) (x : PartPlace) (g : Target) → TargetStands t x g → take (x.end - x.target) (drop x.target t) ≡ spell (target_records g)
unfolding target_records spell gather content_bytes
target_is t x no_target e = ap (λ (n : ℕ). take n (drop x.target t)) (let z : x.end - x.target ≡ 0 = omega (arith, e.1) in z)
target_is t x (target q xs) e =
    let z : x.end - x.target ≡ 4 + (x.end - (x.target + 4)) = omega (arith, e.2.ordered) in
    let y : x.target + 4 - x.target ≡ 4 = omega arith in
    ap (λ (n : ℕ). take n (drop x.target t)) z
    ∙ take-add 4 (x.end - (x.target + 4)) (drop x.target t)
    ∙ ap (λ (l : List ℕ). l ++ take (x.end - (x.target + 4)) (drop 4 (drop x.target t))) (ap (λ (n : ℕ). take n (drop x.target t)) (sym y) ∙ e.1.is)
    ∙ ap (λ (l : List ℕ). record_bytes (target_head q) ++ take (x.end - (x.target + 4)) l) (drop-drop 4 x.target t)
    ∙ ap (λ (l : List ℕ). record_bytes (target_head q) ++ l) e.2.is
