-- The bytes of a target: there, or not there.
use Prim.Native.Nat.{ℕ, ◌-◌, ◌≤◌}
use mathlib.Core.Path.{◌≡◌, refl, sym, ap, ◌∙◌}
use mathlib.Core.List.{List, [], ◌++◌}
use native.Mathlib.Omega.{arith}
use lib.ListN.{length, take, drop}
use Rattle.xliff.specs.Bytes.{Bytes, two, gather}
use Rattle.xliff.specs.Item.{Content}
use Rattle.xliff.specs.Unit.{Target, no_target, target, Part}
use Rattle.xliff.specs.Encode.{target_head, record_bytes, content_records, target_records, spell, content_bytes}
use Rattle.xliff.specs.Good.{AllGood}
use Rattle.xliff.proofs.lists.Each.{each_right}
use Rattle.xliff.proofs.lists.Slices.{tail_is}
use Rattle.heads.specs.Heads.{SomeTarget}
use Rattle.walk.specs.Kept.{Holds}
use Rattle.part_at.specs.declared.PartPlace.{PartPlace}
use Rattle.part_at.specs.Stands.{TargetStands, PartStands}
use Rattle.part_at.proofs.SliceLaws.{target_is}
use Rattle.part_at.specs.Targets.{TargetIs}
use Rattle.part_at.proofs.HoldLaws.{good_rest, good_part, holds_slice}

-- it is there: `&t[TARGET_WIDTH..]` holds its content
pub record Present (t : List ℕ) (g : Target) : Type 0 where
  pub order : ℕ
  pub items : Content
  pub is : g ≡ target order items
  pub bytes : t ≡ record_bytes (target_head order) ++ content_bytes items
  pub content : take (length t - 4) (drop 4 t) ≡ content_bytes items
  pub holds : Holds (take (length t - 4) (drop 4 t)) items
  pub least : 4 ≤ length t

pub present : (t : List ℕ) (g : Target) → (length t ≡ 0 → ⊥) → TargetIs t g → Present t g
unfolding record_bytes two content_bytes
present t no_target z e = absurd (z (ap length e))
present t (target q xs) z (e, k) =
    let c : take (length t - 4) (drop 4 t) ≡ content_bytes xs = tail_is 4 t ∙ ap (drop 4) e in
    record { order = q; items = xs; is = refl; bytes = e; content = c; holds = (k, sym c); least = omega (arith, ap length e) }

pub some_target : (t : List ℕ) (g : Target) → Present t g → SomeTarget t
some_target t g p = (p.order, content_bytes p.items, p.bytes)

-- it is not there
pub absent : (t : List ℕ) (g : Target) → length t ≡ 0 → TargetIs t g → g ≡ no_target
unfolding record_bytes two
absent t no_target z e = refl
absent t (target q xs) z (e, k) = absurd (let y : ⊥ = omega (arith, ap length e) in y)

-- the bytes of a target that is there, of one that is not
pub target_bytes : (g : Target) (q : ℕ) (xs : Content) → g ≡ target q xs → spell (target_records g) ≡ record_bytes (target_head q) ++ content_bytes xs
unfolding spell gather target_records content_bytes
target_bytes g q xs e = ap (λ (h : Target). spell (target_records h)) e

pub no_bytes : (g : Target) → g ≡ no_target → spell (target_records g) ≡ []
unfolding spell gather target_records
no_bytes g e = ap (λ (h : Target). spell (target_records h)) e

-- the target of a part that stands in a table
module _ (t : List ℕ) (h : Bytes t) (b : List Part) (p : Part) (a : List Part) (x : PartPlace) (s : PartStands t b p a x) where
  target_by : (g : Target) → TargetStands t x g → AllGood (target_records g) → TargetIs (take (x.end - x.target) (drop x.target t)) g
  unfolding target_records spell gather content_bytes
  target_by no_target e k = target_is t x no_target e
  target_by (target q xs) e k = (target_is t x (target q xs) e, (holds_slice t _ x.end xs h e.2 (good_rest k)).0)

  pub target_slice : TargetIs (take (x.end - x.target) (drop x.target t)) p.target
  target_slice = target_by p.target s.target (each_right (content_records p.source) (target_records p.target) (good_part t h b p a x s))
