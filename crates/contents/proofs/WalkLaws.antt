-- The walk that finds heads and markers.
use Prim.Native.Nat.{ℕ, ◌+◌, ◌≤◌, ◌<◌}
use mathlib.Core.Path.{◌≡◌, refl, sym, ◌∙◌, ap}
use mathlib.Core.Bool.{Bool, false, cond}
use mathlib.Core.List.{List, [], ◌∷◌, ◌++◌, append-nil}
use native.Mathlib.Omega.{arith}
use lib.ListN.{length, take, drop, length-append}
use Rattle.xliff.specs.Encode as encode
use Rattle.xliff.specs.Encode.{unit_records}
use Rattle.xliff.specs.Parse.{unit, most_records}
use Rattle.places.specs.Passes.{Passes}
use Rattle.places.specs.Offsets.{At}
use Rattle.places.proofs.Places.{at_start}
use Rattle.glance.specs.declared.Glance.{Glance}
use Rattle.glance.specs.Glances.{kind_of, Glanced}
use Rattle.orders.proofs.WalkLaws.{Walked, walked}
use Rattle.sequences.proofs.MarkLaws.{collected, counted}
use Rattle.contents.specs.Contents.{barred_found, barred}
use Rattle.contents.specs.Heads.{inside_after_head, is_found}
use Rattle.contents.proofs.HeadLaws.{barred_step, barred_end, barred_few}

-- the first m of `out` and what is found from `at` on are all
pub record Walk (t : List ℕ) (targets inside : Bool) (out : List ℕ) (at m : ℕ) : Type 0 where
  pub left : List encode.Record
  pub stands : At t at left
  pub sized : length out ≡ most_records
  pub whole : take m out ++ barred_found targets inside at left ≡ barred targets t
  pub count : length (barred_found targets inside at left) + m ≡ length (barred targets t)

pub walk_start : (t : List ℕ) (targets : Bool) (out : List ℕ) → Passes t → length out ≡ most_records → Walk t targets false out 0 0
unfolding barred
walk_start t targets out p h =
    record {
      left = unit_records (unit t);
      stands = at_start t p;
      sized = h;
      whole = refl;
      count = omega arith;
    }

module _ {t : List ℕ} {targets inside : Bool} {out : List ℕ} {at m : ℕ} (walk : Walk t targets inside out at m) (g : Glance) {b : Bool} (l : at < length t)
    (e : Glanced (drop at t) g) (f : b ≡ is_found (kind_of g.head) inside g.marker) where
  stands_on : Walked t at walk.left g
  stands_on = walked t at walk.left g walk.stands l e

  next : (after : Bool) → after ≡ inside_after_head targets (kind_of g.head) inside
      → barred_found targets inside at walk.left ≡ cond b (at ∷ []) [] ++ barred_found targets after (at + g.width) stands_on.step.others
  next after h = barred_step targets inside t at walk.left g stands_on b after f h

  pub walk_fits : (0 < g.width) × (at + g.width ≤ length t)
  walk_fits = (stands_on.moves, stands_on.fits)

  pub walk_room : Passes t → length (cond b (at ∷ []) []) + m ≤ most_records
  walk_room p =
      omega (
        arith,
        ap length (next (inside_after_head targets (kind_of g.head) inside) refl),
        length-append (cond b (at ∷ []) []) (barred_found targets (inside_after_head targets (kind_of g.head) inside) (at + g.width) stands_on.step.others),
        walk.count,
        barred_few targets t p,
      )

  pub walk_on : {after : Bool} {out' : List ℕ} {m' : ℕ} → after ≡ inside_after_head targets (kind_of g.head) inside
      → (take m' out' ≡ take m out ++ cond b (at ∷ []) []) × (m' ≡ length (cond b (at ∷ []) []) + m) × (length out' ≡ length out) → Walk t targets after out' (at + g.width) m'
  walk_on {after} h k =
      record {
        left = stands_on.step.others;
        stands = stands_on.rest;
        sized = k.2 ∙ walk.sized;
        whole = collected (cond b (at ∷ []) []) _ _ (take m out) _ _ (next after h) k.0 walk.whole;
        count = counted (cond b (at ∷ []) []) _ _ m _ _ (next after h) k.1 walk.count;
      }

pub walk_end : {t : List ℕ} {targets inside : Bool} {out : List ℕ} {at m : ℕ} → Walk t targets inside out at m → Passes t → length t ≤ at
    → (take m out ≡ barred targets t) × (m ≤ most_records) × (length out ≡ most_records)
walk_end {t} {targets} {inside} {out} {at} {m} walk p l =
    let z = barred_end targets inside t at walk.left walk.stands l in
    (sym (append-nil (take m out)) ∙ ap (λ (l : List ℕ). take m out ++ l) (sym z) ∙ walk.whole, omega (arith, ap length z, walk.count, barred_few targets t p), walk.sized)
