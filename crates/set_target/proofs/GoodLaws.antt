-- The unit with a target set: its parts are good, and what is not too large is within the limits.
use Prim.Native.Nat.{ℕ, ◌≤◌}
use mathlib.Core.Path.{◌≡◌, subst}
use mathlib.Core.Bool.{true, false}
use mathlib.Core.List.{List, ◌∷◌, ◌++◌}
use mathlib.Core.Option.{none}
use native.Mathlib.Omega.{arith}
use lib.ListN.{get_or}
use mir.Val.{Fits}
use mir.Syntax.{w8}
use Rattle.xliff.specs.Unit.{Part}
use Rattle.xliff.specs.Encode.{content_bytes}
use Rattle.xliff.specs.Parse.{unit, content, content_fault, most_bytes}
use Rattle.xliff.specs.Check.{Valid, table_refusal, too_large}
use Rattle.xliff.specs.Focus.{with_parts}
use Rattle.xliff.specs.SetTarget.{state_fits}
use Rattle.xliff.specs.Good.{each_cons, GoodParts}
use Rattle.xliff.proofs.lists.Each.{each_append, each_apart}
use Rattle.xliff.proofs.unit.Valid.{content_good}
use Rattle.xliff.proofs.unit.Result.{Sent, sent}
use Rattle.xliff.proofs.unit.Accepted.{within}
use Rattle.xliff.proofs.operations.SetValid.{state_good, some_part}
use Rattle.walk.specs.Kept.{Holds}
use Rattle.cut.proofs.ContentLaws.{holds_content}
use Rattle.part_at.specs.declared.PartPlace.{PartPlace}
use Rattle.part_at.specs.Stands.{PartStands}
use Rattle.table.proofs.WidthLaws.{bytes_known}
use Rattle.result_rules.proofs.GoodLaws.{GoodUnit}
use Rattle.set_result.specs.SetUnit.{set_part, unit_with, size_with}
use Rattle.set_result.proofs.PieceLaws.{set_long}
use Rattle.set_result.proofs.CountLaws.{holds_bytes}

-- bytes that are a content
module _ (c : List ℕ) (h : (i : ℕ) → Fits w8 (get_or c i 0)) (cf : content_fault c ≡ none) where
  pub content_holds : Holds c (content c)
  content_holds = holds_content c (bytes_known c h) cf

  pub content_is : content_bytes (content c) ≡ c
  content_is = holds_bytes c (content c) content_holds

module _ (t : List ℕ) (h : (i : ℕ) → Fits w8 (get_or t i 0)) (w : table_refusal t ≡ none) (place : PartPlace) (b : List Part) (p : Part) (a : List Part) (s : PartStands t b p a place)
    (c : List ℕ) (k : (i : ℕ) → Fits w8 (get_or c i 0)) (cf : content_fault c ≡ none) (st q : ℕ) (f : state_fits p.head st ≡ true)
    (room : ℕ) (small : too_large room (unit_with (unit t) st q (content c) b p a) ≡ false) where
  before : Sent (unit t)
  unfolding Valid
  before = sent t (bytes_known t h) w

  good_parts : GoodParts (b ++ (set_part st q (content c) p ∷ a))
  good_parts =
      let (gb, gp, ga) = each_apart b p a (subst GoodParts s.all before.good) in
      each_append b (set_part st q (content c) p ∷ a) gb
      (each_cons (record { head = state_good st p.head f gp.head; source = gp.source; target = content_good c (bytes_known c k) cf }) ga)

  pub set_good : GoodUnit (unit_with (unit t) st q (content c) b p a)
  unfolding unit_with with_parts
  set_good =
      let l = within room (unit_with (unit t) st q (content c) b p a) small in
      let (x, xs, shown) = some_part b (set_part st q (content c) p) a in
      record { letter = before.letter; first = x; others = xs; parts = shown; good = good_parts; size = l.size; few = l.records; few_parts = l.parts }

  -- the scratch array has room for it
  pub work_room : size_with t place c ≤ most_bytes
  work_room = omega (arith, set_long t b p a place s st q (content c) c (content_is c k cf), set_good.size)
