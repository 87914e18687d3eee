-- The unit with the target set as it stands at the head of the scratch array.
use Prim.Native.Nat.{ℕ, ◌≤◌}
use mathlib.Core.Path.{◌≡◌, sym, ap, ◌∙◌}
use mathlib.Core.Bool.{Bool, true, false}
use mathlib.Core.List.{List}
use mathlib.Core.Option.{none}
use native.Mathlib.Omega.{arith}
use lib.ListN.{length, get_or, take}
use mir.Val.{Fits}
use mir.Syntax.{w8}
use Rattle.xliff.specs.Unit.{Part, XliffUnit}
use Rattle.xliff.specs.Parse.{unit, content, content_fault, most_bytes}
use Rattle.xliff.specs.Check.{table_refusal, too_large}
use Rattle.xliff.specs.SetTarget.{state_fits}
use Rattle.outcomes.proofs.OutcomeLaws.{fits}
use Rattle.part_at.specs.declared.PartPlace.{PartPlace}
use Rattle.part_at.specs.Stands.{PartStands}
use Rattle.result_rules.proofs.WorkLaws.{Work, work_written}
use Rattle.set_result.specs.SetUnit.{unit_with, size_with, WroteSet}
use Rattle.set_result.specs.Counts.{TooLargeIs}
use Rattle.set_target.proofs.GoodLaws.{content_holds, content_is, set_good, work_room}

module _ (t : List ℕ) (h : (i : ℕ) → Fits w8 (get_or t i 0)) (w : table_refusal t ≡ none) (place : PartPlace)
    (c : List ℕ) (k : (i : ℕ) → Fits w8 (get_or c i 0)) (cf : content_fault c ≡ none)
    (st q room : ℕ) (r : Bool) (large : TooLargeIs t place c room r)
    (b : List Part) (p : Part) (a : List Part) (s : PartStands t b p a place) where
  abbrev v : XliffUnit
  v = unit_with (unit t) st q (content c) b p a

  pub size_is : (x : Bool) → r ≡ x → too_large room v ≡ x
  size_is x e = sym (large b p a s (content c) (content_holds c k cf) st q) ∙ e

  module _ (e : r ≡ false) (f : state_fits p.head st ≡ true) where
    pub scratch_room : size_with t place c ≤ most_bytes
    scratch_room = work_room t h w place b p a s c k cf st q f room (size_is false e)

    pub set_work : (o l : List ℕ) (n : ℕ) → WroteSet t place q st c o n l → Work v n l
    set_work o l n wrote =
        work_written v o l n (set_good t h w place b p a s c k cf st q f room (size_is false e)) (wrote b p a s (content c) (content_is c k cf))

    pub output_room : {n : ℕ} {l : List ℕ} → Work v n l → length (take n l) ≤ room
    output_room x = omega (arith, ap length x.is, fits room v (size_is false e))
