use mathlib.Core.Path.{◌≡◌, refl, ap, ◌∙◌}
use Prim.Native.Nat.{ℕ}
use Rattle.std.specs.Prelude.{Option as RustOption, Some, None}
use Rattle.std.specs.Option.{unwrap_or}
use Rattle.xml_front.specs.Fronts.{number_told}
use Rattle.xml_slots.specs.Slots.{bad, or_bad}
use Rattle.xml_words.proofs.slot_value.Goals as goal

or_bad_is : (r : RustOption ℕ) → unwrap_or r bad ≡ or_bad (number_told r)
unfolding or_bad
or_bad_is None = refl
or_bad_is (Some x) = refl

-- self.of_slot(k).unwrap_or(BAD)
pub returns : goal.returns
returns c = c.unwrap_or.ensures ∙ or_bad_is c.of_slot.result ∙ ap or_bad c.of_slot.ensures
