use Rattle.xml_slots.specs.Slots.{value_read}
use borrow.Author.Tests.{lt-ltb, le-ltb, ne_eqb}
use mathlib.Core.Path.{◌≡◌}
use native.Mathlib.Omega.{arith}
use Rattle.xml_words.proofs.value.Value.of_slot.Goals as goal

-- ID..=START_REF => self.number()
pub returns-in-0-to-6 : goal.returns-in-0-to-6
unfolding value_read
returns-in-0-to-6 c = rw (lt-ltb c.args.k 7 (omega arith)) c.number.ensures

-- HEX => self.hexadecimal()
pub returns-in-7 : goal.returns-in-7
unfolding value_read
returns-in-7 c = rw c.in-7.is c.hexadecimal.ensures

-- STATE => self.state()
pub returns-in-8 : goal.returns-in-8
unfolding value_read
returns-in-8 c = rw c.in-8.is c.state.ensures

-- CAN_REORDER => self.yes_first_no()
pub returns-in-9 : goal.returns-in-9
unfolding value_read
returns-in-9 c = rw c.in-9.is c.yes_first_no.ensures

-- _ => self.yes_no()
pub returns-in_default : goal.returns-in_default
unfolding value_read
returns-in_default c =
    let k = c.args.k in
    rw (
      le-ltb k 7 (omega arith),
      ne_eqb k 7 (λ (e : k ≡ 7). omega (arith, e)),
      ne_eqb k 8 (λ (e : k ≡ 8). omega (arith, e)),
      ne_eqb k 9 (λ (e : k ≡ 9). omega (arith, e)),
    ) c.yes_no.ensures
