-- What is read of a whole unit. Stepping stones.
use Rattle.std.specs.Prelude.{ℕ, ◌≡◌, List, [], Result, Ok, Err}
use Rattle.xliff.specs.Encode.{Record}
use Rattle.xml.specs.Tokens.{Token}
use Rattle.xml.specs.Elements.{Due, part_due, nothing_due, outside, read, bad, elements, xml_records}
use Rattle.table_builder.specs.declared.TableBuilder.{TableBuilder}
use Rattle.table_builder.specs.Building.{SameLoan}
use Rattle.xml_piece.specs.Pieces.{rest_at}
use Rattle.xml_records.specs.Collecting.{Collected, Collects}
use Rattle.xml_element.specs.declared.Blamed.{Blamed}

-- the text up to its end: its records, collected behind those before; or the place at fault
pub record Finished (d : Due) (a : List Token) (builder builder' : TableBuilder) : Type 0 where
  pub records : List Record
  pub are : elements (outside d) a ≡ read records
  pub collects : Collects records builder builder'

abbrev pub Finishes : Due → List Token → TableBuilder → TableBuilder → Result (Unit {0}) Blamed → Type 0
Finishes d a builder builder' (Ok done) = Finished d a builder builder'
Finishes d a builder builder' (Err blamed) = elements (outside d) a ≡ bad blamed.place

unfoldable pub UnitEnds : List Token → TableBuilder → TableBuilder → Result (Unit {0}) Blamed → Type 0
UnitEnds a builder builder' r = (k : ℕ) → Finishes (part_due k) a builder builder' r

-- behind the unit nothing is put
abbrev pub BehindUnit : List ℕ → ℕ → Result (Unit {0}) Blamed → Type 0
BehindUnit text start (Ok done) = elements (outside nothing_due) (rest_at text start) ≡ read []
BehindUnit text start (Err blamed) = elements (outside nothing_due) (rest_at text start) ≡ bad blamed.place

-- a whole text: the records of a unit, collected in the array that was lent; or the place at fault
pub record Whole (text : List ℕ) (builder builder' : TableBuilder) : Type 0 where
  pub same : SameLoan builder builder'
  pub records : List Record
  pub are : xml_records text ≡ read records
  pub collected : Collected builder' records

abbrev pub TextRead : List ℕ → TableBuilder → TableBuilder → Result (Unit {0}) Blamed → Type 0
TextRead text builder builder' (Ok done) = Whole text builder builder'
TextRead text builder builder' (Err blamed) = xml_records text ≡ bad blamed.place
