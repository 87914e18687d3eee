-- The order that a record sets, by the code's cases.
use Rattle.std.specs.Prelude.{ℕ, Option, Some, None}
use Rattle.glance.specs.Glances.{order_set}
use Rattle.glance.specs.declared.Glance.{Glance}
use Rattle.table.specs.declared.Record.{Record}
use Rattle.table.specs.declared.Record.TheVariants.{Unit as UnitStart, UnitEnd, Segment, Ignorable, Target, Text, Inline}
use Rattle.table.specs.declared.Read.{Read}
use Rattle.table.specs.declared.Read.TheVariants.{Good, Ill, Broken}

abbrev pub order_in : Record → Option ℕ
order_in (UnitStart c) = None
order_in UnitEnd = None
order_in (Segment f) = None
order_in (Ignorable i) = None
order_in (Target q) = Some q
order_in Text = None
order_in (Inline i) = None

abbrev pub order_of : Read → Option ℕ
order_of (Good x w) = order_in x
order_of Ill = None
order_of (Broken b) = None

abbrev pub order_by : Glance → Option ℕ
order_by g = order_set g.head
