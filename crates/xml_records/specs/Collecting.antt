-- The records that a text is read as, collected in a table: code points of one run go into one TX. Stepping stones.
use Rattle.std.specs.Prelude.{ℕ, ◌≡◌, List, ◌++◌}
use Rattle.xliff.specs.Encode.{Record}
use Rattle.xml.proofs.MergeLaws.{texts_before, merged}
use Rattle.table_builder.specs.declared.TableBuilder.{TableBuilder}
use Rattle.table_builder.specs.Building.{SameLoan, Holds}

-- What a table holds of records read: whatever is read behind them, put together with them it stands behind what the
-- table holds, its first text in the run that is open there
pub record Gathered (read done : List Record) (run : List ℕ) : Type 0 where
  pub behind : (rest : List Record) → merged (read ++ rest) ≡ done ++ texts_before run (merged rest)

pub record Collected (builder : TableBuilder) (read : List Record) : Type 0 where
  pub done : List Record
  pub run : List ℕ
  pub holds : Holds builder done run
  pub gathered : Gathered read done run

-- records are read and put behind those before, whatever array is lent
pub record Appends (more : List Record) (builder builder' : TableBuilder) : Type 0 where
  pub on : (read : List Record) → Collected builder read → Collected builder' (read ++ more)

-- records are read and put behind those before, in the same lent array
pub record Collects (more : List Record) (builder builder' : TableBuilder) : Type 0 where
  pub same : SameLoan builder builder'
  pub on : (read : List Record) → Collected builder read → Collected builder' (read ++ more)
