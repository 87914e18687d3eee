-- The table that was read, and what is answered of it. Stepping stones.
use Rattle.std.specs.Prelude.{ℕ, ◌≡◌, true, false, List, length}
use Rattle.xliff.specs.Unit.{XliffUnit}
use Rattle.xliff.specs.Check.{too_large}
use Rattle.answers.specs.declared.Answer.{Answer}
use Rattle.outcomes.specs.Outcomes.{Answers}
use Rattle.table_builder.specs.declared.TableBuilder.{TableBuilder}
use Rattle.xml.specs.Xml.{table_read}
use Rattle.xml_records.proofs.TableReadLaws.{TableOf}

-- the table built is that of a unit, or told to be beyond a limit
pub record ReadTable (u : XliffUnit) (builder : TableBuilder) : Type 0 where
  pub beyond : builder.over ≡ true → (room : ℕ) → too_large room u ≡ true
  pub within : builder.over ≡ false → TableOf u builder

unfoldable pub Judges : TableBuilder → List ℕ → List ℕ → Answer → Type 0
Judges builder out last r = (u : XliffUnit) → ReadTable u builder → Answers (table_read (length out) u) r out last
