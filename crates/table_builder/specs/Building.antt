-- What a table holds while it is built, record by record and, within a text, code point by code point. Stepping stones.
use Rattle.std.specs.Prelude.{ℕ, ◌+◌, ◌≡◌, Bool, true, false, ◌||◌, List, [], ◌∷◌, ◌++◌, length, take, ltb, Option as RustOption, Some, None}
use Rattle.std.specs.Borrow.{Bor, MutBor}
use Rattle.xliff.specs.Text.{utf8s}
use Rattle.xliff.specs.Encode.{Record, text_run, record_bytes, spell}
use Rattle.xliff.specs.Good.{part_heads}
use Rattle.xliff.specs.Parse.{is_part, most_bytes, most_records, most_parts}
use Rattle.table_builder.specs.declared.TableBuilder.{TableBuilder}

-- the records of a run of code points: none of an empty run
unfoldable pub run_records : List ℕ → List Record
run_records [] = []
run_records (c ∷ cs) = text_run (c ∷ cs) ∷ []

-- the records before an open run of text, and that run
unfoldable pub with_run : List Record → List ℕ → List Record
with_run done run = done ++ run_records run

-- a table of these records is beyond a limit
unfoldable pub past_limits : List Record → Bool
past_limits rs =
    ltb most_bytes (length (spell rs)) || (ltb most_records (length rs) || ltb most_parts (part_heads rs))

-- a builder holds the array that was lent to it, with the bytes that it had
pub record Lent (table : MutBor (List ℕ)) (builder : TableBuilder) : Type 0 where
  pub same : builder.table.ghost_name ≡ table.ghost_name
  pub bytes : builder.table.now ≡ table.now

-- two builders hold the same lent array, before a step and after it, also beyond a limit
abbrev pub SameLoan : TableBuilder → TableBuilder → Type 0
SameLoan builder builder' = builder'.table.ghost_name ≡ builder.table.ghost_name

-- the array and the numbers, for records within the limits
pub record Within (builder : TableBuilder) (done : List Record) (run : List ℕ) : Type 0 where
  pub used : builder.used ≡ length (spell (with_run done run))
  pub bytes : take builder.used builder.table.now ≡ spell (with_run done run)
  pub records : builder.records ≡ length (with_run done run)
  pub parts : builder.parts ≡ part_heads (with_run done run)
  pub text : builder.text ≡ length (utf8s run)

-- beyond a limit only that is told
pub record Holds (builder : TableBuilder) (done : List Record) (run : List ℕ) : Type 0 where
  pub told : builder.over ≡ past_limits (with_run done run)
  pub within : builder.over ≡ false → Within builder done run

-- a record is put behind what is held
unfoldable pub RecordPut : TableBuilder → List ℕ → Bool → TableBuilder → Type 0
RecordPut builder bytes part builder' =
    (done : List Record) (run : List ℕ) (r : Record) → Holds builder done run → record_bytes r ≡ bytes → is_part r ≡ part
    → Holds builder' (with_run done run ++ (r ∷ [])) []

-- a record that is put within the limits has its bytes
abbrev pub Grows : TableBuilder → List ℕ → TableBuilder → Type 0
Grows builder bytes builder' =
    builder.over ≡ false → builder'.over ≡ false → builder'.used ≡ builder.used + length bytes

-- a code point is put into the open run
unfoldable pub CodePointPut : TableBuilder → ℕ → TableBuilder → Type 0
CodePointPut builder c builder' =
    (done : List Record) (run : List ℕ) → Holds builder done run → Holds builder' done (run ++ (c ∷ []))

-- the table within the limits
abbrev pub TableTold : TableBuilder → RustOption (Bor (List ℕ)) → Type 0
TableTold builder None = builder.over ≡ true
TableTold builder (Some table) = (builder.over ≡ false) × (table.now ≡ take builder.used builder.table.now)
