-- What is read of a table at an offset: a record, where the next one stands, a record's mark, how many bytes it takes.
use Rattle.std.specs.Prelude.{ℕ, ◌+◌, ◌<◌, ◌≤◌, ◌≡◌, List, length, drop}
use Rattle.xliff.specs.Encode.{record_bytes}
use Rattle.xliff.specs.Parse.{mark_at, size_of, read}
use Rattle.marks.specs.Marks as marks
use Rattle.marks.specs.declared.Mark.{Mark}
use Rattle.table.specs.Known.{Known}
use Rattle.table.specs.Meaning.{meaning, width, body}
use Rattle.table.specs.declared.Read.{Read}

-- the record that the reader finds at `at`, and its width
abbrev pub ReadAt : List ℕ → ℕ → Read → Type 0
ReadAt t at r = (meaning (body (drop at t)) r ≡ read (drop at t)) × (width r ≡ length (record_bytes (read (drop at t))))

-- the offset behind the record that the reader finds at `at`, whose texts are known: `at` itself where it finds none
-- that is good
pub record After (t : List ℕ) (at next : ℕ) : Type 0 where
  pub found : Read
  pub known : Known (drop at t) found
  pub offset : next ≡ at + width found
  pub fits : width found ≤ length (drop at t)

-- the mark at `at`: unknown beyond the end
abbrev pub MarkAt : List ℕ → ℕ → Mark → Type 0
MarkAt t at m = marks.meaning m ≡ mark_at (drop at t)

-- how many bytes a record with the mark at `at` takes; 0 where fewer than four bytes are left, in which a text's
-- length would not fit
abbrev pub WidthAt : List ℕ → ℕ → ℕ → Type 0
WidthAt t at w = (4 ≤ length (drop at t) → w ≡ size_of (mark_at (drop at t)) (drop at t)) × (length (drop at t) < 4 → w ≡ 0)
