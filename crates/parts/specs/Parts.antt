-- Whole parts as they stand in a table, one behind the other, and the orders of their targets.
use Rattle.xliff.specs.Good.{Each, GoodHead}
use Rattle.std.specs.Prelude.{ℕ, ◌<◌, ◌≡◌, Bool, false, cond, List}
use Rattle.xliff.specs.Bytes.{gather}
use Rattle.xliff.specs.Unit.{Target, no_target, target, Part, XliffUnit}
use Rattle.xliff.specs.Encode.{Record, opening, closing, part_head, target_head, text_run, inline, ill_text, broken, record_bytes, content_records, part_records, spell, encode}
use Rattle.xliff.specs.Focus.{order_parts}
use Rattle.xliff.specs.Split.{raise_above}
use Rattle.xliff.specs.Join.{lower_above}
use Rattle.walk.specs.Kept.{Kept, InPart}
use Rattle.writer.specs.Pieces.{lead, Written}

-- the contents of a part are kept, its order can rise, and its head is good
abbrev pub GoodTarget : Target → Type 0
GoodTarget no_target = Unit {0}
GoodTarget (target q xs) = Kept false (content_records xs) × (q < 65535)

abbrev pub GoodPart : Part → Type 0
GoodPart p = Kept false (content_records p.source) × GoodTarget p.target × GoodHead p.head

-- t is the bytes of the parts ps
abbrev pub PartsIn : List ℕ → List Part → Type 0
PartsIn t ps = (spell (gather part_records ps) ≡ t) × Each GoodPart ps

abbrev pub SomeParts : List ℕ → Type 0
SomeParts t = (ps : List Part) × PartsIn t ps

-- t is the table of the unit u
abbrev pub TableOf : List ℕ → XliffUnit → Type 0
TableOf t u = (encode u ≡ t) × Each GoodPart u.parts

-- orders above q one up, or one down
abbrev pub moved : Bool → ℕ → ℕ → ℕ
moved up q = cond up (raise_above q) (lower_above q)

-- the bytes of parts whose orders f changes
abbrev pub ordered : (ℕ → ℕ) → List Part → List ℕ
ordered f ps = spell (gather part_records (order_parts f ps))

-- the output o has become l, with the parts that stand in t, n bytes, at its head
abbrev pub WroteParts : (ℕ → ℕ) → List ℕ → List ℕ → ℕ → List ℕ → Type 0
WroteParts f t o n l = (ps : List Part) → PartsIn t ps → Written (ordered f ps) o n l

-- the order of a target changed; every other record as it is
abbrev pub order_record : (ℕ → ℕ) → Record → Record
order_record f (opening c) = opening c
order_record f closing = closing
order_record f (part_head h) = part_head h
order_record f (target_head q) = target_head (f q)
order_record f (text_run cs) = text_run cs
order_record f (inline x) = inline x
order_record f ill_text = ill_text
order_record f (broken b) = broken b

-- t is one record of a part; it is written
abbrev pub One : List ℕ → Type 0
One t = (r : Record) × InPart r × (t ≡ record_bytes r)

abbrev pub WroteOne : (ℕ → ℕ) → List ℕ → List ℕ → List ℕ → Type 0
WroteOne f t o l = (r : Record) → InPart r → t ≡ record_bytes r → l ≡ lead (record_bytes (order_record f r)) o
