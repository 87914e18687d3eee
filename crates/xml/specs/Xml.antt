-- The two operations of order 1 and what they must do together.
use Rattle.std.specs.Prelude.{ℕ, ◌≤◌, ◌≡◌, false, List, length, ltb}
use Rattle.xliff.specs.Bytes.{Bytes}
use Rattle.xliff.specs.Answer.{applies, ◌then◌, Outcome, result, refuse, unless}
use Rattle.xliff.specs.Unit.{XliffUnit}
use Rattle.xliff.specs.Encode.{encode}
use Rattle.xliff.specs.Parse.{unit}
use Rattle.xliff.specs.Check.{table_refusal, Valid, too_large, Check·all}
use Rattle.xml.specs.Elements.{read, bad, xml_records, unit_of_records}
use Rattle.xml.specs.Write.{unit_text, too_deep, Write·all}

-- "22, text outside this subset, against XML 1.0 or deeper, .. before 15, and 15 before the check of the table read"
unfoldable pub table_read : ℕ → XliffUnit → Outcome
table_read room u = unless (applies 15 (too_large room u) then table_refusal (encode u)) (encode u)

unfoldable pub read_xml : List ℕ → ℕ → Outcome
read_xml s room =
    elim (xml_records s) [ bad p ↦ refuse (record { number = 22; place = p }) | read rs ↦ table_read room (unit_of_records rs) ]

-- "in the writer a deeper table, after its check, place 0"; "its limits bind tables only"
unfoldable pub write_xml : List ℕ → ℕ → Outcome
write_xml t room =
    unless (table_refusal t then applies 22 (too_deep (unit t)) then applies 15 (ltb room (length (unit_text (unit t)))))
    (unit_text (unit t))

-- "With output enough a valid table within depth 32, written and read, must come back in every byte."
pub record ComesBack (t : List ℕ) (room back : ℕ) : Type 0 where
  pub text : List ℕ
  pub written : write_xml t room ≡ result text
  pub read_back : read_xml text back ≡ result t

unfoldable pub RoundTrip : Type 0
RoundTrip =
    (t : List ℕ) (room back : ℕ) → Bytes t → Valid t → too_deep (unit t) ≡ false → length (unit_text (unit t)) ≤ room
    → length t ≤ back → ComesBack t room back

unfoldable pub Xml·all : Unit {0}
unfolding Check·all Write·all table_read read_xml write_xml RoundTrip
Xml·all = tt
