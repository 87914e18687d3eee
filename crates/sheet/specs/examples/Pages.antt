-- Examples of order 5, by computation: tables in the notation of document 01, and the lines of their sheets.
use Rattle.std.specs.Prelude.{ℕ, ◌≡◌, refl, List, [], ◌∷◌, ◌++◌}
use Prim.Native.String.{String}
use Rattle.xliff.specs.Bytes.{'-', 'F', 'I', 'R', 'T', 'Y', gather}
use Rattle.xliff.specs.Text.{utf8s}
use Rattle.xliff.specs.Answer.{Answer, accepted, refused, Outcome, result, answer}
use Rattle.xliff.specs.Item.{Fields}
use Rattle.xliff.specs.Encode.{Record, spell}
use Rattle.xliff.specs.examples.Notation as notation
use Rattle.xliff.specs.examples.Notation.{UN, UE, IG, TG, CP, letters, MO, MC, SM, EM}
use Rattle.xml.specs.Words.{codes}
use Rattle.sheet.specs.Sheet.{sheet, Sheet·all}

-- document 01's notation, canResegment and the letters of codes left out
abbrev SG : ℕ → ℕ → Record
SG i s = notation.SG i '-' s

abbrev TX : String → Record
TX s = notation.TX (codes s)

abbrev code : ℕ → Fields
code i = letters i 'Y' 'Y' 'Y' 'Y'

abbrev PH : ℕ → Record
PH i = notation.PH (code i)

abbrev PO : ℕ → Record
PO i = notation.PO (code i)

abbrev PC : ℕ → Record
PC i = notation.PC (code i)

abbrev SC : ℕ → Record
SC i = notation.SC (code i)

abbrev EC : ℕ → Record
EC i = notation.EC (code i)

abbrev IS : ℕ → Record
IS i = notation.IS (code i)

abbrev IE : ℕ → Record
IE i = notation.IE (code i)

abbrev table : List Record → List ℕ
table rs = spell (UN 'Y' ∷ (rs ++ (UE ∷ [])))

abbrev sheet_of : List Record → Outcome
sheet_of rs = sheet (table rs) 8192

-- lines, each with its line feed, in UTF-8
abbrev lines : List String → Outcome
lines ls = result (gather (λ (s : String). utf8s (codes s) ++ (10 ∷ [])) ls)

-- the printed job of document 01: one row
printed : sheet_of (SG 1 'I' ∷ TX "A. B" ∷ [])
    ≡ lines ("  1     1 I A. B                                                               " ∷ [])
unfolding Sheet·all codes
printed = refl

-- empty contents have a row; id 0 and an ignorable's state are blank; no target and an empty target look alike
empty : sheet_of (SG 0 'F' ∷ IG 7 ∷ TG 1 ∷ [])
    ≡ lines ("  1       F                                                                    "
    ∷ "  2     7                                                                      " ∷ [])
unfolding Sheet·all codes
empty = refl

-- 33 cells fill a row, the 34th begins the next one; each column wraps by itself
full_row : sheet_of
    (SG 12 'T' ∷ TX "abcdefghijklmnopqrstuvwxyz0123456" ∷ TG 1 ∷ TX "abcdefghijklmnopqrstuvwxyz01234567" ∷ [])
    ≡ lines ("  1    12 T abcdefghijklmnopqrstuvwxyz0123456 abcdefghijklmnopqrstuvwxyz0123456"
    ∷ "                                              7                                " ∷ [])
unfolding Sheet·all codes
full_row = refl

-- tab, line feed and return are full stops, CP is #
controls : sheet_of (SG 2 'I' ∷ TX "a\tb\nc\rd" ∷ CP 31 ∷ TX "e" ∷ [])
    ≡ lines ("  1     2 I a.b.c.d#e                                                          " ∷ [])
unfolding Sheet·all codes
controls = refl

-- the shown form of each mark
forms : sheet_of
    (SG 65535 'I' ∷ PH 7 ∷ PO 8 ∷ PC 8 ∷ SC 9 ∷ EC 9 ∷ IS 10 ∷ IE 11 ∷ MO 12 ∷ MC 12 ∷ SM 65534 ∷ EM 65534 ∷ [])
    ≡ lines ("  1 65535 I {7}{88}{99}{1011}{1212}{65534                                      "
    ∷ "            65534}                                                             " ∷ [])
unfolding Sheet·all codes
forms = refl

-- a marker that fits fills the row: 30 and 3 cells
fits_exactly : sheet_of (SG 1 'I' ∷ TX "123456789012345678901234567890" ∷ PH 7 ∷ TX "x" ∷ [])
    ≡ lines ("  1     1 I 123456789012345678901234567890{7}                                  "
    ∷ "            x                                                                  " ∷ [])
unfolding Sheet·all codes
fits_exactly = refl

-- one that does not goes to the next row whole, and what is behind it too, though it would fit: 31 and 3 cells
next_row : sheet_of (SG 1 'I' ∷ TX "1234567890123456789012345678901" ∷ PH 7 ∷ TX "x" ∷ [])
    ≡ lines ("  1     1 I 1234567890123456789012345678901                                    "
    ∷ "            {7}x                                                               " ∷ [])
unfolding Sheet·all codes
next_row = refl

-- an end of 6 cells behind 28
wide_marker : sheet_of
    (SG 1 'I' ∷ SC 65535 ∷ TX "1234567890123456789012" ∷ EC 65535
    ∷ TG 1 ∷ SC 65535 ∷ TX "12345678901234567890123456789" ∷ EC 65535 ∷ [])
    ≡ lines ("  1     1 I {655351234567890123456789012      {65535123456789012345678901234567"
    ∷ "            65535}                            8965535}                         " ∷ [])
unfolding Sheet·all codes
wide_marker = refl

-- a code point takes one cell, of one to four bytes, also a combining one
code_points : sheet_of (SG 3 'R' ∷ TX "aé€𝄞é" ∷ TG 1 ∷ TX "ß" ∷ [])
    ≡ lines ("  1     3 R aé€𝄞é                            ß                                " ∷ [])
unfolding Sheet·all codes
code_points = refl

-- the longer column makes the rows
longer_source : sheet_of
    (SG 1 'T' ∷ TX "one two three four five six seven eight nine ten eleven twelve thirteen" ∷ TG 1 ∷ TX "eins"
    ∷ SG 2 'I' ∷ TX "B" ∷ TG 2 ∷ TX "zwei" ∷ [])
    ≡ lines ("  1     1 T one two three four five six seven eins                             "
    ∷ "             eight nine ten eleven twelve thi                                  "
    ∷ "            rteen                                                              "
    ∷ "  2     2 I B                                 zwei                             " ∷ [])
unfolding Sheet·all codes
longer_source = refl

-- positions are right-aligned
ten_parts : sheet_of (IG 1 ∷ IG 2 ∷ IG 3 ∷ IG 4 ∷ IG 5 ∷ IG 6 ∷ IG 7 ∷ IG 8 ∷ IG 9 ∷ IG 10 ∷ [])
    ≡ lines ("  1     1                                                                      "
    ∷ "  2     2                                                                      "
    ∷ "  3     3                                                                      "
    ∷ "  4     4                                                                      "
    ∷ "  5     5                                                                      "
    ∷ "  6     6                                                                      "
    ∷ "  7     7                                                                      "
    ∷ "  8     8                                                                      "
    ∷ "  9     9                                                                      "
    ∷ " 10    10                                                                      " ∷ [])
unfolding Sheet·all codes
ten_parts = refl

-- 15 where the output is a byte short, the check's refusal before it; the limits bind tables only, so a long
-- output is no matter
answers : List Answer
answers =
    answer (sheet (table (SG 1 'I' ∷ TX "A. B" ∷ [])) 80)
    ∷ answer (sheet (table (SG 1 'I' ∷ TX "A. B" ∷ [])) 79)
    ∷ answer (sheet (table []) 0)
    ∷ answer (sheet (table (SG 1 'I' ∷ TX "é" ∷ [])) 80)
    ∷ answer (sheet (table (SG 1 'I' ∷ TX "é" ∷ [])) 81)
    ∷ []

answers_are : answers ≡ accepted 80 ∷ refused 15 0 ∷ refused 2 3 ∷ refused 15 0 ∷ accepted 81 ∷ []
unfolding Sheet·all codes answers
answers_are = refl
