-- Tables written, each by computation.
-- The expected answers are those of a second implementation.
use Rattle.std.specs.Prelude.{ℕ, zero, suc, ◌≡◌, refl, List, [], ◌∷◌, ◌++◌}
use Rattle.xliff.specs.Bytes.{'-', 'F', 'I', 'N', 'Y'}
use Rattle.xliff.specs.Answer.{result}
use Rattle.xliff.specs.Item.{start, end, form_P, form_S, character, standalone, isolated, pair, annotation_start, annotation_end}
use Rattle.xliff.specs.Unit.{ignorable}
use Rattle.xliff.specs.Encode.{Record, closing, part_head, target_head, text_run, inline, spell}
use Rattle.xml.specs.Words.{codes}
use Rattle.xml.specs.Xml.{write_xml}
use Rattle.xml.specs.examples.Notation.{bytes, coded, unit_with, segment_with, refused_with, Notation·all}

all_spelled :
    write_xml
    (spell
    (unit_with 'N' ∷ segment_with 3 'Y' 'F' ∷ text_run (codes "A") ∷ target_head 2 ∷ text_run (codes "B")
    ∷ part_head (ignorable 4) ∷ text_run (codes " ") ∷ target_head 1 ∷ closing ∷ [])) 8192
    ≡ result
    (bytes "<unit id=\"1\" canResegment=\"no\"><segment id=\"3\" canResegment=\"yes\" state=\"final\">"
    ++ bytes "<source>A</source><target order=\"2\">B</target></segment><ignorable id=\"4\"><source> "
    ++ bytes "</source><target order=\"1\"></target></ignorable></unit>")
unfolding Notation·all
all_spelled = refl

codes_read :
    write_xml
    (spell
    (unit_with 'Y' ∷ segment_with 0 '-' 'I' ∷ inline (standalone (coded 1 0 0 'Y' 'Y' '-' 'Y'))
    ∷ inline (pair start form_P (coded 2 0 7 'Y' 'Y' 'N' 'Y')) ∷ text_run (codes "x")
    ∷ inline (pair end form_P (coded 2 0 8 'Y' 'Y' 'N' 'Y')) ∷ inline (pair start form_S (coded 3 0 0 'Y' 'Y' 'Y' 'Y'))
    ∷ inline (pair end form_S (coded 3 0 0 'Y' 'Y' 'Y' 'Y')) ∷ closing ∷ [])) 8192
    ≡ result
    (bytes "<unit id=\"1\" canResegment=\"yes\"><segment state=\"initial\"><source>"
    ++ bytes "<ph id=\"1\" canCopy=\"yes\" canDelete=\"yes\" canReorder=\"yes\"/>"
    ++ bytes
    "<pc id=\"2\" dataRefStart=\"7\" dataRefEnd=\"8\" canCopy=\"yes\" canDelete=\"yes\" canOverlap=\"no\" canReorder=\"yes\">x"
    ++ bytes "</pc>"
    ++ bytes "<sc id=\"3\" canCopy=\"yes\" canDelete=\"yes\" canOverlap=\"yes\" canReorder=\"yes\" isolated=\"no\"/>"
    ++ bytes "<ec startRef=\"3\" canCopy=\"yes\" canDelete=\"yes\" canOverlap=\"yes\" canReorder=\"yes\" isolated=\"no\"/>"
    ++ bytes "</source></segment></unit>")
unfolding Notation·all
codes_read = refl

first_and_no :
    write_xml
    (spell
    (unit_with 'Y' ∷ segment_with 0 '-' 'I' ∷ inline (pair start form_P (coded 2 0 0 'N' 'N' 'N' 'F'))
    ∷ inline (pair end form_P (coded 2 0 0 'N' 'N' 'N' 'N')) ∷ closing ∷ [])) 8192
    ≡ result
    (bytes "<unit id=\"1\" canResegment=\"yes\"><segment state=\"initial\"><source>"
    ++ bytes "<pc id=\"2\" canCopy=\"no\" canDelete=\"no\" canOverlap=\"no\" canReorder=\"firstNo\"></pc>"
    ++ bytes "</source></segment></unit>")
unfolding Notation·all
first_and_no = refl

isolated_ends :
    write_xml
    (spell
    (unit_with 'Y' ∷ segment_with 0 '-' 'I' ∷ inline (isolated start (coded 1 0 0 'Y' 'Y' 'Y' 'Y'))
    ∷ inline (isolated end (coded 2 0 0 'Y' 'Y' 'Y' 'Y')) ∷ inline (annotation_start form_P 3 'N') ∷ text_run (codes "t")
    ∷ inline (annotation_end form_P 3) ∷ inline (annotation_start form_S 4 '-') ∷ inline (annotation_end form_S 4) ∷ closing
    ∷ [])) 8192
    ≡ result
    (bytes "<unit id=\"1\" canResegment=\"yes\"><segment state=\"initial\"><source>"
    ++ bytes "<sc id=\"1\" canCopy=\"yes\" canDelete=\"yes\" canOverlap=\"yes\" canReorder=\"yes\" isolated=\"yes\"/>"
    ++ bytes "<ec id=\"2\" canCopy=\"yes\" canDelete=\"yes\" canOverlap=\"yes\" canReorder=\"yes\" isolated=\"yes\"/>"
    ++ bytes "<mrk id=\"3\" translate=\"no\">t</mrk><sm id=\"4\"/><em startRef=\"4\"/></source></segment>"
    ++ bytes "</unit>")
unfolding Notation·all
isolated_ends = refl

references_read :
    write_xml
    (spell (unit_with 'Y' ∷ segment_with 0 '-' 'I' ∷ text_run (38 ∷ 60 ∷ 62 ∷ 34 ∷ 39 ∷ 65 ∷ 66 ∷ []) ∷ closing ∷ [])) 8192
    ≡ result
    (bytes "<unit id=\"1\" canResegment=\"yes\"><segment state=\"initial\"><source>&amp;&lt;&gt;\"'AB"
    ++ bytes "</source></segment></unit>")
unfolding Notation·all
references_read = refl

line_ends :
    write_xml (spell (unit_with 'Y' ∷ segment_with 0 '-' 'I' ∷ text_run (65 ∷ 10 ∷ 66 ∷ 10 ∷ 67 ∷ 13 ∷ []) ∷ closing ∷ []))
    8192
    ≡ result
    (bytes "<unit id=\"1\" canResegment=\"yes\"><segment state=\"initial\"><source>A\nB\nC&#13;</source>"
    ++ bytes "</segment></unit>")
unfolding Notation·all
line_ends = refl

character_read :
    write_xml (spell (unit_with 'Y' ∷ segment_with 0 '-' 'I' ∷ inline (character 26) ∷ closing ∷ [])) 8192
    ≡ result
    (bytes "<unit id=\"1\" canResegment=\"yes\"><segment state=\"initial\"><source><cp hex=\"001A\"/>"
    ++ bytes "</source></segment></unit>")
unfolding Notation·all
character_read = refl

-- pc elements one in the other, with ids from i on
unfoldable nested_pc : ℕ → ℕ → List Record
nested_pc zero i = []
nested_pc (suc n) i =
    inline (pair start form_P (coded i 0 0 'Y' 'Y' 'N' 'Y'))
    ∷ (nested_pc n (suc i) ++ (inline (pair end form_P (coded i 0 0 'Y' 'Y' 'N' 'Y')) ∷ []))

-- 33 deep: 22, place 0
deeper_than_32 :
    write_xml (spell (unit_with 'Y' ∷ segment_with 0 '-' 'I' ∷ (nested_pc 33 1 ++ (closing ∷ [])))) 8192 ≡ refused_with 22 0
unfolding Notation·all nested_pc
deeper_than_32 = refl

-- an output too short
short_room :
    write_xml
    (spell
    (unit_with 'N' ∷ segment_with 3 'Y' 'F' ∷ text_run (codes "A") ∷ target_head 2 ∷ text_run (codes "B")
    ∷ part_head (ignorable 4) ∷ text_run (codes " ") ∷ target_head 1 ∷ closing ∷ [])) 10 ≡ refused_with 15 0
unfolding Notation·all
short_room = refl

-- the table's own refusal first
refused_first :
    write_xml ((85 ∷ 78 ∷ 89 ∷ 85 ∷ 69 ∷ [])) 10
    ≡ refused_with 2 3
unfolding Notation·all
refused_first = refl
