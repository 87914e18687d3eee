-- Texts read, and their faults with the places, each by computation.
-- The expected answers are those of a second implementation.
use Rattle.std.specs.Prelude.{◌≡◌, refl, [], ◌∷◌, ◌++◌}
use Rattle.xliff.specs.Bytes.{'-', 'F', 'I', 'N', 'Y'}
use Rattle.xliff.specs.Answer.{accepted, result, answer}
use Rattle.xliff.specs.Item.{start, end, form_P, form_S, character, standalone, isolated, pair, annotation_start, annotation_end}
use Rattle.xliff.specs.Unit.{ignorable}
use Rattle.xliff.specs.Encode.{closing, part_head, target_head, text_run, inline, spell}
use Rattle.xml.specs.Words.{codes}
use Rattle.xml.specs.Xml.{read_xml}
use Rattle.xml.specs.examples.Notation.{bytes, coded, unit_with, segment_with, refused_with, Notation·all}

-- defaults: canResegment Y of the unit, - of the segment, state initial, no id
the_smallest :
    read_xml (bytes "<unit id=\"1\"><segment><source>A</source></segment></unit>") 8192
    ≡ result (spell (unit_with 'Y' ∷ segment_with 0 '-' 'I' ∷ text_run (codes "A") ∷ closing ∷ []))
unfolding Notation·all
the_smallest = refl

-- a target with its order, an ignorable, letters by their words
all_spelled :
    read_xml
    (bytes "<unit id=\"9\" canResegment=\"no\"><segment id=\"3\" canResegment=\"yes\" state=\"final\">"
    ++ bytes "<source>A</source><target order=\"2\">B</target></segment><ignorable id=\"4\"><source> "
    ++ bytes "</source><target order=\"1\"/></ignorable></unit>") 8192
    ≡ result
    (spell
    (unit_with 'N' ∷ segment_with 3 'Y' 'F' ∷ text_run (codes "A") ∷ target_head 2 ∷ text_run (codes "B")
    ∷ part_head (ignorable 4) ∷ text_run (codes " ") ∷ target_head 1 ∷ closing ∷ []))
unfolding Notation·all
all_spelled = refl

-- "an absent order is the part's position"
order_by_position :
    read_xml
    (bytes "<unit id=\"1\"><ignorable><source/></ignorable><segment><source>A</source><target>B</target>"
    ++ bytes "</segment></unit>") 8192
    ≡ result
    (spell
    (unit_with 'Y' ∷ part_head (ignorable 0) ∷ segment_with 0 '-' 'I' ∷ text_run (codes "A") ∷ target_head 2
    ∷ text_run (codes "B") ∷ closing ∷ []))
unfolding Notation·all
order_by_position = refl

-- canOverlap by element: no for pc, yes for sc and ec; the end of pc has its own dataRef
codes_read :
    read_xml
    (bytes "<unit id=\"1\"><segment><source><ph id=\"1\"/>"
    ++ bytes "<pc id=\"2\" dataRefStart=\"7\" dataRefEnd=\"8\">x</pc><sc id=\"3\"/><ec startRef=\"3\"/>"
    ++ bytes "</source></segment></unit>") 8192
    ≡ result
    (spell
    (unit_with 'Y' ∷ segment_with 0 '-' 'I' ∷ inline (standalone (coded 1 0 0 'Y' 'Y' '-' 'Y'))
    ∷ inline (pair start form_P (coded 2 0 7 'Y' 'Y' 'N' 'Y')) ∷ text_run (codes "x")
    ∷ inline (pair end form_P (coded 2 0 8 'Y' 'Y' 'N' 'Y')) ∷ inline (pair start form_S (coded 3 0 0 'Y' 'Y' 'Y' 'Y'))
    ∷ inline (pair end form_S (coded 3 0 0 'Y' 'Y' 'Y' 'Y')) ∷ closing ∷ []))
unfolding Notation·all
codes_read = refl

-- firstNo at a pc: its end has N
first_and_no :
    read_xml
    (bytes "<unit id=\"1\"><segment><source>"
    ++ bytes "<pc id=\"2\" canCopy=\"no\" canDelete=\"no\" canReorder=\"firstNo\"></pc></source></segment>"
    ++ bytes "</unit>") 8192
    ≡ result
    (spell
    (unit_with 'Y' ∷ segment_with 0 '-' 'I' ∷ inline (pair start form_P (coded 2 0 0 'N' 'N' 'N' 'F'))
    ∷ inline (pair end form_P (coded 2 0 0 'N' 'N' 'N' 'N')) ∷ closing ∷ []))
unfolding Notation·all
first_and_no = refl

-- isolated ec has an id; mrk, sm, em
isolated_ends :
    read_xml
    (bytes "<unit id=\"1\"><segment><source><sc id=\"1\" isolated=\"yes\"/><ec id=\"2\" isolated=\"yes\"/>"
    ++ bytes "<mrk id=\"3\" translate=\"no\">t</mrk><sm id=\"4\"/><em startRef=\"4\"/></source></segment>"
    ++ bytes "</unit>") 8192
    ≡ result
    (spell
    (unit_with 'Y' ∷ segment_with 0 '-' 'I' ∷ inline (isolated start (coded 1 0 0 'Y' 'Y' 'Y' 'Y'))
    ∷ inline (isolated end (coded 2 0 0 'Y' 'Y' 'Y' 'Y')) ∷ inline (annotation_start form_P 3 'N') ∷ text_run (codes "t")
    ∷ inline (annotation_end form_P 3) ∷ inline (annotation_start form_S 4 '-') ∷ inline (annotation_end form_S 4) ∷ closing
    ∷ []))
unfolding Notation·all
isolated_ends = refl

-- "text around a comment is a single run"
one_run :
    read_xml (bytes "<unit id=\"1\"><segment><source>A<!-- no - token -->B</source></segment></unit>") 8192
    ≡ result (spell (unit_with 'Y' ∷ segment_with 0 '-' 'I' ∷ text_run (codes "AB") ∷ closing ∷ []))
unfolding Notation·all
one_run = refl

-- the five entities, numeric references
references_read :
    read_xml (bytes "<unit id=\"1\"><segment><source>&amp;&lt;&gt;&quot;&apos;&#65;&#x0042;</source></segment></unit>") 8192
    ≡ result (spell (unit_with 'Y' ∷ segment_with 0 '-' 'I' ∷ text_run (38 ∷ 60 ∷ 62 ∷ 34 ∷ 39 ∷ 65 ∷ 66 ∷ []) ∷ closing ∷ []))
unfolding Notation·all
references_read = refl

-- a raw line end is one line feed, &#13; is a carriage return
line_ends :
    read_xml (bytes "<unit id=\"1\"><segment><source>A\r\nB\rC&#13;</source></segment></unit>") 8192
    ≡ result (spell (unit_with 'Y' ∷ segment_with 0 '-' 'I' ∷ text_run (65 ∷ 10 ∷ 66 ∷ 10 ∷ 67 ∷ 13 ∷ []) ∷ closing ∷ []))
unfolding Notation·all
line_ends = refl

-- cp; blanks and comments outside of source and target are skipped
character_read :
    read_xml
    (bytes " <!--a-->\n<unit id=\"1\">\t<segment>\t<source><cp hex=\"001A\"></cp></source></segment>"
    ++ bytes "</unit>\n<!--b-->") 8192
    ≡ result (spell (unit_with 'Y' ∷ segment_with 0 '-' 'I' ∷ inline (character 26) ∷ closing ∷ []))
unfolding Notation·all
character_read = refl

-- UTF-8 of two, three and four bytes
utf_8_read :
    read_xml (bytes "<unit id=\"1\"><segment><source>é€😀</source></segment></unit>") 8192
    ≡ result (spell (unit_with 'Y' ∷ segment_with 0 '-' 'I' ∷ text_run (codes "é€😀") ∷ closing ∷ []))
unfolding Notation·all
utf_8_read = refl

-- ids: no leading zero
bad_id :
    read_xml (bytes "<unit id=\"01\"/>") 8192
    ≡ refused_with 22 0
unfolding Notation·all
bad_id = refl

-- a tag that the text's end cuts: its end, whatever its values
cut_tag :
    read_xml (bytes "<unit id=\"0\"") 8192
    ≡ refused_with 22 12
unfolding Notation·all
cut_tag = refl

-- a tag against the grammar: its place
no_quote :
    read_xml (bytes " <unit id=1") 8192
    ≡ refused_with 22 1
unfolding Notation·all
no_quote = refl

-- an attribute twice
twice :
    read_xml (bytes "<unit id=\"1\" id=\"1\"></unit>") 8192
    ≡ refused_with 22 0
unfolding Notation·all
twice = refl

-- "other attributes not"
other_attribute :
    read_xml (bytes "<unit id=\"1\"><segment xml:space=\"preserve\"><source>A</source></segment></unit>") 8192
    ≡ refused_with 22 13
unfolding Notation·all
other_attribute = refl

-- CDATA: its first byte
cdata :
    read_xml (bytes "<unit id=\"1\"><segment><source>A<![CDATA[B]]></source></segment></unit>") 8192
    ≡ refused_with 22 31
unfolding Notation·all
cdata = refl

-- ]]> in text: the first ]
bracket :
    read_xml (bytes "<unit id=\"1\"><segment><source>A]]></source></segment></unit>") 8192
    ≡ refused_with 22 31
unfolding Notation·all
bracket = refl

-- a reference at fault: its &
unknown_entity :
    read_xml (bytes "<unit id=\"1\"><segment><source>A&nbsp;</source></segment></unit>") 8192
    ≡ refused_with 22 31
unfolding Notation·all
unknown_entity = refl

-- a reference that the text's end cuts
cut_reference :
    read_xml (bytes "<unit id=\"1\"><segment><source>A&nb") 8192
    ≡ refused_with 22 34
unfolding Notation·all
cut_reference = refl

-- text where none may stand: its byte
stray_text :
    read_xml (bytes "<unit id=\"1\">A</unit>") 8192
    ≡ refused_with 22 13
unfolding Notation·all
stray_text = refl

-- a reference there: its &
stray_reference :
    read_xml (bytes "<unit id=\"1\">&#32") 8192
    ≡ refused_with 22 13
unfolding Notation·all
stray_reference = refl

-- an end tag that closes another element
wrong_end :
    read_xml (bytes "<unit id=\"1\"><segment><source><pc id=\"2\"></mrk></source></segment></unit>") 8192
    ≡ refused_with 22 41
unfolding Notation·all
wrong_end = refl

-- -- inside a comment
two_hyphens :
    read_xml (bytes "<!-- a -- b -->") 8192
    ≡ refused_with 22 7
unfolding Notation·all
two_hyphens = refl

-- an XML declaration
declaration :
    read_xml (bytes "<?xml version=\"1.0\"?>") 8192
    ≡ refused_with 22 0
unfolding Notation·all
declaration = refl

-- an empty element: comments only
text_in_empty :
    read_xml (bytes "<unit id=\"1\"><segment><source><ph id=\"2\"> </ph></source></segment></unit>") 8192
    ≡ refused_with 22 41
unfolding Notation·all
text_in_empty = refl

-- 32 deep
depth_32 :
    answer
    (read_xml
    (bytes "<unit id=\"1\"><segment><source><pc id=\"1\"><mrk id=\"2\"><mrk id=\"3\"><mrk id=\"4\">"
    ++ bytes "<mrk id=\"5\"><mrk id=\"6\"><mrk id=\"7\"><mrk id=\"8\"><mrk id=\"9\"><mrk id=\"10\">"
    ++ bytes "<mrk id=\"11\"><mrk id=\"12\"><mrk id=\"13\"><mrk id=\"14\"><mrk id=\"15\"><mrk id=\"16\">"
    ++ bytes "<mrk id=\"17\"><mrk id=\"18\"><mrk id=\"19\"><mrk id=\"20\"><mrk id=\"21\"><mrk id=\"22\">"
    ++ bytes "<mrk id=\"23\"><mrk id=\"24\"><mrk id=\"25\"><mrk id=\"26\"><mrk id=\"27\"><mrk id=\"28\">"
    ++ bytes "<mrk id=\"29\"><mrk id=\"30\"><mrk id=\"31\"><mrk id=\"32\"></mrk></mrk></mrk></mrk></mrk>"
    ++ bytes "</mrk></mrk></mrk></mrk></mrk></mrk></mrk></mrk></mrk></mrk></mrk></mrk></mrk></mrk></mrk>"
    ++ bytes "</mrk></mrk></mrk></mrk></mrk></mrk></mrk></mrk></mrk></mrk></mrk></pc></source></segment>"
    ++ bytes "</unit>") 8192) ≡ accepted 314
unfolding Notation·all
depth_32 = refl

-- 33 deep, the short form too
depth_33 :
    read_xml
    (bytes "<unit id=\"1\"><segment><source><pc id=\"1\"><pc id=\"2\"><pc id=\"3\"><pc id=\"4\">"
    ++ bytes "<pc id=\"5\"><pc id=\"6\"><pc id=\"7\"><pc id=\"8\"><pc id=\"9\"><pc id=\"10\"><pc id=\"11\">"
    ++ bytes "<pc id=\"12\"><pc id=\"13\"><pc id=\"14\"><pc id=\"15\"><pc id=\"16\"><pc id=\"17\">"
    ++ bytes "<pc id=\"18\"><pc id=\"19\"><pc id=\"20\"><pc id=\"21\"><pc id=\"22\"><pc id=\"23\">"
    ++ bytes "<pc id=\"24\"><pc id=\"25\"><pc id=\"26\"><pc id=\"27\"><pc id=\"28\"><pc id=\"29\">"
    ++ bytes "<pc id=\"30\"><pc id=\"31\"><pc id=\"32\"><pc id=\"33\"/></pc></pc></pc></pc></pc></pc></pc>"
    ++ bytes "</pc></pc></pc></pc></pc></pc></pc></pc></pc></pc></pc></pc></pc></pc></pc></pc></pc></pc></pc>"
    ++ bytes "</pc></pc></pc></pc></pc></pc></source></segment></unit>") 8192 ≡ refused_with 22 405
unfolding Notation·all
depth_33 = refl

-- "one without parts 2", at 3, where UE stands
no_parts :
    read_xml (bytes "<unit id=\"1\"/>") 8192
    ≡ refused_with 2 3
unfolding Notation·all
no_parts = refl

-- 15 before the check of the table read
too_short :
    read_xml (bytes "<unit id=\"1\"><segment><source><pc id=\"1\"></pc><pc id=\"1\"></pc></source></segment></unit>") 12
    ≡ refused_with 15 0
unfolding Notation·all
too_short = refl

-- the check's place lies in the table read
then_checked :
    read_xml (bytes "<unit id=\"1\"><segment><source><pc id=\"1\"></pc><pc id=\"1\"></pc></source></segment></unit>") 8192
    ≡ refused_with 6 33
unfolding Notation·all
then_checked = refl

-- a cp of a code point that XML allows: 3 of the check
allowed_cp :
    read_xml (bytes "<unit id=\"1\"><segment><source><cp hex=\"0041\"/></source></segment></unit>") 8192
    ≡ refused_with 3 9
unfolding Notation·all
allowed_cp = refl

-- behind the unit a tag is at fault, also one that the text's end cuts
behind_the_unit :
    read_xml (bytes "<unit id=\"1\"></unit> <x") 8192
    ≡ refused_with 22 21
unfolding Notation·all
behind_the_unit = refl

-- what may still begin a comment is cut
cut_behind_the_unit :
    read_xml (bytes "<unit id=\"1\"></unit> <!-") 8192
    ≡ refused_with 22 24
unfolding Notation·all
cut_behind_the_unit = refl

-- a name with a byte that is not ASCII breaks the tag
other_name :
    read_xml (bytes "<é") 8192
    ≡ refused_with 22 0
unfolding Notation·all
other_name = refl

-- a text that ends before the unit is closed
cut_unit :
    read_xml (bytes "<unit id=\"1\">") 8192
    ≡ refused_with 22 13
unfolding Notation·all
cut_unit = refl

-- a byte of no UTF-8 character
broken_utf_8 :
    read_xml (bytes "<unit id=\"1\"><segment><source>A" ++ (195 ∷ bytes "(</source></segment></unit>")) 8192
    ≡ refused_with 22 31
unfolding Notation·all
broken_utf_8 = refl

-- a UTF-8 character that the text's end cuts
cut_utf_8 :
    read_xml (bytes "<unit id=\"1\"><segment><source>A" ++ (226 ∷ 130 ∷ bytes "")) 8192
    ≡ refused_with 22 33
unfolding Notation·all
cut_utf_8 = refl
