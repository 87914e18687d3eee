-- The text that the writer writes for a unit is read as that unit.
use Prim.Native.Nat.{ℕ}
use mathlib.Core.Path.{◌≡◌, refl, sym, ap, ◌∙◌}
use mathlib.Core.Bool.{true}
use mathlib.Core.List.{List, [], ◌∷◌, ◌++◌, map, append_assoc, append-nil}
use mathlib.Core.Option.{some}
use native.Mathlib.Omega.{arith}
use Rattle.xliff.specs.Bytes.{'N', 'Y', equal, any, among, gather}
use Rattle.xliff.specs.Text.{between as between_numbers}
use Rattle.xliff.specs.Item.{Item, Content, text, character, standalone, isolated, pair, annotation_start, annotation_end}
use Rattle.xliff.specs.Unit.{Target, no_target, target, Part, XliffUnit}
use Rattle.xliff.specs.Encode.{Record, opening, closing, part_head, target_head, text_run, inline}
use Rattle.xliff.specs.Parse.{Reading, take_record, reading, opening_of}
use Rattle.xliff.specs.Desk.{decimal}
use Rattle.xliff.proofs.lists.Tests.{equal_refl}
use Rattle.xliff.specs.Good.{Each}
use Rattle.xml.specs.Words.{'unit', 'id', 'canResegment', Words·all}
use Rattle.xml.specs.Tokens.{Attribute, doubled, outside_tags, at_end, tokens}
use Rattle.xml.specs.Attributes.{with, named, only, value_of, yes_no}
use Rattle.xml.specs.Elements.{unit_opening, outside, unit_due, part_due, nothing_due, or_blame, opened, closed, finished, turn, read, behind, elements, xml_records, unit_of_records}
use Rattle.xml.specs.Write.{opening_tag, closing_tag, attribute, number_attribute, word_of, word_attribute, part_text, unit_text}
use Rattle.xml.proofs.TagLaws.{good_name, good_attributes}
use Rattle.xml.proofs.LetterLaws.{is_letter, letters}
use Rattle.xml.proofs.AttributeLaws.{required_shown, choice_word, yes_no_back, yes_no_plain, good_one, good_number}
use Rattle.xml.proofs.ContentLaws.{Reads, reads_on, one_record}
use Rattle.xml.proofs.PartLaws.{open_reads, close_reads, unit_name, target_as_read, part_as_read, WritablePart, as_text, spread_target, past, parts_read}

-- the unit
unit_back : (c : ℕ) → among c ('Y' ∷ 'N' ∷ []) ≡ true
    → unit_opening (number_attribute 'id' 1 ++ word_attribute 'canResegment' yes_no c) ≡ some (record { can_resegment = c })
unfolding unit_opening with number_attribute word_attribute only named any equal value_of Words·all
unit_back c e =
    let ats : List Attribute = attribute 'id' (decimal 1) ++ attribute 'canResegment' (word_of yes_no c) in
    rw (
      required_shown 'id' ats 1 (omega arith) (omega arith) refl,
      choice_word 'canResegment' yes_no 'Y' ats c refl (yes_no_back c e),
    )

unit_good_attributes : (c : ℕ) → good_attributes (number_attribute 'id' 1 ++ word_attribute 'canResegment' yes_no c) ≡ true
unfolding word_attribute good_name is_letter letters between_numbers Words·all good_attributes
unit_good_attributes c = good_number 'id' 1 _ refl (good_one 'canResegment' (word_of yes_no c) [] refl (yes_no_plain c) refl)

unfoldable pub unit_as_read : XliffUnit → List Record
unit_as_read u = opening u.opening ∷ (gather part_as_read u.parts ++ (closing ∷ []))

unit_reads : (u : XliffUnit) (s : List ℕ) → among u.opening.can_resegment ('Y' ∷ 'N' ∷ []) ≡ true
    → Each WritablePart u.parts → Reads (outside unit_due) (unit_text u ++ s) (unit_as_read u) (outside nothing_due) s
unfolding unit_text unit_as_read
unit_reads u s e ws =
    let c : ℕ = u.opening.can_resegment in
    as_text
    (spread_target (opening_tag 'unit' (number_attribute 'id' 1 ++ word_attribute 'canResegment' yes_no c))
    (gather part_text u.parts) (closing_tag 'unit') [] s)
    (reads_on
    (open_reads (outside unit_due) (outside (part_due 0)) 'unit'
    (number_attribute 'id' 1 ++ word_attribute 'canResegment' yes_no c) (opening u.opening ∷ []) _ unit_name
    (unit_good_attributes c) (unfold doubled number_attribute word_attribute any equal Words·all in refl)
    (λ at. unfold turn opened or_blame in rw (equal_refl 'unit', unit_back c e)))
    (reads_on (parts_read 0 u.parts (closing_tag 'unit' ++ s) ws)
    (close_reads (outside (part_due (past 0 u.parts))) (outside nothing_due) 'unit' (closing ∷ []) s unit_name
    (λ at. unfold turn closed in rw (equal_refl 'unit')))))

-- THE TEXT OF A UNIT is read as its records
pub unit_text_read : (u : XliffUnit) → among u.opening.can_resegment ('Y' ∷ 'N' ∷ []) ≡ true
    → Each WritablePart u.parts → xml_records (unit_text u) ≡ read (unit_as_read u)
unfolding xml_records
unit_text_read u e ws =
    let (at, f) = (unit_reads u [] e ws).reads 0 in
    ap (λ (l : List ℕ). elements (outside unit_due) (tokens outside_tags 0 0 l)) (sym (append-nil (unit_text u))) ∙ f
    ∙ (unfold tokens at_end elements turn finished behind in ap read (append-nil (unit_as_read u)))

-- and these are the unit
reading_items : (xs : Content) (rs : List Record)
    → reading (map one_record xs ++ rs)
    ≡ record { items = xs ++ (reading rs).items; target = (reading rs).target; parts = (reading rs).parts }
unfolding reading take_record one_record
reading_items [] rs = refl
reading_items (x ∷ xs) rs = by x (reading_items xs rs)
  where
    by : (x : Item)
        → reading (map one_record xs ++ rs)
        ≡ record { items = xs ++ (reading rs).items; target = (reading rs).target; parts = (reading rs).parts }
        → take_record (one_record x) (reading (map one_record xs ++ rs))
        ≡ record { items = x ∷ (xs ++ (reading rs).items); target = (reading rs).target; parts = (reading rs).parts }
    by (text c) e = ap (take_record (text_run (c ∷ []))) e
    by (character c) e = ap (take_record (inline (character c))) e
    by (standalone f) e = ap (take_record (inline (standalone f))) e
    by (isolated h f) e = ap (take_record (inline (isolated h f))) e
    by (pair h w f) e = ap (take_record (inline (pair h w f))) e
    by (annotation_start w i t) e = ap (take_record (inline (annotation_start w i t))) e
    by (annotation_end w i) e = ap (take_record (inline (annotation_end w i))) e

-- outside of contents: no items, no target
abbrev Parts : List Part → Reading
Parts ps = record { items = []; target = no_target; parts = ps }

reading_target : (g : Target) (rs : List Record) (ps : List Part) → reading rs ≡ Parts ps
    → reading (target_as_read g ++ rs) ≡ record { items = []; target = g; parts = ps }
unfolding target_as_read reading take_record
reading_target no_target rs ps e = e
reading_target (target q xs) rs ps e =
    ap (take_record (target_head q))
    (reading_items xs rs ∙ ap (λ (g : Reading). record { items = xs ++ g.items; target = g.target; parts = g.parts }) e)
    ∙ ap (λ (l : Content). record { items = []; target = target q l; parts = ps }) (append-nil xs)

reading_part : (p : Part) (rs : List Record) (ps : List Part) → reading rs ≡ Parts ps
    → reading (part_as_read p ++ rs) ≡ Parts (p ∷ ps)
unfolding part_as_read reading take_record
reading_part p rs ps e =
    ap (take_record (part_head p.head))
    (ap reading (append_assoc (map one_record p.source) (target_as_read p.target) rs)
    ∙ reading_items p.source (target_as_read p.target ++ rs)
    ∙ ap (λ (g : Reading). record { items = p.source ++ g.items; target = g.target; parts = g.parts })
    (reading_target p.target rs ps e))
    ∙ ap (λ (l : Content). Parts (record { head = p.head; source = l; target = p.target } ∷ ps)) (append-nil p.source)

reading_parts : (ps : List Part) → reading (gather part_as_read ps ++ (closing ∷ [])) ≡ Parts ps
unfolding gather
reading_parts [] = unfold reading take_record in refl
reading_parts (p ∷ ps) =
    ap reading (append_assoc (part_as_read p) (gather part_as_read ps) (closing ∷ []))
    ∙ reading_part p (gather part_as_read ps ++ (closing ∷ [])) ps (reading_parts ps)

pub unit_back_again : (u : XliffUnit) → unit_of_records (unit_as_read u) ≡ u
unfolding unit_of_records unit_as_read opening_of reading take_record
unit_back_again u = ap (λ (g : Reading). record { opening = u.opening; parts = g.parts }) (reading_parts u.parts)
