-- The text of a unit is that of its records.
use Prim.Native.Nat.{ℕ}
use mathlib.Core.Path.{◌≡◌, refl, sym, ap, ◌∙◌}
use mathlib.Core.List.{List, [], ◌∷◌, ◌++◌, append_assoc, append-nil}
use Rattle.xliff.specs.Bytes.{gather}
use Rattle.xliff.specs.Item.{Item, Content, text, character, standalone, isolated, pair, annotation_start, annotation_end}
use Rattle.xliff.specs.Unit.{Head, segment, ignorable, Target, no_target, target, Part, XliffUnit}
use Rattle.xliff.specs.Encode.{Record, closing, part_head, inline, item_before, content_records, target_records, part_records, unit_records}
use Rattle.places.proofs.Places.{content_inner}
use Rattle.xml.specs.Words.{'unit', 'source', 'target', 'order'}
use Rattle.xml.specs.Write.{opening_tag, closing_tag, number_attribute, escaped, item_text, content_text, head_name, head_attributes, target_text, part_text, unit_text}
use Rattle.xml_nesting.proofs.RunLaws.{Outside, part_next, end_next, point_first, content_first}
use Rattle.xml_nesting.proofs.DepthLaws.{target_outside}
use Rattle.xml_writer.specs.declared.Open.{Open}
use Rattle.xml_writer.specs.declared.Open.TheVariants.{Between}
use Rattle.xml_writer.specs.Records.{part_end, source_open, target_open, open_behind, unit_start, record_text, records_text}

-- a part or the end of the unit comes first
data PartNext : List Record → Type 0 where
  part_first : {h : Head} {rs : List Record} → PartNext (part_head h ∷ rs)
  end_first : {rs : List Record} → PartNext (closing ∷ rs)

outside : {rs : List Record} → PartNext rs → Outside rs
outside part_first = part_next
outside end_first = end_next

parts_next : (ps : List Part) → PartNext (gather part_records ps ++ (closing ∷ []))
unfolding gather part_records
parts_next [] = end_first
parts_next (p ∷ ps) = part_first

-- items
inline_text : (o : Open) (x : Item) (xs : Content) {rs : List Record} → Outside rs
    → records_text o (inline x ∷ (content_records xs ++ rs)) ≡ item_text x xs ++ records_text o (content_records xs ++ rs)
unfolding records_text record_text open_behind
inline_text o x xs {rs} h =
    ap (λ (ys : Content). item_text x ys ++ records_text o (content_records xs ++ rs)) (content_first xs h)

item_records : (o : Open) (x : Item) (xs : Content) {rs : List Record} → Outside rs
    → records_text o (item_before x (content_records xs) ++ rs) ≡ item_text x xs ++ records_text o (content_records xs ++ rs)
unfolding item_before item_text records_text record_text open_behind gather
item_records o (text c) xs {rs} h =
    point_first (records_text o) (λ c s. escaped c ++ s)
    (λ c rs. ap (λ (s : List ℕ). s ++ records_text o rs) (append-nil (escaped c)))
    (λ c cs rs. append_assoc (escaped c) (gather escaped cs) (records_text o rs)) c (content_inner xs) rs
item_records o (character c) xs h = inline_text o (character c) xs h
item_records o (standalone f) xs h = inline_text o (standalone f) xs h
item_records o (isolated g f) xs h = inline_text o (isolated g f) xs h
item_records o (pair g w f) xs h = inline_text o (pair g w f) xs h
item_records o (annotation_start w i t) xs h = inline_text o (annotation_start w i t) xs h
item_records o (annotation_end w i) xs h = inline_text o (annotation_end w i) xs h

content_written : (o : Open) (xs : Content) {rs : List Record} → Outside rs
    → records_text o (content_records xs ++ rs) ≡ content_text xs ++ records_text o rs
unfolding content_records content_text
content_written o [] h = refl
content_written o (x ∷ xs) {rs} h =
    item_records o x xs h ∙ ap (λ (s : List ℕ). item_text x xs ++ s) (content_written o xs h)
    ∙ sym (append_assoc (item_text x xs) (content_text xs) (records_text o rs))

-- a part is closed by the record behind it
part_ended : (o : Open) {rs : List Record} → PartNext rs → records_text o rs ≡ part_end o ++ records_text Between rs
unfolding records_text record_text open_behind part_end
part_ended o (part_first {h} {rs}) =
    append_assoc (part_end o) (opening_tag (head_name h) (head_attributes h) ++ opening_tag 'source' [])
    (records_text (source_open h) rs)
part_ended o (end_first {rs}) = append_assoc (part_end o) (closing_tag 'unit') (records_text Between rs)

source_end : (h : Head) → part_end (source_open h) ≡ closing_tag 'source' ++ closing_tag (head_name h)
unfolding part_end head_name
source_end (segment f) = refl
source_end (ignorable i) = refl

target_end : (h : Head) → part_end (target_open (source_open h)) ≡ closing_tag 'target' ++ closing_tag (head_name h)
unfolding part_end head_name
target_end (segment f) = refl
target_end (ignorable i) = refl

-- a source's end with its part's target
six : (a b c d e f : List ℕ) → (a ++ b) ++ (c ++ ((d ++ e) ++ f)) ≡ a ++ ((b ++ (c ++ d)) ++ (e ++ f))
six a b c d e f = simp append_assoc

target_written : (h : Head) (g : Target) {rs : List Record} → PartNext rs
    → records_text (source_open h) (target_records g ++ rs)
    ≡ closing_tag 'source' ++ (target_text g ++ (closing_tag (head_name h) ++ records_text Between rs))
unfolding target_records target_text records_text record_text open_behind
target_written h no_target {rs} n =
    part_ended (source_open h) n ∙ ap (λ (s : List ℕ). s ++ records_text Between rs) (source_end h)
    ∙ append_assoc (closing_tag 'source') (closing_tag (head_name h)) (records_text Between rs)
target_written h (target q xs) {rs} n =
    let o = target_open (source_open h) in
    let opened = opening_tag 'target' (number_attribute 'order' q) in
    ap (λ (s : List ℕ). (closing_tag 'source' ++ opened) ++ s)
    (content_written o xs (outside n)
    ∙ ap (λ (s : List ℕ). content_text xs ++ s)
    (part_ended o n ∙ ap (λ (s : List ℕ). s ++ records_text Between rs) (target_end h)))
    ∙ six (closing_tag 'source') opened (content_text xs) (closing_tag 'target') (closing_tag (head_name h))
    (records_text Between rs)

-- a part: where none is open, all of its text
seven : (a b c d e f g : List ℕ) → (a ++ b) ++ (c ++ (d ++ (e ++ (f ++ g)))) ≡ (a ++ (b ++ (c ++ (d ++ (e ++ f))))) ++ g
seven a b c d e f g = simp append_assoc

part_written : (p : Part) {rs : List Record} → PartNext rs
    → records_text Between (part_records p ++ rs) ≡ part_text p ++ records_text Between rs
unfolding part_records part_text records_text record_text open_behind part_end
part_written p {rs} n =
    let h = p.head in
    let start = opening_tag (head_name h) (head_attributes h) in
    let source = opening_tag 'source' [] in
    ap (λ (s : List ℕ). (start ++ source) ++ s)
    (ap (records_text (source_open h)) (append_assoc (content_records p.source) (target_records p.target) rs)
    ∙ content_written (source_open h) p.source (target_outside p.target (outside n))
    ∙ ap (λ (s : List ℕ). content_text p.source ++ s) (target_written h p.target n))
    ∙ seven start source (content_text p.source) (closing_tag 'source') (target_text p.target) (closing_tag (head_name h))
    (records_text Between rs)

parts_written : (ps : List Part)
    → records_text Between (gather part_records ps ++ (closing ∷ [])) ≡ gather part_text ps ++ closing_tag 'unit'
unfolding gather records_text record_text open_behind part_end
parts_written [] = append-nil (closing_tag 'unit')
parts_written (p ∷ ps) =
    ap (records_text Between) (append_assoc (part_records p) (gather part_records ps) (closing ∷ []))
    ∙ part_written p (parts_next ps) ∙ ap (λ (s : List ℕ). part_text p ++ s) (parts_written ps)
    ∙ sym (append_assoc (part_text p) (gather part_text ps) (closing_tag 'unit'))

pub unit_written : (u : XliffUnit) → records_text Between (unit_records u) ≡ unit_text u
unfolding unit_records unit_text records_text record_text open_behind
unit_written u = ap (λ (s : List ℕ). unit_start u.opening.can_resegment ++ s) (parts_written u.parts)
