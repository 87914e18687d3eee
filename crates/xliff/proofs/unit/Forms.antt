-- Items in another form where a test says so: rewriting, cutting and flattening are of this kind. The records of a
-- content change item by item and stay as long; and units that are flattened alike have one size.
use Prim.Native.Nat.{ℕ, ◌+◌}
use native.Mathlib.Omega.{arith}
use mathlib.Core.Path.{◌≡◌, refl, sym, ap, ap₂, ◌∙◌}
use mathlib.Core.Bool.{Bool, true, false, cond}
use mathlib.Core.List.{List, [], ◌∷◌, ◌++◌, map}
use lib.ListN.{length, length-append, length-map}
use Rattle.xliff.specs.Bytes.{gather}
use Rattle.xliff.specs.Item.{Item, Content, Form, start, end, form_P, form_S, text, character, standalone, isolated, pair, annotation_start, annotation_end, mark, in_form, flat, flattened}
use Rattle.xliff.specs.Unit.{Target, no_target, target, Part, XliffUnit}
use Rattle.xliff.specs.Encode.{Record, opening, closing, part_head, target_head, text_run, inline, ill_text, broken, field_bytes, record_bytes, text_before, item_before, content_records, target_records, part_records, unit_records, spell, encode}
use Rattle.xliff.specs.Focus.{with_parts}
use Rattle.xliff.specs.Rewrite.{rewrite_target}
use Rattle.xliff.specs.Rejoin.{flat_part, flat_unit}
use Rattle.xliff.specs.Good.{on_record}
use Rattle.xliff.proofs.lists.Tests.{map-append}

-- THE RECORDS of a content change item by item
text_kept : (f : Item → Item) (c : ℕ) (rs : List Record) → text_before c (map (on_record f) rs) ≡ map (on_record f) (text_before c rs)
unfolding on_record text_before
text_kept f c [] = refl
text_kept f c (opening d ∷ rs) = refl
text_kept f c (closing ∷ rs) = refl
text_kept f c (part_head h ∷ rs) = refl
text_kept f c (target_head q ∷ rs) = refl
text_kept f c (text_run cs ∷ rs) = refl
text_kept f c (inline x ∷ rs) = refl
text_kept f c (ill_text ∷ rs) = refl
text_kept f c (broken b ∷ rs) = refl

item_kept : (w : Form) (b : Bool) (f : Item → Item) (x : Item) → f x ≡ cond b (in_form w x) x → (rs : List Record)
    → item_before (f x) (map (on_record f) rs) ≡ map (on_record f) (item_before x rs)
unfolding in_form item_before on_record
item_kept w true f (text c) e rs = rw e (text_kept f c rs)
item_kept w false f (text c) e rs = rw e (text_kept f c rs)
item_kept w true f (character c) e rs = rw e
item_kept w false f (character c) e rs = rw e
item_kept w true f (standalone g) e rs = rw e
item_kept w false f (standalone g) e rs = rw e
item_kept w true f (isolated h g) e rs = rw e
item_kept w false f (isolated h g) e rs = rw e
item_kept w true f (pair h v g) e rs = rw e
item_kept w false f (pair h v g) e rs = rw e
item_kept w true f (annotation_start v i t) e rs = rw e
item_kept w false f (annotation_start v i t) e rs = rw e
item_kept w true f (annotation_end v i) e rs = rw e
item_kept w false f (annotation_end v i) e rs = rw e

abbrev pub in_form_if : Form → (Item → Bool) → Item → Item
in_form_if w test x = cond (test x) (in_form w x) x

pub content_kept : (w : Form) (test : Item → Bool) (xs : Content)
    → content_records (map (in_form_if w test) xs) ≡ map (on_record (in_form_if w test)) (content_records xs)
unfolding content_records
content_kept w test [] = refl
content_kept w test (x ∷ xs) =
    ap (item_before (in_form_if w test x)) (content_kept w test xs)
    ∙ item_kept w (test x) (in_form_if w test) x refl (content_records xs)

-- EACH IS AS LONG: a mark has two bytes, and the fields are the same
pub mark_long : (x : Item) → length (mark x) ≡ 2
unfolding mark
mark_long (text c) = refl
mark_long (character c) = refl
mark_long (standalone f) = refl
mark_long (isolated start f) = refl
mark_long (isolated end f) = refl
mark_long (pair start form_P f) = refl
mark_long (pair start form_S f) = refl
mark_long (pair end form_P f) = refl
mark_long (pair end form_S f) = refl
mark_long (annotation_start form_P i t) = refl
mark_long (annotation_start form_S i t) = refl
mark_long (annotation_end form_P i) = refl
mark_long (annotation_end form_S i) = refl

pub fields_kept : (w : Form) (x : Item) → field_bytes (in_form w x) ≡ field_bytes x
unfolding field_bytes in_form
fields_kept w (text c) = refl
fields_kept w (character c) = refl
fields_kept w (standalone f) = refl
fields_kept w (isolated h f) = refl
fields_kept w (pair h v f) = refl
fields_kept w (annotation_start v i t) = refl
fields_kept w (annotation_end v i) = refl

form_long : (w : Form) (x : Item) → length (record_bytes (inline (in_form w x))) ≡ length (record_bytes (inline x))
unfolding record_bytes
form_long w x =
    omega (
      arith,
      length-append (mark (in_form w x)) (field_bytes (in_form w x)),
      length-append (mark x) (field_bytes x),
      ap length (fields_kept w x),
      mark_long x,
      mark_long (in_form w x),
    )

pub item_long : (w : Form) (b : Bool) (x : Item) → length (record_bytes (inline (cond b (in_form w x) x))) ≡ length (record_bytes (inline x))
item_long w true x = form_long w x
item_long w false x = refl

pub record_long : (f : Item → Item) → ((x : Item) → length (record_bytes (inline (f x))) ≡ length (record_bytes (inline x))) → (r : Record)
    → length (record_bytes (on_record f r)) ≡ length (record_bytes r)
unfolding on_record
record_long f same (opening c) = refl
record_long f same closing = refl
record_long f same (part_head h) = refl
record_long f same (target_head q) = refl
record_long f same (text_run cs) = refl
record_long f same (inline x) = same x
record_long f same ill_text = refl
record_long f same (broken b) = refl

-- A FLATTENED UNIT has the records of the unit but for their forms
abbrev flat_record : Record → Record
flat_record r = on_record flat r

content_flat : (xs : Content) → content_records (flattened xs) ≡ map flat_record (content_records xs)
unfolding flattened flat
content_flat xs = content_kept form_S (λ x. true) xs

target_flat : (g : Target) → target_records (rewrite_target flat g) ≡ map flat_record (target_records g)
unfolding target_records rewrite_target flattened on_record
target_flat no_target = refl
target_flat (target q xs) = ap {B = List Record} (λ l. target_head q ∷ l) (content_flat xs)

records_flat : (p : Part) → part_records (flat_part p) ≡ map flat_record (part_records p)
unfolding part_records flat_part on_record
records_flat p =
    ap {B = List Record} (λ l. part_head p.head ∷ l)
    (ap₂ ◌++◌ (content_flat p.source) (target_flat p.target)
    ∙ sym (map-append flat_record (content_records p.source) (target_records p.target)))

parts_flat : (ps : List Part) → gather part_records (map flat_part ps) ≡ map flat_record (gather part_records ps)
unfolding gather
parts_flat [] = refl
parts_flat (p ∷ ps) = ap₂ ◌++◌ (records_flat p) (parts_flat ps) ∙ sym (map-append flat_record (part_records p) (gather part_records ps))

unit_flat : (u : XliffUnit) → unit_records (flat_unit u) ≡ map flat_record (unit_records u)
unfolding unit_records flat_unit with_parts on_record
unit_flat u =
    ap {B = List Record} (λ l. opening u.opening ∷ l)
    (ap (λ (l : List Record). l ++ (closing ∷ [])) (parts_flat u.parts)
    ∙ sym (map-append flat_record (gather part_records u.parts) (closing ∷ [])))

spell_flat : (rs : List Record) → length (spell (map flat_record rs)) ≡ length (spell rs)
unfolding spell gather flat
spell_flat [] = refl
spell_flat (r ∷ rs) =
    length-append (record_bytes (flat_record r)) (spell (map flat_record rs))
    ∙ ap₂ ◌+◌ (record_long flat (form_long form_S) r) (spell_flat rs) ∙ sym (length-append (record_bytes r) (spell rs))

-- and so one size
pub record SameSize (u v : XliffUnit) : Type 0 where
  pub size : length (encode u) ≡ length (encode v)
  pub records : length (unit_records u) ≡ length (unit_records v)
  pub parts : length u.parts ≡ length v.parts

flat_size : (u : XliffUnit) → SameSize (flat_unit u) u
unfolding encode flat_unit with_parts
flat_size u =
    record {
      size = ap (λ (l : List Record). length (spell l)) (unit_flat u) ∙ spell_flat (unit_records u);
      records = ap length (unit_flat u) ∙ length-map (unit_records u) flat_record;
      parts = length-map u.parts flat_part;
    }

pub same_size : (u v : XliffUnit) → flat_unit u ≡ flat_unit v → SameSize u v
same_size u v e =
    record {
      size = sym (flat_size u).size ∙ ap (λ (w : XliffUnit). length (encode w)) e ∙ (flat_size v).size;
      records = sym (flat_size u).records ∙ ap (λ (w : XliffUnit). length (unit_records w)) e ∙ (flat_size v).records;
      parts = sym (flat_size u).parts ∙ ap (λ (w : XliffUnit). length w.parts) e ∙ (flat_size v).parts;
    }
