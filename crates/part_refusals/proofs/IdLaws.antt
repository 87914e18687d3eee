-- An id among the records of a table, and among its parts.
use Rattle.places.specs.Offsets.{At}
use Prim.Native.Nat.{ℕ, suc, ◌+◌, ◌*◌, ◌≤◌}
use mathlib.Core.Path.{◌≡◌, refl, sym, ap, ◌∙◌, ap₂, subst}
use mathlib.Core.Bool.{Bool, true, false, not, ◌&&◌, ◌||◌, false≢true}
use mathlib.Core.List.{List, [], ◌∷◌, ◌++◌, append_assoc}
use native.Mathlib.Omega.{arith}
use lib.ListN.{length, drop, get_or}
use lib.Seq.{get_or-drop}
use lib.Dec.{eqb}
use borrow.Author.Tests.{ne_eqb, eq-eqb}
use Rattle.xliff.specs.Bytes.{any, gather, two, two_at}
use Rattle.xliff.specs.Item.{Item, Content, text, character, standalone, isolated, pair, annotation_start, annotation_end, mark, id_of}
use Rattle.xliff.specs.Unit.{Target, no_target, target, Part, XliffUnit, head_id, target_items}
use Rattle.xliff.specs.Encode as encode
use Rattle.xliff.specs.Encode.{opening, closing, part_head, target_head, text_run, inline, ill_text, broken, code_bytes, field_bytes, head_bytes, record_bytes, text_before, item_before, content_records, target_records, part_records, unit_records, spell}
use Rattle.xliff.specs.Parse.{unit}
use Rattle.xliff.specs.Split.{has_id, part_has_id, id_taken}
use Rattle.xliff.proofs.lists.Tests.{any_append}
use Rattle.table.specs.Meaning.{item, record_meaning, body}
use Rattle.table.specs.declared.Item as read
use Rattle.table.specs.declared.Item.TheVariants.{Character, Standalone, Isolated, Pair, AnnotationStart, AnnotationEnd}
use Rattle.table.specs.declared.Half.TheVariants.{Start, End}
use Rattle.table.specs.declared.Form.TheVariants.{P, S}
use Rattle.table.specs.declared.Record.{Record}
use Rattle.table.specs.declared.Record.TheVariants.{Unit as UnitStart, UnitEnd, Segment, Ignorable, Target as TargetHead, Text, Inline}
use Rattle.glance.specs.declared.Glance.{Glance}
use Rattle.glance.specs.Glances.{kind_of, head_kind_in, is_marker, marker_in}
use Rattle.orders.proofs.WalkLaws.{Walked}

-- the id of a record, 0 where it has none
abbrev record_id : encode.Record → ℕ
record_id (opening c) = 0
record_id closing = 0
record_id (part_head h) = head_id h
record_id (target_head q) = 0
record_id (text_run cs) = 0
record_id (inline x) = id_of x
record_id ill_text = 0
record_id (broken b) = 0

abbrev pub has_record_id : ℕ → encode.Record → Bool
has_record_id i r = eqb (record_id r) i

-- the bytes of a record whose id stands behind the mark
abbrev Behind : encode.Record → Type 0
Behind r = (4 ≤ length (record_bytes r)) × ((rest : List ℕ) → two_at (record_bytes r ++ rest) 2 ≡ record_id r)

marker_behind : (x : read.Item) → is_marker x ≡ true → Behind (inline (item x))
unfolding record_bytes field_bytes code_bytes two two_at mark id_of
marker_behind (Character c) e = absurd (false≢true e)
marker_behind (Standalone f) e = (omega arith, λ rest. omega arith)
marker_behind (Isolated Start f) e = (omega arith, λ rest. omega arith)
marker_behind (Isolated End f) e = (omega arith, λ rest. omega arith)
marker_behind (Pair P Start f) e = (omega arith, λ rest. omega arith)
marker_behind (Pair P End f) e = (omega arith, λ rest. omega arith)
marker_behind (Pair S Start f) e = (omega arith, λ rest. omega arith)
marker_behind (Pair S End f) e = (omega arith, λ rest. omega arith)
marker_behind (AnnotationStart P i l) e = (omega arith, λ rest. omega arith)
marker_behind (AnnotationStart S i l) e = (omega arith, λ rest. omega arith)
marker_behind (AnnotationEnd P i) e = (omega arith, λ rest. omega arith)
marker_behind (AnnotationEnd S i) e = (omega arith, λ rest. omega arith)

-- a part or a marker, by the record and by a glance at it
abbrev is_named : Record → Bool
is_named x = eqb (head_kind_in x) 0 || marker_in x

named_behind : (cs : List ℕ) (x : Record) → is_named x ≡ true → Behind (record_meaning cs x)
unfolding record_bytes head_bytes two two_at head_id
named_behind cs (UnitStart c) e = absurd (false≢true e)
named_behind cs UnitEnd e = absurd (false≢true e)
named_behind cs (Segment f) e = (omega arith, λ rest. omega arith)
named_behind cs (Ignorable i) e = (omega arith, λ rest. omega arith)
named_behind cs (TargetHead q) e = absurd (false≢true e)
named_behind cs Text e = absurd (false≢true e)
named_behind cs (Inline i) e = marker_behind i e

unnamed : (cs : List ℕ) (x : Record) → is_named x ≡ false → record_id (record_meaning cs x) ≡ 0
unfolding id_of
unnamed cs (UnitStart c) e = refl
unnamed cs UnitEnd e = refl
unnamed cs (Segment f) e = absurd (false≢true (sym e))
unnamed cs (Ignorable i) e = absurd (false≢true (sym e))
unnamed cs (TargetHead q) e = refl
unnamed cs Text e = refl
unnamed cs (Inline (Character c)) e = refl
unnamed cs (Inline (Standalone f)) e = absurd (false≢true (sym e))
unnamed cs (Inline (Isolated h f)) e = absurd (false≢true (sym e))
unnamed cs (Inline (Pair w h f)) e = absurd (false≢true (sym e))
unnamed cs (Inline (AnnotationStart w i l)) e = absurd (false≢true (sym e))
unnamed cs (Inline (AnnotationEnd w i)) e = absurd (false≢true (sym e))

zero_not : (i : ℕ) → (i ≡ 0 → ⊥) → eqb 0 i ≡ false
zero_not i h = ne_eqb 0 i (λ e. h (sym e))

-- the record at a place of the walk
module _ (t : List ℕ) (at : ℕ) (rs : List encode.Record) (g : Glance) (a : At t at rs) (v : Walked t at rs g) where
  named_is : is_named v.the ≡ (eqb (kind_of g.head) 0 || g.marker)
  named_is = ap (λ (h : Glance). eqb (kind_of h.head) 0 || h.marker) (sym v.is)

  first_behind : eqb (kind_of g.head) 0 || g.marker ≡ true → Behind v.step.first
  first_behind e = subst Behind v.step.means (named_behind (body (drop at t)) v.the (named_is ∙ e))

  number_behind : two_at t (at + 2) ≡ two_at (drop at t) 2
  unfolding two_at
  number_behind =
      sym (ap₂ (λ (x y : ℕ). x * 256 + y) (get_or-drop at t 2 0)
      (get_or-drop at t 3 0 ∙ ap (λ (k : ℕ). get_or t k 0) (let z : at + 3 ≡ suc (at + 2) = omega arith in z)))

  number_there : two_at t (at + 2) ≡ two_at (record_bytes v.step.first ++ spell v.step.others) 2
  unfolding spell gather
  number_there = number_behind ∙ ap (λ (s : List ℕ). two_at s 2) (sym a.rest ∙ ap spell v.step.split)

  pub id_fits : eqb (kind_of g.head) 0 || g.marker ≡ true → at + 4 ≤ length t
  id_fits e = omega (arith, (first_behind e).0, v.step.wide, v.step.fits)

  pub has_walked : (i : ℕ) → (i ≡ 0 → ⊥) → (eqb (kind_of g.head) 0 || g.marker) && eqb (two_at t (at + 2)) i ≡ has_record_id i v.step.first
  has_walked i n = by (eqb (kind_of g.head) 0 || g.marker) refl
    where
      by : (b : Bool) → eqb (kind_of g.head) 0 || g.marker ≡ b → b && eqb (two_at t (at + 2)) i ≡ has_record_id i v.step.first
      by true e = ap (λ (k : ℕ). eqb k i) (number_there ∙ (first_behind e).1 (spell v.step.others))
      by false e = sym (ap (has_record_id i) (sym v.step.means) ∙ ap (λ (k : ℕ). eqb k i) (unnamed (body (drop at t)) v.the (named_is ∙ e)) ∙ zero_not i n)

module _ (i : ℕ) (some : eqb 0 i ≡ false) where
  abbrev Has : encode.Record → Bool
  Has = has_record_id i

  text_has : (c : ℕ) (rs : List encode.Record) → any Has (text_before c rs) ≡ any Has rs
  unfolding text_before any
  text_has c [] = rw some
  text_has c (opening d ∷ rs) = rw some
  text_has c (closing ∷ rs) = rw some
  text_has c (part_head h ∷ rs) = rw some
  text_has c (target_head q ∷ rs) = rw some
  text_has c (text_run cs ∷ rs) = rw some
  text_has c (inline x ∷ rs) = rw some
  text_has c (ill_text ∷ rs) = rw some
  text_has c (broken b ∷ rs) = rw some

  item_has : (x : Item) (rs : List encode.Record) → any Has (item_before x rs) ≡ has_id i x || any Has rs
  unfolding item_before has_id id_of any
  item_has (text c) rs = text_has c rs ∙ sym (ap (λ (b : Bool). b || any Has rs) some)
  item_has (character c) rs = refl
  item_has (standalone f) rs = refl
  item_has (isolated h f) rs = refl
  item_has (pair h w f) rs = refl
  item_has (annotation_start w j l) rs = refl
  item_has (annotation_end w j) rs = refl

  content_has : (xs : Content) → any Has (content_records xs) ≡ any (has_id i) xs
  unfolding content_records any
  content_has [] = refl
  content_has (x ∷ xs) = item_has x (content_records xs) ∙ ap (λ (b : Bool). has_id i x || b) (content_has xs)

  target_has : (g : Target) → any Has (target_records g) ≡ any (has_id i) (target_items g)
  unfolding target_records target_items any
  target_has no_target = refl
  target_has (target q xs) = ap (λ (b : Bool). b || any Has (content_records xs)) some ∙ content_has xs

  part_has : (p : Part) → any Has (part_records p) ≡ part_has_id i p
  unfolding part_records part_has_id any
  part_has p =
      ap (λ (b : Bool). eqb (head_id p.head) i || b)
      (any_append Has (content_records p.source) (target_records p.target)
      ∙ ap (λ (b : Bool). b || any Has (target_records p.target)) (content_has p.source)
      ∙ ap (λ (b : Bool). any (has_id i) p.source || b) (target_has p.target))

  parts_have : (ps : List Part) → any Has (gather part_records ps ++ (closing ∷ [])) ≡ any (part_has_id i) ps
  unfolding gather any
  parts_have [] = ap (λ (b : Bool). b || false) some
  parts_have (p ∷ ps) =
      ap (any Has) (append_assoc (part_records p) (gather part_records ps) (closing ∷ []))
      ∙ any_append Has (part_records p) (gather part_records ps ++ (closing ∷ []))
      ∙ ap (λ (b : Bool). b || any Has (gather part_records ps ++ (closing ∷ []))) (part_has p)
      ∙ ap (λ (b : Bool). part_has_id i p || b) (parts_have ps)

  unit_has : (u : XliffUnit) → any Has (unit_records u) ≡ any (part_has_id i) u.parts
  unfolding unit_records any
  unit_has u = ap (λ (b : Bool). b || any Has (gather part_records u.parts ++ (closing ∷ []))) some ∙ parts_have u.parts

pub taken_any : (t : List ℕ) (i : ℕ) → (i ≡ 0 → ⊥) → id_taken (unit t).parts i ≡ any (has_record_id i) (unit_records (unit t))
unfolding id_taken
taken_any t i h = ap (λ (b : Bool). not b && any (part_has_id i) (unit t).parts) (ne_eqb i 0 h) ∙ sym (unit_has i (zero_not i h) (unit t))

pub taken_zero : (ps : List Part) (i : ℕ) → i ≡ 0 → id_taken ps i ≡ false
unfolding id_taken
taken_zero ps i e = ap (λ (b : Bool). not b && any (part_has_id i) ps) (eq-eqb i 0 e)
