-- One mark written: the bytes of a record in the place of those of the record as it was.
use Prim.Native.Nat.{ℕ, ◌+◌}
use mathlib.Core.Path.{◌≡◌, refl, sym, ap, ap₂, ◌∙◌}
use mathlib.Core.Bool.{Bool, true, false, not, ◌&&◌, cond}
use mathlib.Core.List.{List, ◌++◌, append_assoc}
use lib.ListN.{length, drop}
use lib.Dec.{eqb}
use lib.Seq.{take-append_seam, drop-append_seam, drop-append-add}
use Rattle.xliff.specs.Item.{Item, text, in_form, mark, class, half, is_half}
use Rattle.xliff.specs.Encode as encode
use Rattle.xliff.specs.Encode.{opening, closing, part_head, target_head, text_run, inline, ill_text, broken, field_bytes, record_bytes}
use Rattle.xliff.specs.Rules.{half_of_id}
use Rattle.xliff.specs.Rewrite.{rewrite_item}
use Rattle.xliff.proofs.lists.Tests.{and_false, and_left}
use Rattle.places.specs.Markers.{item_in}
use Rattle.table.specs.Meaning.{record_meaning}
use Rattle.table.specs.declared.Record.{Record}
use Rattle.table.specs.declared.Record.TheVariants.{Unit as UnitStart, UnitEnd, Segment, Ignorable, Target, Text, Inline}
use Rattle.glance.specs.Glances.{head_kind_in}
use Rattle.keys.specs.Keys.{key, id_key, class_key, half_key}
use Rattle.keys.proofs.KeyLaws.{id_key_lem, class_key_lem, half_key_lem}
use Rattle.writer.specs.Pieces.{overlay}
use Rattle.rewrite_marks.specs.Rewritten.{inside_after, if_inside, form_by, inside_of, half_mark, formed}
use Rattle.xliff.specs.Good.{on_record}
use Rattle.xliff.proofs.unit.Forms.{mark_long, fields_kept}
use Rattle.rewrite_marks.proofs.LengthLaws.{half_mark_lem}

pub inside_is : (source inside : Bool) (cs : List ℕ) (x : Record) → inside_of source inside (head_kind_in x) ≡ inside_after source inside (record_meaning cs x)
unfolding inside_after
inside_is source inside cs (UnitStart c) = refl
inside_is source inside cs UnitEnd = refl
inside_is source inside cs (Segment f) = refl
inside_is source inside cs (Ignorable i) = refl
inside_is source inside cs (Target q) = refl
inside_is source inside cs Text = refl
inside_is source inside cs (Inline i) = refl

module _ (inside : Bool) (i : ℕ) (p : Bool) (x : Item) (out : List ℕ) (at : ℕ) where
  pub formed_outside : inside ≡ false → out ≡ formed inside i p x out at
  unfolding formed
  formed_outside z = rw z

  -- the key k of the item, and the half h in it, tell whether it is a half of the id
  module _ (k h : ℕ) (e : k ≡ key x) (f : h ≡ half_key k) where
    half_is : h ≡ half x
    half_is = f ∙ ap (λ (j : ℕ). half_key j) e ∙ half_key_lem x

    test_is : not (eqb h 0) && eqb (id_key k) i ≡ half_of_id i x
    unfolding half_of_id
    test_is = ap₂ (λ (a b : ℕ). not (eqb a 0) && eqb b i) half_is (ap (λ (j : ℕ). id_key j) e ∙ id_key_lem x)

    pub formed_half : (c : ℕ) (last : List ℕ) → c ≡ class_key k → inside ≡ true → not (eqb h 0) && eqb (id_key k) i ≡ true
        → last ≡ overlay out at (half_mark c h p) → last ≡ formed inside i p x out at
    unfolding formed
    formed_half c last d y z l =
        rw (y, sym test_is ∙ z) (l ∙ ap₂ (λ (a b : ℕ). overlay out at (half_mark a b p)) (d ∙ ap (λ (j : ℕ). class_key j) e ∙ class_key_lem x) half_is)

    pub formed_none : not (eqb h 0) && eqb (id_key k) i ≡ false → out ≡ formed inside i p x out at
    unfolding formed
    formed_none z = rw (sym test_is ∙ z, and_false inside)

-- a mark in the place of a mark
over_mark : (done old new s : List ℕ) → length old ≡ length new → overlay (done ++ (old ++ s)) (length done) new ≡ done ++ (new ++ s)
over_mark done old new s e =
    ap₂ (λ (a b : List ℕ). a ++ new ++ b) (take-append_seam done (old ++ s))
    (ap (λ (n : ℕ). drop (length done + n) (done ++ (old ++ s))) (sym e) ∙ drop-append-add done (old ++ s) (length old) ∙ drop-append_seam old s)
    ∙ append_assoc done new s

module _ (i : ℕ) (p : Bool) where
  abbrev f : Item → Item
  f = rewrite_item i (form_by p)

  no_half : (inside : Bool) (c : ℕ) (out : List ℕ) (at : ℕ) → formed inside i p (text c) out at ≡ out
  unfolding formed half_of_id half
  no_half inside c out at = rw (and_false inside)

  inline_formed : (inside : Bool) (x : Item) (done rest : List ℕ)
      → formed inside i p x (done ++ (record_bytes (inline x) ++ rest)) (length done) ≡ done ++ (record_bytes (inline (cond inside (f x) x)) ++ rest)
  unfolding formed half_of_id record_bytes rewrite_item
  inline_formed false x done rest = refl
  inline_formed true x done rest = by (half_of_id i x) refl
    where
      halved : half_of_id i x ≡ true → is_half x ≡ true
      halved e = and_left _ _ e

      by : (b : Bool) → half_of_id i x ≡ b
          → cond b (overlay (done ++ (record_bytes (inline x) ++ rest)) (length done) (half_mark (class x) (half x) p)) (done ++ (record_bytes (inline x) ++ rest))
          ≡ done ++ (record_bytes (inline (rewrite_item i (form_by p) x)) ++ rest)
      by true e =
          ap₂ (λ (l m : List ℕ). overlay (done ++ l) (length done) m) (append_assoc (mark x) (field_bytes x) rest) (sym (half_mark_lem p x (halved e)))
          ∙ over_mark done (mark x) (mark (in_form (form_by p) x)) (field_bytes x ++ rest) (mark_long x ∙ sym (mark_long (in_form (form_by p) x)))
          ∙ ap (λ (l : List ℕ). done ++ l)
          (ap (λ (l : List ℕ). mark (in_form (form_by p) x) ++ (l ++ rest)) (sym (fields_kept (form_by p) x))
          ∙ sym (append_assoc (mark (in_form (form_by p) x)) (field_bytes (in_form (form_by p) x)) rest))
          ∙ rw e refl
      by false e = rw e refl

  pub record_formed : (inside : Bool) (r : encode.Record) (done rest : List ℕ)
      → formed inside i p (item_in r) (done ++ (record_bytes r ++ rest)) (length done) ≡ done ++ (record_bytes (on_record (if_inside inside f) r) ++ rest)
  unfolding item_in on_record
  record_formed inside (opening c) done rest = no_half inside 0 _ _
  record_formed inside closing done rest = no_half inside 0 _ _
  record_formed inside (part_head h) done rest = no_half inside 0 _ _
  record_formed inside (target_head q) done rest = no_half inside 0 _ _
  record_formed inside (text_run cs) done rest = no_half inside 0 _ _
  record_formed inside (inline x) done rest = inline_formed inside x done rest
  record_formed inside ill_text done rest = no_half inside 0 _ _
  record_formed inside (broken b) done rest = no_half inside 0 _ _
