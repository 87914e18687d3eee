-- A half in another form: its mark; and a rewritten table is as long, in bytes, records and parts.
use Prim.Native.Nat.{ℕ}
use mathlib.Core.Path.{◌≡◌, refl, ap, ◌∙◌}
use mathlib.Core.Bool.{Bool, true, false, cond, false≢true}
use mathlib.Core.List.{List, [], ◌∷◌}
use native.Mathlib.Omega.{arith}
use lib.ListN.{length, length-append, length-map}
use lib.Dec.{eqb}
use Rattle.xliff.specs.Bytes.{gather}
use Rattle.xliff.specs.Item.{Item, start, end, Form, text, character, standalone, isolated, pair, annotation_start, annotation_end, in_form, mark, class, half, is_half}
use Rattle.xliff.specs.Encode.{Record, inline, record_bytes, unit_records, spell, encode}
use Rattle.xliff.specs.Parse.{unit}
use Rattle.xliff.specs.Rules.{half_of_id}
use Rattle.xliff.specs.Focus.{with_parts}
use Rattle.xliff.specs.Rewrite.{rewrite_item, rewrite_part, rewrite_unit}
use Rattle.xliff.specs.Good.{on_record}
use Rattle.xliff.proofs.unit.Forms.{item_long, record_long}
use Rattle.places.specs.Passes.{Passes}
use Rattle.rewrite_marks.specs.Rewritten.{half_mark, if_inside, rewritten, inside_after, form_by}
use Rattle.rewrite_marks.proofs.RecordLaws.{unit_rewritten}

pub half_mark_lem : (p : Bool) (x : Item) → is_half x ≡ true → mark (in_form (form_by p) x) ≡ half_mark (class x) (half x) p
unfolding mark in_form class half
half_mark_lem p (text c) e = absurd (false≢true e)
half_mark_lem p (character c) e = absurd (false≢true e)
half_mark_lem p (standalone f) e = absurd (false≢true e)
half_mark_lem p (isolated h f) e = absurd (false≢true e)
half_mark_lem true (pair start v f) e = refl
half_mark_lem false (pair start v f) e = refl
half_mark_lem true (pair end v f) e = refl
half_mark_lem false (pair end v f) e = refl
half_mark_lem true (annotation_start v i t) e = refl
half_mark_lem false (annotation_start v i t) e = refl
half_mark_lem true (annotation_end v i) e = refl
half_mark_lem false (annotation_end v i) e = refl

module _ (i : ℕ) (w : Form) where
  abbrev f : Item → Item
  f = rewrite_item i w

  inside_long : (b : Bool) (x : Item) → length (record_bytes (inline (cond b (f x) x))) ≡ length (record_bytes (inline x))
  unfolding rewrite_item
  inside_long false x = refl
  inside_long true x = item_long w (half_of_id i x) x

  pub rewritten_long : (b : Bool) (r : Record) → length (record_bytes (on_record (if_inside b f) r)) ≡ length (record_bytes r)
  rewritten_long b r = record_long (if_inside b f) (inside_long b) r

  spell_long : (source b : Bool) (rs : List Record) → length (spell (rewritten f source b rs)) ≡ length (spell rs)
  unfolding rewritten spell gather
  spell_long source b [] = refl
  spell_long source b (r ∷ rs) =
      let a = length-append (record_bytes (on_record (if_inside b f) r)) (spell (rewritten f source (inside_after source b r) rs)) in
      let c = length-append (record_bytes r) (spell rs) in
      omega (arith, a, c, rewritten_long b r, spell_long source (inside_after source b r) rs)

  count_kept : (source b : Bool) (rs : List Record) → length (rewritten f source b rs) ≡ length rs
  unfolding rewritten
  count_kept source b [] = refl
  count_kept source b (r ∷ rs) = omega (arith, count_kept source (inside_after source b r) rs)

  -- the rewritten table has the table's length, records and parts
  module _ (t : List ℕ) (side : ℕ) (p : Passes t) where
    pub length_kept : length (encode (rewrite_unit (unit t) side i w)) ≡ length t
    unfolding encode
    length_kept = ap (λ (l : List Record). length (spell l)) (unit_rewritten i w (unit t) side) ∙ spell_long (eqb side 83) false (unit_records (unit t)) ∙ ap length p.bytes

    pub records_kept : length (unit_records (rewrite_unit (unit t) side i w)) ≡ length (unit_records (unit t))
    records_kept = ap (λ (l : List Record). length l) (unit_rewritten i w (unit t) side) ∙ count_kept (eqb side 83) false (unit_records (unit t))

    pub parts_kept : length (rewrite_unit (unit t) side i w).parts ≡ length (unit t).parts
    unfolding rewrite_unit with_parts
    parts_kept = length-map (unit t).parts (rewrite_part side f)
