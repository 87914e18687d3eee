-- Records that stand one behind the other in a table or in a content: the first of them, those passed, the end.
use Prim.Native.Nat.{ℕ, ◌+◌, ◌-◌, ◌<◌, ◌≤◌}
use mathlib.Core.Path.{◌≡◌, refl, sym, ap, ap₂, ◌∙◌}
use mathlib.Core.List.{List, [], ◌∷◌, ◌++◌, append_assoc, append-nil}
use native.Mathlib.Omega.{arith}
use lib.ListN.{length, take, drop, length-append, length-drop}
use lib.Seq.{drop-append_seam, take-append_seam, drop-drop}
use Rattle.xliff.specs.Bytes.{two, four, gather}
use Rattle.xliff.specs.Item.{Item, start, end, form_P, form_S, text, character, standalone, isolated, pair, annotation_start, annotation_end, mark}
use Rattle.xliff.specs.Unit.{Head, segment, ignorable}
use Rattle.xliff.specs.Encode.{Record, part_head, target_head, text_run, inline, code_bytes, field_bytes, head_bytes, record_bytes, spell}
use Rattle.xliff.specs.Parse.{mark_at, size_of}
use Rattle.xliff.specs.Good.{GoodItem, GoodRecord}
use Rattle.xliff.proofs.unit.Pieces.{spell_append}
use Rattle.marks.proofs.RecordLaws.{record_size}
use Rattle.walker.specs.Offsets.{WidthAt}
use Rattle.walk.specs.Kept.{InPart, head_in, target_in, item_in, text_in, RestOf}

pub good_in : (r : Record) → InPart r → GoodRecord r
good_in (Rattle.xliff.specs.Encode.opening _) x'' = elim x'' [ ]
good_in Rattle.xliff.specs.Encode.closing x'' = elim x'' [ ]
good_in Rattle.xliff.specs.Encode.ill_text x3 = elim x3 [ ]
good_in (Rattle.xliff.specs.Encode.broken _) x5 = elim x5 [ ]
good_in (part_head h) (head_in g) = g
good_in (target_head q) (target_in l) = tt
good_in (inline x) (item_in g) = g
good_in (text_run cs) (text_in a l) = a

-- a record of a part has at least four bytes
item_least : (x : Item) → GoodItem x → 4 ≤ length (record_bytes (inline x))
unfolding record_bytes mark field_bytes code_bytes two four
item_least (text c) g = absurd g
item_least (character c) g = omega arith
item_least (standalone f) g = omega arith
item_least (isolated start f) g = omega arith
item_least (isolated end f) g = omega arith
item_least (pair start form_P f) g = omega arith
item_least (pair start form_S f) g = omega arith
item_least (pair end form_P f) g = omega arith
item_least (pair end form_S f) g = omega arith
item_least (annotation_start form_P i t) g = omega arith
item_least (annotation_start form_S i t) g = omega arith
item_least (annotation_end form_P i) g = omega arith
item_least (annotation_end form_S i) g = omega arith

pub head_least : (h : Head) → 4 ≤ length (record_bytes (part_head h))
unfolding record_bytes head_bytes two
head_least (segment f) = omega arith
head_least (ignorable i) = omega arith

pub record_least : (r : Record) → InPart r → 4 ≤ length (record_bytes r)
unfolding record_bytes two
record_least (Rattle.xliff.specs.Encode.opening _) x'' = elim x'' [ ]
record_least Rattle.xliff.specs.Encode.closing x'' = elim x'' [ ]
record_least Rattle.xliff.specs.Encode.ill_text x3 = elim x3 [ ]
record_least (Rattle.xliff.specs.Encode.broken _) x5 = elim x5 [ ]
record_least (part_head h) (head_in g) = head_least h
record_least (target_head q) (target_in l) = omega arith
record_least (inline x) (item_in g) = item_least x g
record_least (text_run cs) (text_in a l) = omega arith

-- w is the width of the record that stands in t at the offset at, whichever it is
abbrev pub WidthThere : List ℕ → ℕ → ℕ → Type 0
WidthThere t at w = (r : Record) (s : List ℕ) → InPart r → drop at t ≡ record_bytes r ++ s → w ≡ length (record_bytes r)

-- by its mark
pub size_there : (t : List ℕ) (at : ℕ) → WidthThere t at (size_of (mark_at (drop at t)) (drop at t))
size_there t at r s g e = ap (λ (l : List ℕ). size_of (mark_at l) l) e ∙ record_size r s (good_in r g)

-- by the walker
pub width_there : (t : List ℕ) (at w : ℕ) → WidthAt t at w → WidthThere t at w
width_there t at w h r s g e =
    let long : length (drop at t) ≡ length (record_bytes r) + length s = ap length e ∙ length-append (record_bytes r) s in
    h.0 (omega (arith, record_least r g)) ∙ size_there t at r s g e

-- The first of the records rs that stand in t from the offset at. It is as P says, the others are as F says, and w is
-- its width
pub record NextOf (P : Record → Type 0) (F : List Record → Type 0) (t : List ℕ) (at w : ℕ) (rs : List Record) : Type 0 where
  pub first : Record
  pub others : List Record
  pub all : rs ≡ first ∷ others
  pub good : P first
  pub bytes : drop at t ≡ record_bytes first ++ spell others
  pub width : w ≡ length (record_bytes first)
  pub least : 4 ≤ w
  pub fit : at + w ≤ length t
  pub slice : take (at + w - at) (drop at t) ≡ record_bytes first
  pub rest : RestOf F t (at + w) others

-- what F says of records it says of the first, by P, and of the others
module _ (P : Record → Type 0) (F : List Record → Type 0) (parted : (r : Record) (rs : List Record) → F (r ∷ rs) → P r × F rs)
    (in_part : (r : Record) → P r → InPart r) where
  pub next_of : (t : List ℕ) (at w : ℕ) (rs : List Record) → at < length t → RestOf F t at rs → WidthThere t at w → NextOf P F t at w rs
  unfolding spell gather
  next_of t at w [] h m k =
      absurd (let z : 0 ≡ length (drop at t) = ap length m.bytes in let y : ⊥ = omega (arith, length-drop at t) in y)
  next_of t at w (r ∷ rs) h m k =
      let (g, others) = parted r rs m.kept in
      let e : drop at t ≡ record_bytes r ++ spell rs = sym m.bytes in
      let wide : w ≡ length (record_bytes r) = k r (spell rs) (in_part r g) e in
      let least = record_least r (in_part r g) in
      let long : length (drop at t) ≡ length (record_bytes r) + length (spell rs) = ap length e
      ∙ length-append (record_bytes r) (spell rs) in
      record {
        first = r;
        others = rs;
        all = refl;
        good = g;
        bytes = e;
        width = wide;
        least = omega arith;
        fit = omega (arith, length-drop at t);
        slice = ap₂ (λ (n : ℕ) (l : List ℕ). take n l) (let z : at + w - at ≡ length (record_bytes r) = omega arith in z) e
            ∙ take-append_seam (record_bytes r) (spell rs);
        rest = record {
          kept = others;
          bytes = sym (sym (rw drop-drop) ∙ ap₂ (λ (n : ℕ) (l : List ℕ). drop n l) wide e ∙ drop-append_seam (record_bytes r) (spell rs));
        };
      }

  pub none_left : (t : List ℕ) (at : ℕ) (rs : List Record) → length t ≤ at → RestOf F t at rs → rs ≡ []
  unfolding spell gather
  none_left t at [] h m = refl
  none_left t at (r ∷ rs) h m =
      let least = record_least r (in_part r (parted r rs m.kept).0) in
      let z : length (record_bytes r ++ spell rs) ≡ length (drop at t) = ap length m.bytes in
      absurd (let y : ⊥ = omega (arith, length-drop at t, length-append (record_bytes r) (spell rs)) in y)

-- of the records rs some are passed, up to the offset at of t
pub record Upto (F : List Record → Type 0) (t : List ℕ) (rs : List Record) (at : ℕ) : Type 0 where
  pub before : List Record
  pub after : List Record
  pub all : rs ≡ before ++ after
  pub rest : RestOf F t at after
  pub offset : at ≡ length (spell before)

pub spell_one : (r : Record) → spell (r ∷ []) ≡ record_bytes r
unfolding spell gather
spell_one r = append-nil (record_bytes r)

module _ (F : List Record → Type 0) where
  unfoldable pub upto_start : (t : List ℕ) (rs : List Record) → RestOf F t 0 rs → Upto F t rs 0
  unfolding spell gather
  upto_start t rs m = record { before = []; after = rs; all = refl; rest = m; offset = refl }

  -- one record further
  unfoldable pub upto_on : (P : Record → Type 0) (t : List ℕ) (rs : List Record) (at w : ℕ) (m : Upto F t rs at)
      → NextOf P F t at w m.after → Upto F t rs (at + w)
  upto_on P t rs at w m n =
      let e = ap length (spell_append m.before (n.first ∷ []) ∙ ap (λ (l : List ℕ). spell m.before ++ l) (spell_one n.first)) in
      record {
        before = m.before ++ (n.first ∷ []);
        after = n.others;
        all = m.all ∙ ap (λ (l : List Record). m.before ++ l) n.all ∙ sym (append_assoc m.before (n.first ∷ []) n.others);
        rest = n.rest;
        offset = omega (arith, m.offset, n.width, e, length-append (spell m.before) (record_bytes n.first));
      }
