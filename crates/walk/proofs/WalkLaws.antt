-- A walk over the records of a content: one further, the end, a search; what marks say.
use Rattle.xliff.specs.Good.{GoodItem}
use Prim.Native.Nat.{ℕ, ◌+◌, ◌-◌, ◌<◌, ◌≤◌}
use mathlib.Core.Path.{◌≡◌, refl, sym, ap, ◌∙◌}
use mathlib.Core.Bool.{Bool, true, false, ◌&&◌, ◌||◌}
use mathlib.Core.List.{List, [], ◌∷◌, ◌++◌, map}
use native.Mathlib.Omega.{arith}
use lib.ListN.{length, take, drop}
use lib.Dec.{eqb}
use Rattle.std.specs.Prelude.{Option, Some, None}
use Rattle.xliff.specs.Bytes.{two, four, two_at, any}
use Rattle.xliff.specs.Item.{Item, Content, start, end, form_P, form_S, text, character, standalone, isolated, pair, annotation_start, annotation_end, mark, id_of}
use Rattle.xliff.specs.Encode.{Record, text_run, inline, code_bytes, field_bytes, record_bytes, spell}
use Rattle.xliff.specs.Parse.{is, mark_of, mark_at, reading, take_record, size_of}
use Rattle.xliff.proofs.lists.Tests.{two_value}
use Rattle.marks.specs.Marks.{meaning}
use Rattle.marks.specs.declared.Mark.{Mark}
use Rattle.marks.proofs.RecordLaws.{mark_front}
use Rattle.walker.specs.Offsets.{MarkAt, WidthAt}
use Rattle.walk.specs.Kept.{kept_item, kept_text, Of, items, Inline, an_item, a_text, InPart, item_in, text_in, InContent, Rest}
use Rattle.walk.specs.declared.HalfKind.{HalfKind}
use Rattle.walk.specs.Marks.{number, kind_at, kind, are_opposite, is_other, has_other}
use Rattle.walk.proofs.RecordLaws.{record_least, size_there, width_there, NextOf, next_of, none_left}

-- what is no half has no other half
pub no_opposite : (k : Option HalfKind) → are_opposite k None ≡ false
no_opposite None = refl
no_opposite (Some k) = refl

pub no_other : (i : ℕ) (ys : Content) → has_other None i ys ≡ false
unfolding any has_other
no_other i [] = refl
no_other i (y ∷ ys) = no_other i ys

none : (k : Option HalfKind) (a b : Bool) → are_opposite k None && a ≡ are_opposite k None && b
none k a b = rw (no_opposite k)

-- an inline record that is good: its kind, its id
module _ (s : List ℕ) where
  pub item_kind : (x : Item) → GoodItem x → kind_at (record_bytes (inline x) ++ s) ≡ kind x
  unfolding kind_at mark_at mark_of is record_bytes mark field_bytes code_bytes two four
  item_kind (text c) g = absurd g
  item_kind (character c) g = refl
  item_kind (standalone f) g = refl
  item_kind (isolated start f) g = refl
  item_kind (isolated end f) g = refl
  item_kind (pair start form_P f) g = refl
  item_kind (pair start form_S f) g = refl
  item_kind (pair end form_P f) g = refl
  item_kind (pair end form_S f) g = refl
  item_kind (annotation_start form_P i t) g = refl
  item_kind (annotation_start form_S i t) g = refl
  item_kind (annotation_end form_P i) g = refl
  item_kind (annotation_end form_S i) g = refl

  pub text_kind : (cs : List ℕ) → kind_at (record_bytes (text_run cs) ++ s) ≡ None
  unfolding kind_at mark_at mark_of is record_bytes two
  text_kind cs = refl

  -- whether a record is the other half of one of a kind and id, by its bytes
  pub item_other : (k : Option HalfKind) (i : ℕ) (x : Item) → GoodItem x
      → are_opposite k (kind_at (record_bytes (inline x) ++ s)) && eqb i (number (record_bytes (inline x) ++ s)) ≡ is_other k i x
  unfolding kind_at mark_at mark_of is two_at record_bytes mark field_bytes code_bytes two four id_of
  item_other k i (text c) g = absurd g
  item_other k i (character c) g = none k _ _
  item_other k i (standalone f) g = none k _ _
  item_other k i (isolated start f) g = none k _ _
  item_other k i (isolated end f) g = none k _ _
  item_other k i (pair start form_P f) g = rw (two_value f.id)
  item_other k i (pair start form_S f) g = rw (two_value f.id)
  item_other k i (pair end form_P f) g = rw (two_value f.id)
  item_other k i (pair end form_S f) g = rw (two_value f.id)
  item_other k i (annotation_start form_P j t) g = rw (two_value j)
  item_other k i (annotation_start form_S j t) g = rw (two_value j)
  item_other k i (annotation_end form_P j) g = rw (two_value j)
  item_other k i (annotation_end form_S j) g = rw (two_value j)

-- inline records are records of parts
pub inline_in : (r : Record) → Inline r → InPart r
inline_in (Rattle.xliff.specs.Encode.opening _) x'' = elim x'' [ ]
inline_in Rattle.xliff.specs.Encode.closing x'' = elim x'' [ ]
inline_in (Rattle.xliff.specs.Encode.part_head _) x4 = elim x4 [ ]
inline_in (Rattle.xliff.specs.Encode.target_head _) x5 = elim x5 [ ]
inline_in Rattle.xliff.specs.Encode.ill_text x5 = elim x5 [ ]
inline_in (Rattle.xliff.specs.Encode.broken _) x7 = elim x7 [ ]
inline_in (inline x) (an_item g) = item_in g
inline_in (text_run cs) (a_text a l) = text_in a l

pub inline_least : (r : Record) → Inline r → 4 ≤ length (record_bytes r)
inline_least r g = record_least r (inline_in r g)

parted : (r : Record) (rs : List Record) → InContent (r ∷ rs) → Inline r × InContent rs
parted r rs (b, kept_item g k) = (an_item g, (false, k))
parted r rs (b, kept_text a l k) = (a_text a l, (true, k))

-- the walk over a content
abbrev pub Next : List ℕ → ℕ → ℕ → List Record → Type 0
Next c at w rs = NextOf Inline InContent c at w rs

pub rest_start : (c : List ℕ) (rs : List Record) → Of c rs → Rest c 0 rs
rest_start c rs o = record { kept = (false, o.0); bytes = o.1 }

pub next : (c : List ℕ) (at w : ℕ) (rs : List Record) → at < length c → Rest c at rs → WidthAt c at w → Next c at w rs
next c at w rs h m k = next_of Inline InContent parted inline_in c at w rs h m (width_there c at w k)

pub rest_end : (c : List ℕ) (at : ℕ) (rs : List Record) → length c ≤ at → Rest c at rs → rs ≡ []
rest_end c at rs h m = none_left Inline InContent parted inline_in c at rs h m

-- the same, the width by the mark
pub first_of : (c : List ℕ) (at : ℕ) (rs : List Record) → at < length c → Rest c at rs
    → Next c at (size_of (mark_at (drop at c)) (drop at c)) rs
first_of c at rs h m = next_of Inline InContent parted inline_in c at (size_of (mark_at (drop at c)) (drop at c)) rs h m (size_there c at)

-- the mark read at the offset is that of the record
pub next_mark : (c : List ℕ) (at w : ℕ) (rs : List Record) (n : Next c at w rs) (m : Mark) → MarkAt c at m
    → meaning m ≡ mark_at (take (at + w - at) (drop at c))
next_mark c at w rs n m e =
    e ∙ ap mark_at n.bytes ∙ mark_front (record_bytes n.first) (spell n.others) (omega (arith, n.width, n.least))
    ∙ ap mark_at (sym n.slice)

-- The walk that looks for an item that passes a test p
pub record Searched (p : Item → Bool) (c : List ℕ) (rs : List Record) (at : ℕ) : Type 0 where
  pub after : List Record
  pub rest : Rest c at after
  pub same : any p (items rs) ≡ any p (items after)

pub search_start : (p : Item → Bool) (c : List ℕ) (rs : List Record) → Of c rs → Searched p c rs 0
search_start p c rs o = record { after = rs; rest = rest_start c rs o; same = refl }

pub search_end : (p : Item → Bool) (c : List ℕ) (rs : List Record) (at : ℕ) → length c ≤ at → Searched p c rs at → false ≡ any p (items rs)
unfolding any reading
search_end p c rs at h m = sym (m.same ∙ ap (λ (l : List Record). any p (items l)) (rest_end c at m.after h m.rest))

-- no text passes p, and a test q of bytes is p at each good record
module _ (p : Item → Bool) (q : List ℕ → Bool) (no_text : (c : ℕ) → p (text c) ≡ false)
    (texts : (cs s : List ℕ) → q (record_bytes (text_run cs) ++ s) ≡ false)
    (others : (x : Item) (s : List ℕ) → GoodItem x → q (record_bytes (inline x) ++ s) ≡ p x) where
  pub any_texts : (cs : List ℕ) (ys : Content) → any p (map text cs ++ ys) ≡ any p ys
  unfolding any
  any_texts [] ys = refl
  any_texts (c ∷ cs) ys = rw (no_text c) (any_texts cs ys)

  any_first : (r : Record) (rs : List Record) (s : List ℕ) → Inline r → any p (items (r ∷ rs)) ≡ q (record_bytes r ++ s) || any p (items rs)
  unfolding any reading take_record
  any_first (Rattle.xliff.specs.Encode.opening _) rs s x'' = elim x'' [ ]
  any_first Rattle.xliff.specs.Encode.closing rs s x'' = elim x'' [ ]
  any_first (Rattle.xliff.specs.Encode.part_head _) rs s x4 = elim x4 [ ]
  any_first (Rattle.xliff.specs.Encode.target_head _) rs s x5 = elim x5 [ ]
  any_first Rattle.xliff.specs.Encode.ill_text rs s x5 = elim x5 [ ]
  any_first (Rattle.xliff.specs.Encode.broken _) rs s x7 = elim x7 [ ]
  any_first (inline x) rs s (an_item g) = rw (others x s g)
  any_first (text_run cs) rs s (a_text a l) = any_texts cs (items rs) ∙ rw (texts cs s)

  any_step : (c : List ℕ) (at w : ℕ) (rs : List Record) (n : Next c at w rs) → any p (items rs) ≡ q (drop at c) || any p (items n.others)
  any_step c at w rs n =
      ap (λ (l : List Record). any p (items l)) n.all ∙ any_first n.first n.others (spell n.others) n.good
      ∙ ap (λ (l : List ℕ). q l || any p (items n.others)) (sym n.bytes)

  -- the walk stops, or goes on
  module _ (c : List ℕ) (rs : List Record) (at w : ℕ) (m : Searched p c rs at) (n : Next c at w m.after) where
    step : (b : Bool) → q (drop at c) ≡ b → any p (items rs) ≡ b || any p (items n.others)
    step b e = m.same ∙ any_step c at w m.after n ∙ ap (λ (d : Bool). d || any p (items n.others)) e

    pub search_found : q (drop at c) ≡ true → true ≡ any p (items rs)
    search_found e = sym (step true e)

    pub search_on : q (drop at c) ≡ false → Searched p c rs (at + w)
    search_on e = record { after = n.others; rest = n.rest; same = step false e }

-- the other half of a kind and id
module _ (k : Option HalfKind) (i : ℕ) where
  abbrev other_bytes : List ℕ → Bool
  other_bytes l = are_opposite k (kind_at l) && eqb i (number l)

  text_false : (c : ℕ) → is_other k i (text c) ≡ false
  text_false c = rw (no_opposite k)

  text_bytes_false : (cs s : List ℕ) → other_bytes (record_bytes (text_run cs) ++ s) ≡ false
  text_bytes_false cs s = rw (text_kind s cs, no_opposite k)

  -- texts have none
  pub texts_other : (cs : List ℕ) (ys : Content) → has_other k i (map text cs ++ ys) ≡ has_other k i ys
  unfolding has_other
  texts_other cs ys = any_texts (is_other k i) other_bytes text_false text_bytes_false (λ x s g. item_other s k i x g) cs ys

  module _ (c : List ℕ) (rs : List Record) (at w : ℕ) (m : Searched (is_other k i) c rs at) (n : Next c at w m.after) where
    pub other_found : other_bytes (drop at c) ≡ true → true ≡ has_other k i (items rs)
    unfolding has_other
    other_found e = search_found (is_other k i) other_bytes text_false text_bytes_false (λ x s g. item_other s k i x g) c rs at w m n e

    pub other_on : other_bytes (drop at c) ≡ false → Searched (is_other k i) c rs (at + w)
    other_on e = search_on (is_other k i) other_bytes text_false text_bytes_false (λ x s g. item_other s k i x g) c rs at w m n e

  pub other_none : (c : List ℕ) (rs : List Record) (at : ℕ) → length c ≤ at → Searched (is_other k i) c rs at
      → false ≡ has_other k i (items rs)
  unfolding has_other
  other_none c rs at h m = search_end (is_other k i) c rs at h m
