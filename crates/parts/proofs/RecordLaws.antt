-- The records of parts: their marks, their orders, one further, the end.
use Prim.Native.Nat.{ℕ, ◌<◌, ◌≤◌}
use mathlib.Core.Path.{◌≡◌, refl, sym, ap, ◌∙◌}
use mathlib.Core.Bool.{Bool, true, false, true≢false}
use mathlib.Core.List.{List, [], ◌∷◌, ◌++◌, append-nil}
use native.Mathlib.Omega.{arith}
use lib.ListN.{length}
use Rattle.xliff.specs.Item.{Item, start, end, form_P, form_S, text, character, standalone, isolated, pair, annotation_start, annotation_end, mark}
use Rattle.xliff.specs.Unit.{segment, ignorable}
use Rattle.xliff.specs.Encode.{Record, part_head, target_head, text_run, inline, head_bytes, record_bytes}
use Rattle.xliff.specs.Good.{Each, each_cons, GoodItem}
use Rattle.marks.specs.Marks.{marked}
use Rattle.walker.specs.Offsets.{WidthAt}
use Rattle.walk.specs.Kept.{InPart, head_in, target_in, item_in, text_in, RestOf}
use Rattle.walk.proofs.RecordLaws.{record_least, width_there, NextOf, next_of, none_left}
use Rattle.writer.specs.Pieces.{lead, Written}
use Rattle.heads.specs.Heads.{SomeTarget, OrderIs}
use Rattle.heads.proofs.HeadLaws.{target_long}
use Rattle.parts.specs.Parts.{order_record, One}

pub one_least : (t : List ℕ) → One t → 4 ≤ length t
one_least t (r, g, e) = let l : length t ≡ length (record_bytes r) = ap length e in omega (arith, record_least r g)

-- a record marked TG is a target, every other stays
pub record ATarget (r : Record) : Type 0 where
  pub order : ℕ
  pub is : r ≡ target_head order
  pub small : order < 65535

item_bare : (x : Item) → GoodItem x → marked (record_bytes (inline x)) (84 ∷ 71 ∷ []) ≡ false
unfolding record_bytes mark
item_bare (text c) g = absurd g
item_bare (character c) g = refl
item_bare (standalone f) g = refl
item_bare (isolated start f) g = refl
item_bare (isolated end f) g = refl
item_bare (pair start form_P f) g = refl
item_bare (pair start form_S f) g = refl
item_bare (pair end form_P f) g = refl
item_bare (pair end form_S f) g = refl
item_bare (annotation_start form_P i t) g = refl
item_bare (annotation_start form_S i t) g = refl
item_bare (annotation_end form_P i) g = refl
item_bare (annotation_end form_S i) g = refl

pub target_marked : (r : Record) → InPart r → marked (record_bytes r) (84 ∷ 71 ∷ []) ≡ true → ATarget r
unfolding record_bytes head_bytes
target_marked (Rattle.xliff.specs.Encode.opening _) x3 h = elim x3 [ ]
target_marked Rattle.xliff.specs.Encode.closing x3 h = elim x3 [ ]
target_marked Rattle.xliff.specs.Encode.ill_text x4 h = elim x4 [ ]
target_marked (Rattle.xliff.specs.Encode.broken _) x6 h = elim x6 [ ]
target_marked (part_head (segment f)) (head_in g) h = absurd (true≢false (sym h))
target_marked (part_head (ignorable i)) (head_in g) h = absurd (true≢false (sym h))
target_marked (target_head q) (target_in l) h = record { order = q; is = refl; small = l }
target_marked (inline x) (item_in g) h = absurd (true≢false (sym h ∙ item_bare x g))
target_marked (text_run cs) (text_in a l) h = absurd (true≢false (sym h))

pub others_stay : (f : ℕ → ℕ) (r : Record) → InPart r → marked (record_bytes r) (84 ∷ 71 ∷ []) ≡ false → order_record f r ≡ r
unfolding record_bytes
others_stay f (Rattle.xliff.specs.Encode.opening _) x3 e = elim x3 [ ]
others_stay f Rattle.xliff.specs.Encode.closing x3 e = elim x3 [ ]
others_stay f Rattle.xliff.specs.Encode.ill_text x4 e = elim x4 [ ]
others_stay f (Rattle.xliff.specs.Encode.broken _) x6 e = elim x6 [ ]
others_stay f (part_head h) (head_in g) e = refl
others_stay f (target_head q) (target_in l) e = absurd (true≢false e)
others_stay f (inline x) (item_in g) e = refl
others_stay f (text_run cs) (text_in a l) e = refl

-- what was tested is the mark of the record
pub mark_tested : (r : Record) (t : List ℕ) → t ≡ record_bytes r → (tested answer : Bool) → tested ≡ marked t (84 ∷ 71 ∷ []) → tested ≡ answer
    → marked (record_bytes r) (84 ∷ 71 ∷ []) ≡ answer
mark_tested r t e tested answer h k = ap (λ (l : List ℕ). marked l (84 ∷ 71 ∷ [])) (sym e) ∙ sym h ∙ k

-- a record that is no target is copied
pub others_wrote : (f : ℕ → ℕ) (r : Record) → InPart r → (t o l : List ℕ) → t ≡ record_bytes r → marked (record_bytes r) (84 ∷ 71 ∷ []) ≡ false
    → l ≡ lead t o → l ≡ lead (record_bytes (order_record f r)) o
others_wrote f r g t o l e bare w = w ∙ ap (λ (x : List ℕ). lead x o) (e ∙ ap record_bytes (sym (others_stay f r g bare)))

as_target : (r : Record) (b : ATarget r) (t : List ℕ) → t ≡ record_bytes r → t ≡ record_bytes (target_head b.order) ++ []
as_target r b t e = e ∙ ap record_bytes b.is ∙ sym (append-nil (record_bytes (target_head b.order)))

pub some_target : (r : Record) → ATarget r → (t : List ℕ) → t ≡ record_bytes r → SomeTarget t
some_target r b t e = (b.order, [], as_target r b t e)

-- a target whose order n was read
module _ (r : Record) (b : ATarget r) (t : List ℕ) (e : t ≡ record_bytes r) (n : ℕ) (read : OrderIs t n) where
  pub order_is : n ≡ b.order
  order_is = read b.order [] (as_target r b t e)

  -- it is written with the order k
  pub moved_room : (k : ℕ) (o : List ℕ) → length t ≤ length o → length (record_bytes (target_head k)) ≤ length o
  moved_room k o h = omega (arith, ap length (e ∙ ap record_bytes b.is), target_long k, target_long b.order)

  pub target_moved : (f : ℕ → ℕ) (k : ℕ) → k ≡ f n → (o l : List ℕ) (m : ℕ) → Written (record_bytes (target_head k)) o m l → l ≡ lead (record_bytes (order_record f r)) o
  target_moved f k h o l m w =
      w.1 ∙ ap (λ (x : ℕ). lead (record_bytes (target_head x)) o) (h ∙ ap f order_is) ∙ ap (λ (x : Record). lead (record_bytes (order_record f x)) o) (sym b.is)

-- the walk over the records of parts
each_first : (r : Record) (rs : List Record) → Each InPart (r ∷ rs) → InPart r × Each InPart rs
each_first r rs (each_cons g h) = (g, h)

pub next : (t : List ℕ) (at w : ℕ) (rs : List Record) → at < length t → RestOf (Each InPart) t at rs → WidthAt t at w
    → NextOf InPart (Each InPart) t at w rs
next t at w rs h m e = next_of InPart (Each InPart) each_first (λ r g. g) t at w rs h m (width_there t at w e)

pub rest_end : (t : List ℕ) (at : ℕ) (rs : List Record) → length t ≤ at → RestOf (Each InPart) t at rs → rs ≡ []
rest_end t at rs h m = none_left InPart (Each InPart) each_first (λ r g. g) t at rs h m
