-- The bytes of a unit's opening, of a part's head and of a target's.
use Prim.Native.Nat.{ℕ, ◌+◌, ◌≤◌}
use mathlib.Core.Path.{◌≡◌, refl, sym, ap, ◌∙◌, subst}
use mathlib.Core.Bool.{true, false}
use mathlib.Core.List.{List, [], ◌∷◌, ◌++◌}
use native.Mathlib.Omega.{arith}
use lib.ListN.{length, get_or, length-append}
use Rattle.table.specs.Meaning.{segment_meaning}
use Rattle.xliff.specs.Bytes.{two, two_at}
use Rattle.xliff.specs.Unit as unit
use Rattle.xliff.specs.Unit.{Head, segment, ignorable, with_id, with_state}
use Rattle.xliff.specs.Encode.{target_head, record_bytes, head_bytes}
use Rattle.xliff.specs.Parse.{segment_at}
use Rattle.xliff.proofs.lists.Tests.{two_value}
use Rattle.marks.specs.Marks.{marked}
use Rattle.writer.specs.Pieces.{lead, overlay, number_bytes, Written}
use Rattle.writer.proofs.PieceLaws.{over_lead}
use Rattle.writer.proofs.RunLaws.{Pieces, pair}
use Rattle.table.specs.declared.Segment.{Segment}
use Rattle.heads.specs.Heads.{is_segment, SomeUnit, SomeTarget, SomeSegment, ResegmentIs, SegmentIs, FieldsAre, OrderIs, WroteId}

-- how long they are
pub segment_long : (f : unit.Segment) → length (head_bytes (segment f)) ≡ 6
unfolding head_bytes two
segment_long f = refl

pub some_long : (t : List ℕ) → SomeSegment t → length t ≡ 6
some_long t (f, e) = sym (ap length e) ∙ segment_long f

pub state_room : (t : List ℕ) → SomeSegment t → (f : unit.Segment) (o : List ℕ) → length t ≤ length o → length (head_bytes (segment f)) ≤ length o
state_room t s f o h = omega (arith, some_long t s, segment_long f)

pub head_long : (h : Head) → 4 ≤ length (head_bytes h)
unfolding head_bytes two
head_long (segment f) = omega arith
head_long (ignorable i) = omega arith

pub target_long : (q : ℕ) → length (record_bytes (target_head q)) ≡ 4
unfolding record_bytes two
target_long q = refl

pub unit_least : (t : List ℕ) → SomeUnit t → 3 ≤ length t
unfolding record_bytes
unit_least t (o, s, e) = omega (arith, ap length e)

pub target_least : (t : List ℕ) → SomeTarget t → 4 ≤ length t
target_least t (q, s, e) = omega (arith, ap length e, length-append (record_bytes (target_head q)) s, target_long q)

pub state_long : (st : ℕ) (h : Head) → length (head_bytes (with_state st h)) ≡ length (head_bytes h)
unfolding head_bytes with_state two
state_long st (segment f) = refl
state_long st (ignorable i) = refl

pub id_long : (id : ℕ) (h : Head) → length (head_bytes (with_id id h)) ≡ length (head_bytes h)
unfolding head_bytes with_id two
id_long id (segment f) = refl
id_long id (ignorable i) = refl

-- the fields with another state
abbrev pub with_fields : ℕ → unit.Segment → unit.Segment
with_fields st f = record { id = f.id; can_resegment = f.can_resegment; state = st }

-- what is read
pub resegment_read : (t : List ℕ) → ResegmentIs t (get_or t 2 0)
unfolding record_bytes
resegment_read t o s e = ap (λ (x : List ℕ). get_or x 2 0) e

marked_segment : (h : Head) → marked (head_bytes h) (83 ∷ 71 ∷ []) ≡ is_segment h
unfolding head_bytes
marked_segment (segment f) = refl
marked_segment (ignorable i) = refl

pub segment_read : (t : List ℕ) → SegmentIs t (marked t (83 ∷ 71 ∷ []))
segment_read t h e = ap (λ (x : List ℕ). marked x (83 ∷ 71 ∷ [])) (sym e) ∙ marked_segment h

-- the fields that stand in the bytes of a segment's head are its fields
pub fields_read : (t : List ℕ) (f : unit.Segment) → head_bytes (segment f) ≡ t → segment_at t ≡ f
unfolding segment_at head_bytes two two_at
fields_read t f e =
    ap segment_at (sym e) ∙ ap (λ (i : ℕ). record { id = i; can_resegment = f.can_resegment; state = f.state }) (two_value f.id)

pub order_read : (t : List ℕ) → OrderIs t (two_at t 2)
unfolding record_bytes two two_at
order_read t q s e = ap (λ (x : List ℕ). two_at x 2) e ∙ two_value q

-- a head that is a segment's, and one that is not
module _ (t : List ℕ) where
  pub some_segment : (h : Head) → head_bytes h ≡ t → is_segment h ≡ true → SomeSegment t
  some_segment (segment f) e y = (f, e)
  some_segment (ignorable i) e y = absurd (let z : ◌≡◌ {A = ℕ} 0 1 = cc in let x : ⊥ = omega arith in x)

  module _ (st : ℕ) (o l : List ℕ) (n : ℕ) where
    pub state_set : (g : Segment) → FieldsAre t g → Written (head_bytes (segment (with_fields st (segment_meaning g)))) o n l
        → (h : Head) → head_bytes h ≡ t → is_segment h ≡ true → Written (head_bytes (with_state st h)) o n l
    unfolding with_state
    state_set g r w (segment f) e y = subst (λ (x : unit.Segment). Written (head_bytes (segment (with_fields st x))) o n l) (r f e) w
    state_set g r w (ignorable i) e y = absurd (let z : ◌≡◌ {A = ℕ} 0 1 = cc in let x : ⊥ = omega arith in x)

    pub state_kept : Written t o n l → (h : Head) → head_bytes h ≡ t → is_segment h ≡ false → Written (head_bytes (with_state st h)) o n l
    unfolding with_state
    state_kept w (segment f) e y = absurd (let z : ◌≡◌ {A = ℕ} 0 1 = cc in let x : ⊥ = omega arith in x)
    state_kept w (ignorable i) e y = subst (λ (x : List ℕ). Written x o n l) (sym e) w

-- an id written over that of a head
id_over : (id : ℕ) (h : Head) (o : List ℕ) → overlay (lead (head_bytes h) o) 2 (number_bytes id) ≡ lead (head_bytes (with_id id h)) o
unfolding head_bytes with_id two
id_over id (segment f) o = refl
id_over id (ignorable i) o = refl

pub id_set : (id : ℕ) (t o l m : List ℕ) (n : ℕ) → Written t o n l → m ≡ overlay l 2 (number_bytes id) → WroteId id t o n m
id_set id t o l m n w k h e = (
  w.0 ∙ ap length (sym e) ∙ sym (id_long id h),
  k ∙ ap (λ (x : List ℕ). overlay x 2 (number_bytes id)) (w.1 ∙ ap (λ (x : List ℕ). lead x o) (sym e)) ∙ id_over id h o,
)

-- the mark, then the fields
pub segment_wrote : (f : Segment) (o a b c d : List ℕ) (m n k : ℕ) → m ≡ 2 → a ≡ overlay o 0 (83 ∷ 71 ∷ []) → n ≡ m + 2 → b ≡ overlay a m (number_bytes f.id)
    → k ≡ n + 1 → c ≡ overlay b n (f.can_resegment ∷ []) → d ≡ overlay c k (f.state ∷ []) → d ≡ lead (head_bytes (segment (segment_meaning f))) o
unfolding head_bytes two
segment_wrote f o a b c d m n k m2 ea n2 eb k1 ec ed =
    let mark : List ℕ = 83 ∷ 71 ∷ [] in
    let id : List ℕ = number_bytes f.id in
    let two_pieces = eb ∙ over_lead o mark id a m ea m2 in
    let three = ec ∙ over_lead o (mark ++ id) (f.can_resegment ∷ []) b n two_pieces (omega arith) in
    ed ∙ over_lead o (mark ++ id ++ (f.can_resegment ∷ [])) (f.state ∷ []) c k three (omega arith)

pub target_wrote : (q : ℕ) (o a b : List ℕ) (m : ℕ) → m ≡ 2 → a ≡ overlay o 0 (84 ∷ 71 ∷ []) → b ≡ overlay a m (number_bytes q) → b ≡ lead (record_bytes (target_head q)) o
unfolding record_bytes two
target_wrote q o a b m m2 ea eb = eb ∙ over_lead o (84 ∷ 71 ∷ []) (number_bytes q) a m ea m2

-- a target: its head, then its content
abbrev pub target_pieces : (q : ℕ) (c : List ℕ) → Pieces (record_bytes (target_head q) ++ c)
target_pieces q c = pair (record_bytes (target_head q)) c refl
