-- Joined heads: their fields, and their writing.
use Prim.Native.Nat.{ℕ, ◌≤◌}
use mathlib.Core.Path.{◌≡◌, refl, sym, ap, ap₂, ◌∙◌, subst}
use mathlib.Core.Bool.{true, false, true≢false, ◌&&◌}
use mathlib.Core.List.{List}
use native.Mathlib.Omega.{arith}
use lib.ListN.{length}
use lib.Dec.{eqb}
use Rattle.table.specs.Meaning.{segment_meaning}
use Rattle.xliff.specs.Bytes.{'-'}
use Rattle.xliff.specs.Unit as unit
use Rattle.xliff.specs.Unit.{Head, segment, ignorable}
use Rattle.xliff.specs.Encode.{head_bytes}
use Rattle.xliff.specs.Join.{join_heads, join_states, dash}
use Rattle.writer.specs.Pieces.{Written}
use Rattle.table.specs.declared.Segment.{Segment}
use Rattle.heads.specs.Heads.{is_segment, FieldsAre}
use Rattle.joined_part.specs.Heads.{JoinedSegment, JoinedWithIgnorable}

-- a segment told field by field
by_fields : (r : Segment) (i d s : ℕ) → r.id ≡ i → r.can_resegment ≡ d → r.state ≡ s
    → segment (segment_meaning r) ≡ segment (record { id = i; can_resegment = d; state = s })
by_fields r i d s same_id same_letter same_state =
    ap (λ (n : ℕ). segment (record { id = n; can_resegment = r.can_resegment; state = r.state })) same_id
    ∙ ap₂ (λ (e t : ℕ). segment (record { id = i; can_resegment = e; state = t })) same_letter same_state

-- two segments
pub two_joined : (x y r : Segment) → r.id ≡ x.id
    → r.can_resegment ≡ dash (eqb x.can_resegment '-' && eqb y.can_resegment '-')
    → r.state ≡ join_states x.state y.state → JoinedSegment x y r
unfolding join_heads
two_joined x y r same_id same_letter same_state = by_fields r x.id _ _ same_id same_letter same_state

-- a segment and an ignorable
pub one_joined : (x r : Segment) → r.id ≡ x.id → r.can_resegment ≡ dash (eqb x.can_resegment '-')
    → r.state ≡ x.state → JoinedWithIgnorable x r
unfolding join_heads
one_joined x r same_id same_letter same_state n = by_fields r x.id _ _ same_id same_letter same_state

ignored_first : (f : unit.Segment) (j : ℕ) → join_heads (segment f) (ignorable j) ≡ join_heads (ignorable j) (segment f)
unfolding join_heads
ignored_first f j = refl

-- the heads a and b, whose bytes are h and i
module _ (h i : List ℕ) where
  pub second_segment : (a b : Head) → head_bytes b ≡ i → is_segment a ≡ false → is_segment b ≡ true
      → (y r : Segment) → FieldsAre i y → JoinedWithIgnorable y r → segment (segment_meaning r) ≡ join_heads a b
  second_segment (ignorable n) (segment g) eb p q y r v j =
      j n ∙ ap (λ (m : unit.Segment). join_heads (segment m) (ignorable n)) (v g eb) ∙ ignored_first g n
  second_segment (ignorable m) (ignorable n) eb p q y r v j = absurd (true≢false (sym q))
  second_segment (segment f) b eb p q y r v j = absurd (true≢false p)

  pub no_segment : (a b : Head) → head_bytes a ≡ h → is_segment a ≡ false → is_segment b ≡ false
      → h ≡ head_bytes (join_heads a b)
  unfolding join_heads
  no_segment (ignorable m) (ignorable n) ea p q = sym ea
  no_segment (ignorable m) (segment g) ea p q = absurd (true≢false q)
  no_segment (segment f) b ea p q = absurd (true≢false p)

-- room for a segment, and its writing
module _ (a b : Head) (r : Segment) (e : segment (segment_meaning r) ≡ join_heads a b) where
  pub segment_room : (o : List ℕ) → length (head_bytes (join_heads a b)) ≤ length o
      → length (head_bytes (segment (segment_meaning r))) ≤ length o
  segment_room o h = omega (arith, ap (λ (x : Head). length (head_bytes x)) e)

  pub segment_wrote : (o l : List ℕ) (n : ℕ) → Written (head_bytes (segment (segment_meaning r))) o n l
      → Written (head_bytes (join_heads a b)) o n l
  segment_wrote o l n w = subst (λ (x : Head). Written (head_bytes x) o n l) e w
