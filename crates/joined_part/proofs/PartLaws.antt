-- The pieces of two parts of a table, and of the part that they make.
use Prim.Native.Nat.{ℕ, ◌+◌, ◌-◌, ◌≤◌}
use mathlib.Core.Path.{◌≡◌, sym, ap, ◌∙◌}
use mathlib.Core.List.{List, ◌++◌, append_assoc}
use native.Mathlib.Omega.{arith}
use lib.ListN.{length, take, drop}
use Rattle.xliff.specs.Bytes.{gather, Bytes}
use Rattle.xliff.specs.Unit.{Part}
use Rattle.xliff.specs.Encode.{record_bytes, head_bytes, content_records, target_records, part_records, spell, content_bytes}
use Rattle.xliff.specs.Focus.{order_part}
use Rattle.xliff.specs.Join.{join_heads, join_parts}
use Rattle.xliff.proofs.unit.Pieces.{spell_append}
use Rattle.xliff.proofs.lists.Slices.{slice_long}
use Rattle.xliff.specs.Parse.{most_bytes}
use Rattle.writer.specs.Pieces.{Written, rest, back}
use Rattle.writer.proofs.RunLaws.{Pieces, all_wrote}
use Rattle.walk.specs.Kept.{Holds}
use Rattle.part_at.specs.Targets.{TargetIs}
use Rattle.part_at.proofs.HoldLaws.{holds_source, target_ends}
use Rattle.part_at.proofs.TargetLaws.{target_slice}
use Rattle.part_at.specs.declared.PartPlace.{PartPlace}
use Rattle.joined_content.specs.Seam.{RoomContents, WroteContents}
use Rattle.joined_part.specs.Heads.{RoomHeads, WroteHeads}
use Rattle.joined_part.specs.Joined.{joined_target, target_bytes, RoomTargets, WroteTargets, joined_part, part_bytes, TwoParts}

-- the joined part in three pieces
pub joined_is : (o : ℕ) (p q : Part)
    → part_bytes o p q ≡ head_bytes (join_heads p.head q.head) ++ content_bytes (p.source ++ q.source) ++ target_bytes o p.target q.target
unfolding joined_part joined_target order_part join_parts part_records spell gather record_bytes content_bytes
joined_is o p q =
    ap (λ (s : List ℕ). head_bytes (join_heads p.head q.head) ++ s) (spell_append (content_records (p.source ++ q.source)) (target_records (joined_target o p.target q.target)))
    ∙ sym (append_assoc (head_bytes (join_heads p.head q.head)) (content_bytes (p.source ++ q.source)) (target_bytes o p.target q.target))

abbrev pub joined_pieces : (o : ℕ) (p q : Part) → Pieces (part_bytes o p q)
joined_pieces o p q =
    record {
      first = head_bytes (join_heads p.head q.head);
      second = content_bytes (p.source ++ q.source);
      third = target_bytes o p.target q.target;
      all = joined_is o p q;
    }

-- from one offset to another
abbrev pub between : List ℕ → ℕ → ℕ → List ℕ
between t from to = take (to - from) (drop from t)

between_long : (t : List ℕ) (from to : ℕ) → from ≤ to → to ≤ length t → length (between t from to) ≤ length t
between_long t from to h k = omega (arith, slice_long t from to h k)

-- what is asked and written of the pieces of two parts
module _ (t : List ℕ) (h : Bytes t) (x y : PartPlace) (v : TwoParts t x y) where
  abbrev heads : List ℕ
  heads = head_bytes (join_heads v.first.head v.second.head)

  abbrev sources : List ℕ
  sources = content_bytes (v.first.source ++ v.second.source)

  pub heads_asked : (l : List ℕ) → length heads ≤ length l → RoomHeads (between t x.head x.source) (between t y.head y.source) l
  heads_asked l r = (v.first.head, v.second.head, sym v.there.head.is, sym v.there'.head.is, r)

  pub heads_wrote : (l : List ℕ) (n : ℕ) (z : List ℕ) → WroteHeads (between t x.head x.source) (between t y.head y.source) l n z → Written heads l n z
  heads_wrote l n z w = w v.first.head v.second.head (sym v.there.head.is) (sym v.there'.head.is)

  first_source : Holds (between t x.source x.target) v.first.source
  first_source = holds_source t h v.before v.first v.after x v.there

  second_source : Holds (between t y.source y.target) v.second.source
  second_source = holds_source t h v.before' v.second v.after' y v.there'

  pub sources_asked : (l : List ℕ) → length t ≤ most_bytes → length sources ≤ length l → RoomContents (between t x.source x.target) (between t y.source y.target) l
  sources_asked l m r = (
    v.first.source,
    v.second.source,
    first_source,
    second_source,
    omega (
      arith,
      between_long t x.source x.target v.there.source.ordered v.there.source.within,
      between_long t y.source y.target v.there'.source.ordered v.there'.source.within,
    ),
    r,
  )

  pub sources_wrote : (l : List ℕ) (n : ℕ) (z : List ℕ) → WroteContents (between t x.source x.target) (between t y.source y.target) l n z → Written sources l n z
  sources_wrote l n z w = w v.first.source v.second.source first_source second_source

  -- the targets stand within the table
  pub first_ends : (x.target ≤ x.end) × (x.end ≤ length t)
  first_ends = target_ends t h v.before v.first v.after x v.there

  pub second_ends : (y.target ≤ y.end) × (y.end ≤ length t)
  second_ends = target_ends t h v.before' v.second v.after' y v.there'

  first_target : TargetIs (between t x.target x.end) v.first.target
  first_target = target_slice t h v.before v.first v.after x v.there

  second_target : TargetIs (between t y.target y.end) v.second.target
  second_target = target_slice t h v.before' v.second v.after' y v.there'

  module _ (o : ℕ) where
    pub targets_asked : (l : List ℕ) → length t ≤ most_bytes → length (target_bytes o v.first.target v.second.target) ≤ length l
        → RoomTargets o (between t x.target x.end) (between t y.target y.end) l
    targets_asked l m r =
        let (e, f) = first_ends in
        let (g, k) = second_ends in (
          v.first.target,
          v.second.target,
          first_target,
          second_target,
          omega (arith, between_long t x.target x.end e f, between_long t y.target y.end g k),
          r,
        )

    pub targets_wrote : (l : List ℕ) (n : ℕ) (z : List ℕ) → WroteTargets o (between t x.target x.end) (between t y.target y.end) l n z
        → Written (target_bytes o v.first.target v.second.target) l n z
    targets_wrote l n z w = w v.first.target v.second.target first_target second_target

    -- all three pieces, one behind the other
    pub part_wrote : (out a b c : List ℕ) (m n k : ℕ) → WroteHeads (between t x.head x.source) (between t y.head y.source) out m a
        → WroteContents (between t x.source x.target) (between t y.source y.target) (rest m a) n b
        → WroteTargets o (between t x.target x.end) (between t y.target y.end) (rest (m + n) (back m a b)) k c
        → Written (part_bytes o v.first v.second) out (m + n + k) (back (m + n) (back m a b) c)
    part_wrote out a b c m n k heads_are sources_are targets_are =
        all_wrote (joined_pieces o v.first v.second) out (heads_wrote out m a heads_are) (sources_wrote (rest m a) n b sources_are)
        (targets_wrote (rest (m + n) (back m a b)) k c targets_are)
