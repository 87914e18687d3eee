-- The halves of a part, piece by piece.
use Prim.Native.Nat.{ℕ, ◌+◌, ◌<◌, ◌≤◌}
use mathlib.Core.Path.{◌≡◌, sym, ap, ◌∙◌, subst}
use mathlib.Core.List.{List, ◌++◌}
use native.Mathlib.Omega.{arith}
use lib.ListN.{length}
use Rattle.xliff.specs.Unit.{Target, no_target, target, Part, with_id}
use Rattle.xliff.specs.Encode.{target_head, record_bytes, head_bytes, target_records, part_records, spell, content_bytes}
use Rattle.xliff.specs.Split.{first_items, second_items, first_target, second_target, first_half, second_half}
use Rattle.xliff.proofs.unit.Pieces.{spell_append, part_bytes}
use Rattle.writer.specs.Pieces.{lead, Written}
use Rattle.writer.proofs.RunLaws.{Pieces, pair}
use Rattle.heads.specs.Heads.{OrderIs, HeadRoom}
use Rattle.heads.proofs.HeadLaws.{id_long}
use Rattle.part_at.specs.Targets.{TargetIs}
use Rattle.part_at.proofs.TargetLaws.{Present, absent, target_bytes, no_bytes}
use Rattle.halves_of_part.specs.Parts.{PartIs, Rises, halves}

-- no target: nothing is written
module _ (t : List ℕ) (k : ℕ) (o : List ℕ) (g : Target) (z : length t ≡ 0) (e : TargetIs t g) where
  nothing : (h : Target) → h ≡ no_target → Written (spell (target_records h)) o 0 o
  nothing h i = let n = no_bytes h i in (sym (ap length n), sym (ap (λ (l : List ℕ). lead l o) n))

  pub no_first : Written (spell (target_records (first_target k g))) o 0 o
  unfolding first_target
  no_first = nothing (first_target k g) (ap (first_target k) (absent t g z e))

  pub no_second : Written (spell (target_records (second_target k g))) o 0 o
  unfolding second_target
  no_second = nothing (second_target k g) (ap (second_target k) (absent t g z e))

-- a target, whose order r was read: TG, then the half of the content
module _ (t : List ℕ) (g : Target) (p : Present t g) (k r : ℕ) (o : OrderIs t r) where
  order_is : r ≡ p.order
  order_is = o p.order (content_bytes p.items) p.bytes

  pub first_is : first_target k g ≡ target r (first_items k p.items)
  unfolding first_target
  first_is = ap (first_target k) p.is ∙ ap (λ (n : ℕ). target n (first_items k p.items)) (sym order_is)

  abbrev pub target_first : Pieces (spell (target_records (first_target k g)))
  target_first = pair (record_bytes (target_head r)) (content_bytes (first_items k p.items)) (target_bytes (first_target k g) r (first_items k p.items) first_is)

  pub second_is : second_target k g ≡ target (r + 1) (second_items k p.items)
  unfolding second_target
  second_is = ap (second_target k) p.is ∙ ap (λ (n : ℕ). target n (second_items k p.items)) (let z = order_is in omega arith)

  abbrev pub target_second : Pieces (spell (target_records (second_target k g)))
  target_second =
      pair (record_bytes (target_head (r + 1))) (content_bytes (second_items k p.items)) (target_bytes (second_target k g) (r + 1) (second_items k p.items) second_is)

  -- the order can rise
  pub order_rises : Rises g → r < 65535
  order_rises s = let z = order_is in let small : p.order < 65535 = subst Rises p.is s in omega arith

-- a half: its head, its source content, its target
module _ (k j : ℕ) (p : Part) where
  pub first_bytes : spell (part_records (first_half k j p))
      ≡ (head_bytes p.head ++ content_bytes (first_items k p.source)) ++ spell (target_records (first_target j p.target))
  unfolding first_half
  first_bytes = part_bytes (first_half k j p)

  abbrev pub first_pieces : (h s t : List ℕ) → PartIs h s t p → Pieces (spell (part_records (first_half k j p)))
  first_pieces h s t is =
      record {
        first = h;
        second = content_bytes (first_items k p.source);
        third = spell (target_records (first_target j p.target));
        all = first_bytes ∙ ap (λ (x : List ℕ). (x ++ content_bytes (first_items k p.source)) ++ spell (target_records (first_target j p.target))) is.0;
      }

  module _ (id : ℕ) where
    pub second_bytes : spell (part_records (second_half k j id p))
        ≡ (head_bytes (with_id id p.head) ++ content_bytes (second_items k p.source)) ++ spell (target_records (second_target j p.target))
    unfolding second_half
    second_bytes = part_bytes (second_half k j id p)

    abbrev pub second_pieces : Pieces (spell (part_records (second_half k j id p)))
    second_pieces =
        record {
          first = head_bytes (with_id id p.head);
          second = content_bytes (second_items k p.source);
          third = spell (target_records (second_target j p.target));
          all = second_bytes;
        }

    pub room_with_id : (h s t o : List ℕ) → PartIs h s t p → length (head_bytes (with_id id p.head)) ≤ length o → HeadRoom h o
    room_with_id h s t o is l = ((p.head, is.0), omega (arith, id_long id p.head, ap length is.0))

    -- both halves
    pub halves_are : halves k j id p ≡ spell (part_records (first_half k j p)) ++ spell (part_records (second_half k j id p))
    halves_are = spell_append (part_records (first_half k j p)) (part_records (second_half k j id p))

    abbrev pub halves_pieces : Pieces (halves k j id p)
    halves_pieces = pair (spell (part_records (first_half k j p))) (spell (part_records (second_half k j id p))) halves_are
