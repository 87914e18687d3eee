-- Joined targets: their bytes, by whether there are bytes of the first and of the second.
use Prim.Native.Nat.{ℕ, ◌+◌, ◌≤◌, ◌<◌}
use mathlib.Core.Path.{◌≡◌, sym, ap, ap₂, ◌∙◌}
use mathlib.Core.List.{List, ◌++◌}
use native.Mathlib.Omega.{arith}
use lib.ListN.{length, length-drop}
use Rattle.xliff.specs.Unit.{Target}
use Rattle.xliff.specs.Encode.{target_head, record_bytes, content_bytes}
use Rattle.xliff.specs.Focus.{order_target}
use Rattle.xliff.specs.Join.{join_targets}
use Rattle.xliff.proofs.lists.Slices.{tail_is}
use Rattle.writer.specs.Pieces.{lead, Written, rest}
use Rattle.writer.proofs.RunLaws.{Pieces, pair}
use Rattle.part_at.specs.Targets.{TargetIs}
use Rattle.part_at.proofs.TargetLaws.{Present, absent, no_bytes, target_bytes as bytes_of}
use Rattle.joined_content.specs.Seam.{RoomContents}
use Rattle.joined_part.specs.Joined.{joined_target, target_bytes}

module _ (o : ℕ) (s t : List ℕ) (g k : Target) (a : TargetIs s g) (b : TargetIs t k) where
  -- neither is there
  pub neither_wrote : length s ≡ 0 → length t ≡ 0 → (out : List ℕ) → Written (target_bytes o g k) out 0 out
  unfolding joined_target order_target join_targets
  neither_wrote y z out =
      let n = no_bytes (joined_target o g k) (ap₂ (joined_target o) (absent s g y a) (absent t k z b)) in
      (sym (ap length n), sym (ap (λ (l : List ℕ). lead l out) n))

  -- one of them, with its content
  pub first_alone : Present s g → length t ≡ 0 → target_bytes o g k ≡ record_bytes (target_head o) ++ rest 4 s
  unfolding joined_target order_target join_targets
  first_alone p z =
      bytes_of (joined_target o g k) o p.items (ap₂ (joined_target o) p.is (absent t k z b))
      ∙ ap (λ (c : List ℕ). record_bytes (target_head o) ++ c) (sym p.content)

  pub second_alone : length s ≡ 0 → Present t k → target_bytes o g k ≡ record_bytes (target_head o) ++ rest 4 t
  unfolding joined_target order_target join_targets
  second_alone y q =
      bytes_of (joined_target o g k) o q.items (ap₂ (joined_target o) (absent s g y a) q.is)
      ∙ ap (λ (c : List ℕ). record_bytes (target_head o) ++ c) (sym q.content)

-- both, their contents joined
module _ (o : ℕ) (s t : List ℕ) (g k : Target) (p : Present s g) (q : Present t k) where
  pub both_are : target_bytes o g k ≡ record_bytes (target_head o) ++ content_bytes (p.items ++ q.items)
  unfolding joined_target order_target join_targets
  both_are = bytes_of (joined_target o g k) o (p.items ++ q.items) (ap₂ (joined_target o) p.is q.is)

  abbrev pub both_pieces : Pieces (target_bytes o g k)
  both_pieces = pair (record_bytes (target_head o)) (content_bytes (p.items ++ q.items)) both_are

  pub contents_room : (l : List ℕ) → length s + length t < 65536 → length (content_bytes (p.items ++ q.items)) ≤ length l → RoomContents (rest 4 s) (rest 4 t) l
  contents_room l h r = (
    p.items,
    q.items,
    p.holds,
    q.holds,
    omega (arith, ap length (tail_is 4 s), ap length (tail_is 4 t), length-drop 4 s, length-drop 4 t),
    r,
  )

-- bytes that are those of a target with the content c: room for it, and its writing
module _ (o : ℕ) (c w : List ℕ) (e : w ≡ record_bytes (target_head o) ++ c) where
  pub alone_room : (out : List ℕ) → length w ≤ length out → length (record_bytes (target_head o) ++ c) ≤ length out
  alone_room out h = omega (arith, ap length e)

  pub alone_wrote : (out l : List ℕ) (n : ℕ) → Written (record_bytes (target_head o) ++ c) out n l → Written w out n l
  alone_wrote out l n v = (v.0 ∙ ap length (sym e), v.1 ∙ ap (λ (x : List ℕ). lead x out) (sym e))
