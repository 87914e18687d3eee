-- The head of a part with its state shown as I: at the head of the array it is written to, and from there on behind
-- the text.
use Prim.Native.Nat.{ℕ, ◌≤◌}
use native.Mathlib.Omega.{arith}
use mathlib.Core.Path.{◌≡◌, ap}
use mathlib.Core.List.{List}
use lib.ListN.{length, take}
use Rattle.xliff.specs.Bytes.{'I', two}
use Rattle.xliff.specs.Unit.{Head, segment, ignorable, with_state}
use Rattle.xliff.specs.Encode.{head_bytes}
use Rattle.writer.specs.Pieces.{Written}
use Rattle.writer.proofs.PieceLaws.{at_head, head_long}
use Rattle.heads.specs.Heads.{SomeHead, WroteState}
use Rattle.draft.specs.declared.Draft.{Draft}
use Rattle.draft.specs.Drafts.{Wrote}
use Rattle.draft.proofs.DraftLaws.{wrote_as}
use Rattle.granted_view.specs.Shown.{PutHead}

-- a segment's head is the longest
head_most : (h : Head) → length (head_bytes h) ≤ 6
unfolding head_bytes two
head_most (segment f) = omega arith
head_most (ignorable i) = omega arith

pub some_most : (bytes : List ℕ) → SomeHead bytes → length bytes ≤ 6
some_most bytes (h, e) = omega (arith, head_most h, ap length e)

-- it is written to an array, with some state
module _ (bytes : List ℕ) (some : SomeHead bytes) (st : ℕ) (array : List ℕ) (n : ℕ) (last : List ℕ)
    (w : WroteState st bytes array n last) where
  shown_there : Written (head_bytes (with_state st some.0)) array n last
  shown_there = w some.0 some.1

  pub shown_most : n ≤ 6
  shown_most = omega (arith, shown_there.0, head_most (with_state st some.0))

  pub shown_long : n ≡ length (take n last)
  shown_long = head_long (head_bytes (with_state st some.0)) array last n shown_there.0 shown_there.1

-- and from there put behind the text
pub shown_put : (bytes array : List ℕ) (n : ℕ) (last : List ℕ) → WroteState 'I' bytes array n last
    → (draft draft' : Draft) → Wrote (take n last) draft draft' → PutHead bytes draft draft'
shown_put bytes array n last w draft draft' put h e =
    let there = w h e in
    wrote_as (at_head (head_bytes (with_state 'I' h)) array last n there.0 there.1) put
