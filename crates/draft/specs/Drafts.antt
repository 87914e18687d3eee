-- A text written piece by piece into a lent output, or only measured against its length. Stepping stones.
use Rattle.std.specs.Borrow.{MutBor}
use Rattle.std.specs.Prelude.{ℕ, ◌≡◌, Bool, true, false, List, ◌++◌, length, ltb}
use Rattle.writer.specs.Pieces.{lead}
use Rattle.draft.specs.declared.Draft.{Draft}

-- The text so far, of an output that was lent as `first`. Where it is only measured the output stays;
-- where the text is longer than the output, that is told and nothing else is
pub record Drafted (measured : Bool) (first : List ℕ) (draft : Draft) (text : List ℕ) : Type 0 where
  pub room : length draft.out.now ≡ length first
  pub mode : draft.measured ≡ measured
  pub told : draft.full ≡ ltb (length first) (length text)
  pub used : draft.full ≡ false → draft.used ≡ length text
  pub stays : draft.measured ≡ true → draft.out.now ≡ first
  pub written : draft.measured ≡ false → draft.full ≡ false → draft.out.now ≡ lead text first

-- no text yet
pub record Began (measured : Bool) (out : MutBor (List ℕ)) (draft : Draft) : Type 0 where
  pub same : draft.out.ghost_name ≡ out.ghost_name
  pub output : draft.out.now ≡ out.now
  pub used : draft.used ≡ 0
  pub full : draft.full ≡ false
  pub mode : draft.measured ≡ measured

-- a piece is put behind the text
pub record Wrote (piece : List ℕ) (draft draft' : Draft) : Type 0 where
  pub same : draft'.out.ghost_name ≡ draft.out.ghost_name
  pub room : length draft'.out.now ≡ length draft.out.now
  pub on : (measured : Bool) (first text : List ℕ) → Drafted measured first draft text
      → Drafted measured first draft' (text ++ piece)
