-- Stepping stones: a text that shows a table part by part.
use Rattle.std.specs.Prelude.{ℕ, suc, List, [], ◌∷◌, ◌++◌}
use Rattle.xliff.specs.Unit.{Part}
use Rattle.part_at.specs.declared.PartPlace.{PartPlace}
use Rattle.part_at.specs.Stands.{PartStands}
use Rattle.draft.specs.declared.Draft.{Draft}
use Rattle.draft.specs.Drafts.{Wrote}

-- what is written for the part of a number; so for all parts from a number on
unfoldable pub part_texts : (ℕ → Part → List ℕ) → ℕ → List Part → List ℕ
part_texts text n [] = []
part_texts text n (p ∷ ps) = text n p ++ part_texts text (suc n) ps

-- the part at the place, whichever it is, is written by that rule
abbrev pub PutPart : (Part → List ℕ) → List ℕ → PartPlace → Draft → Draft → Type 0
PutPart text t place draft draft' =
    (b : List Part) (p : Part) (a : List Part) → PartStands t b p a place → Wrote (text p) draft draft'
