-- What is read between two places of a content, wherever it stands. Stepping stones.
use Rattle.std.specs.Prelude.{ℕ, ◌+◌, ◌≡◌, List, length}
use Rattle.xliff.specs.Encode.{Record}
use Rattle.xml.specs.Tokens.{Token}
use Rattle.xml.specs.Elements.{most_depth, Due, Side, Open, outside, in_content, in_empty, bad, behind, elements}

-- From some tokens of a content to later ones, with the records between, in any source or target and within any open
-- elements that allow so many more
unfoldable pub Passage : ℕ → List Token → List Record → List Token → Type 0
Passage depth a rs b =
    (side : Side) (opens : List Open) → length opens + depth ≡ most_depth
    → elements (in_content side opens) a ≡ behind rs (elements (in_content side opens) b)

-- the place at fault
unfoldable pub Blames : ℕ → List Token → ℕ → Type 0
Blames depth a p =
    (side : Side) (opens : List Open) → length opens + depth ≡ most_depth → elements (in_content side opens) a ≡ bad p

-- the same in an empty element of this name: up to its end, and the place at fault
unfoldable pub Empties : List ℕ → List Token → List Token → Type 0
Empties name a b = (side : Side) (opens : List Open) → elements (in_empty side opens name) a ≡ elements (in_content side opens) b

unfoldable pub EmptyBlames : List ℕ → List Token → ℕ → Type 0
EmptyBlames name a p = (side : Side) (opens : List Open) → elements (in_empty side opens name) a ≡ bad p

-- Outside of contents: the same is read of these tokens and of those, whatever is due; the place at fault, whatever is
unfoldable pub Alike : List Token → List Token → Type 0
Alike a b = (d : Due) → elements (outside d) a ≡ elements (outside d) b

unfoldable pub OuterBlames : List Token → ℕ → Type 0
OuterBlames a p = (d : Due) → elements (outside d) a ≡ bad p

-- from tokens where something is due to later ones where something else is, with the records between
unfoldable pub Leads : Due → List Token → List Record → Due → List Token → Type 0
Leads d a rs d' b = elements (outside d) a ≡ behind rs (elements (outside d') b)
