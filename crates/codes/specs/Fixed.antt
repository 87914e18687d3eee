-- The fixed codes of a content. Document 01, set target: "the list of ids and halves with canReorder F or N". Stepping
-- stones: what is read of a fixed code, and the walk from one to the next.
use Rattle.std.specs.Prelude.{ℕ, ◌+◌, ◌<◌, ◌≤◌, ◌≡◌, Bool, true, ◌&&◌, Option, Some, None, is_some, List, [], ◌∷◌, length, get_or, drop}
use Rattle.xliff.specs.Bytes.{'F', 'N', among}
use Rattle.xliff.specs.Encode.{Record}
use Rattle.xliff.specs.SetTarget.{FixedCode, fixed_list}
use Rattle.walk.specs.Kept.{items, Rest}
use Rattle.walk.specs.Marks.{number, kind_at}
use Rattle.walk.specs.declared.HalfKind.{HalfKind}
use Rattle.walk.specs.declared.HalfKind.TheVariants.{PairStart, PairEnd, AnnotationStart, AnnotationEnd}
use Rattle.codes.specs.Codes.{code_at}

-- the code at the head of t is fixed
unfoldable pub fixed_at : List ℕ → Bool
fixed_at t = is_some (code_at t) && among (get_or t 11 0) ('F' ∷ 'N' ∷ [])

-- the number of a half in the specification's fixed codes
abbrev pub half_number : Option HalfKind → ℕ
half_number None = 0
half_number (Some PairStart) = 1
half_number (Some PairEnd) = 2
half_number (Some AnnotationStart) = 3
half_number (Some AnnotationEnd) = 4

-- what 19 takes of the code at the head of t
abbrev pub fixed_here : List ℕ → FixedCode
fixed_here t = record { id = number t; half = half_number (kind_at t); letter = get_or t 11 0 }

-- records stand in c from the offset `from`
abbrev pub From : List ℕ → ℕ → Type 0
From c from = (rs : List Record) × Rest c from rs × (from ≤ length c)

-- of the records rs of c the first fixed one stands at the offset `at`, or c ends there
pub record Found (c : List ℕ) (rs : List Record) (at : ℕ) : Type 0 where
  pub after : List Record
  pub rest : Rest c at after
  pub list : fixed_list (items rs) ≡ fixed_list (items after)
  pub fixed : at < length c → fixed_at (drop at c) ≡ true

abbrev pub NextFixed : List ℕ → ℕ → ℕ → Type 0
NextFixed c from at = (from ≤ at) × (at ≤ length c) × ((rs : List Record) → Rest c from rs → Found c rs at)

-- where a fixed code or the end is: from the offset `at` on there are twelve bytes, or none
abbrev pub CodeOrEnd : List ℕ → ℕ → Type 0
CodeOrEnd c at = at < length c → at + 12 ≤ length c
