-- Chains of fixed codes of two contents, record by record: stepping stones to 19 (document 02, order 4).
use Rattle.std.specs.Prelude.{ℕ, ◌+◌, ◌≤◌, ◌≡◌, Bool, false, ◌&&◌, ◌||◌, cond, List, ◌∷◌, length, get_or, drop, eqb, ltb}
use Rattle.xliff.specs.Bytes.{'N', any}
use Rattle.xliff.specs.Item.{Content}
use Rattle.xliff.specs.Encode.{Record}
use Rattle.xliff.specs.SetTarget.{FixedCode, Chain, fixed_list, chains, same_chain, fixed_differ}
use Rattle.xliff.proofs.operations.ChainCounts.{often, uneven}
use Rattle.walk.specs.Kept.{items, Holds, Rest}
use Rattle.codes.specs.Fixed.{fixed_here, Found}

-- the N that come first among records, up to the next F
abbrev pub followers : List Record → Chain
followers rs = (chains (fixed_list (items rs))).first

-- the chains that an F begins
abbrev pub chains_in : List Record → List Chain
chains_in rs = (chains (fixed_list (items rs))).others

-- the whole list, or the N up to the next F
abbrev pub codes_in : Bool → List Record → List FixedCode
codes_in whole rs = cond whole (fixed_list (items rs)) (followers rs)

-- it goes on at the offset `at` of c, where a fixed code or the end is
abbrev pub goes_on : List ℕ → ℕ → Bool → Bool
goes_on c at whole = ltb at (length c) && (whole || eqb (get_or (drop at c) 11 0) 'N')

-- up to the offset `at` of c, where a fixed code or the end is, none of the records rs begins a chain
pub record Passed (c : List ℕ) (rs : List Record) (at : ℕ) : Type 0 where
  pub from : List Record
  pub found : Found c from at
  pub chains : chains_in rs ≡ chains_in from

-- and there an F begins one, or c ends
abbrev pub NextChain : List ℕ → ℕ → ℕ → Type 0
NextChain c from at =
    (from ≤ at) × (at ≤ length c) × ((rs : List Record) → Rest c from rs → Passed c rs at) × (goes_on c at false ≡ false)

-- the codes from the offsets `at` and `to` on are the same
abbrev pub SameCodes : List ℕ → ℕ → List ℕ → ℕ → Bool → Bool → Type 0
SameCodes c at d to whole r =
    (rs qs : List Record) → Rest c at rs → Rest d to qs → r ≡ same_chain (codes_in whole rs) (codes_in whole qs)

-- the chain that the code at the offset `at` of c begins, with the records behind it
abbrev pub chain_at : List ℕ → ℕ → List Record → Chain
chain_at c at behind = fixed_here (drop at c) ∷ followers behind

-- the chains at the offsets `at` and `to` are the same
abbrev pub SameChain : List ℕ → ℕ → List ℕ → ℕ → Bool → Type 0
SameChain c at d to r =
    (rs qs : List Record) → Rest c (at + 12) rs → Rest d (to + 12) qs
    → r ≡ same_chain (chain_at c at rs) (chain_at d to qs)

-- how often the chain at the offset `at` of c stands in d, by the counts of the law `rearranged_counted` of xliff
abbrev pub Often : List ℕ → ℕ → List ℕ → ℕ → Type 0
Often c at d n = (rs qs : List Record) → Rest c (at + 12) rs → Rest d 0 qs → n ≡ often (chain_at c at rs) (chains_in qs)

-- how many chains of c begin with an F
abbrev pub ChainCount : List ℕ → ℕ → Type 0
ChainCount c n = (rs : List Record) → Rest c 0 rs → n ≡ length (chains_in rs)

-- one of them stands more or less often in d than in c
abbrev pub Uneven : List ℕ → List ℕ → Bool → Type 0
Uneven c d r =
    (rs qs : List Record) → Rest c 0 rs → Rest d 0 qs → r ≡ any (uneven (chains_in rs) (chains_in qs)) (chains_in rs)

-- 19, for an old content c and a new content d
abbrev pub Differ : List ℕ → List ℕ → Bool → Type 0
Differ c d r = (xs ys : Content) → Holds c xs → Holds d ys → r ≡ fixed_differ xs ys
