-- Lists of calls of any kind, and what Extractor and Merger share after one. (Of document 01's own calls: Calls and
-- BothEnds of the specification, which are such a list, `call_desk`.)
use Rattle.std.specs.Prelude.{ℕ, ◌+◌, Bool, ◌&&◌, List, [], ◌∷◌, ◌++◌}
use Rattle.xliff.specs.Answer.{answer, is_accepted}
use Rattle.xliff.specs.Calls.{Call, outcome, left, Kind, a_split, a_join, a_setting, a_removal, of_kind, one_if}
use Rattle.xliff.specs.BothEnds.{Shared}

-- every call of a list has arguments that it can be given
pub data AllGivenBy {C : Type 0} (Given : C → Type 0) : List C → Type 0 where
  no_call : AllGivenBy Given []
  one_call : {c : C} {cs : List C} → Given c → AllGivenBy Given cs → AllGivenBy Given (c ∷ cs)

-- A desk: what it keeps from call to call, of which the table is a part; what a call leaves, whether it is answered
-- accepted, and whether it counts as a split, a join, a setting or a removal
pub record Desk (S C : Type 0) : Type 0 where
  pub table : S → List ℕ
  pub left : S → C → S
  pub accepts : S → C → Bool
  pub counts_as : Kind → C → Bool

-- the desk of document 01: the table is all that it keeps
abbrev pub call_desk : Desk (List ℕ) Call
call_desk =
    record { table = λ t. t; left = left; accepts = λ t c. is_accepted (answer (outcome t c)); counts_as = of_kind }

module _ {S C : Type 0} (d : Desk S C) where
  -- what a list of calls leaves
  unfoldable pub after_list : S → List C → S
  after_list s [] = s
  after_list s (c ∷ cs) = after_list (d.left s c) cs

  -- "Accepted splits and joins, and targets set or removed, are counted by the calls of the list that were answered
  -- accepted."
  unfoldable pub count_list : Kind → S → List C → ℕ
  count_list k s [] = 0
  count_list k s (c ∷ cs) = one_if (d.counts_as k c && d.accepts s c) + count_list k (d.left s c) cs

  -- the two ends of a list of calls
  unfoldable pub SharedBy : S → List C → Type 0
  SharedBy s cs =
      Shared (d.table s) (d.table (after_list s cs)) (count_list a_split s cs) (count_list a_join s cs)
      (count_list a_setting s cs) (count_list a_removal s cs)

  -- the calls of document 01 that a list comes to, where each of its calls comes to those that `made` says
  unfoldable pub all_made : (S → C → List Call) → S → List C → List Call
  all_made made s [] = []
  all_made made s (c ∷ cs) = made s c ++ all_made made (d.left s c) cs

unfoldable pub Lists·all : Unit {0}
unfolding after_list count_list SharedBy all_made
Lists·all = tt
