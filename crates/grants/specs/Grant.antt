-- Document 02, order 6: what a grant allows, and a call with its grant.
use Rattle.std.specs.Prelude.{ℕ, suc, ◌≡◌, ◌⊎◌, Bool, true, false, not, ◌&&◌, ◌||◌, cond, eqb}
use mathlib.Core.List.{List, [], ◌∷◌, ◌++◌, Memᴰ}
use Rattle.std.proofs.Math.Option.{Option, none, some}
use Rattle.xliff.specs.Bytes.{'E', 'R', 'S', 'T', Bytes, among, any, keep}
use Rattle.xliff.specs.Answer.{Refusal, applies, ◌then◌, Outcome, refuse}
use Rattle.xliff.specs.Item.{Item}
use Rattle.xliff.specs.Unit.{Part}
use Rattle.xliff.specs.Parse.{unit}
use Rattle.xliff.specs.Rules.{half_of_id}
use Rattle.xliff.specs.Check.{table_refusal, Valid}
use Rattle.xliff.specs.Rewrite.{Whole, side_content, side_sequence, find_whole}
use Rattle.xliff.specs.Calls.{Call, SP, JN, ST, RT, RW, outcome, Calls·all}

-- "translators .., reviewers .., engineers"; whoever has another role is granted nothing
pub data Role : Type 0 where
  translator reviewer engineer other_role : Role

-- a role by its letter, T, R or E
unfoldable pub role_of : ℕ → Role
role_of letter =
    cond (eqb letter 'T') translator (cond (eqb letter 'R') reviewer (cond (eqb letter 'E') engineer other_role))

-- "A grant is a role and a set of part positions at the call"
pub record Grant : Type 0 where
  pub role : Role
  pub positions : List ℕ

-- the role given by its letter, as to C and in the line protocol
unfoldable pub by_letter : ℕ → List ℕ → Grant
by_letter letter positions = record { role = role_of letter; positions = positions }

-- whether a part is within the grant of a role, given whether its position is listed. "An engineer's grant counts as
-- every part"
unfoldable pub part_granted : Role → Bool → Bool
part_granted translator listed = listed
part_granted reviewer listed = listed
part_granted engineer listed = true
part_granted other_role listed = false

unfoldable pub within : Grant → ℕ → Bool
within g n = part_granted g.role (among n g.positions)

-- "engineers do everything anywhere": they alone split and join
unfoldable pub is_engineer : Role → Bool
is_engineer translator = false
is_engineer reviewer = false
is_engineer engineer = true
is_engineer other_role = false

-- "that side has a complete pair or annotation of that id"
unfoldable pub is_whole : Option Whole → Bool
is_whole none = false
is_whole (some p) = true

-- "and both halves stand in granted parts": of the parts from a position on, those with a half of that id on that side
-- are within the grant. (`BothHalves` below: there are no other halves of that id)
unfoldable pub halves_within : Grant → ℕ → ℕ → ℕ → List Part → Bool
halves_within g side i n [] = true
halves_within g side i n (p ∷ ps) =
    (not (any (half_of_id i) (side_content side p)) || within g n) && halves_within g side i (suc n) ps

-- a complete pair or annotation, both halves in granted parts; a side is S or T
unfoldable pub whole_granted : Grant → List Part → ℕ → ℕ → Bool
whole_granted g ps side i =
    among side ('S' ∷ 'T' ∷ []) && (is_whole (find_whole i (side_sequence side ps)) && halves_within g side i 1 ps)

-- "A rewrite is within a translator's grant never, within a reviewer's exactly if that side has a complete pair or
-- annotation of that id and both halves stand in granted parts."
unfoldable pub rewrite_granted : Role → Bool → Bool
rewrite_granted translator whole = false
rewrite_granted reviewer whole = whole
rewrite_granted engineer whole = true
rewrite_granted other_role whole = false

-- "translators set or remove targets there, reviewers also rewrite there, engineers do everything anywhere"
unfoldable pub granted : Grant → List ℕ → Call → Bool
granted g t (SP n source_cut target_cut new room) = is_engineer g.role
granted g t (JN n room) = is_engineer g.role
granted g t (ST n st s room) = within g n
granted g t (RT n room) = within g n
granted g t (RW side i w room) = rewrite_granted g.role (whole_granted g (unit t).parts side i)

-- a refusal that comes first, else the outcome
unfoldable pub unless_refused : Option Refusal → Outcome → Outcome
unless_refused none o = o
unless_refused (some r) o = refuse r

-- a call with its grant
pub record GrantedCall : Type 0 where
  pub grant : Grant
  pub call : Call

-- "Answers: 24, call not granted, after the table's check and before everything else."
unfoldable pub granted_outcome : List ℕ → GrantedCall → Outcome
granted_outcome t c =
    unless_refused (table_refusal t then applies 24 (not (granted c.grant t c.call))) (outcome t c.call)

-- What `halves_within` looks at: in a valid table the halves of that id on that side are those of the pair or
-- annotation, one start and one end; and every half of that id in a content of that side is one of the two. (A
-- statement, not its proof.)
pub record TwoHalves (ps : List Part) (side i : ℕ) (w : Whole) : Type 0 where
  pub both : keep (half_of_id i) (side_sequence side ps) ≡ w.start ∷ w.end ∷ []
  pub either : (b : List Part) (p : Part) (a : List Part) → ps ≡ b ++ (p ∷ a) → (x : Item)
      → Memᴰ x (side_content side p) → half_of_id i x ≡ true → (x ≡ w.start) ⊎ (x ≡ w.end)

unfoldable pub BothHalves : Type 0
BothHalves =
    (t : List ℕ) (side i : ℕ) (w : Whole) → Bytes t → Valid t
    → find_whole i (side_sequence side (unit t).parts) ≡ some w → TwoHalves (unit t).parts side i w

unfoldable pub Grant·all : Unit {0}
unfolding Calls·all role_of by_letter part_granted within is_engineer is_whole halves_within whole_granted
    rewrite_granted granted unless_refused granted_outcome
Grant·all = tt
