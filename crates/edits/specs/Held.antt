-- Document 02, order 7: "The edit follows its part when earlier splits and joins move it." While an edit is open, the
-- part at its position is the one that it was opened on: as it was then, but for marks that rewrites turned and the
-- order of its target. Statements, not their proofs.
use Rattle.std.specs.Prelude.{ℕ, zero, suc, ◌≡◌, Bool, true, false, ◌&&◌, List, [], ◌∷◌}
use Rattle.std.proofs.Math.Option.{Option, none, some}
use Rattle.xliff.specs.Bytes.{Bytes}
use Rattle.xliff.specs.Item.{Content, flattened}
use Rattle.xliff.specs.Unit.{Target, no_target, target, Part}
use Rattle.xliff.specs.Parse.{unit}
use Rattle.xliff.specs.Check.{Valid}
use Rattle.xliff.specs.Calls.{a_rewriting}
use Rattle.grants.specs.Grant.{Grant}
use Rattle.call_lists.specs.Lists.{AllGivenBy, after_list, count_list}
use Rattle.edits.specs.Edit.{EditCall, plain, OP, CL, DR, GrantedEditCall}
use Rattle.edits.specs.EditLists.{Editing, edit_desk, edit_left, edit_accepts, GivenGrantedEdit}

-- the part at a position, counted from 1
unfoldable pub part_from : List Part → ℕ → Option Part
part_from [] k = none
part_from (p ∷ ps) zero = some p
part_from (p ∷ ps) (suc k) = part_from ps k

unfoldable pub part_in : List Part → ℕ → Option Part
part_in ps zero = none
part_in ps (suc k) = part_from ps k

unfoldable pub part_at : List ℕ → ℕ → Option Part
part_at t n = part_in (unit t).parts n

-- a target without its order
unfoldable pub target_content : Target → Option Content
target_content no_target = none
target_content (target q xs) = some xs

unfoldable pub flat_content : Option Content → Option Content
flat_content none = none
flat_content (some xs) = some (flattened xs)

-- what a part is after so many accepted rewrites, where no other call was on it
pub record Held (rewrites : ℕ) (was now : Part) : Type 0 where
  pub head : now.head ≡ was.head
  pub source : flattened now.source ≡ flattened was.source
  pub target : flat_content (target_content now.target) ≡ flat_content (target_content was.target)
  pub same_source : rewrites ≡ 0 → now.source ≡ was.source
  pub same_target : rewrites ≡ 0 → target_content now.target ≡ target_content was.target

-- a close or a drop
unfoldable pub is_ending : EditCall → Bool
is_ending (plain c) = false
is_ending (OP n) = false
is_ending (CL st s room) = true
is_ending DR = true

-- a list in which no close and no drop is accepted: "Until then"
pub data StaysOpen : Editing → List GrantedEditCall → Type 0 where
  no_call : (s : Editing) → StaysOpen s []
  one_call : (s : Editing) (c : GrantedEditCall) (cs : List GrantedEditCall)
      → is_ending c.call && edit_accepts s c ≡ false → StaysOpen (edit_left s c) cs → StaysOpen s (c ∷ cs)

-- where the edit is after a list, and what its part is there
pub record Follows (s : Editing) (cs : List GrantedEditCall) (was : Part) : Type 0 where
  pub now : Part
  pub there : part_at (after_list edit_desk s cs).table (after_list edit_desk s cs).edit ≡ some now
  pub held : Held (count_list edit_desk a_rewriting s cs) was now

-- an edit that is open on a part, and a list in which it stays open
unfoldable pub EditFollows : Type 0
EditFollows =
    (s : Editing) (cs : List GrantedEditCall) (p : Part) → Bytes s.table → AllGivenBy GivenGrantedEdit cs
    → Valid s.table → part_at s.table s.edit ≡ some p → StaysOpen s cs → Follows s cs p

-- an accepted open leaves the table as it is, and the edit on that part
abbrev pub open_call : Grant → ℕ → GrantedEditCall
open_call g n = record { grant = g; call = OP n }

pub record Opened (s : Editing) (g : Grant) (n : ℕ) : Type 0 where
  pub part : Part
  pub there : part_at s.table n ≡ some part
  pub left : edit_left s (open_call g n) ≡ record { table = s.table; edit = n }

unfoldable pub OpenStands : Type 0
OpenStands = (s : Editing) (g : Grant) (n : ℕ) → edit_accepts s (open_call g n) ≡ true → Opened s g n

-- from the opening on
unfoldable pub HeldSinceOpen : Type 0
HeldSinceOpen =
    (s : Editing) (g : Grant) (n : ℕ) (cs : List GrantedEditCall) (p : Part) → Bytes s.table
    → AllGivenBy GivenGrantedEdit cs → Valid s.table → edit_accepts s (open_call g n) ≡ true
    → part_at s.table n ≡ some p → StaysOpen (edit_left s (open_call g n)) cs
    → Follows (edit_left s (open_call g n)) cs p
