-- Split and rejoin. Document 02, order 11: "For every valid unit and every accepted split, joining the two halves with
-- output enough is accepted, and gives the original table save that the pairs and annotations cut now have start and
-- end marks. Hence every list of accepted splits undone in reverse sequence, each by its join, gives the original apart
-- from those marks." Statements, not their proofs.
use Rattle.std.specs.Prelude.{ℕ, ◌≤◌, ◌<◌, ◌≡◌, Bool, true, ◌&&◌, cond, List, [], ◌∷◌, ◌++◌, map, reverse, length, take, drop, leb}
use Rattle.xliff.specs.Bytes.{Bytes, any, keep}
use Rattle.xliff.specs.Answer.{answer, result, refuse, is_accepted}
use Rattle.xliff.specs.Item.{Item, Content, form_S, in_form, flat, flattened, is_start_half, alike, other_half}
use Rattle.xliff.specs.Unit.{Part, XliffUnit, target_items}
use Rattle.xliff.specs.Encode.{encode}
use Rattle.xliff.specs.Parse.{unit}
use Rattle.xliff.specs.Check.{Valid}
use Rattle.xliff.specs.Focus.{Focus, nowhere, here, focus, with_parts}
use Rattle.xliff.specs.Split.{split}
use Rattle.xliff.specs.Join.{join}
use Rattle.xliff.specs.Rewrite.{rewrite_target}
use Rattle.xliff.specs.Calls.{Call, SP, JN, outcome, left, after, AllGiven, Calls·all}

-- "the pairs and annotations cut": those with their start before the cut of a content and their end behind it. Each is
-- told by its start
unfoldable pub open_at : ℕ → Content → Content
open_at cut xs = keep (λ x. is_start_half x && any (other_half x) (drop cut xs)) (take cut xs)

-- those of the source and those of the target
pub record OpenAtCuts : Type 0 where
  pub source : Content
  pub target : Content

abbrev pub nothing_open : OpenAtCuts
nothing_open = record { source = []; target = [] }

unfoldable pub open_in : ℕ → ℕ → Focus → OpenAtCuts
open_in source_cut target_cut nowhere = nothing_open
open_in source_cut target_cut (here b p a) =
    record { source = open_at source_cut p.source; target = open_at target_cut (target_items p.target) }

-- by the cuts of a part of a table
unfoldable pub open_at_cuts : List ℕ → ℕ → ℕ → ℕ → OpenAtCuts
open_at_cuts t part source_cut target_cut = open_in source_cut target_cut (focus (unit t).parts part)

-- "now have start and end marks": both halves of each of them, on its own side of the unit, where no third half is
-- alike (`short`, proofs/rules/Marks). Nothing else is changed
unfoldable pub turned_item : Content → Item → Item
turned_item starts x = cond (any (alike x) starts) (in_form form_S x) x

unfoldable pub turned_part : OpenAtCuts → Part → Part
turned_part c p =
    record {
      head = p.head;
      source = map (turned_item c.source) p.source;
      target = rewrite_target (turned_item c.target) p.target;
    }

unfoldable pub turned : OpenAtCuts → XliffUnit → XliffUnit
turned c u = with_parts u (map (turned_part c) u.parts)

-- "the original table save that .. now have start and end marks". With nothing turned it is the table itself, if that
-- is valid (`valid_bytes`, proofs/unit/Limits)
unfoldable pub turned_table : OpenAtCuts → List ℕ → List ℕ
turned_table c t = encode (turned c (unit t))

-- One split and its join: what the join of a part with the next gives
pub record Restored (original halves : List ℕ) (part : ℕ) (c : OpenAtCuts) : Type 0 where
  -- "with output enough is accepted, and gives the original table save ..": an output as long as the original is enough
  pub enough : (room : ℕ) → length original ≤ room → join halves part room ≡ result (turned_table c original)
  -- and a shorter one is not: 15, an output too short for the result
  pub too_short : (room : ℕ) → room < length original → join halves part room ≡ refuse (record { number = 15; place = 0 })

unfoldable pub SplitAndJoin : Type 0
SplitAndJoin =
    (t : List ℕ) (part source_cut target_cut new room : ℕ) (halves : List ℕ) → Bytes t → Valid t
    → split t part source_cut target_cut new room ≡ result halves
    → Restored t halves part (open_at_cuts t part source_cut target_cut)

-- A split of a list and the join that undoes it: the arguments of the split, and the lengths of the outputs lent to
-- both
pub record SplitJoin : Type 0 where
  pub part : ℕ
  pub source_cut : ℕ
  pub target_cut : ℕ
  pub new_id : ℕ
  pub split_room : ℕ
  pub join_room : ℕ

unfoldable pub split_call : SplitJoin → Call
split_call c = SP c.part c.source_cut c.target_cut c.new_id c.split_room

unfoldable pub join_call : SplitJoin → Call
join_call c = JN c.part c.join_room

-- "undone in reverse sequence, each by its join"
unfoldable pub splits : List SplitJoin → List Call
splits cs = map split_call cs

unfoldable pub joins : List SplitJoin → List Call
joins cs = reverse (map join_call cs)

unfoldable pub rejoined : List ℕ → List SplitJoin → List ℕ
rejoined t cs = after (after t (splits cs)) (joins cs)

unfoldable pub all_accepted : List ℕ → List Call → Bool
all_accepted t [] = true
all_accepted t (c ∷ cs) = is_accepted (answer (outcome t c)) && all_accepted (left t c) cs

-- "with output enough": each join has room for the table that its split was given
unfoldable pub enough_output : List ℕ → List SplitJoin → Bool
enough_output t [] = true
enough_output t (c ∷ cs) = leb (length t) c.join_room && enough_output (left t (split_call c)) cs

-- what is open at the cuts of a list, each in the table that its split was given
unfoldable pub both_open : OpenAtCuts → OpenAtCuts → OpenAtCuts
both_open c d = record { source = c.source ++ d.source; target = c.target ++ d.target }

unfoldable pub all_open : List ℕ → List SplitJoin → OpenAtCuts
all_open t [] = nothing_open
all_open t (c ∷ cs) =
    both_open (open_at_cuts t c.part c.source_cut c.target_cut) (all_open (left t (split_call c)) cs)

-- "apart from those marks": a unit with every pair and annotation in one form. What is left are its canResegment, its
-- heads, its orders and its flattened contents
unfoldable pub flat_part : Part → Part
flat_part p = record { head = p.head; source = flattened p.source; target = rewrite_target flat p.target }

unfoldable pub flat_unit : XliffUnit → XliffUnit
flat_unit u = with_parts u (map flat_part u.parts)

pub record Undone (t : List ℕ) (cs : List SplitJoin) : Type 0 where
  -- "joining the two halves with output enough is accepted"
  pub accepted : all_accepted (after t (splits cs)) (joins cs) ≡ true
  -- "gives the original table save that the pairs and annotations cut now have start and end marks"
  pub table : rejoined t cs ≡ turned_table (all_open t cs) t
  -- "gives the original apart from those marks"
  pub apart_from_marks : flat_unit (unit (rejoined t cs)) ≡ flat_unit (unit t)

-- "Hence every list of accepted splits undone in reverse sequence, each by its join, gives the original apart from those
-- marks." As in demand 3 each split has arguments that it can be given: a new id of two bytes
unfoldable pub SplitAndRejoin : Type 0
SplitAndRejoin =
    (t : List ℕ) (cs : List SplitJoin) → Bytes t → Valid t → AllGiven (splits cs) → all_accepted t (splits cs) ≡ true
    → enough_output t cs ≡ true → Undone t cs

unfoldable pub Rejoin·all : Unit {0}
unfolding Calls·all open_at open_in open_at_cuts turned_item turned_part turned turned_table split_call join_call splits joins
    rejoined all_accepted enough_output both_open all_open flat_part flat_unit
Rejoin·all = tt
