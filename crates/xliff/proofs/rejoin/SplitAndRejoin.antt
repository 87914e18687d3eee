-- Split-and-rejoin: a list of accepted splits undone in reverse sequence, each by its join.
use Prim.Native.Nat.{ℕ, ◌≤◌, ◌<◌}
use mathlib.Core.Path.{◌≡◌, refl, sym, ap, ap₂, ◌∙◌}
use mathlib.Core.Bool.{true, false≢true}
use mathlib.Core.List.{List, [], ◌∷◌, ◌++◌, map}
use lib.Dec.{leb}
use lib.ListN.{length}
use borrow.Author.Tests.{leb-true}
use Rattle.xliff.specs.Bytes.{Bytes}
use Rattle.xliff.specs.Answer.{answer, Outcome, result, refuse, is_accepted, next_table}
use Rattle.xliff.specs.Encode.{encode}
use Rattle.xliff.specs.Parse.{unit}
use Rattle.xliff.specs.Check.{Valid}
use Rattle.xliff.specs.Focus.{with_parts}
use Rattle.xliff.specs.Split.{split_unit, split}
use Rattle.xliff.specs.Calls.{Call, outcome, left, after, Given, AllGiven, one_call}
use Rattle.xliff.specs.Rejoin.{OpenAtCuts, open_at_cuts, turned, turned_table, SplitJoin, split_call, join_call, splits, joins, rejoined, all_accepted, enough_output, both_open, all_open, flat_unit, SplitAndRejoin}
use Rattle.xliff.proofs.lists.Tests.{and_left, and_right, and_both, rev_append}
use Rattle.xliff.proofs.unit.Result.{sent}
use Rattle.xliff.proofs.unit.Accepted.{accepted_bytes, read_back}
use Rattle.xliff.proofs.unit.Limits.{valid_bytes, valid_within}
use Rattle.xliff.proofs.operations.SplitValid.{split_accepted, split_valid}
use Rattle.xliff.proofs.both_ends.FitsKept.{table_fits, split_fits}
use Rattle.xliff.proofs.rejoin.Turned.{turned_flat, turned_sent, turned_within, turned_none}
use Rattle.xliff.proofs.rejoin.SplitAndJoin.{restored}

-- LISTS OF CALLS, one behind the other
after_append : (t : List ℕ) (cs ds : List Call) → after t (cs ++ ds) ≡ after (after t cs) ds
unfolding after
after_append t [] ds = refl
after_append t (c ∷ cs) ds = after_append (left t c) cs ds

accepted_append : (t : List ℕ) (cs ds : List Call) → all_accepted t cs ≡ true → all_accepted (after t cs) ds ≡ true
    → all_accepted t (cs ++ ds) ≡ true
unfolding after all_accepted
accepted_append t [] ds a b = b
accepted_append t (c ∷ cs) ds a b =
    and_both (is_accepted (answer (outcome t c))) _ (and_left _ _ a)
    (accepted_append (left t c) cs ds (and_right (is_accepted (answer (outcome t c))) _ a) b)

has_result : (o : Outcome) → is_accepted (answer o) ≡ true → (s : List ℕ) × (o ≡ result s)
unfolding is_accepted answer
has_result (result s) e = (s, refl)
has_result (refuse r) e = absurd (false≢true e)

-- the join of the first split is the last
last_join : (c : SplitJoin) (cs : List SplitJoin) → joins (c ∷ cs) ≡ joins cs ++ (join_call c ∷ [])
unfolding joins
last_join c cs = rev_append (map join_call cs) (join_call c ∷ [])

first_given : {c : Call} {cs : List Call} → AllGiven (c ∷ cs) → Given c × AllGiven cs
first_given (one_call g h) = (g, h)

-- WHAT THE JOINS OF A LIST GIVE
record Gives (t : List ℕ) (cs : List SplitJoin) : Type 0 where
  pub accepted : all_accepted (after t (splits cs)) (joins cs) ≡ true
  pub table : rejoined t cs ≡ turned_table (all_open t cs) t

-- a split in front of a list: the list's joins restore the table s that it leaves but for the marks that they turn, and
-- its own join then restores t so
module _ (t : List ℕ) (c : SplitJoin) (cs : List SplitJoin) (bt : Bytes t) (v : Valid t) (room : length t ≤ c.join_room) (s : List ℕ)
    (e : split t c.part c.source_cut c.target_cut c.new_id c.split_room ≡ result s) where
  leaves : left t (split_call c) ≡ s
  unfolding left next_table split_call outcome
  leaves = ap (λ (o : Outcome). next_table o t) e

  same_open : both_open (open_at_cuts t c.part c.source_cut c.target_cut) (all_open s cs) ≡ all_open t (c ∷ cs)
  unfolding all_open
  same_open =
      ap (λ (z : List ℕ). both_open (open_at_cuts t c.part c.source_cut c.target_cut) (all_open z cs)) (sym leaves)

  last : Gives s cs → outcome (rejoined s cs) (join_call c) ≡ result (turned_table (all_open t (c ∷ cs)) t)
  unfolding join_call outcome
  last r =
      let undoes = restored t c.part c.source_cut c.target_cut c.new_id c.split_room s bt v e (all_open s cs) in
      ap (λ (z : List ℕ). outcome z (join_call c)) r.table ∙ undoes.enough c.join_room room
      ∙ ap (λ (d : OpenAtCuts). result (turned_table d t)) same_open

  one_more : Gives s cs → Gives t (c ∷ cs)
  unfolding splits after all_accepted rejoined left next_table is_accepted answer
  one_more r =
      let start : after t (splits (c ∷ cs)) ≡ after s (splits cs) = ap (λ (z : List ℕ). after z (splits cs)) leaves in
      record {
        accepted = ap₂ all_accepted start (last_join c cs)
            ∙ accepted_append (after s (splits cs)) (joins cs) (join_call c ∷ []) r.accepted
            (and_both _ true (ap (λ (o : Outcome). is_accepted (answer o)) (last r)) refl);
        table = ap₂ after start (last_join c cs) ∙ after_append (after s (splits cs)) (joins cs) (join_call c ∷ [])
            ∙ ap (λ (o : Outcome). next_table o (rejoined s cs)) (last r);
      }

  next_bytes : c.new_id < 65536 → Bytes s
  unfolding split_unit with_parts
  next_bytes g =
      accepted_bytes t (split_unit (unit t) c.part c.source_cut c.target_cut c.new_id) s
      (split_accepted t c.part c.source_cut c.target_cut c.new_id c.split_room s bt e)
      (split_fits c.source_cut c.target_cut c.new_id (unit t).parts c.part g (table_fits t bt v))

gives : (t : List ℕ) (cs : List SplitJoin) → Bytes t → Valid t → AllGiven (splits cs) → all_accepted t (splits cs) ≡ true
    → enough_output t cs ≡ true → Gives t cs
unfolding splits joins after all_accepted enough_output rejoined all_open split_call outcome turned_table
gives t [] bt v g a o = record { accepted = refl; table = sym (ap encode (turned_none (unit t)) ∙ valid_bytes t bt v) }
gives t (c ∷ cs) bt v g a o =
    let first = split t c.part c.source_cut c.target_cut c.new_id c.split_room in
    let (s, e) = has_result first (and_left _ _ a) in
    let room : length t ≤ c.join_room = leb-true (length t) c.join_room (and_left _ _ o) in
    let same = leaves t c cs bt v room s e in
    let (given, others) = first_given g in
    one_more t c cs bt v room s e
    (gives s cs (next_bytes t c cs bt v room s e given)
    (split_valid t c.part c.source_cut c.target_cut c.new_id c.split_room s bt e) others
    (ap (λ (z : List ℕ). all_accepted z (splits cs)) (sym same) ∙ and_right (is_accepted (answer first)) _ a)
    (ap (λ (z : List ℕ). enough_output z cs) (sym same) ∙ and_right (leb (length t) c.join_room) _ o))

pub split_and_rejoin : SplitAndRejoin
unfolding SplitAndRejoin turned_table
split_and_rejoin t cs bt v g a o =
    let r = gives t cs bt v g a o in
    let c : OpenAtCuts = all_open t cs in
    record {
      accepted = r.accepted;
      table = r.table;
      apart_from_marks = ap (λ (z : List ℕ). flat_unit (unit z)) r.table
          ∙ ap flat_unit
          (read_back (turned c (unit t)) (turned_sent c (unit t) (sent t bt v)) (turned_within c (unit t) (valid_within t bt v)))
          ∙ turned_flat c (unit t);
    }
