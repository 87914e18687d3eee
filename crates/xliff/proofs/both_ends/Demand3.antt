-- DEMAND 3, whole: what each accepted call leaves, from the laws of the five operations; then the list of calls by
-- induction (LawBothEnds).
use Prim.Native.Nat.{ℕ, suc, ◌+◌, ◌≤◌, ◌<◌}
use native.Mathlib.Omega.{arith}
use mathlib.Core.Path.{◌≡◌, refl, sym, ap, ◌∙◌, subst}
use mathlib.Core.Bool.{Bool, true, false, not, ◌&&◌, ◌||◌, true≢false}
use mathlib.Core.List.{List, [], ◌∷◌, ◌++◌}
use mathlib.Core.Option.{none}
use lib.ListN.{length, length-append, length-map}
use Rattle.xliff.proofs.lists.Tests.{and_false, and-true}
use Rattle.xliff.specs.Bytes.{Bytes, gather}
use Rattle.xliff.specs.Answer.{Refusal, applies, Outcome, result, refuse, answer, is_accepted, next_table}
use Rattle.xliff.specs.Item.{Item, Content, flattened, non_removable}
use Rattle.xliff.specs.Unit.{Part, XliffUnit, is_closed, source_sequence, target_sequence}
use Rattle.xliff.specs.Parse.{unit, content, content_fault}
use Rattle.xliff.specs.Rules.{fault_5}
use Rattle.xliff.specs.Check.{Valid}
use Rattle.xliff.specs.Focus.{Focus, nowhere, here, focus, with_parts}
use Rattle.xliff.specs.Split.{split_focus, split_unit, split_refusal, split}
use Rattle.xliff.specs.Join.{join_focus, join_unit, bad_orders, join_refusal, join}
use Rattle.xliff.specs.SetTarget.{state_fits, set_focus, set_unit, set_refusal, set_target}
use Rattle.xliff.specs.RemoveTarget.{remove_focus, remove_unit, remove_target}
use Rattle.xliff.specs.Rewrite.{form_of, rewrite_item, rewrite_part, rewrite_unit, rewrite}
use Rattle.xliff.specs.Calls.{Call, SP, JN, ST, RT, RW, outcome, left, one_if, Kind, a_split, a_join, a_setting, a_removal, kind, kind_number, of_kind, Given}
use Rattle.xliff.specs.BothEnds.{closed_part, flat_source, flat_target, part_count, closed_parts, times, Demand3}
use Rattle.xliff.proofs.operations.Sources.{focus_here, split_source, join_source, set_source, remove_source, rewrite_source, split_count, join_count}
use Rattle.xliff.proofs.operations.SplitTarget.{split_target}
use Rattle.xliff.proofs.operations.JoinTarget.{join_target, rewrite_target_sequence}
use Rattle.xliff.proofs.operations.Closed.{closed_of, split_closed, join_closed, set_closed, remove_closed, rewrite_closed}
use Rattle.xliff.proofs.unit.Result.{then_left, then_right, applies_none, operation_result, Sent}
use Rattle.xliff.proofs.records.Fits.{FitParts}
use Rattle.xliff.proofs.unit.Accepted.{Accepted, accepted_valid, accepted_unit, accepted_bytes}
use Rattle.xliff.proofs.operations.SetValid.{set_accepted}
use Rattle.xliff.proofs.operations.SplitValid.{split_accepted}
use Rattle.xliff.proofs.operations.JoinValid.{join_accepted}
use Rattle.xliff.proofs.operations.RemoveValid.{remove_accepted}
use Rattle.xliff.proofs.operations.RewriteValid.{rewrite_accepted}
use Rattle.xliff.proofs.both_ends.FitsKept.{table_fits, content_fits, split_fits, join_fits, set_fits, remove_fits, rewrite_fits}
use Rattle.xliff.proofs.both_ends.Once.{copies, times_copies}
use Rattle.xliff.proofs.both_ends.KeptCodes.{sent_once, code_if, once, set_codes}
use Rattle.xliff.proofs.both_ends.Lists.{done, OneCall, demand_3}

-- what an accepted call of a kind leaves, in the units
record Keeps (t : List ℕ) (c : Call) (v : XliffUnit) : Type 0 where
  pub fits : FitParts v.parts
  pub letter : v.opening.can_resegment ≡ (unit t).opening.can_resegment
  pub source : flattened (source_sequence v.parts) ≡ flattened (source_sequence (unit t).parts)
  pub closed : closed_of (unit t).opening.can_resegment v.parts ≡ closed_of (unit t).opening.can_resegment (unit t).parts
  pub count : length v.parts + one_if (of_kind a_join c) ≡ length (unit t).parts + one_if (of_kind a_split c)
  pub codes : of_kind a_removal c ≡ false → (x : Item) → non_removable x ≡ true → 1 ≤ copies x (flattened (target_sequence (unit t).parts))
      → 1 ≤ copies x (flattened (target_sequence v.parts))
  pub goals : of_kind a_removal c ≡ false → of_kind a_setting c ≡ false → flattened (target_sequence v.parts) ≡ flattened (target_sequence (unit t).parts)

-- a kind that was done no times is another kind
not_done : (b : Bool) → one_if b ≡ 0 → b ≡ false
unfolding one_if
not_done true e = absurd (let z : ⊥ = omega arith in z)
not_done false e = refl

-- an accepted call
module _ (t : List ℕ) (c : Call) (r : List ℕ) (v : XliffUnit) (e : outcome t c ≡ result r) (a : Accepted t v r) (k : Keeps t c v) where
  leaves : left t c ≡ r
  unfolding left next_table
  leaves = ap (λ (o : Outcome). next_table o t) e

  was_done : (j : Kind) → done j t c ≡ one_if (of_kind j c)
  unfolding is_accepted answer
  was_done j = ap (λ (o : Outcome). one_if (of_kind j c && is_accepted (answer o))) e ∙ ap one_if (and-true (of_kind j c))

  same_unit : unit r ≡ v
  same_unit = accepted_unit t v r a

  target_now : flat_target r ≡ flattened (target_sequence v.parts)
  unfolding flat_target
  target_now = ap (λ (u : XliffUnit). flattened (target_sequence u.parts)) same_unit

  kept : of_kind a_removal c ≡ false → (x : Item) → non_removable x ≡ true → times x (flat_target t) ≡ 1 → times x (flat_target r) ≡ 1
  unfolding flat_target
  kept z x n h =
      let least = k.codes z x n (let w = times_copies x (flattened (target_sequence (unit t).parts)) in omega arith) in
      let most = sent_once v a.now x (code_if x n) in
      ap (times x) target_now ∙ times_copies x (flattened (target_sequence v.parts)) ∙ (let w : copies x (flattened (target_sequence v.parts)) ≡ 1 = omega arith in w)

  accepted_call : OneCall t c
  unfolding flat_source flat_target closed_parts part_count closed_of
  accepted_call =
      record {
        bytes = subst Bytes (sym leaves) (accepted_bytes t v r a k.fits);
        valid = subst Valid (sym leaves) (accepted_valid t v r a);
        same_source = ap flat_source leaves ∙ ap (λ (u : XliffUnit). flattened (source_sequence u.parts)) same_unit ∙ k.source;
        same_closed = ap closed_parts leaves ∙ ap (λ (u : XliffUnit). gather (closed_part u.opening.can_resegment) u.parts) same_unit
            ∙ ap (λ (l : ℕ). gather (closed_part l) v.parts) k.letter ∙ k.closed;
        same_count =
            let x = ap part_count leaves in
            let y = ap (λ (u : XliffUnit). length u.parts) same_unit in
            let j = was_done a_join in
            let s = was_done a_split in
            let n = k.count in
            omega arith;
        kept_codes = λ z x n h. ap (λ (l : List ℕ). times x (flat_target l)) leaves ∙ kept (not_done _ (sym (was_done a_removal) ∙ z)) x n h;
        same_target = λ z w. ap flat_target leaves ∙ target_now ∙ k.goals (not_done _ (sym (was_done a_removal) ∙ z)) (not_done _ (sym (was_done a_setting) ∙ w));
      }

-- a refused call
refused_call : (t : List ℕ) (c : Call) (x : Refusal) → Bytes t → Valid t → outcome t c ≡ refuse x → OneCall t c
unfolding left next_table is_accepted answer one_if
refused_call t c x b v e =
    let stays : left t c ≡ t = ap (λ (o : Outcome). next_table o t) e in
    record {
      bytes = subst Bytes (sym stays) b;
      valid = subst Valid (sym stays) v;
      same_source = ap flat_source stays;
      same_closed = ap closed_parts stays;
      same_count = let z = ap part_count stays in let j = not_done_now a_join in let s = not_done_now a_split in omega arith;
      kept_codes = λ z y n h. ap (λ (l : List ℕ). times y (flat_target l)) stays ∙ h;
      same_target = λ z w. ap flat_target stays;
    }
  where
    not_done_now : (j : Kind) → done j t c ≡ 0
    not_done_now j = ap (λ (o : Outcome). one_if (of_kind j c && is_accepted (answer o))) e ∙ ap one_if (and_false (of_kind j c))

-- SPLIT
split_keeps : (t : List ℕ) (n source_cut target_cut new room : ℕ) (r : List ℕ) → new < 65536 → Bytes t → Valid t → split t n source_cut target_cut new room ≡ result r
    → Sent (unit t) → Keeps t (SP n source_cut target_cut new room) (split_unit (unit t) n source_cut target_cut new)
unfolding split split_unit with_parts split_refusal kind kind_number of_kind one_if
split_keeps t n source_cut target_cut new room r l b v e h =
    let (valid, own, same) = operation_result t _ _ r e in
    let first = then_left (split_refusal (unit t) source_cut target_cut new (focus (unit t).parts n)) _ own in
    let (closed, count) = by (focus (unit t).parts n) refl first in
    let own_target = split_target source_cut target_cut new (unit t).parts n h.rule_5 in
    record {
      fits = split_fits source_cut target_cut new (unit t).parts n l (table_fits t b v);
      letter = refl;
      source = split_source source_cut target_cut new (unit t).parts n;
      closed = closed;
      count = omega arith;
      codes = λ z x nr k. subst (λ (ys : Content). 1 ≤ copies x ys) (sym own_target) k;
      goals = λ z w. own_target;
    }
  where
    u : XliffUnit
    u = unit t

    by : (f : Focus) → focus u.parts n ≡ f → split_refusal u source_cut target_cut new f ≡ none
        → (closed_of u.opening.can_resegment (split_focus source_cut target_cut new u.parts (focus u.parts n)) ≡ closed_of u.opening.can_resegment u.parts)
        × (length (split_focus source_cut target_cut new u.parts (focus u.parts n)) ≡ suc (length u.parts))
    by nowhere k o = absurd (true≢false (applies_none 11 true o))
    by (here f p a) k o =
        let at : u.parts ≡ f ++ (p ∷ a) = focus_here u.parts n f p a k in (
          ap (λ (z : Focus). closed_of u.opening.can_resegment (split_focus source_cut target_cut new u.parts z)) k
              ∙ split_closed u.opening.can_resegment source_cut target_cut new u.parts f p a at (applies_none 12 _ (then_left _ _ o)),
          ap (λ (z : Focus). length (split_focus source_cut target_cut new u.parts z)) k ∙ split_count source_cut target_cut new u.parts f p a at,
        )

-- JOIN
join_keeps : (t : List ℕ) (n room : ℕ) (r : List ℕ) → Bytes t → Valid t → join t n room ≡ result r → Sent (unit t) → Keeps t (JN n room) (join_unit (unit t) n)
unfolding join join_unit with_parts join_refusal kind kind_number of_kind one_if
join_keeps t n room r b v e h =
    let (valid, own, same) = operation_result t _ _ r e in
    let first = then_left (join_refusal (unit t) n (focus (unit t).parts n)) _ own in
    let (closed, count, own_target) = by (focus (unit t).parts n) refl first in
    record {
      fits = join_fits (unit t).parts n (table_fits t b v);
      letter = refl;
      source = ap flattened (join_source (unit t).parts n);
      closed = closed;
      count = omega arith;
      codes = λ z x nr k. subst (λ (ys : Content). 1 ≤ copies x ys) (sym own_target) k;
      goals = λ z w. own_target;
    }
  where
    u : XliffUnit
    u = unit t

    by : (f : Focus) → focus u.parts n ≡ f → join_refusal u n f ≡ none
        → (closed_of u.opening.can_resegment (join_focus u.parts (focus u.parts n)) ≡ closed_of u.opening.can_resegment u.parts)
        × (suc (length (join_focus u.parts (focus u.parts n))) ≡ length u.parts)
        × (flattened (target_sequence (join_focus u.parts (focus u.parts n))) ≡ flattened (target_sequence u.parts))
    by nowhere k o = absurd (true≢false (applies_none 11 true o))
    by (here f p []) k o = absurd (true≢false (applies_none 11 true o))
    by (here f p (q ∷ a)) k o =
        let at : u.parts ≡ f ++ (p ∷ q ∷ a) = focus_here u.parts n f p (q ∷ a) k in
        let o2 = then_right (applies 12 (is_closed u.opening.can_resegment p || is_closed u.opening.can_resegment q)) _ o in (
          ap (λ (z : Focus). closed_of u.opening.can_resegment (join_focus u.parts z)) k ∙ join_closed u.opening.can_resegment u.parts f p q a at (applies_none 12 _ (then_left _ _ o)),
          ap (λ (z : Focus). suc (length (join_focus u.parts z))) k ∙ join_count u.parts f p q a at,
          ap (λ (z : Focus). flattened (target_sequence (join_focus u.parts z))) k
              ∙ ap flattened (join_target u.parts f p q a at h.rule_5 (applies_none 16 (bad_orders p.target q.target) (then_left _ _ o2))),
        )

-- SET TARGET
same_length : (b : List Part) (p q : Part) (a : List Part) → length (b ++ (q ∷ a)) ≡ length (b ++ (p ∷ a))
same_length b p q a = length-append b (q ∷ a) ∙ sym (length-append b (p ∷ a))

set_length : (ps : List Part) (n st : ℕ) (new : Content) (b : List Part) (p : Part) (a : List Part) → length (set_focus ps n st new (here b p a)) ≡ length (b ++ (p ∷ a))
unfolding set_focus
set_length ps n st new b p a = same_length b p _ a

remove_length : (ps : List Part) (n : ℕ) → length (remove_focus ps (focus ps n)) ≡ length ps
unfolding remove_focus
remove_length ps n = by (focus ps n) refl
  where
    by : (f : Focus) → focus ps n ≡ f → length (remove_focus ps f) ≡ length ps
    by nowhere e = refl
    by (here b p a) e = same_length b p _ a ∙ ap length (sym (focus_here ps n b p a e))

set_keeps : (t : List ℕ) (n st : ℕ) (s : List ℕ) (room : ℕ) (r : List ℕ) → Bytes s → Bytes t → Valid t → set_target t n st s room ≡ result r
    → Sent (unit t) → Sent (set_unit (unit t) n st (content s)) → Keeps t (ST n st s room) (set_unit (unit t) n st (content s))
unfolding set_target set_unit with_parts set_refusal kind kind_number of_kind one_if
set_keeps t n st s room r bs b v e h now =
    let (valid, own, same) = operation_result t _ _ r e in
    let first = then_left (set_refusal st s (focus (unit t).parts n)) _ own in
    let (cf, count, codes) = by (focus (unit t).parts n) refl first now.rule_5 in
    record {
      fits = set_fits (unit t).parts n st (content s) (content_fits s bs cf) (table_fits t b v);
      letter = refl;
      source = ap flattened (set_source (unit t).parts n st (content s));
      closed = set_closed (unit t).opening.can_resegment (unit t).parts n st (content s);
      count = omega arith;
      codes = λ z x nr k. codes x nr k;
      goals = λ z w. absurd (true≢false w);
    }
  where
    u : XliffUnit
    u = unit t

    by : (f : Focus) → focus u.parts n ≡ f → set_refusal st s f ≡ none → fault_5 (set_focus u.parts n st (content s) (focus u.parts n)) ≡ none
        → (content_fault s ≡ none) × (length (set_focus u.parts n st (content s) (focus u.parts n)) ≡ length u.parts)
        × ((x : Item) → non_removable x ≡ true → 1 ≤ copies x (flattened (target_sequence u.parts))
        → 1 ≤ copies x (flattened (target_sequence (set_focus u.parts n st (content s) (focus u.parts n)))))
    by nowhere k o five = absurd (true≢false (applies_none 11 true o))
    by (here f p a) k o five =
        let at : u.parts ≡ f ++ (p ∷ a) = focus_here u.parts n f p a k in
        let o2 = then_right (applies 2 (not (state_fits p.head st))) _ o in
        let o3 = then_right (content_fault s) _ o2 in (
          then_left _ _ o2,
          ap (λ (z : Focus). length (set_focus u.parts n st (content s) z)) k ∙ set_length u.parts n st (content s) f p a ∙ ap length (sym at),
          λ x nr m.
              subst (λ (z : Focus). 1 ≤ copies x (flattened (target_sequence (set_focus u.parts n st (content s) z)))) (sym k)
              (set_codes u n st (content s) f p a at h.rule_5 (ap (λ (z : Focus). fault_5 (set_focus u.parts n st (content s) z)) (sym k) ∙ five)
              (applies_none 18 _ (then_left _ _ o3)) x nr m),
        )

-- REMOVE TARGET
remove_keeps : (t : List ℕ) (n room : ℕ) → Bytes t → Valid t → Keeps t (RT n room) (remove_unit (unit t) n)
unfolding remove_unit with_parts kind kind_number of_kind one_if
remove_keeps t n room b v =
    record {
      fits = remove_fits (unit t).parts n (table_fits t b v);
      letter = refl;
      source = ap flattened (remove_source (unit t).parts n);
      closed = remove_closed (unit t).opening.can_resegment (unit t).parts n;
      count = let z = remove_length (unit t).parts n in omega arith;
      codes = λ z. absurd (true≢false z);
      goals = λ z. absurd (true≢false z);
    }

-- REWRITE
rewrite_keeps : (t : List ℕ) (side i w room : ℕ) → Bytes t → Valid t → Keeps t (RW side i w room) (rewrite_unit (unit t) side i (form_of w))
unfolding rewrite_unit with_parts kind kind_number of_kind one_if
rewrite_keeps t side i w room b v =
    let own_target = rewrite_target_sequence side i (form_of w) (unit t).parts in
    record {
      fits = rewrite_fits side i (form_of w) (unit t).parts (table_fits t b v);
      letter = refl;
      source = rewrite_source side i (form_of w) (unit t).parts;
      closed = rewrite_closed (unit t).opening.can_resegment side i (form_of w) (unit t).parts;
      count = let z = length-map (unit t).parts (rewrite_part side (rewrite_item i (form_of w))) in omega arith;
      codes = λ z x nr k. subst (λ (ys : Content). 1 ≤ copies x ys) (sym own_target) k;
      goals = λ z w. own_target;
    }

-- The share of each operation: what one call on a valid table of bytes leaves
pub each_call : (t : List ℕ) (c : Call) → Bytes t → Given c → Valid t → OneCall t c
unfolding outcome
each_call t (SP n source_cut target_cut new room) b g v = by (split t n source_cut target_cut new room) refl
  where
    by : (o : Outcome) → split t n source_cut target_cut new room ≡ o → OneCall t (SP n source_cut target_cut new room)
    by (refuse x) e = refused_call t (SP n source_cut target_cut new room) x b v e
    by (result r) e =
        let a = split_accepted t n source_cut target_cut new room r b e in
        accepted_call t (SP n source_cut target_cut new room) r (split_unit (unit t) n source_cut target_cut new) e a (split_keeps t n source_cut target_cut new room r g b v e a.was)
each_call t (JN n room) b g v = by (join t n room) refl
  where
    by : (o : Outcome) → join t n room ≡ o → OneCall t (JN n room)
    by (refuse x) e = refused_call t (JN n room) x b v e
    by (result r) e = let a = join_accepted t n room r b e in accepted_call t (JN n room) r (join_unit (unit t) n) e a (join_keeps t n room r b v e a.was)
each_call t (ST n st s room) b g v = by (set_target t n st s room) refl
  where
    by : (o : Outcome) → set_target t n st s room ≡ o → OneCall t (ST n st s room)
    by (refuse x) e = refused_call t (ST n st s room) x b v e
    by (result r) e =
        let a = set_accepted t n st s room r b g e in
        accepted_call t (ST n st s room) r (set_unit (unit t) n st (content s)) e a (set_keeps t n st s room r g b v e a.was a.now)
each_call t (RT n room) b g v = by (remove_target t n room) refl
  where
    by : (o : Outcome) → remove_target t n room ≡ o → OneCall t (RT n room)
    by (refuse x) e = refused_call t (RT n room) x b v e
    by (result r) e = accepted_call t (RT n room) r (remove_unit (unit t) n) e (remove_accepted t n room r b e) (remove_keeps t n room b v)
each_call t (RW side i w room) b g v = by (rewrite t side i w room) refl
  where
    by : (o : Outcome) → rewrite t side i w room ≡ o → OneCall t (RW side i w room)
    by (refuse x) e = refused_call t (RW side i w room) x b v e
    by (result r) e = accepted_call t (RW side i w room) r (rewrite_unit (unit t) side i (form_of w)) e (rewrite_accepted t side i w room r b e) (rewrite_keeps t side i w room b v)

-- DEMAND 3
pub both_ends : Demand3
both_ends = demand_3 each_call once
