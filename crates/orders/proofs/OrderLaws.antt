-- The orders of targets, one record further.
use Prim.Native.Nat.{ℕ, zero, suc, ◌+◌, ◌≤◌, ◌<◌}
use mathlib.Core.Path.{◌≡◌, refl, sym, ◌∙◌, ap}
use mathlib.Core.Bool.{Bool, true, false, ◌||◌, cond}
use mathlib.Core.List.{List, [], ◌∷◌}
use mathlib.Core.Option.{none}
use native.Mathlib.Omega.{arith}
use borrow.Author.Tests.{eqb-true, eqb-false, eq-eqb, ltb-false}
use lib.ListN.{length, drop, get_or, set, replicate, length-set}
use lib.Seq.{get_or-set_same, get_or-set_other}
use lib.Dec.{ltb, eqb}
use Rattle.xliff.specs.Bytes.{among}
use Rattle.xliff.specs.Answer.{refusal}
use Rattle.xliff.specs.Encode as encode
use Rattle.xliff.specs.Encode.{target_head, record_bytes, unit_records}
use Rattle.xliff.specs.Parse.{unit, most_parts}
use Rattle.xliff.specs.Rules.{bad_order, fault_5}
use Rattle.xliff.proofs.lists.Tests.{or_left, or_right}
use Rattle.places.specs.Offsets.{At}
use Rattle.places.specs.Passes.{Passes}
use Rattle.places.proofs.Places.{at_start, at_end}
use Rattle.places.specs.Found.{found, found_at, state_after, orders_found, first_bad_in}
use Rattle.places.proofs.Found.{rule_5_found}
use Rattle.table.specs.Meaning.{meaning, width, body}
use Rattle.table.specs.declared.Record.{Record}
use Rattle.table.specs.declared.Record.TheVariants.{Unit as UnitStart, UnitEnd, Segment, Ignorable, Target, Text, Inline}
use Rattle.table.specs.declared.Read.{Read}
use Rattle.table.specs.declared.Read.TheVariants.{Good, Ill, Broken}
use Rattle.glance.specs.declared.Glance.{Glance}
use Rattle.glance.specs.Glances.{head_in, order_set}
use Rattle.orders.specs.Heads.{order_in, order_of, order_by}
use Rattle.std.specs.Prelude.{Some, None}
use Rattle.orders.proofs.WalkLaws.{Stepped, Walked}

pub is_not : {A : Type 0} {q : ℕ} → None ≡ Some q → A
is_not e = absurd (let z : ◌≡◌ {A = ℕ} 0 1 = cc in omega arith)

pub is_is : {q k : ℕ} → Some k ≡ Some q → k ≡ q
is_is e = cc

order_target : (cs : List ℕ) (r : Read) (q : ℕ) → order_of r ≡ Some q → meaning cs r ≡ target_head q
order_target cs (Good (UnitStart c) w) q e = is_not e
order_target cs (Good UnitEnd w) q e = is_not e
order_target cs (Good (Segment f) w) q e = is_not e
order_target cs (Good (Ignorable i) w) q e = is_not e
order_target cs (Good (Target k) w) q e = ap target_head (is_is e)
order_target cs (Good Text w) q e = is_not e
order_target cs (Good (Inline i) w) q e = is_not e
order_target cs Ill q e = is_not e
order_target cs (Broken b) q e = is_not e

order_none : (cs : List ℕ) (r : Read) (at : ℕ) (qs : List encode.Record) → order_of r ≡ None
    → orders_found at (meaning cs r ∷ qs) ≡ orders_found (at + length (record_bytes (meaning cs r))) qs
unfolding found found_at state_after
order_none cs (Good (UnitStart c) w) at qs e = refl
order_none cs (Good UnitEnd w) at qs e = refl
order_none cs (Good (Segment f) w) at qs e = refl
order_none cs (Good (Ignorable i) w) at qs e = refl
order_none cs (Good (Target k) w) at qs e = is_not (sym e)
order_none cs (Good Text w) at qs e = refl
order_none cs (Good (Inline i) w) at qs e = refl
order_none cs Ill at qs e = refl
order_none cs (Broken b) at qs e = refl

order_in_lem : (x : Record) → order_in x ≡ order_set (head_in x)
order_in_lem (UnitStart c) = refl
order_in_lem UnitEnd = refl
order_in_lem (Segment f) = refl
order_in_lem (Ignorable i) = refl
order_in_lem (Target q) = refl
order_in_lem Text = refl
order_in_lem (Inline i) = refl

pub order_walked : (t : List ℕ) (at : ℕ) (rs : List encode.Record) (g : Glance) (v : Walked t at rs g) → order_of (Good v.the v.size) ≡ order_by g
order_walked t at rs g v = order_in_lem v.the ∙ ap (λ (h : Glance). order_by h) (sym v.is)

module _ (t : List ℕ) (at : ℕ) (rs : List encode.Record) (r : Read) (s : Stepped t at rs r) (n : ℕ) (us : List ℕ) where
  pub orders_skip : order_of r ≡ None → first_bad_in n us (orders_found at rs) ≡ first_bad_in n us (orders_found (at + width r) s.others)
  orders_skip e =
      ap (λ (l : List encode.Record). first_bad_in n us (orders_found at l)) (s.split ∙ ap (λ (x : encode.Record). x ∷ s.others) (sym s.means))
      ∙ ap (first_bad_in n us) (order_none (body (drop at t)) r at s.others e)
      ∙ ap (λ (k : ℕ). first_bad_in n us (orders_found (at + k) s.others)) (ap (λ (x : encode.Record). length (record_bytes x)) s.means ∙ sym s.wide)

  pub orders_at : (q : ℕ) → order_of r ≡ Some q
      → first_bad_in n us (orders_found at rs) ≡ cond (bad_order n us q) (refusal 5 at) (first_bad_in n (q ∷ us) (orders_found (at + width r) s.others))
  unfolding first_bad_in found found_at state_after
  orders_at q e =
      let x : s.first ≡ target_head q = sym s.means ∙ order_target (body (drop at t)) r q e in
      ap (λ (l : List encode.Record). first_bad_in n us (orders_found at l)) (s.split ∙ ap (λ (x : encode.Record). x ∷ s.others) x)
      ∙ ap (λ (k : ℕ). cond (bad_order n us q) (refusal 5 at) (first_bad_in n (q ∷ us) (orders_found (at + k) s.others)))
      (sym (s.wide ∙ ap (λ (x : encode.Record). length (record_bytes x)) x))

pub orders_end : (t : List ℕ) (at : ℕ) (rs : List encode.Record) (n : ℕ) (us : List ℕ) → At t at rs → length t ≤ at → first_bad_in n us (orders_found at rs) ≡ none
unfolding first_bad_in found
orders_end t at rs n us a l = ap (λ (l : List encode.Record). first_bad_in n us (orders_found at l)) (at_end t at rs a l)

-- the array of used orders
abbrev pub Marked : List Bool → List ℕ → Type 0
Marked used us = (q : ℕ) → q ≤ most_parts → get_or used q false ≡ among q us

pub bad_same : (n k : ℕ) (used : List Bool) (us : List ℕ) → n ≤ most_parts → Marked used us → (eqb k 0 || (ltb n k || get_or used k false)) ≡ bad_order n us k
unfolding bad_order
bad_same n k used us l m = ap (λ (b : Bool). eqb k 0 || b) (by (ltb n k) refl)
  where
    by : (b : Bool) → ltb n k ≡ b → b || get_or used k false ≡ b || among k us
    by true e = refl
    by false e = m k (omega (arith, ltb-false n k e))

pub marked_more : (used : List Bool) (us : List ℕ) (k : ℕ) → Marked used us → k < length used → Marked (set used k true) (k ∷ us)
unfolding among
marked_more used us k m l q h = by (eqb q k) refl
  where
    by : (b : Bool) → eqb q k ≡ b → get_or (set used k true) q false ≡ eqb q k || among q us
    by true e =
        let z : q ≡ k = eqb-true q k e in
        rw (z, get_or-set_same used k true false l, eq-eqb k k refl)
    by false e = rw (e, get_or-set_other used k q true false (eqb-false q k e)) (m q h)

all_unused : (n q : ℕ) → get_or (replicate n false) q false ≡ false
all_unused zero q = refl
all_unused (suc n) zero = refl
all_unused (suc n) (suc q) = all_unused n q

pub marked_none : Marked (replicate 65 false) []
unfolding among
marked_none q h = all_unused 65 q

pub orders_start : (t : List ℕ) (n : ℕ) → n ≡ length (unit t).parts → fault_5 (unit t).parts ≡ first_bad_in n [] (orders_found 0 (unit_records (unit t)))
orders_start t n e = rule_5_found (unit t) ∙ ap (λ (k : ℕ). first_bad_in k [] (orders_found 0 (unit_records (unit t)))) (sym e)

-- Where rule 5 stands before an offset: the records from there on, the orders used before it and the array that holds them
pub record Ordering (t : List ℕ) (n : ℕ) (used : List Bool) (at : ℕ) : Type 0 where
  pub records : List encode.Record
  pub orders : List ℕ
  pub here : At t at records
  pub rest : fault_5 (unit t).parts ≡ first_bad_in n orders (orders_found at records)
  pub marked : Marked used orders
  pub sized : length used ≡ 65

pub ordering_start : (t : List ℕ) (n : ℕ) → Passes t → n ≡ length (unit t).parts → Ordering t n (replicate 65 false) 0
ordering_start t n p e =
    record { records = unit_records (unit t); orders = []; here = at_start t p; rest = orders_start t n e; marked = marked_none; sized = refl }

pub ordering_end : {t : List ℕ} {n : ℕ} {used : List Bool} {at : ℕ} → Ordering t n used at → length t ≤ at → none ≡ fault_5 (unit t).parts
ordering_end {t} {n} {used} {at} o l = sym (o.rest ∙ orders_end t at o.records n o.orders o.here l)

-- one record further
module _ {t : List ℕ} {n : ℕ} {used : List Bool} {at : ℕ} (o : Ordering t n used at) (g : Glance) (v : Walked t at o.records g) where
  pub ordering_skips : order_by g ≡ None → Ordering t n used (at + g.width)
  ordering_skips e =
      record {
        records = v.step.others;
        orders = o.orders;
        here = v.rest;
        rest = o.rest ∙ orders_skip t at o.records (Good v.the v.size) v.step n o.orders (order_walked t at o.records g v ∙ e)
            ∙ ap (λ (k : ℕ). first_bad_in n o.orders (orders_found (at + k) v.step.others)) (sym v.wide);
        marked = o.marked;
        sized = o.sized;
      }

  -- a target's order q: the code's test of it, and what follows of it
  module _ (few : n ≤ most_parts) (q : ℕ) (e : order_by g ≡ Some q) where
    abbrev is_bad : Bool
    is_bad = eqb q 0 || (ltb n q || get_or used q false)

    judged : (b : Bool) → is_bad ≡ b → fault_5 (unit t).parts ≡ cond b (refusal 5 at) (first_bad_in n (q ∷ o.orders) (orders_found (at + g.width) v.step.others))
    judged b h =
        o.rest ∙ orders_at t at o.records (Good v.the v.size) v.step n o.orders q (order_walked t at o.records g v ∙ e)
        ∙ ap (λ (x : Bool). cond x (refusal 5 at) (first_bad_in n (q ∷ o.orders) (orders_found (at + v.size) v.step.others)))
        (sym (bad_same n q used o.orders few o.marked) ∙ h)
        ∙ ap (λ (k : ℕ). cond b (refusal 5 at) (first_bad_in n (q ∷ o.orders) (orders_found (at + k) v.step.others))) (sym v.wide)

    pub ordering_refuses : is_bad ≡ true → refusal 5 at ≡ fault_5 (unit t).parts
    ordering_refuses h = sym (judged true h)

    module _ (h : is_bad ≡ false) where
      pub order_within : q < 65
      order_within = omega (arith, ltb-false n q (or_left (ltb n q) _ (or_right (eqb q 0) _ h)))

      pub ordering_uses : Ordering t n (set used q true) (at + g.width)
      ordering_uses =
          record {
            records = v.step.others;
            orders = q ∷ o.orders;
            here = v.rest;
            rest = judged false h;
            marked = marked_more used o.orders q o.marked (omega (arith, order_within, o.sized));
            sized = length-set used q true ∙ o.sized;
          }
