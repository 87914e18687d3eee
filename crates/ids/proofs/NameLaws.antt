-- Rule 6, one record further.
use Prim.Native.Nat.{ℕ, suc, ◌+◌, ◌/◌, ◌%◌, ◌≤◌, ◌<◌}
use mathlib.Core.Path.{◌≡◌, refl, sym, ◌∙◌, ap, ap₂, subst}
use mathlib.Core.Bool.{Bool, true, false, not, ◌&&◌, ◌||◌, cond, true≢false}
use mathlib.Core.List.{List, [], ◌∷◌, ◌++◌}
use mathlib.Core.Option.{none}
use native.Mathlib.Omega.{arith}
use borrow.Author.Tests.{eqb-true, ne_eqb}
use lib.ListN.{length, take, drop, set}
use lib.Seq.{take-suc-set}
use lib.Dec.{eqb}
use Rattle.xliff.specs.Bytes.{any}
use Rattle.xliff.specs.Answer.{refusal}
use Rattle.xliff.specs.Encode as encode
use Rattle.xliff.specs.Encode.{record_bytes, unit_records}
use Rattle.xliff.specs.Parse.{unit, read, is_part}
use Rattle.xliff.proofs.lists.Tests.{any_append, any_same}
use Rattle.xliff.specs.Rules.{Owner, of_part, of_source, of_target, Named, start_name, clashes, may_share, first_clash, fault_6}
use Rattle.places.specs.Offsets.{At}
use Rattle.places.proofs.Places.{at_next, at_end}
use Rattle.places.specs.Found.{found, found_at, state_after, head_name, no_name, names_found}
use Rattle.places.proofs.Found.{rule_6_found}
use Rattle.table.specs.Meaning.{record_meaning, body}
use Rattle.table.specs.declared.Record.{Record}
use Rattle.table.specs.declared.Record.TheVariants.{Unit as UnitStart, UnitEnd, Segment, Ignorable, Target, Text, Inline}
use Rattle.glance.specs.declared.Glance.{Glance}
use Rattle.glance.specs.Glances.{kind_of, head_kind_in}
use Rattle.orders.proofs.WalkLaws.{Walked}
use Rattle.ids.specs.Keys.{owner, named, clash_test, owner_by, NameAt, Meets}
use Rattle.std.specs.Prelude.{Option, None, Some}

unfoldable pub named_key : ℕ → Named
named_key k = record { owner = owner (k % 64); name = k / 64; at = 0 }

-- the stored numbers are the ids met
unfoldable pub Met : List ℕ → ℕ → List Named → Type 0
Met keys n met = (x : Named) → any (clashes x) met ≡ any (λ k. clashes x (named_key k)) (take n keys)

share_same : (m n : ℕ) → may_share (owner m) (owner n) ≡ (eqb m 2 && eqb n 3 || eqb m 3 && eqb n 2)
unfolding owner may_share
share_same m n = by (eqb m 2) (eqb m 3) (eqb n 2) (eqb n 3) refl refl refl refl
  where
    no : (a b : ℕ) → eqb a 2 ≡ true → eqb a 3 ≡ true → ⊥
    no a b p q = omega (arith, eqb-true a 2 p, eqb-true a 3 q)

    by : (a b c d : Bool) → eqb m 2 ≡ a → eqb m 3 ≡ b → eqb n 2 ≡ c → eqb n 3 ≡ d
        → may_share (cond a of_source (cond b of_target of_part)) (cond c of_source (cond d of_target of_part)) ≡ (a && d || b && c)
    by true true c d p q r s = absurd (no m 0 p q)
    by true false true true p q r s = absurd (no n 0 r s)
    by true false true false p q r s = refl
    by true false false true p q r s = refl
    by true false false false p q r s = refl
    by false true true true p q r s = absurd (no n 0 r s)
    by false true true false p q r s = refl
    by false true false true p q r s = refl
    by false true false false p q r s = refl
    by false false c d p q r s = refl

clash_same : (a at b : ℕ) → clashes (record { owner = owner (a % 64); name = a / 64; at = at }) (named_key b) ≡ clash_test a b
unfolding clashes named_key
clash_same a at b = ap (λ (s : Bool). eqb (a / 64) (b / 64) && not s) (share_same (a % 64) (b % 64))

-- an id clashes with one that was met
hits : (a at n : ℕ) (keys : List ℕ) (met : List Named) → Met keys n met
    → any (clashes (record { owner = owner (a % 64); name = a / 64; at = at })) met ≡ any (clash_test a) (take n keys)
unfolding Met
hits a at n keys met m = m (record { owner = owner (a % 64); name = a / 64; at = at }) ∙ any_same _ _ (clash_same a at) (take n keys)

or_turn : (a b : Bool) → a || b ≡ b || (a || false)
or_turn true true = refl
or_turn true false = refl
or_turn false true = refl
or_turn false false = refl

met_more : (keys : List ℕ) (n : ℕ) (met : List Named) → Met keys n met → (k at : ℕ) → n < length keys → (x : Named)
    → any (clashes x) (record { owner = owner (k % 64); name = k / 64; at = at } ∷ met) ≡ any (λ k. clashes x (named_key k)) (take (n + 1) (set keys n k))
unfolding Met any clashes named_key
met_more keys n met m k at h x =
    or_turn (clashes x (named_key k)) (any (clashes x) met)
    ∙ ap (λ (b : Bool). b || (clashes x (named_key k) || false)) (m x)
    ∙ sym (any_append (λ k. clashes x (named_key k)) (take n keys) (k ∷ []))
    ∙ ap (any (λ k. clashes x (named_key k))) (sym (take-suc-set keys n k h) ∙ ap (λ (j : ℕ). take j (set keys n k)) (let z : suc n ≡ n + 1 = omega arith in z))

-- the id that a record gives, or none, and the numbers after it
module _ (keys : List ℕ) (n : ℕ) (met : List Named) (m : Met keys n met) (name : Option ℕ) (at : ℕ) (rest : List Named) (keys' : List ℕ) (n' : ℕ) where
  pub name_hit : Meets keys n name true keys' n' → first_clash met (named name at ++ rest) ≡ refusal 6 at
  unfolding named first_clash
  name_hit e = by name e
    where
      by : (o : Option ℕ) → Meets keys n o true keys' n' → first_clash met (named o at ++ rest) ≡ refusal 6 at
      by None e = absurd (true≢false e.0)
      by (Some k) e = rw (hits k at n keys met m ∙ sym e.0)

  pub name_miss : n < length keys → Meets keys n name false keys' n'
      → (met' : List Named) × (first_clash met (named name at ++ rest) ≡ first_clash met' rest) × Met keys' n' met' × (n' ≤ n + 1)
  unfolding named first_clash Met
  name_miss h e = by name e
    where
      by : (o : Option ℕ) → Meets keys n o false keys' n'
          → (met' : List Named) × (first_clash met (named o at ++ rest) ≡ first_clash met' rest) × Met keys' n' met' × (n' ≤ n + 1)
      by None e = (met, refl, (λ x. m x ∙ ap₂ (λ (l : List ℕ) (j : ℕ). any (λ k. clashes x (named_key k)) (take j l)) (sym e.1) (sym e.2)), omega (arith, e.2))
      by (Some k) e =
          let more = e.1 refl in (
            record { owner = owner (k % 64); name = k / 64; at = at } ∷ met,
            rw (hits k at n keys met m ∙ sym e.0),
            (λ x. met_more keys n met m k at h x
                ∙ ap₂ (λ (l : List ℕ) (j : ℕ). any (λ k. clashes x (named_key k)) (take j l)) (sym more.0) (sym more.1)),
            omega (arith, more.1),
          )

-- the owner after a record
owner_after : (o : ℕ) (cs : List ℕ) (x : Record)
    → state_after of_source (λ q. of_target) head_name (λ q at. []) start_name no_name (owner o) (record_meaning cs x) ≡ owner (owner_by (head_kind_in x) o)
unfolding state_after owner
owner_after o cs (UnitStart c) = refl
owner_after o cs UnitEnd = refl
owner_after o cs (Segment f) = refl
owner_after o cs (Ignorable i) = refl
owner_after o cs (Target k) = refl
owner_after o cs Text = refl
owner_after o cs (Inline i) = refl

pub owner_bound : (h o : ℕ) → o ≤ 3 → owner_by h o ≤ 3
owner_bound h o b = by (eqb h 0) (eqb h 1)
  where
    by : (p q : Bool) → cond p 2 (cond q 3 o) ≤ 3
    by true q = omega arith
    by false true = omega arith
    by false false = b

part_is : (cs : List ℕ) (x : Record) → is_part (record_meaning cs x) ≡ eqb (head_kind_in x) 0
unfolding is_part
part_is cs (UnitStart c) = refl
part_is cs UnitEnd = refl
part_is cs (Segment f) = refl
part_is cs (Ignorable i) = refl
part_is cs (Target k) = refl
part_is cs Text = refl
part_is cs (Inline i) = refl

pub names_step : (t : List ℕ) (at : ℕ) (rs : List encode.Record) (g : Glance) → At t at rs → at < length t → (v : Walked t at rs g) (o : ℕ) (k : Option ℕ) → NameAt t at (kind_of g.head) o k
    → names_found (owner o) at rs ≡ named k at ++ names_found (owner (owner_by (kind_of g.head) o)) (at + g.width) v.step.others
unfolding found
names_step t at rs g a l v o k e =
    let reads = (at_next t at v.step.first v.step.others (subst (At t at) v.step.split a)).reads in
    let part : ((kind_of g.head) ≡ 0 → ⊥) → is_part (read (drop at t)) ≡ false =
    λ n. ap is_part (reads ∙ sym v.step.means) ∙ part_is (body (drop at t)) v.the ∙ ap (λ (h : Glance). eqb (kind_of h.head) 0) (sym v.is) ∙ ne_eqb (kind_of g.head) 0 n in
    ap (names_found (owner o) at) v.step.split
    ∙ ap₂ (λ (l : List Named) (p : Owner). l ++ names_found p (at + length (record_bytes v.step.first)) v.step.others)
    (ap (found_at of_source (λ q. of_target) head_name (λ q at. []) start_name no_name (owner o) at) (sym reads) ∙ sym (e rs a l part))
    (ap (state_after of_source (λ q. of_target) head_name (λ q at. []) start_name no_name (owner o))
    (sym v.step.means) ∙ owner_after o (body (drop at t)) v.the
    ∙ ap (λ (h : Glance). owner (owner_by (kind_of h.head) o)) (sym v.is))
    ∙ ap (λ (j : ℕ). named k at ++ names_found (owner (owner_by (kind_of g.head) o)) (at + j) v.step.others) (sym (v.wide ∙ v.step.wide))

pub names_end : (t : List ℕ) (at : ℕ) (rs : List encode.Record) (o : Owner) (met : List Named) → At t at rs → length t ≤ at → first_clash met (names_found o at rs) ≡ none
unfolding first_clash found
names_end t at rs o met a l = ap (λ (l : List encode.Record). first_clash met (names_found o at l)) (at_end t at rs a l)

pub names_start : (t : List ℕ) → fault_6 (unit t).parts ≡ first_clash [] (names_found (owner 2) 0 (unit_records (unit t)))
unfolding owner
names_start t = rule_6_found (unit t)

pub met_none : (keys : List ℕ) → Met keys 0 []
unfolding Met any
met_none keys x = refl
