-- The walk over the records of a table, one record further.
use Prim.Native.Nat.{ℕ, suc, ◌+◌, ◌≤◌}
use native.Mathlib.Omega.{arith}
use mathlib.Core.Path.{◌≡◌, refl, sym, ap, ap₂, ◌∙◌, subst}
use mathlib.Core.Bool.{Bool, true, false, not, ◌&&◌, cond, false≢true}
use mathlib.Core.List.{List}
use lib.ListN.{length, drop}
use lib.Dec.{eqb}
use mir.Val.{bool_byte}
use Rattle.xliff.specs.Bytes.{'S'}
use Rattle.xliff.specs.Item.{Item}
use Rattle.xliff.specs.Encode.{Record, unit_records}
use Rattle.xliff.specs.Good.{part_heads}
use Rattle.xliff.specs.Parse.{unit, is_part, most_parts}
use Rattle.xliff.specs.Rules.{half_of_id}
use Rattle.places.specs.Passes.{Passes}
use Rattle.places.specs.Markers.{item_in, item_at}
use Rattle.places.specs.Offsets.{At}
use Rattle.places.proofs.Places.{at_start, at_next, at_end}
use Rattle.table.specs.Meaning.{body}
use Rattle.glance.specs.declared.Glance.{Glance}
use Rattle.glance.specs.Glances.{kind_of}
use Rattle.orders.proofs.WalkLaws.{Walked, parts_walked}
use Rattle.rewrite_marks.specs.Rewritten.{inside_after, inside_of}
use Rattle.rewrite_marks.proofs.FormLaws.{inside_is}
use Rattle.views.specs.Views.{view_of}
use Rattle.views.specs.declared.View.{View}
use Rattle.grants.specs.Grant.{Grant, within, halves_within}
use Rattle.granted_halves.proofs.RecordLaws.{right, all_within, in_unit}

-- the view of an item tells whether it is a half of the id
pub half_is : (inside : Bool) (i : ℕ) (x : Item) (v : View) → v ≡ view_of x
    → inside && (not (eqb v.half 0) && eqb v.id i) ≡ inside && half_of_id i x
unfolding view_of half_of_id
half_is inside i x v e = ap (λ (w : View). inside && (not (eqb w.half 0) && eqb w.id i)) e

-- one part more, or none
counted : (b : Bool) (n : ℕ) → cond b (suc n) n ≡ cond b 1 0 + n
counted true n = omega arith
counted false n = omega arith

-- n += usize::from(head)
pub count_on : (b : Bool) (n : ℕ) → n + bool_byte b ≡ cond b (suc n) n
count_on true n = omega arith
count_on false n = omega arith

pub at_most_one : (b : Bool) → bool_byte b ≤ 1
at_most_one true = omega arith
at_most_one false = omega arith

-- a half outside the grant is not right
outside_wrong : (a w : Bool) → a && not w ≡ true → right a w ≡ false
outside_wrong true false h = refl
outside_wrong true true h = sym h
outside_wrong false w h = absurd (false≢true h)

else_right : (a w : Bool) → a && not w ≡ false → right a w ≡ true
else_right true true h = refl
else_right true false h = sym h
else_right false w h = refl

module _ (t : List ℕ) (g : Grant) (side i : ℕ) where
  -- what is to be told: whether all halves of the id on the side stand in granted parts
  abbrev asked : Bool
  asked = halves_within g side i 1 (unit t).parts

  abbrev from : ℕ → Bool → List Record → Bool
  from n inside rs = all_within g (eqb side 'S') i n inside rs

  -- none stands outside so far: those from here on decide; n parts have begun
  pub record Going (at n : ℕ) (inside : Bool) : Type 0 where
    pub left : List Record
    pub here : At t at left
    pub begun : n + part_heads left ≡ part_heads (unit_records (unit t))
    pub told : asked ≡ from n inside left

  pub going_start : Passes t → Going 0 0 false
  going_start p =
      record {
        left = unit_records (unit t);
        here = at_start t p;
        begun = omega arith;
        told = sym (in_unit g side i (unit t));
      }

  module _ (at n : ℕ) (inside : Bool) (m : Going at n inside) where
    pub going_few : Passes t → n ≤ most_parts
    going_few p = omega (arith, m.begun, p.few_parts)

    pub going_end : length t ≤ at → asked ≡ true
    unfolding all_within
    going_end l = m.told ∙ ap (from n inside) (at_end t at m.left m.here l)

    module _ (look : Glance) (v : Walked t at m.left look) where
      -- the record there, and those behind it
      abbrev first : Record
      first = v.step.first

      abbrev others : List Record
      others = v.step.others

      abbrev next : ℕ
      next = cond (eqb (kind_of look.head) 0) (suc n) n

      abbrev inside_next : Bool
      inside_next = inside_of (eqb side 'S') inside (kind_of look.head)

      -- whether it is a half of the id, in a content of the side
      abbrev half_here : Bool
      half_here = inside && half_of_id i (item_at t at)

      first_is : item_in first ≡ item_at t at
      unfolding item_at
      first_is = ap item_in (sym (at_next t at first others (subst (At t at) v.step.split m.here)).reads)

      number_is : cond (is_part first) (suc n) n ≡ next
      unfolding part_heads
      number_is =
          omega (
            arith,
            counted (is_part first) n,
            counted (eqb (kind_of look.head) 0) n,
            ap part_heads v.step.split,
            parts_walked t at m.left look v,
          )

      state_is : inside_after (eqb side 'S') inside first ≡ inside_next
      state_is =
          ap (inside_after (eqb side 'S') inside) (sym v.step.means)
          ∙ sym (inside_is (eqb side 'S') inside (body (drop at t)) v.the)
          ∙ ap (λ (h : Glance). inside_of (eqb side 'S') inside (kind_of h.head)) (sym v.is)

      told_on : asked ≡ right half_here (within g n) && from next inside_next others
      unfolding all_within
      told_on =
          m.told
          ∙ ap (from n inside) v.step.split
          ∙ ap₂ (λ (x : Item) (k : ℕ).
          right (inside && half_of_id i x) (within g n) && from k (inside_after (eqb side 'S') inside first) others)
          first_is number_is
          ∙ ap (λ (b : Bool). right half_here (within g n) && from next b others) state_is

      pub going_found : half_here && not (within g n) ≡ true → asked ≡ false
      going_found h =
          told_on ∙ ap (λ (z : Bool). z && from next inside_next others) (outside_wrong half_here (within g n) h)

      pub going_on : half_here && not (within g n) ≡ false
          → Going (at + look.width) next inside_next
      going_on h =
          record {
            left = others;
            here = v.rest;
            begun = omega (arith, m.begun, counted (eqb (kind_of look.head) 0) n, parts_walked t at m.left look v);
            told = told_on ∙ ap (λ (z : Bool). z && from next inside_next others) (else_right half_here (within g n) h);
          }
