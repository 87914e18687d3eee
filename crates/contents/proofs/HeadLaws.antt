-- Heads and markers, one record further.
use Prim.Native.Nat.{ℕ, ◌+◌, ◌≤◌}
use mathlib.Core.Path.{◌≡◌, refl, sym, ◌∙◌, ap, ap₂}
use mathlib.Core.Bool.{Bool, true, false, not, ◌&&◌, cond}
use mathlib.Core.List.{List, [], ◌∷◌, ◌++◌, map}
use native.Mathlib.Omega.{arith}
use lib.ListN.{length, drop, length-append}
use lib.Dec.{eqb}
use Rattle.xliff.specs.Item.{class}
use Rattle.xliff.specs.Encode as encode
use Rattle.xliff.specs.Encode.{opening, closing, part_head, target_head, text_run, inline, ill_text, broken, record_bytes, unit_records}
use Rattle.xliff.specs.Parse.{unit, most_records}
use Rattle.xliff.specs.Sequences.{Placed}
use Rattle.xliff.proofs.lists.Tests.{and_false, or_none}
use Rattle.places.specs.Passes.{Passes}
use Rattle.places.specs.Found.{found, found_at, state_after, marker}
use Rattle.places.specs.Markers.{item_in, is_marked}
use Rattle.places.specs.Offsets.{At}
use Rattle.places.proofs.Places.{at_end}
use Rattle.table.specs.Meaning.{record_meaning, body}
use Rattle.table.specs.declared.Record.{Record}
use Rattle.table.specs.declared.Record.TheVariants.{Unit as UnitStart, UnitEnd, Segment, Ignorable, Target, Text, Inline}
use Rattle.glance.specs.declared.Glance.{Glance}
use Rattle.glance.specs.Glances.{kind_of, head_kind_in, marker_in}
use Rattle.orders.proofs.WalkLaws.{Walked}
use Rattle.sequences.proofs.GlanceLaws.{item_marked}
use Rattle.contents.specs.Contents.{marker_offset, no_offset, barred_found, barred}
use Rattle.contents.specs.Heads.{head_kind, inside_after_head, is_found}

head_in : (cs : List ℕ) (x : Record) → head_kind_in x ≡ head_kind (record_meaning cs x)
unfolding head_kind
head_in cs (UnitStart c) = refl
head_in cs UnitEnd = refl
head_in cs (Segment f) = refl
head_in cs (Ignorable i) = refl
head_in cs (Target q) = refl
head_in cs Text = refl
head_in cs (Inline i) = refl

marker_in_lem : (cs : List ℕ) (x : Record) → marker_in x ≡ is_marked (item_in (record_meaning cs x))
unfolding is_marked item_in class
marker_in_lem cs (UnitStart c) = refl
marker_in_lem cs UnitEnd = refl
marker_in_lem cs (Segment f) = refl
marker_in_lem cs (Ignorable i) = refl
marker_in_lem cs (Target q) = refl
marker_in_lem cs Text = refl
marker_in_lem cs (Inline i) = item_marked i

module _ (targets inside : Bool) where
  abbrev at_record : ℕ → encode.Record → List ℕ
  at_record at r = found_at true (λ q. targets) (λ h at. at ∷ []) (λ q at. at ∷ []) marker_offset no_offset inside at r

  abbrev after_record : encode.Record → Bool
  after_record r = state_after true (λ q. targets) (λ h at. at ∷ []) (λ q at. at ∷ []) marker_offset no_offset inside r

  found_is : (at : ℕ) (r : encode.Record) → at_record at r ≡ cond (is_found (head_kind r) inside (is_marked (item_in r))) (at ∷ []) []
  unfolding found_at head_kind item_in is_marked class marker_offset marker
  found_is at (opening c) = rw (and_false inside)
  found_is at closing = rw (and_false inside)
  found_is at (part_head h) = refl
  found_is at (target_head q) = refl
  found_is at (text_run cs) = rw (and_false inside)
  found_is at (inline x) = by (inside && not (eqb (class x) 0))
    where
      by : (b : Bool) → map (λ (p : Placed). p.at) (cond b (record { item = x; at = at } ∷ []) []) ≡ cond b (at ∷ []) []
      by true = refl
      by false = refl
  found_is at ill_text = rw (and_false inside)
  found_is at (broken b) = rw (and_false inside)

  after_is : (r : encode.Record) → after_record r ≡ inside_after_head targets (head_kind r) inside
  unfolding state_after head_kind
  after_is (opening c) = refl
  after_is closing = refl
  after_is (part_head h) = refl
  after_is (target_head q) = sym (or_none targets)
  after_is (text_run cs) = refl
  after_is (inline x) = refl
  after_is ill_text = refl
  after_is (broken b) = refl

  found_one : (at : ℕ) (r : encode.Record) → length (at_record at r) ≤ 1
  found_one at r = rw (found_is at r) (by (is_found (head_kind r) inside (is_marked (item_in r))))
    where
      by : (b : Bool) → length (cond b (at ∷ []) []) ≤ 1
      by true = omega arith
      by false = omega arith

  -- one record further
  pub barred_step : (t : List ℕ) (at : ℕ) (rs : List encode.Record) (g : Glance) (v : Walked t at rs g) (b after : Bool)
      → b ≡ is_found (kind_of g.head) inside g.marker → after ≡ inside_after_head targets (kind_of g.head) inside
      → barred_found targets inside at rs ≡ cond b (at ∷ []) [] ++ barred_found targets after (at + g.width) v.step.others
  unfolding found
  barred_step t at rs g v b after e f =
      let x = v.step.first in
      let k : kind_of g.head ≡ head_kind x = ap (λ (h : Glance). kind_of h.head) v.is ∙ head_in (body (drop at t)) v.the ∙ ap head_kind v.step.means in
      let m : g.marker ≡ is_marked (item_in x) = ap (λ (h : Glance). h.marker) v.is ∙ marker_in_lem (body (drop at t)) v.the ∙ ap (λ (r : encode.Record). is_marked (item_in r)) v.step.means in
      ap (barred_found targets inside at) v.step.split
      ∙ ap₂ (λ (l : List ℕ) (p : Bool). l ++ barred_found targets p (at + length (record_bytes x)) v.step.others)
      (found_is at x ∙ ap₂ (λ (n : ℕ) (c : Bool). cond (is_found n inside c) (at ∷ []) []) (sym k) (sym m) ∙ ap (λ (c : Bool). cond c (at ∷ []) []) (sym e))
      (after_is x ∙ ap (λ (n : ℕ). inside_after_head targets n inside) (sym k) ∙ sym f)
      ∙ ap (λ (j : ℕ). cond b (at ∷ []) [] ++ barred_found targets after (at + j) v.step.others) (sym (v.wide ∙ v.step.wide))

  pub barred_end : (t : List ℕ) (at : ℕ) (rs : List encode.Record) → At t at rs → length t ≤ at → barred_found targets inside at rs ≡ []
  unfolding found
  barred_end t at rs a l = ap (barred_found targets inside at) (at_end t at rs a l)

found_few : (targets inside : Bool) (at : ℕ) (rs : List encode.Record) → length (barred_found targets inside at rs) ≤ length rs
unfolding found
found_few targets inside at [] = omega arith
found_few targets inside at (r ∷ rs) =
    omega (
      arith,
      length-append (at_record targets inside at r) (barred_found targets (after_record targets inside r) (at + length (record_bytes r)) rs),
      found_one targets inside at r,
      found_few targets (after_record targets inside r) (at + length (record_bytes r)) rs,
    )

pub barred_few : (targets : Bool) (t : List ℕ) → Passes t → length (barred targets t) ≤ most_records
unfolding barred
barred_few targets t p = omega (arith, found_few targets false 0 (unit_records (unit t)), p.few)
