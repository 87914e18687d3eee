-- The markers of all targets are no more than the records.
use Prim.Native.Nat.{ℕ, zero, suc, ◌+◌, ◌≤◌}
use mathlib.Core.Path.{◌≡◌, refl, sym, ap}
use mathlib.Core.Bool.{Bool, true, false, not, ◌&&◌, cond}
use mathlib.Core.List.{List, [], ◌∷◌, map}
use native.Mathlib.Omega.{arith}
use lib.ListN.{length, length-append, length-map}
use lib.Dec.{eqb}
use borrow.Author.Tests.{eqb-true, ne_eqb}
use Rattle.xliff.specs.Item.{class}
use Rattle.xliff.specs.Encode.{Record, opening, closing, part_head, target_head, text_run, inline, ill_text, broken, record_bytes, unit_records}
use Rattle.xliff.specs.Parse.{unit, most_records}
use Rattle.xliff.specs.Sequences.{Placed}
use Rattle.places.specs.Passes.{Passes}
use Rattle.places.specs.Found.{marker, no_marker, marks_found, found, found_at, state_after}
use Rattle.places.specs.Markers.{target_offsets}

-- the markers of the n orders after q, from some records on, in the target of order cur
total : ℕ → ℕ → ℕ → ℕ → List Record → ℕ
total cur at q zero rs = 0
total cur at q (suc n) rs = length (marks_found false (suc q) (eqb (suc q) cur) at rs) + total cur at (suc q) n rs

-- how many of these orders are cur
ones : ℕ → ℕ → ℕ → ℕ
ones cur q zero = 0
ones cur q (suc n) = cond (eqb (suc q) cur) 1 0 + ones cur (suc q) n

no_ones : (cur q n : ℕ) → cur ≤ q → ones cur q n ≡ 0
unfolding ones
no_ones cur q zero h = refl
no_ones cur q (suc n) h = rw (ne_eqb (suc q) cur (λ z. omega arith)) (omega (arith, no_ones cur (suc q) n (omega arith)))

one_at_most : (cur q n : ℕ) → ones cur q n ≤ 1
unfolding ones
one_at_most cur q zero = omega arith
one_at_most cur q (suc n) = by (eqb (suc q) cur) refl (one_at_most cur (suc q) n)
  where
    by : (b : Bool) → eqb (suc q) cur ≡ b → ones cur (suc q) n ≤ 1 → cond b 1 0 + ones cur (suc q) n ≤ 1
    by true e h = let z = no_ones cur (suc q) n (omega (arith, eqb-true (suc q) cur e)) in omega (arith, z)
    by false e h = omega (arith, h)

marker_few : (b : Bool) (p : Placed) → length (marker b p) ≤ cond b 1 0
unfolding marker
marker_few true p = by (not (eqb (class p.item) 0))
  where
    by : (c : Bool) → length (cond {A = List Placed} c (p ∷ []) []) ≤ 1
    by true = omega arith
    by false = omega arith
marker_few false p = omega arith

after : ℕ → Record → ℕ
after cur (opening c) = cur
after cur closing = cur
after cur (part_head h) = 0
after cur (target_head k) = k
after cur (text_run cs) = cur
after cur (inline x) = cur
after cur ill_text = cur
after cur (broken b) = cur

state_is : (cur q : ℕ) (r : Record)
    → state_after false (λ k. not false && eqb (suc q) k) (λ h at. []) (λ k at. []) marker no_marker (eqb (suc q) cur) r ≡ eqb (suc q) (after cur r)
unfolding state_after after
state_is cur q (opening c) = refl
state_is cur q closing = refl
state_is cur q (part_head h) = sym (ne_eqb (suc q) 0 (λ z. omega arith))
state_is cur q (target_head k) = refl
state_is cur q (text_run cs) = refl
state_is cur q (inline x) = refl
state_is cur q ill_text = refl
state_is cur q (broken b) = refl

at_few : (cur at q : ℕ) (r : Record)
    → length (found_at false (λ k. not false && eqb (suc q) k) (λ h at. []) (λ k at. []) marker no_marker (eqb (suc q) cur) at r) ≤ cond (eqb (suc q) cur) 1 0
unfolding found_at
at_few cur at q (opening c) = omega arith
at_few cur at q closing = omega arith
at_few cur at q (part_head h) = omega arith
at_few cur at q (target_head k) = omega arith
at_few cur at q (text_run cs) = omega arith
at_few cur at q (inline x) = marker_few (eqb (suc q) cur) (record { item = x; at = at })
at_few cur at q ill_text = omega arith
at_few cur at q (broken b) = omega arith

total_step : (cur at q n : ℕ) (r : Record) (rs : List Record) → total cur at q n (r ∷ rs) ≤ ones cur q n + total (after cur r) (at + length (record_bytes r)) q n rs
unfolding total ones found
total_step cur at q zero r rs = omega arith
total_step cur at q (suc n) r rs =
    let A : List Placed = found_at false (λ k. not false && eqb (suc q) k) (λ h at. []) (λ k at. []) marker no_marker (eqb (suc q) cur) at r in
    let s = state_is cur q r in
    let e = ap (λ (b : Bool). length (marks_found false (suc q) b (at + length (record_bytes r)) rs)) s in
    omega (
      arith,
      length-append A (marks_found false (suc q)
          (state_after false (λ k. not false && eqb (suc q) k) (λ h at. []) (λ k at. []) marker no_marker (eqb (suc q) cur) r)
          (at + length (record_bytes r)) rs),
      e,
      at_few cur at q r,
      total_step cur at (suc q) n r rs,
    )

total_nil : (cur at q n : ℕ) → total cur at q n [] ≡ 0
unfolding total found
total_nil cur at q zero = refl
total_nil cur at q (suc n) = omega (arith, total_nil cur at (suc q) n)

total_few : (cur at q n : ℕ) (rs : List Record) → total cur at q n rs ≤ length rs
total_few cur at q n [] = omega (arith, total_nil cur at q n)
total_few cur at q n (r ∷ rs) = omega (arith, total_step cur at q n r rs, one_at_most cur q n, total_few (after cur r) (at + length (record_bytes r)) q n rs)

total_is : (t : List ℕ) (q n : ℕ) → length (target_offsets t q n) ≡ total 0 0 q n (unit_records (unit t))
unfolding total target_offsets
total_is t q zero = refl
total_is t q (suc n) =
    let m = marks_found false (suc q) false 0 (unit_records (unit t)) in
    let e = ap (λ (b : Bool). length (marks_found false (suc q) b 0 (unit_records (unit t)))) (ne_eqb (suc q) 0 (λ z. omega arith)) in
    omega (arith, length-append (map (λ (p : Placed). p.at) m) (target_offsets t (suc q) n), length-map m (λ (p : Placed). p.at), e, total_is t (suc q) n)

pub few_targets : (t : List ℕ) → Passes t → (n : ℕ) → length (target_offsets t 0 n) ≤ most_records
few_targets t p n = omega (arith, total_is t 0 n, total_few 0 0 0 n (unit_records (unit t)), p.few)

found_one : (source : Bool) (q : ℕ) (inside : Bool) (at : ℕ) (r : Record)
    → length (found_at source (λ k. not source && eqb q k) (λ h at. []) (λ k at. []) marker no_marker inside at r) ≤ 1
unfolding found_at
found_one source q inside at (opening c) = omega arith
found_one source q inside at closing = omega arith
found_one source q inside at (part_head h) = omega arith
found_one source q inside at (target_head k) = omega arith
found_one source q inside at (text_run cs) = omega arith
found_one source q true at (inline x) = marker_few true (record { item = x; at = at })
found_one source q false at (inline x) = omega (arith, marker_few false (record { item = x; at = at }))
found_one source q inside at ill_text = omega arith
found_one source q inside at (broken b) = omega arith

found_few : (source : Bool) (q : ℕ) (inside : Bool) (at : ℕ) (rs : List Record) → length (marks_found source q inside at rs) ≤ length rs
unfolding found
found_few source q inside at [] = omega arith
found_few source q inside at (r ∷ rs) =
    let A : List Placed = found_at source (λ k. not source && eqb q k) (λ h at. []) (λ k at. []) marker no_marker inside at r in
    omega (
      arith,
      length-append A (marks_found source q (state_after source (λ k. not source && eqb q k) (λ h at. []) (λ k at. []) marker no_marker inside r) (at + length (record_bytes r)) rs),
      found_one source q inside at r,
      found_few source q (state_after source (λ k. not source && eqb q k) (λ h at. []) (λ k at. []) marker no_marker inside r) (at + length (record_bytes r)) rs,
    )

pub few_source : (t : List ℕ) → Passes t → length (map (λ (p : Placed). p.at) (marks_found true 0 false 0 (unit_records (unit t)))) ≤ most_records
few_source t p =
    omega (arith, length-map (marks_found true 0 false 0 (unit_records (unit t))) (λ (p : Placed). p.at), found_few true 0 false 0 (unit_records (unit t)), p.few)
