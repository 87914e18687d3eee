-- No other attributes: none stands twice, so those of some names are all that there are exactly where they are as many.
use Prim.Native.Nat.{ℕ, zero, suc, ◌+◌, ◌≤◌, ◌<◌}
use mathlib.Core.Path.{◌≡◌, refl, sym, ap, ap₂, ◌∙◌}
use mathlib.Core.Bool.{Bool, true, false, not, ◌&&◌, ◌||◌, cond}
use mathlib.Core.List.{List, [], ◌∷◌}
use mathlib.Core.Option.{Option, none, some}
use native.Mathlib.Omega.{arith}
use native.Mathlib.Numerals.{add-one}
use lib.ListN.{length, get_or, drop, drop_of_length-le}
use lib.Seq.{drop-cons}
use lib.Dec.{eqb, ltb}
use borrow.Author.Tests.{eqb-true, eqb-false, eq-eqb, ne_eqb, ltb-true, ltb-false, not-true}
use Rattle.xliff.specs.Bytes.{equal, any, among}
use Rattle.xliff.proofs.lists.Tests.{and_left, and_right, or_left, or_right, equal_true, equal_refl}
use Rattle.xliff.proofs.lists.Sum.{sum}
use Rattle.xml.specs.Words.{Words·all}
use Rattle.xml.specs.Tokens.{Attribute, doubled}
use Rattle.xml.specs.Attributes.{named, only, value_of}
use Rattle.xml_slots.specs.Slots.{slot_names, absent, in_slot, sound, Slotted, index_of}
use Rattle.xml_slots.proofs.WordLaws.{suc_eqb}
use Rattle.xml_slots.proofs.NameLaws.{none_twice, equal_swap, stands_in, not_there}
use Rattle.xml_elements.specs.Reading.{name_of, names_of, apart}
use Rattle.xml_elements.proofs.SlotLaws.{is_there, told_at}

-- how many attributes of these names there are
abbrev ones : Option (List ℕ) → ℕ
ones none = 0
ones (some v) = 1

abbrev counted : List (List ℕ) → List Attribute → ℕ
counted ns ats = sum (λ n. ones (value_of n ats)) ns

counted_none : (ns : List (List ℕ)) → counted ns [] ≡ 0
unfolding value_of
counted_none [] = refl
counted_none (n ∷ ns) = let h = counted_none ns in omega arith

-- one attribute more: of none of the names, of one of them
module _ (a : Attribute) (ats : List Attribute) where
  counted_other : (ns : List (List ℕ)) → named ns a.name ≡ false → counted ns (a ∷ ats) ≡ counted ns ats
  unfolding named any value_of
  counted_other [] h = refl
  counted_other (n ∷ ns) h =
      let other : equal n a.name ≡ false = equal_swap n a.name ∙ or_left (equal a.name n) _ h in
      let rest = counted_other ns (or_right (equal a.name n) _ h) in
      rw other (omega arith)

  counted_more : value_of a.name ats ≡ none → (ns : List (List ℕ)) → none_twice ns ≡ true → named ns a.name ≡ true
      → counted ns (a ∷ ats) ≡ suc (counted ns ats)
  unfolding named any none_twice value_of
  counted_more fresh [] d h = cc
  counted_more fresh (n ∷ ns) d h =
      by (equal a.name n) refl h (λ k. counted_more fresh ns (and_right (not (any (equal n) ns)) _ d) k)
    where
      by : (b : Bool) → equal a.name n ≡ b → b || any (equal a.name) ns ≡ true
          → (any (equal a.name) ns ≡ true → counted ns (a ∷ ats) ≡ suc (counted ns ats))
          → ones (cond (equal n a.name) (some a.value) (value_of n ats)) + counted ns (a ∷ ats)
          ≡ suc (ones (value_of n ats) + counted ns ats)
      by true e k more =
          let same : a.name ≡ n = equal_true a.name n e in
          let others : any (equal n) ns ≡ false = not-true (any (equal n) ns) (and_left _ _ d) in
          let rest = counted_other ns (rw same others) in
          rw (← same, equal_refl a.name, fresh) (omega arith)
      by false e k more = let rest = more k in rw (equal_swap n a.name ∙ e) (omega arith)

-- So the attributes of the names are as many as all only where there are no others
module _ (ns : List (List ℕ)) (d : none_twice ns ≡ true) where
  module _ (a : Attribute) (ats : List Attribute) (h : doubled (a ∷ ats) ≡ false) where
    rest_once : doubled ats ≡ false
    unfolding doubled
    rest_once = or_right (stands_in a.name ats) (doubled ats) h

    one_more : named ns a.name ≡ true → counted ns (a ∷ ats) ≡ suc (counted ns ats)
    unfolding doubled
    one_more e = counted_more a ats (not_there a.name ats (or_left (stands_in a.name ats) (doubled ats) h)) ns d e

  counted_most : (ats : List Attribute) → doubled ats ≡ false → counted ns ats ≤ length ats
  counted_most [] h = omega (arith, counted_none ns)
  counted_most (a ∷ ats) h = by (named ns a.name) refl (counted_most ats (rest_once a ats h))
    where
      by : (b : Bool) → named ns a.name ≡ b → counted ns ats ≤ length ats → counted ns (a ∷ ats) ≤ suc (length ats)
      by true e most = omega (arith, one_more a ats h e)
      by false e most = omega (arith, counted_other a ats ns e)

  counted_only : (ats : List Attribute) → doubled ats ≡ false → eqb (counted ns ats) (length ats) ≡ only ns ats
  unfolding only
  counted_only [] h = eq-eqb (counted ns []) 0 (counted_none ns)
  counted_only (a ∷ ats) h =
      let once = rest_once a ats h in
      by (named ns a.name) refl (counted_most ats once) (counted_only ats once)
    where
      by : (b : Bool) → named ns a.name ≡ b → counted ns ats ≤ length ats
          → eqb (counted ns ats) (length ats) ≡ only ns ats
          → eqb (counted ns (a ∷ ats)) (suc (length ats)) ≡ b && only ns ats
      by true e most rest = rw (one_more a ats h e) (suc_eqb (counted ns ats) (length ats) ∙ rest)
      by false e most rest =
          let same = counted_other a ats ns e in
          ne_eqb (counted ns (a ∷ ats)) (suc (length ats))
          (λ (f : counted ns (a ∷ ats) ≡ suc (length ats)). let z : ⊥ = omega (arith, f, same) in z)

-- the slots have different names: each is found at its place
all_below : ℕ → (ℕ → Bool) → Bool
all_below zero f = true
all_below (suc n) f = f n && all_below n f

less : (k n : ℕ) → k < suc n → (k ≡ n → ⊥) → k < n
less k n p other = by (ltb k n) refl
  where
    by : (b : Bool) → ltb k n ≡ b → k < n
    by true e = ltb-true k n e
    by false e = absurd (other (omega (arith, ltb-false k n e)))

below_at : (n : ℕ) (f : ℕ → Bool) → all_below n f ≡ true → (k : ℕ) → k < n → f k ≡ true
unfolding all_below
below_at zero f h k p = absurd (let z : ⊥ = omega arith in z)
below_at (suc n) f h k p = by (eqb k n) refl (λ q. below_at n f (and_right (f n) _ h) k q)
  where
    by : (b : Bool) → eqb k n ≡ b → (k < n → f k ≡ true) → f k ≡ true
    by true e rest = rw (eqb-true k n e) (and_left (f n) _ h)
    by false e rest = rest (less k n p (eqb-false k n e))

abbrev at_its_place : ℕ → Bool
at_its_place k = eqb (index_of slot_names (name_of k)) k

places : all_below 16 at_its_place ≡ true
unfolding all_below index_of equal Words·all
places = refl

name_apart : (j k : ℕ) → j < 16 → k < 16 → eqb j k ≡ false → equal (name_of j) (name_of k) ≡ false
name_apart j k p q e = by (equal (name_of j) (name_of k)) refl
  where
    place : (i : ℕ) → i < 16 → index_of slot_names (name_of i) ≡ i
    place i h = eqb-true _ i (below_at 16 at_its_place places i h)

    by : (b : Bool) → equal (name_of j) (name_of k) ≡ b → b ≡ false
    by true f =
        let same : j ≡ k = sym (place j p) ∙ ap (index_of slot_names) (equal_true (name_of j) (name_of k) f) ∙ place k q in
        sym (eq-eqb j k same) ∙ e
    by false f = refl

-- each of the slots is one, and none is there twice
module _ (k : ℕ) (ks : List ℕ) (h : apart (k ∷ ks) ≡ true) where
  apart_slot : k < 16
  unfolding apart
  apart_slot = ltb-true k 16 (and_left (ltb k 16) _ h)

  apart_rest : apart ks ≡ true
  unfolding apart
  apart_rest = and_right (not (among k ks)) _ (and_right (ltb k 16) _ h)

  apart_other : among k ks ≡ false
  unfolding apart
  apart_other = not-true (among k ks) (and_left (not (among k ks)) _ (and_right (ltb k 16) _ h))

other_names : (k : ℕ) → k < 16 → (ks : List ℕ) → apart ks ≡ true → among k ks ≡ false
    → any (equal (name_of k)) (names_of ks) ≡ false
unfolding any among
other_names k p [] h e = refl
other_names k p (j ∷ ks) h e =
    rw (name_apart k j p (apart_slot j ks h) (or_left (eqb k j) _ e))
    (other_names k p ks (apart_rest j ks h) (or_right (eqb k j) _ e))

names_apart : (ks : List ℕ) → apart ks ≡ true → none_twice (names_of ks) ≡ true
unfolding none_twice named
names_apart [] h = refl
names_apart (k ∷ ks) h =
    rw (other_names k (apart_slot k ks h) ks (apart_rest k ks h) (apart_other k ks h)) (names_apart ks (apart_rest k ks h))

pub apart_at : (ks : List ℕ) → apart ks ≡ true → (i : ℕ) → i < length ks → get_or ks i 0 < 16
apart_at [] h i p = absurd (let z : ⊥ = omega arith in z)
apart_at (k ∷ ks) h zero p = apart_slot k ks h
apart_at (k ∷ ks) h (suc i) p = apart_at ks (apart_rest k ks h) i (omega arith)

-- how many of these slots hold an attribute
abbrev pub held : List ℕ → ℕ → ℕ
held slots k = cond (eqb (get_or slots k 0) absent) 0 1

abbrev pub total : List ℕ → List ℕ → ℕ
total slots ks = sum (held slots) ks

pub held_most : (slots : List ℕ) (k : ℕ) → held slots k ≤ 1
held_most slots k = by (eqb (get_or slots k 0) absent)
  where
    by : (b : Bool) → cond b 0 1 ≤ 1
    by true = omega arith
    by false = omega arith

pub total_next : (slots ks : List ℕ) (i : ℕ) → i < length ks
    → total slots (drop i ks) ≡ held slots (get_or ks i 0) + total slots (drop (i + 1) ks)
total_next slots ks i h = rw (drop-cons ks i 0 h, add-one i) refl

pub total_end : (slots ks : List ℕ) (i : ℕ) → length ks ≤ i → total slots (drop i ks) ≡ 0
total_end slots ks i h = ap (total slots) (drop_of_length-le ks h)

module _ (slots : List ℕ) (count : ℕ) (ats : List Attribute) (s : Slotted slots count ats) where
  held_told : (k : ℕ) → k < 16 → held slots k ≡ ones (value_of (name_of k) ats)
  unfolding in_slot
  held_told k h = rw (told_at slots ats s.told k h) (by (value_of (name_of k) ats))
    where
      by : (o : Option (List ℕ)) → cond (eqb (in_slot k o) absent) 0 1 ≡ ones o
      by none = refl
      by (some v) = rw (is_there k v) refl

  total_told : (ks : List ℕ) → apart ks ≡ true → total slots ks ≡ counted (names_of ks) ats
  total_told [] h = refl
  total_told (k ∷ ks) h =
      let first = held_told k (apart_slot k ks h) in
      let rest = total_told ks (apart_rest k ks h) in
      omega arith

  -- they are all where as many are there
  pub only_told : (ks : List ℕ) → apart ks ≡ true → (n : ℕ) → n ≡ total slots ks → eqb n count ≡ only (names_of ks) ats
  unfolding sound
  only_told ks h n e =
      let once : doubled ats ≡ false = not-true (doubled ats) (and_left (not (doubled ats)) _ s.are_sound) in
      ap₂ eqb (e ∙ total_told ks h) s.counted ∙ counted_only (names_of ks) (names_apart ks h) ats once
