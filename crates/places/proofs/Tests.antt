-- The tests of 7 to 10 on markers alone, and the markers read back from their offsets.
use Prim.Native.Nat.{ℕ, zero, suc, ◌+◌}
use mathlib.Core.Path.{◌≡◌, refl, sym, ap, ap₂, ◌∙◌, subst}
use mathlib.Core.Bool.{Bool, true, false, not, ◌&&◌, ◌||◌, cond}
use mathlib.Core.List.{List, [], ◌∷◌, ◌++◌, map}
use lib.ListN.{length, drop}
use lib.Dec.{eqb}
use Rattle.xliff.specs.Bytes.{gather, keep, any}
use Rattle.xliff.specs.Item.{Item, Content, class}
use Rattle.xliff.specs.Unit.{Part}
use Rattle.xliff.specs.Encode.{Record, opening, closing, part_head, target_head, text_run, inline, ill_text, broken, record_bytes, unit_records}
use Rattle.xliff.specs.Parse.{read, unit}
use Rattle.xliff.specs.Unit.{source_sequence}
use Rattle.xliff.specs.Sequences.{Placed, located, target_at, blamed, items, placed_source_sequence, placed_of_order, placed_targets, placed_target_sequence}
use Rattle.xliff.proofs.rules.Sequences.{items_source, length_from}
use Rattle.xliff.proofs.lists.Tests.{map-append, gather_append}
use Rattle.places.specs.Passes.{Passes}
use Rattle.places.specs.Offsets.{At}
use Rattle.places.proofs.Places.{at_start, at_next}
use Rattle.places.specs.Found.{marker, no_marker, markers, marks_found, found, found_at, state_after}
use Rattle.places.proofs.Found.{source_marks, order_marks}
use Rattle.places.specs.Markers.{is_marked, only_markers, OnMarks, item_in, item_at, placed_at, target_offsets}

pub marked_items : (ps : List Placed) → items (markers ps) ≡ only_markers (items ps)
unfolding items markers only_markers gather keep marker is_marked
marked_items [] = refl
marked_items (p ∷ ps) = by (not (eqb (class p.item) 0)) (marked_items ps)
  where
    by : (b : Bool) → map (λ p. p.item) (gather (marker true) ps) ≡ keep is_marked (map (λ p. p.item) ps)
        → map (λ p. p.item) (cond b (p ∷ []) [] ++ gather (marker true) ps) ≡ cond b (p.item ∷ keep is_marked (map (λ p. p.item) ps)) (keep is_marked (map (λ p. p.item) ps))
    by true e = ap {B = Content} (λ l. p.item ∷ l) e
    by false e = e

-- what such a test blames is what it blames among the markers
pub blamed_marks : (bad bad' : Content → Item → Content → Bool) → OnMarks bad bad' → (before : Content) (ps : List Placed)
    → blamed bad before ps ≡ blamed bad' (only_markers before) (markers ps)
unfolding blamed markers gather only_markers keep marker is_marked
blamed_marks bad bad' o before [] = refl
blamed_marks bad bad' o before (p ∷ ps) = by (not (eqb (class p.item) 0)) refl (blamed_marks bad bad' o (p.item ∷ before) ps)
  where
    by : (b : Bool) → not (eqb (class p.item) 0) ≡ b
        → blamed bad (p.item ∷ before) ps ≡ blamed bad' (cond (not (eqb (class p.item) 0)) (p.item ∷ keep is_marked before) (keep is_marked before)) (gather (marker true) ps)
        → cond (bad before p.item (items ps)) (p.at ∷ blamed bad (p.item ∷ before) ps) (blamed bad (p.item ∷ before) ps)
        ≡ blamed bad' (keep is_marked before) (cond b (p ∷ []) [] ++ gather (marker true) ps)
    by true e ih =
        let h : blamed bad (p.item ∷ before) ps ≡ blamed bad' (p.item ∷ keep is_marked before) (gather (marker true) ps)
        = subst (λ (c : Bool). blamed bad (p.item ∷ before) ps ≡ blamed bad' (cond c (p.item ∷ keep is_marked before) (keep is_marked before)) (gather (marker true) ps)) e ih in
        let t : bad before p.item (items ps) ≡ bad' (keep is_marked before) p.item (items (gather (marker true) ps))
        = o.alone before p.item (items ps) e ∙ ap (bad' (keep is_marked before) p.item) (sym (marked_items ps)) in
        ap₂ (λ (c : Bool) (l : List ℕ). cond c (p.at ∷ l) l) t h
    by false e ih =
        let h : blamed bad (p.item ∷ before) ps ≡ blamed bad' (keep is_marked before) (gather (marker true) ps)
        = subst (λ (c : Bool). blamed bad (p.item ∷ before) ps ≡ blamed bad' (cond c (p.item ∷ keep is_marked before) (keep is_marked before)) (gather (marker true) ps)) e ih in
        rw (o.unmarked before p.item (items ps) e) h

-- Some item passes a test that is false of items without a class: some marker does
pub any_marked : (p : Item → Bool) → ((x : Item) → is_marked x ≡ false → p x ≡ false) → (xs : Content) → any p xs ≡ any p (only_markers xs)
unfolding any only_markers keep
any_marked p h [] = refl
any_marked p h (x ∷ xs) = by (is_marked x) refl (any_marked p h xs)
  where
    by : (b : Bool) → is_marked x ≡ b → any p xs ≡ any p (keep is_marked xs) → p x || any p xs ≡ any p (cond b (x ∷ keep is_marked xs) (keep is_marked xs))
    by true e ih = ap (λ (c : Bool). p x || c) ih
    by false e ih = rw (h x e) ih

abbrev offs : List Placed → List ℕ
offs ps = map (λ (p : Placed). p.at) ps

one_back : (t : List ℕ) (at : ℕ) (source : Bool) (q : ℕ) (inside : Bool) (r : Record) → read (drop at t) ≡ r
    → placed_at t (offs (found_at source (λ k. not source && eqb q k) (λ h at. []) (λ k at. []) marker no_marker inside at r))
    ≡ found_at source (λ k. not source && eqb q k) (λ h at. []) (λ k at. []) marker no_marker inside at r
unfolding placed_at found_at marker item_at item_in
one_back t at source q inside (opening c) e = refl
one_back t at source q inside closing e = refl
one_back t at source q inside (part_head h) e = refl
one_back t at source q inside (target_head k) e = refl
one_back t at source q inside (text_run cs) e = refl
one_back t at source q inside (inline x) e = by (inside && not (eqb (class x) 0))
  where
    same : ◌≡◌ {A = Placed} (record { item = item_in (read (drop at t)); at = at }) (record { item = x; at = at })
    same = ap {B = Placed} (λ (r : Record). record { item = item_in r; at = at }) e

    by : (b : Bool)
        → map {B = Placed} (λ o. record { item = item_in (read (drop o t)); at = o }) (offs (cond b (record { item = x; at = at } ∷ []) [])) ≡ cond b (record { item = x; at = at } ∷ []) []
    by true = ap {B = List Placed} (λ p. p ∷ []) same
    by false = refl
one_back t at source q inside ill_text e = refl
one_back t at source q inside (broken b) e = refl

-- the markers found are what is read at their offsets
pub read_back : (t : List ℕ) (at : ℕ) (rs : List Record) (source : Bool) (q : ℕ) (inside : Bool) → At t at rs
    → placed_at t (offs (marks_found source q inside at rs)) ≡ marks_found source q inside at rs
unfolding found placed_at
read_back t at [] source q inside a = refl
read_back t at (r ∷ rs) source q inside a =
    let n = at_next t at r rs a in
    let A : List Placed = found_at source (λ k. not source && eqb q k) (λ h at. []) (λ k at. []) marker no_marker inside at r in
    let B : List Placed = marks_found source q (state_after source (λ k. not source && eqb q k) (λ h at. []) (λ k at. []) marker no_marker inside r) (at + length (record_bytes r)) rs in
    ap (placed_at t) (map-append (λ (p : Placed). p.at) A B)
    ∙ map-append {B = Placed} (λ o. record { item = item_at t o; at = o }) (offs A) (offs B)
    ∙ ap₂ ◌++◌ (one_back t at source q inside r n.reads) (read_back t (at + length (record_bytes r)) rs source q _ n.then)

-- a test of the source sequence, on the markers at their offsets
pub source_blamed : (t : List ℕ) → Passes t → (bad bad' : Content → Item → Content → Bool) → OnMarks bad bad'
    → blamed bad [] (placed_source_sequence (located (unit t).parts)) ≡ blamed bad' [] (placed_at t (offs (marks_found true 0 false 0 (unit_records (unit t)))))
unfolding only_markers keep
source_blamed t p bad bad' o =
    blamed_marks bad bad' o [] (placed_source_sequence (located (unit t).parts))
    ∙ ap (blamed bad' []) (sym (source_marks false (unit t)) ∙ sym (read_back t 0 (unit_records (unit t)) true 0 false (at_start t p)))

pub targets_back : (t : List ℕ) → Passes t → (q n : ℕ) → placed_at t (target_offsets t q n) ≡ markers (placed_targets (located (unit t).parts) q n)
unfolding placed_at target_offsets markers gather placed_targets
targets_back t p q zero = refl
targets_back t p q (suc n) =
    map-append {B = Placed} (λ o. record { item = item_at t o; at = o }) (offs (marks_found false (suc q) false 0 (unit_records (unit t)))) (target_offsets t (suc q) n)
    ∙ ap₂ ◌++◌ (read_back t 0 (unit_records (unit t)) false (suc q) false (at_start t p) ∙ order_marks (suc q) false (unit t)) (targets_back t p (suc q) n)
    ∙ sym (gather_append (marker true) (gather (λ l. placed_of_order (suc q) (target_at l) l.part.target) (located (unit t).parts)) (placed_targets (located (unit t).parts) (suc q) n))

-- a test of the target sequence, on the markers at their offsets
pub target_blamed : (t : List ℕ) → Passes t → (bad bad' : Content → Item → Content → Bool) → OnMarks bad bad'
    → blamed bad [] (placed_target_sequence (located (unit t).parts)) ≡ blamed bad' [] (placed_at t (target_offsets t 0 (length (located (unit t).parts))))
unfolding only_markers keep placed_target_sequence
target_blamed t p bad bad' o =
    blamed_marks bad bad' o [] (placed_targets (located (unit t).parts) 0 (length (located (unit t).parts)))
    ∙ ap (blamed bad' []) (sym (targets_back t p 0 (length (located (unit t).parts))))

pub length_located : (ps : List Part) → length (located ps) ≡ length ps
unfolding located
length_located ps = length_from 3 ps

-- the markers of the source sequence, by their offsets
pub source_items : (t : List ℕ) → Passes t → only_markers (source_sequence (unit t).parts) ≡ items (placed_at t (map (λ (p : Placed). p.at) (marks_found true 0 false 0 (unit_records (unit t)))))
unfolding located
source_items t p =
    ap only_markers (sym (items_source 3 (unit t).parts))
    ∙ sym (marked_items (placed_source_sequence (located (unit t).parts)))
    ∙ ap items (sym (source_marks false (unit t)) ∙ sym (read_back t 0 (unit_records (unit t)) true 0 false (at_start t p)))
