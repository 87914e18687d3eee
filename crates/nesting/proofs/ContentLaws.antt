-- What is blamed content by content is what is blamed on the list of all contents with bars.
use Prim.Native.Nat.{ℕ, ◌+◌}
use mathlib.Core.Path.{◌≡◌, refl, sym, ap, ap₂, ◌∙◌}
use mathlib.Core.Bool.{Bool, true, false, not, ◌&&◌, cond}
use mathlib.Core.List.{List, [], ◌∷◌, ◌++◌, map, reverse_aux, append_assoc}
use lib.ListN.{length, drop}
use lib.Dec.{eqb}
use Rattle.xliff.specs.Bytes.{gather, keep}
use Rattle.xliff.specs.Item.{Item, Content, text, class, half}
use Rattle.xliff.specs.Unit.{Target, no_target, target}
use Rattle.xliff.specs.Encode.{Record, opening, closing, part_head, target_head, text_run, inline, ill_text, broken, record_bytes, unit_records}
use Rattle.xliff.specs.Parse.{read, unit}
use Rattle.xliff.specs.Sequences.{Placed, Located, located, order_at, target_at, placed_from, placed_source, placed_target, placed_contents, items, blamed}
use Rattle.xliff.specs.Rules.{lone_P}
use Rattle.xliff.proofs.lists.Tests.{map-append}
use Rattle.places.specs.Passes.{Passes}
use Rattle.places.specs.Found.{marker, no_marker, markers, found, found_at, state_after}
use Rattle.places.specs.Markers.{is_marked, only_markers, item_in, item_at, placed_at}
use Rattle.places.specs.Offsets.{At}
use Rattle.places.proofs.Places.{at_start, at_next}
use Rattle.places.proofs.Found.{found_unit, from_part, target_gathered}
use Rattle.places.proofs.Tests.{blamed_marks}
use Rattle.contents.specs.Contents.{marker_offset, no_offset, barred_found, barred}
use Rattle.nesting.specs.Bars.{run_items, lone_bar, bar, bars_found}
use Rattle.nesting.proofs.NestingLaws.{on_lone}

-- all have a class
data Marked : List Placed → Type 0 where
  no_more : Marked []
  one_more : {p : Placed} {ps : List Placed} → is_marked p.item ≡ true → Marked ps → Marked (p ∷ ps)

markers_marked : (ps : List Placed) → Marked (markers ps)
unfolding markers gather marker is_marked
markers_marked [] = no_more
markers_marked (p ∷ ps) = by (not (eqb (class p.item) 0)) refl (markers_marked ps)
  where
    by : (b : Bool) → not (eqb (class p.item) 0) ≡ b → Marked (gather (marker true) ps) → Marked (cond b (p ∷ []) [] ++ gather (marker true) ps)
    by true e m = one_more e m
    by false e m = m

run_on : (x : Item) (xs : Content) → is_marked x ≡ true → run_items (x ∷ xs) ≡ x ∷ run_items xs
unfolding run_items
run_on x xs m = rw m

run_marked : {ps : List Placed} → Marked ps → (qs : List Placed) → run_items (items qs) ≡ [] → run_items (items (ps ++ qs)) ≡ items ps
unfolding run_items items
run_marked no_more qs e = e
run_marked (one_more {p} {ps} m ms) qs e = rw m (ap {B = Content} (λ l. p.item ∷ l) (run_marked ms qs e))

blamed_through : {ps : List Placed} → Marked ps → (before : Content) (qs : List Placed) → run_items (items qs) ≡ []
    → blamed lone_bar before (ps ++ qs) ≡ blamed lone_P (run_items before) ps ++ blamed lone_bar (reverse_aux (items ps) before) qs
unfolding blamed items lone_bar
blamed_through no_more before qs e = refl
blamed_through (one_more {p} {ps} m ms) before qs e =
    ap₂ (λ (l : Content) (r : List ℕ). cond (lone_P (run_items before) p.item l) (p.at ∷ r) r) (run_marked ms qs e)
    (blamed_through ms (p.item ∷ before) qs e
    ∙ ap (λ (c : Content). blamed lone_P c ps ++ blamed lone_bar (reverse_aux (map (λ p. p.item) ps) (p.item ∷ before)) qs) (run_on p.item before m))
    ∙ by (lone_P (run_items before) p.item (items ps)) (blamed lone_P (p.item ∷ run_items before) ps) (blamed lone_bar (reverse_aux (map (λ p. p.item) ps) (p.item ∷ before)) qs)
  where
    by : (b : Bool) (s x : List ℕ) → cond b (p.at ∷ (s ++ x)) (s ++ x) ≡ cond b (p.at ∷ s) s ++ x
    by true s x = refl
    by false s x = refl

-- a bar and a content after it
content_blamed : (before : Content) (at : ℕ) (ps qs : List Placed) → run_items (items qs) ≡ []
    → blamed lone_bar before (bar at ++ (markers ps ++ qs)) ≡ blamed lone_P [] ps ++ blamed lone_bar (reverse_aux (items (markers ps)) (text 0 ∷ before)) qs
unfolding blamed lone_bar lone_P half run_items is_marked class only_markers keep
content_blamed before at ps qs e =
    blamed_through (markers_marked ps) (text 0 ∷ before) qs e
    ∙ ap (λ (l : List ℕ). l ++ blamed lone_bar (reverse_aux (items (markers ps)) (text 0 ∷ before)) qs) (sym (blamed_marks lone_P lone_P on_lone [] ps))

abbrev of_part : Located → List Placed
of_part l = from_part true (λ q. true) (λ h at. bar at) (λ q at. bar at) marker no_marker l

bar_first : (ls : List Located) → run_items (items (gather of_part ls)) ≡ []
unfolding run_items items gather from_part is_marked class
bar_first [] = refl
bar_first (l ∷ ls) = refl

abbrev of_the_target : ℕ → Target → List Placed
of_the_target at g = target_gathered true (λ q. true) (λ h at. bar at) (λ q at. bar at) marker no_marker at g

part_is : (l : Located) (qs : List Placed) → of_part l ++ qs ≡ bar l.at ++ (markers (placed_source l) ++ (of_the_target (order_at l) l.part.target ++ qs))
unfolding from_part markers
part_is l qs = ap {B = List Placed} (λ r. record { item = text 0; at = l.at } ∷ r) (append_assoc (gather (marker true) (placed_source l)) (of_the_target (order_at l) l.part.target) qs)

-- a target, or none, before a bar
target_content_blamed : (before : Content) (at : ℕ) (g : Target) (qs : List Placed) (blames : List ℕ) → run_items (items qs) ≡ []
    → ((before : Content) → blamed lone_bar before qs ≡ blames) → blamed lone_bar before (of_the_target at g ++ qs) ≡ blamed lone_P [] (placed_target (at + 4) g) ++ blames
unfolding target_gathered placed_target blamed markers
target_content_blamed before at no_target qs blames e h = h before
target_content_blamed before at (target q xs) qs blames e h =
    content_blamed before at (placed_from (at + 4) [] xs) qs e
    ∙ ap (λ (l : List ℕ). blamed lone_P [] (placed_from (at + 4) [] xs) ++ l) (h (reverse_aux (items (markers (placed_from (at + 4) [] xs))) (text 0 ∷ before)))

target_bar : (at : ℕ) (g : Target) (qs : List Placed) → run_items (items qs) ≡ [] → run_items (items (of_the_target at g ++ qs)) ≡ []
unfolding target_gathered run_items items is_marked class
target_bar at no_target qs e = e
target_bar at (target q xs) qs e = refl

none_blamed : (before : Content) → blamed lone_bar before [] ≡ []
unfolding blamed
none_blamed before = refl

parts_blamed : (before : Content) (ls : List Located) → blamed lone_bar before (gather of_part ls) ≡ gather (blamed lone_P []) (placed_contents ls)
unfolding gather placed_contents target_at
parts_blamed before [] = none_blamed before
parts_blamed before (l ∷ ls) =
    let qs = gather of_part ls in
    ap (blamed lone_bar before) (part_is l qs)
    ∙ content_blamed before l.at (placed_source l) (of_the_target (order_at l) l.part.target ++ qs) (target_bar (order_at l) l.part.target qs (bar_first ls))
    ∙ ap (λ (r : List ℕ). blamed lone_P [] (placed_source l) ++ r)
    (target_content_blamed (reverse_aux (items (markers (placed_source l))) (text 0 ∷ before)) (order_at l) l.part.target qs
    (gather (blamed lone_P []) (placed_contents ls)) (bar_first ls)
    (λ b. parts_blamed b ls))

-- The list is what is read at the offsets of heads and markers
module _ (t : List ℕ) where
  one_back : (inside : Bool) (at : ℕ) (r : Record) → read (drop at t) ≡ r
      → placed_at t (found_at true (λ q. true) (λ h at. at ∷ []) (λ q at. at ∷ []) marker_offset no_offset inside at r)
      ≡ found_at true (λ q. true) (λ h at. bar at) (λ q at. bar at) marker no_marker inside at r
  unfolding placed_at found_at marker_offset marker item_at item_in
  one_back inside at (opening c) e = refl
  one_back inside at closing e = refl
  one_back inside at (part_head h) e = ap {B = List Placed} (λ (r : Record). record { item = item_in r; at = at } ∷ []) e
  one_back inside at (target_head q) e = ap {B = List Placed} (λ (r : Record). record { item = item_in r; at = at } ∷ []) e
  one_back inside at (text_run cs) e = refl
  one_back inside at (inline x) e = by (inside && not (eqb (class x) 0))
    where
      by : (b : Bool)
          → map {B = Placed} (λ o. record { item = item_in (read (drop o t)); at = o })
          (map (λ (p : Placed). p.at) (cond b (record { item = x; at = at } ∷ []) []))
          ≡ cond b (record { item = x; at = at } ∷ []) []
      by true = ap {B = List Placed} (λ (r : Record). record { item = item_in r; at = at } ∷ []) e
      by false = refl
  one_back inside at ill_text e = refl
  one_back inside at (broken b) e = refl

  state_same : (inside : Bool) (r : Record)
      → state_after true (λ q. true) (λ h at. at ∷ []) (λ q at. at ∷ []) marker_offset no_offset inside r
      ≡ state_after true (λ q. true) (λ h at. bar at) (λ q at. bar at) marker no_marker inside r
  unfolding state_after
  state_same inside (opening c) = refl
  state_same inside closing = refl
  state_same inside (part_head h) = refl
  state_same inside (target_head q) = refl
  state_same inside (text_run cs) = refl
  state_same inside (inline x) = refl
  state_same inside ill_text = refl
  state_same inside (broken b) = refl

  bars_back : (inside : Bool) (at : ℕ) (rs : List Record) → At t at rs → placed_at t (barred_found true inside at rs) ≡ bars_found inside at rs
  unfolding found placed_at
  bars_back inside at [] a = refl
  bars_back inside at (r ∷ rs) a =
      let n = at_next t at r rs a in
      let s = state_after true (λ q. true) (λ h at. at ∷ []) (λ q at. at ∷ []) marker_offset no_offset inside r in
      let A : List ℕ = found_at true (λ q. true) (λ h at. at ∷ []) (λ q at. at ∷ []) marker_offset no_offset inside at r in
      map-append {B = Placed} (λ o. record { item = item_at t o; at = o }) A (barred_found true s (at + length (record_bytes r)) rs)
      ∙ ap₂ ◌++◌ (one_back inside at r n.reads)
      (bars_back s (at + length (record_bytes r)) rs n.then ∙ ap (λ (b : Bool). bars_found b (at + length (record_bytes r)) rs) (state_same inside r))

  pub contents_blamed : Passes t → blamed lone_bar [] (placed_at t (barred true t)) ≡ gather (blamed lone_P []) (placed_contents (located (unit t).parts))
  unfolding barred
  contents_blamed p =
      ap (blamed lone_bar []) (bars_back false 0 (unit_records (unit t)) (at_start t p) ∙ found_unit true (λ q. true) (λ h at. bar at) (λ q at. bar at) marker no_marker false (unit t))
      ∙ parts_blamed [] (located (unit t).parts)
