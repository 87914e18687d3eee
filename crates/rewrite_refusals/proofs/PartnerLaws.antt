-- Where rule 7 holds with the marks of pc or mrk, the start has its partner in its content.
use Prim.Native.Nat.{ℕ, ◌+◌, ◌≤◌}
use mathlib.Core.Path.{◌≡◌, refl, sym, ap, ◌∙◌}
use mathlib.Core.Bool.{Bool, true, false, not, ◌&&◌, cond, true≢false}
use mathlib.Core.List.{List, [], ◌∷◌, map}
use mathlib.Core.Option.{none, some}
use native.Mathlib.Omega.{arith}
use lib.Dec.{eqb}
use borrow.Author.Tests.{eqb-true, not-true, not-false}
use Rattle.xliff.specs.Bytes.{'S', any, gather}
use Rattle.xliff.specs.Item.{Item, Content, form_P, half, id_of, is_half, is_start_half, is_form_P, other_half}
use Rattle.xliff.specs.Unit.{Part, XliffUnit, target_items, source_sequence, target_sequence}
use Rattle.xliff.specs.Sequences.{Located, located_from, located, part_size, source_at, target_at, Placed, placed_from, placed_source, placed_target, placed_contents, blamed}
use Rattle.xliff.specs.Rules.{half_of_id, partner_P, ahead, lone_P, nearest, fault_7}
use Rattle.xliff.specs.Focus.{with_parts}
use Rattle.xliff.specs.Rewrite.{rewrite_item, rewrite_target, rewrite_part, rewrite_unit, side_content, side_sequence, Whole, ended_by, find_whole, are_partners}
use Rattle.xliff.proofs.lists.Sum.{bit, sum}
use Rattle.xliff.specs.Good.{Each, each_nil, each_cons}
use Rattle.xliff.proofs.lists.Tests.{none_some, and_left, and_right, or_left, or_right}
use Rattle.xliff.proofs.rules.Flat.{half_alike, id_alike}
use Rattle.xliff.proofs.rules.Sequences.{clear, clear_blamed, first_of_none, append_nil_left, append_nil_right, items_placed}
use Rattle.xliff.proofs.rules.Six.{items_of_target}
use Rattle.xliff.proofs.rules.Total.{total_source, total_target_most}
use Rattle.xliff.proofs.operations.Sources.{flat_rewrite}
use Rattle.xliff.proofs.operations.Rewrite.{form_in}
use Rattle.xliff.proofs.operations.RewriteSides.{items_of}

-- no half of pc or mrk is alone in a content of a part
record ClearPart (p : Part) : Type 0 where
  pub source : clear lone_P [] p.source ≡ true
  pub target : clear lone_P [] (target_items p.target) ≡ true

contents_clear : (at : ℕ) (ps : List Part) → gather (blamed lone_P []) (placed_contents (located_from at ps)) ≡ [] → Each ClearPart ps
unfolding placed_contents located_from gather placed_source
contents_clear at [] e = each_nil
contents_clear at (p ∷ ps) e =
    let l : Located = record { part = p; at = at } in
    let s : List Placed = placed_from (source_at l) [] p.source in
    let t : List Placed = placed_target (target_at l) p.target in
    let a : blamed lone_P [] s ≡ [] = append_nil_left _ _ e in
    let r = append_nil_right (blamed lone_P [] s) _ e in
    let b : blamed lone_P [] t ≡ [] = append_nil_left _ _ r in
    each_cons
    (record {
      source = ap (clear lone_P []) (sym (items_placed (source_at l) [] p.source)) ∙ clear_blamed lone_P [] s a;
      target = ap (clear lone_P []) (sym (items_of_target (target_at l) p.target)) ∙ clear_blamed lone_P [] t b;
    })
    (contents_clear (at + part_size p) ps (append_nil_right (blamed lone_P [] t) _ r))

parts_clear : (ps : List Part) → fault_7 ps ≡ none → Each ClearPart ps
unfolding fault_7 located
parts_clear ps e = contents_clear 3 ps (append_nil_left _ _ (append_nil_left _ _ (first_of_none 7 _ e)))

module _ (i : ℕ) where
  abbrev f : Item → Item
  f = rewrite_item i form_P

  -- how many starts of the id a content has
  abbrev starts : Item → Bool
  starts x = is_start_half x && eqb (id_of x) i

  abbrev start_bit : Item → ℕ
  start_bit x = bit (starts x)

  half_kept : (x : Item) → half (f x) ≡ half x
  half_kept x = half_alike x (f x) (flat_rewrite i form_P x)

  id_kept : (x : Item) → id_of (f x) ≡ id_of x
  id_kept x = id_alike x (f x) (flat_rewrite i form_P x)

  form_set : (x : Item) → starts x ≡ true → is_form_P (f x) ≡ true
  unfolding half_of_id rewrite_item
  form_set x s =
      let h : half x ≡ 1 = eqb-true (half x) 1 (and_left _ _ s) in
      let a : half_of_id i x ≡ true = rw (h, and_right (is_start_half x) _ s) in
      let b : is_half x ≡ true = rw h in
      rw a (form_in form_P x b)

  -- a start of the id that is not alone has its partner behind it
  start_met : (before : Content) (x : Item) (after : Content) → starts x ≡ true → lone_P before (f x) after ≡ false
      → is_start_half (f x) && (eqb (id_of (f x)) i && partner_P (f x) after) ≡ true
  unfolding lone_P ahead
  start_met before x after s l =
      let k : half (f x) ≡ 1 = half_kept x ∙ eqb-true (half x) 1 (and_left _ _ s) in
      let m : not (partner_P (f x) after) ≡ false = rw (k, form_set x s) at l in
      rw (k, id_kept x, and_right (is_start_half x) _ s) (not-false _ m)

  none_start : (before : Content) (xs : Content) → clear lone_P before (map f xs) ≡ true → are_partners i (map f xs) ≡ false → sum start_bit xs ≡ 0
  unfolding clear are_partners
  none_start before [] c e = refl
  none_start before (x ∷ xs) c e =
      by (starts x) refl
      (none_start (f x ∷ before) xs (and_right (not (lone_P before (f x) (map f xs))) _ c)
      (or_right (is_start_half (f x) && (eqb (id_of (f x)) i && partner_P (f x) (map f xs))) _ e))
    where
      by : (b : Bool) → starts x ≡ b → sum start_bit xs ≡ 0 → bit b + sum start_bit xs ≡ 0
      by true s z = absurd (true≢false (sym (start_met before x (map f xs) s (not-true _ (and_left _ _ c))) ∙ or_left _ _ e))
      by false s z = omega (arith, z)

  no_whole : (xs : Content) → sum start_bit xs ≡ 0 → find_whole i xs ≡ none
  unfolding find_whole
  no_whole [] e = refl
  no_whole (x ∷ xs) e = by (starts x) e (no_whole xs)
    where
      by : (b : Bool) → bit b + sum start_bit xs ≡ 0 → (sum start_bit xs ≡ 0 → find_whole i xs ≡ none) → cond b (ended_by x (nearest (other_half x) xs)) (find_whole i xs) ≡ none
      by true k ih = absurd (let z : ⊥ = omega (arith, k) in z)
      by false k ih = ih (omega (arith, k))

  module _ (side : ℕ) where
    abbrev g : Part → Part
    g = rewrite_part side f

    content_is : (p : Part) → side_content side (g p) ≡ map f (side_content side p)
    unfolding side_content rewrite_part
    content_is p = by (eqb side 'S')
      where
        by : (b : Bool)
            → cond b
            (cond {A = Part} b (record { head = p.head; source = map f p.source; target = p.target })
            (record { head = p.head; source = p.source; target = rewrite_target f p.target })).source
            (target_items
            (cond {A = Part} b (record { head = p.head; source = map f p.source; target = p.target })
            (record { head = p.head; source = p.source; target = rewrite_target f p.target })).target)
            ≡ map f (cond b p.source (target_items p.target))
        by true = refl
        by false = items_of f p.target

    content_clear : (q : Part) → ClearPart q → clear lone_P [] (side_content side q) ≡ true
    unfolding side_content
    content_clear q k = by (eqb side 'S')
      where
        by : (b : Bool) → clear lone_P [] (cond b q.source (target_items q.target)) ≡ true
        by true = k.source
        by false = k.target

    none_starts : (ps : List Part) → Each ClearPart (map g ps) → any (λ q. are_partners i (side_content side q)) (map g ps) ≡ false → sum (λ p. sum start_bit (side_content side p)) ps ≡ 0
    unfolding any
    none_starts [] each_nil e = refl
    none_starts (p ∷ ps) (each_cons k h) e =
        let a : clear lone_P [] (map f (side_content side p)) ≡ true = ap (clear lone_P []) (sym (content_is p)) ∙ content_clear (g p) k in
        let b : are_partners i (map f (side_content side p)) ≡ false = ap (are_partners i) (sym (content_is p)) ∙ or_left _ _ e in
        omega (arith, none_start [] (side_content side p) a b, none_starts ps h (or_right (are_partners i (side_content side (g p))) _ e))

    sequence_starts : (ps : List Part) → sum start_bit (side_sequence side ps) ≤ sum (λ p. sum start_bit (side_content side p)) ps
    unfolding side_sequence side_content
    sequence_starts ps = by (eqb side 'S')
      where
        by : (b : Bool) → sum start_bit (cond b (source_sequence ps) (target_sequence ps)) ≤ sum (λ p. sum start_bit (cond b p.source (target_items p.target))) ps
        by true = omega (arith, total_source start_bit ps)
        by false = total_target_most start_bit ps

    pub partners_there : (u : XliffUnit) (p : Whole) → find_whole i (side_sequence side u.parts) ≡ some p → fault_7 (rewrite_unit u side i form_P).parts ≡ none
        → any (λ q. are_partners i (side_content side q)) (rewrite_unit u side i form_P).parts ≡ true
    unfolding rewrite_unit with_parts
    partners_there u p h e = by (any (λ q. are_partners i (side_content side q)) (map g u.parts)) refl
      where
        by : (b : Bool) → any (λ q. are_partners i (side_content side q)) (map g u.parts) ≡ b → b ≡ true
        by true k = refl
        by false k =
            absurd (none_some (sym (no_whole (side_sequence side u.parts) (omega (arith, sequence_starts u.parts, none_starts u.parts (parts_clear (map g u.parts) e) k))) ∙ h))
