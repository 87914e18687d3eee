-- A part that is split and its two halves joined, among the other parts of a unit that meets 5 and 7: the part again,
-- with the pairs and annotations open at the cuts turned, and every other part as it was.
use Prim.Native.Nat.{ℕ, suc, ◌+◌, ◌≤◌, ◌<◌}
use native.Mathlib.Omega.{arith}
use mathlib.Core.Path.{◌≡◌, refl, sym, ap, ap₂, ◌∙◌, subst}
use mathlib.Core.Bool.{false, ◌||◌}
use mathlib.Core.List.{List, [], ◌∷◌, ◌++◌, map}
use mathlib.Core.Option.{none}
use lib.ListN.{length, length-append, length-map}
use Rattle.xliff.specs.Bytes.{gather, among}
use Rattle.xliff.specs.Item.{Content}
use Rattle.xliff.specs.Unit.{Head, Target, no_target, target, Part, target_items, is_closed, source_sequence, target_sequence, order_list, orders}
use Rattle.xliff.specs.Rules.{fault_5}
use Rattle.xliff.specs.Focus.{here, order_target, order_part, order_parts}
use Rattle.xliff.specs.Split.{first_items, second_items, first_target, second_target, split_order, first_half, second_half}
use Rattle.xliff.specs.Join.{join_targets, join_parts, highest_unused, lower_above, join_order, join_focus}
use Rattle.xliff.specs.Rewrite.{rewrite_target}
use Rattle.xliff.specs.Rejoin.{open_at, OpenAtCuts, turned_item, turned_part}
use Rattle.xliff.specs.Good.{GoodHead}
use Rattle.xliff.proofs.lists.Sum.{sum_append}
use Rattle.xliff.proofs.lists.Tests.{or_left, or_right, map-append}
use Rattle.xliff.proofs.rules.Total.{total_source, total_target}
use Rattle.xliff.proofs.rules.Marks.{marks, Shape, waits, short}
use Rattle.xliff.proofs.rules.Seven.{bare_sequence, Good7}
use Rattle.xliff.proofs.rules.Place.{put_in_place}
use Rattle.xliff.proofs.operations.Sources.{source_append}
use Rattle.xliff.proofs.operations.SplitTarget.{orders_append, too_high, fault_5_fits}
use Rattle.xliff.proofs.operations.SetValid.{among_append}
use Rattle.xliff.proofs.operations.JoinTarget.{lower_self}
use Rattle.xliff.proofs.operations.Rewrite.{half_bit, halves, halves_marks}
use Rattle.xliff.proofs.operations.Cut.{after_split}
use Rattle.xliff.proofs.rejoin.Heads.{head_back, fall_back, unmoved, top_unused, stay_low}
use Rattle.xliff.proofs.rejoin.OpenAtCut.{content_back, source_halves, target_halves, parts_apart}

module _ (source_cut target_cut new : ℕ) (b : List Part) (p : Part) (a : List Part) where
  -- the two halves, the other parts with their orders raised, and all of them: what the split leaves
  abbrev first : Part
  first = first_half source_cut target_cut p

  abbrev second : Part
  second = second_half source_cut target_cut new p

  abbrev raised : List Part → List Part
  raised l = order_parts (split_order p.target) l

  abbrev now : List Part
  now = after_split source_cut target_cut new b p a

  -- what it was given, and what is open at the cuts
  abbrev old : List Part
  old = b ++ (p ∷ a)

  abbrev cuts : OpenAtCuts
  cuts = record { source = open_at source_cut p.source; target = open_at target_cut (target_items p.target) }

  -- the orders that the join gives, where the part's target is t
  abbrev fallen : Target → ℕ → ℕ
  fallen t = join_order now (first_target target_cut t) (second_target target_cut t)

  -- and that they are those of before
  record Back (t : Target) : Type 0 where
    pub before : order_parts (fallen t) (order_parts (split_order t) b) ≡ b
    pub behind : order_parts (fallen t) (order_parts (split_order t) a) ≡ a
    pub own : order_target (fallen t) (join_targets (first_target target_cut t) (second_target target_cut t))
        ≡ rewrite_target (turned_item (open_at target_cut (target_items t))) t

  module _ (five : fault_5 old ≡ none) (seven : Good7 old) where
    -- THE OTHER PARTS have none of what is open there
    source_most : (i : ℕ) → source_halves i b + (source_halves i a + halves i p.source) ≤ 2
    source_most i =
        omega (
          arith,
          short (seven.source_side i),
          halves_marks i (source_sequence old),
          total_source (half_bit i) old,
          sum_append (λ (r : Part). halves i r.source) b (p ∷ a),
        )

    target_most : (i : ℕ) → target_halves i b + (target_halves i a + halves i (target_items p.target)) ≤ 2
    target_most i =
        omega (
          arith,
          short (seven.target_side i),
          halves_marks i (target_sequence old),
          total_target (half_bit i) old five,
          sum_append (λ (r : Part). halves i (target_items r.target)) b (p ∷ a),
        )

    before_same : map (turned_part cuts) b ≡ b
    before_same =
        parts_apart source_cut target_cut p.source (target_items p.target) b
        (λ i. omega (arith, source_most i)) (λ i. omega (arith, target_most i))

    behind_same : map (turned_part cuts) a ≡ a
    behind_same =
        parts_apart source_cut target_cut p.source (target_items p.target) a
        (λ i. omega (arith, source_most i)) (λ i. omega (arith, target_most i))

    -- THE CONTENTS of the part, cut and joined
    source_back : first_items source_cut p.source ++ second_items source_cut p.source
        ≡ map (turned_item (open_at source_cut p.source)) p.source
    unfolding source_sequence gather
    source_back =
        content_back source_cut p.source (λ i. waits [] i) (source_sequence b) (source_sequence a)
        (λ i. subst (λ (l : Content). Shape (waits [] i) (marks i l)) (source_append b (p ∷ a)) (seven.source_side i))

    target_back : (q : ℕ) (xs : Content) → p.target ≡ target q xs
        → first_items target_cut xs ++ second_items target_cut xs ≡ map (turned_item (open_at target_cut xs)) xs
    target_back q xs e =
        let (u, v, x, y) = put_in_place b p p a q xs xs e e five in
        content_back target_cut xs (λ i. waits (bare_sequence old) i) u v
        (λ i. subst (λ (l : Content). Shape (waits (bare_sequence old) i) (marks i l)) x (seven.target_side i))

    -- THE ORDERS with a target: those above its own rise and fall
    back_with : (q : ℕ) (xs : Content) → p.target ≡ target q xs → Back (target q xs)
    unfolding first_target second_target join_targets join_order order_target rewrite_target target_items split_order
    back_with q xs e = record { before = fall_back q b; behind = fall_back q a; own = ap₂ target (lower_self q) (target_back q xs e) }

    -- and without: no order is above the number of parts, which the split adds as an unused one
    module _ (e : p.target ≡ no_target) where
      low : (k : ℕ) → length old < k → among k (orders old) ≡ false
      low k l = too_high (length old) k [] (orders old) l (fault_5_fits old five)

      orders_old : orders old ≡ orders b ++ orders a
      unfolding orders order_list gather
      orders_old = orders_append b (p ∷ a) ∙ ap (λ (t : Target). orders b ++ (order_list t ++ orders a)) e

      low_apart : (k : ℕ) → length old < k → among k (orders b) || among k (orders a) ≡ false
      low_apart k l = sym (ap (among k) orders_old ∙ among_append k (orders b) (orders a)) ∙ low k l

      orders_now : orders now ≡ orders b ++ orders a
      unfolding orders order_list gather first_half second_half first_target second_target
      orders_now =
          orders_append (raised b) (first ∷ second ∷ raised a)
          ∙ ap (λ (t : Target). orders (order_parts (split_order t) b)
          ++ (order_list (first_target target_cut t)
          ++ (order_list (second_target target_cut t) ++ orders (order_parts (split_order t) a)))) e
          ∙ ap₂ (λ (l m : List Part). orders l ++ orders m) (unmoved b) (unmoved a)

      length_now : length now ≡ suc (length old)
      unfolding order_parts
      length_now = simp (length-append, length-map) (omega arith)

      top : highest_unused (length now) (orders now) ≡ suc (length old)
      top =
          ap₂ highest_unused length_now (orders_now ∙ sym orders_old)
          ∙ top_unused (length old) (orders old) (low (suc (length old)) (omega arith))

      stays : (l : List Part) → ((k : ℕ) → suc (length old) < k → among k (orders l) ≡ false)
          → order_parts (fallen no_target) (order_parts (split_order no_target) l) ≡ l
      unfolding first_target second_target join_order
      stays l high =
          ap₂ (λ (h : ℕ) (m : List Part). order_parts (lower_above h) m) top (unmoved l)
          ∙ stay_low (suc (length old)) l high

      back_without : Back no_target
      unfolding first_target second_target join_targets order_target rewrite_target
      back_without =
          record {
            before = stays b (λ k l. or_left _ _ (low_apart k (omega (arith, l))));
            behind = stays a (λ k l. or_right (among k (orders b)) _ (low_apart k (omega (arith, l))));
            own = refl;
          }

    back : (t : Target) → p.target ≡ t → Back t
    back no_target e = back_without e
    back (target q xs) e = back_with q xs e

    -- THE TWO HALVES of a part that is not closed, joined
    pub joined_back : (c : ℕ) → GoodHead p.head → is_closed c p ≡ false
        → join_focus now (here (raised b) first (second ∷ raised a)) ≡ map (turned_part cuts) old
    unfolding join_focus join_parts first_half second_half turned_part order_parts order_part is_closed
    joined_back c good not_closed =
        let k = back p.target refl in
        map-append (order_part (fallen p.target)) (raised b) (join_parts first second ∷ raised a)
        ∙ ap₂ (λ (l m : List Part). l ++ m) (k.before ∙ sym before_same)
        (ap₂ {C = List Part} ◌∷◌ (part_is (head_back c new p.head good not_closed) source_back k.own)
        (k.behind ∙ sym behind_same))
        ∙ sym (map-append (turned_part cuts) b (p ∷ a))
      where
        part_is : {g h : Head} {s r : Content} {t u : Target} → g ≡ h → s ≡ r → t ≡ u
            → ◌≡◌ {A = Part} (record { head = g; source = s; target = t }) (record { head = h; source = r; target = u })
        part_is x y z i = record { head = x i; source = y i; target = z i }
