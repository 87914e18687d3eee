-- What a cut parts: a content that is cut and joined again has its marks turned, and no other content has any of them.
use Prim.Native.Nat.{ℕ, ◌+◌, ◌≤◌}
use native.Mathlib.Omega.{arith}
use mathlib.Core.Path.{◌≡◌, refl, sym, ap, ap₂, ◌∙◌}
use mathlib.Core.Bool.{Bool, true, false, ◌&&◌, ◌||◌, cond, false≢true}
use mathlib.Core.List.{List, [], ◌∷◌, ◌++◌, map}
use lib.Dec.{eqb}
use lib.ListN.{length, take, drop, take-append-drop}
use borrow.Author.Tests.{eqb-true}
use Rattle.xliff.specs.Bytes.{any, keep, gather}
use Rattle.xliff.specs.Item.{Item, Content, Half, start, end, flat, is_half, is_start_half, class, id_of, alike, other_half}
use Rattle.xliff.specs.Unit.{Target, no_target, target, Part, target_items}
use Rattle.xliff.specs.Rules.{half_of_id}
use Rattle.xliff.specs.Split.{first_items, second_items}
use Rattle.xliff.specs.Rewrite.{rewrite_target}
use Rattle.xliff.specs.Rejoin.{open_at, turned_item, turned_part}
use Rattle.xliff.proofs.lists.Sum.{sum, sum_append}
use Rattle.xliff.proofs.lists.Tests.{and_left, and_right, and_false, map_same}
use Rattle.xliff.proofs.rules.Stack.{key}
use Rattle.xliff.proofs.rules.Balance.{key_of}
use Rattle.xliff.proofs.rules.Marks.{Mk, mark_of, marks, Shape, opposite, any_mk, any_other, alike_class, not_alike, is_half_of, is_id, half_own, pm_half}
use Rattle.xliff.proofs.rules.Turn.{turn, same_form, is_cut}
use Rattle.xliff.proofs.operations.Cut.{cut_together}
use Rattle.xliff.proofs.operations.Rewrite.{half_bit, halves, halves_marks}

-- WHAT IS OPEN AT A CUT, by marks: a start of its class and id before the cut, and an end behind it.
any_kept : (p : Item → Bool) (b : Bool) (y : Item) (ys : Content) → any p (cond b (y ∷ ys) ys) ≡ b && p y || any p ys
unfolding any
any_kept p true y ys = refl
any_kept p false y ys = refl

-- One item more before the cut: whether it is a start, whether its end is behind the cut, whether it is of the class
-- asked for; whether one of the others before it is such a start, whether an end of the class is behind
one_more : (starts ended alike before behind others : Bool) → others ≡ before && behind
    → (starts ≡ true → alike ≡ true → ended ≡ behind)
    → starts && ended && alike || others ≡ (alike && opposite end (cond starts start end) || before) && behind
one_more true ended true before true others o h = ap (λ (z : Bool). z && true || others) (h refl refl)
one_more true ended true before false others o h = ap (λ (z : Bool). z && true || others) (h refl refl) ∙ o ∙ and_false before
one_more true true false before behind others o h = o
one_more true false false before behind others o h = o
one_more false ended true before behind others o h = o
one_more false ended false before behind others o h = o

open_by_marks : (d : Content) (x : Item) → is_half x ≡ true → (l : Content)
    → any (alike x) (keep (λ y. is_start_half y && any (other_half y) d) l)
    ≡ any_mk (class x) end (marks (id_of x) l) && any_mk (class x) start (marks (id_of x) d)
unfolding any keep marks gather
open_by_marks d x h [] = refl
open_by_marks d x h (y ∷ l) =
    any_kept (alike x) (is_start_half y && any (other_half y) d) y (keep (λ y. is_start_half y && any (other_half y) d) l)
    ∙ by (half_of_id (id_of x) y) refl (open_by_marks d x h l)
  where
    others : Bool
    others = any (alike x) (keep (λ y. is_start_half y && any (other_half y) d) l)

    behind : Bool
    behind = any_mk (class x) start (marks (id_of x) d)

    ended : half_of_id (id_of x) y ≡ true → is_start_half y ≡ true → eqb (class x) (class y) ≡ true → any (other_half y) d ≡ behind
    ended q s e =
        any_other y (is_half_of (id_of x) y q) d ∙ ap (λ (b : Bool). any_mk (class y) (cond b start end) (marks (id_of y) d)) s
        ∙ ap₂ (λ (c i : ℕ). any_mk c start (marks i d)) (sym (eqb-true (class x) (class y) e)) (is_id (id_of x) y q)

    by : (b : Bool) → half_of_id (id_of x) y ≡ b → others ≡ any_mk (class x) end (marks (id_of x) l) && behind
        → is_start_half y && any (other_half y) d && alike x y || others
        ≡ any_mk (class x) end (cond b (mark_of y ∷ []) [] ++ marks (id_of x) l) && behind
    by true q ih =
        ap (λ (z : Bool). is_start_half y && any (other_half y) d && z || others) (alike_class x y q)
        ∙ one_more (is_start_half y) (any (other_half y) d) (eqb (class x) (class y)) (any_mk (class x) end (marks (id_of x) l)) behind others
        ih (ended q)
    by false q ih =
        ap (λ (z : Bool). is_start_half y && any (other_half y) d && z || others) (not_alike x y h q)
        ∙ ap (λ (z : Bool). z || others) (and_false (is_start_half y && any (other_half y) d)) ∙ ih

-- those that the definition names are those that the split turns
open_is : (n : ℕ) (xs : Content) (x : Item) → is_half x ≡ true
    → any (alike x) (open_at n xs) ≡ is_cut (take n xs) (drop n xs) (key_of x)
unfolding open_at is_cut
open_is n xs x h = open_by_marks (drop n xs) x h (take n xs)

-- A CONTENT CUT AND JOINED, where it stands in a sequence whose halves have shapes
pub content_back : (n : ℕ) (xs : Content) (e : ℕ → ℕ → Half → Bool) (X Z : Content)
    → ((i : ℕ) → Shape (e i) (marks i (X ++ (xs ++ Z))))
    → first_items n xs ++ second_items n xs ≡ map (turned_item (open_at n xs)) xs
unfolding turn turned_item flat
content_back n xs e X Z shapes =
    cut_together n xs e X Z shapes
    ∙ map_same (turn (is_cut (take n xs) (drop n xs))) (turned_item (open_at n xs))
    same xs
  where
    same : (x : Item) → turn (is_cut (take n xs) (drop n xs)) x ≡ turned_item (open_at n xs) x
    same x =
        same_form x (is_cut (take n xs) (drop n xs) (key_of x)) (any (alike x) (open_at n xs))
        (λ p. sym (open_is n xs x (pm_half x p)))

-- ELSEWHERE no item is turned, since of an id there are two halves at most
some_mark : (c : ℕ) (s : Half) (l : List Mk) → any_mk c s l ≡ true → 1 ≤ length l
some_mark c s [] e = absurd (false≢true e)
some_mark c s (m ∷ l) e = omega arith

both_there : (n : ℕ) (xs : Content) (c i : ℕ) → is_cut (take n xs) (drop n xs) (key c i) ≡ true → 2 ≤ halves i xs
unfolding is_cut
both_there n xs c i e =
    omega (
      arith,
      some_mark c end (marks i (take n xs)) (and_left _ _ e),
      some_mark c start (marks i (drop n xs)) (and_right (any_mk c end (marks i (take n xs))) _ e),
      halves_marks i (take n xs),
      halves_marks i (drop n xs),
      sum_append (half_bit i) (take n xs) (drop n xs),
      ap (halves i) (take-append-drop n xs),
    )

item_apart : (n : ℕ) (xs : Content) (y : Item) → (is_half y ≡ true → halves (id_of y) xs ≤ 1) → turned_item (open_at n xs) y ≡ y
unfolding turned_item flat
item_apart n xs y few =
    same_form y (any (alike y) (open_at n xs)) false (λ p. by (any (alike y) (open_at n xs)) refl (pm_half y p))
  where
    by : (b : Bool) → any (alike y) (open_at n xs) ≡ b → is_half y ≡ true → b ≡ false
    by true e h =
        let two : 2 ≤ halves (id_of y) xs = both_there n xs (class y) (id_of y) (sym (open_is n xs y h) ∙ e) in
        absurd (let z : ⊥ = omega (arith, two, few h) in z)
    by false e h = refl

apart : (n : ℕ) (xs ys : Content) → ((i : ℕ) → halves i ys + halves i xs ≤ 2) → map (turned_item (open_at n xs)) ys ≡ ys
apart n xs [] most = refl
apart n xs (y ∷ ys) most =
    ap₂ {C = Content} ◌∷◌
    (item_apart n xs y (λ h. let one : half_bit (id_of y) y ≡ 1 = rw (half_own y h) in omega (arith, one, most (id_of y))))
    (apart n xs ys (λ i. omega (arith, most i)))

target_apart : (n : ℕ) (xs : Content) (t : Target) → ((i : ℕ) → halves i (target_items t) + halves i xs ≤ 2)
    → rewrite_target (turned_item (open_at n xs)) t ≡ t
unfolding rewrite_target target_items
target_apart n xs no_target most = refl
target_apart n xs (target q ys) most = ap (target q) (apart n xs ys most)

-- halves in the sources of parts, and in their targets
abbrev pub source_halves : ℕ → List Part → ℕ
source_halves i l = sum (λ r. halves i r.source) l

abbrev pub target_halves : ℕ → List Part → ℕ
target_halves i l = sum (λ r. halves i (target_items r.target)) l

pub parts_apart : (n m : ℕ) (xs ys : Content) (l : List Part) → ((i : ℕ) → source_halves i l + halves i xs ≤ 2)
    → ((i : ℕ) → target_halves i l + halves i ys ≤ 2)
    → map (turned_part (record { source = open_at n xs; target = open_at m ys })) l ≡ l
unfolding turned_part
parts_apart n m xs ys [] s t = refl
parts_apart n m xs ys (r ∷ l) s t =
    ap₂ {C = List Part} ◌∷◌
    (ap₂ (λ (c : Content) (g : Target). record { head = r.head; source = c; target = g })
    (apart n xs r.source (λ i. omega (arith, s i)))
    (target_apart m ys r.target (λ i. omega (arith, t i))))
    (parts_apart n m xs ys l (λ i. omega (arith, s i)) (λ i. omega (arith, t i)))
