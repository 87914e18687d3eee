-- The orders among the records of a table, and the highest that is unused.
use Prim.Native.Nat.{ℕ, zero, suc, ◌-◌, ◌≤◌, ◌<◌}
use mathlib.Core.Path.{◌≡◌, refl, sym, ap, ap₂, ◌∙◌}
use mathlib.Core.Bool.{Bool, true, false, ◌&&◌, ◌||◌, cond, true≢false}
use mathlib.Core.List.{List, [], ◌∷◌, ◌++◌, append_assoc}
use native.Mathlib.Omega.{arith}
use lib.ListN.{length, drop}
use lib.Dec.{eqb}
use Rattle.xliff.specs.Bytes.{among, any, gather}
use Rattle.xliff.specs.Unit.{Target, no_target, target, Part, XliffUnit, order_list, orders}
use Rattle.xliff.specs.Encode as encode
use Rattle.xliff.specs.Encode.{closing, text_run, inline, content_records, target_records, part_records, unit_records}
use Rattle.xliff.specs.Parse.{unit}
use Rattle.xliff.specs.Join.{highest_unused, lower_above, join_order}
use Rattle.xliff.proofs.lists.Tests.{any_append}
use Rattle.places.specs.Offsets.{Inner, no_inner, text_inner, inline_inner}
use Rattle.places.proofs.Places.{content_inner}
use Rattle.table.specs.Meaning.{body}
use Rattle.table.specs.declared.Read.TheVariants.{Good}
use Rattle.glance.specs.declared.Glance.{Glance}
use Rattle.glance.specs.declared.Head.{Head}
use Rattle.glance.specs.declared.Head.TheVariants.{Part as PartSet, Target as TargetSet, Other}
use Rattle.glance.specs.Glances as glance
use Rattle.glance.specs.Glances.{order_set}
use Rattle.std.specs.Prelude.{Option, Some, None, is_some}
use Rattle.orders.proofs.OrderLaws.{order_walked, is_not, is_is}
use Rattle.orders.proofs.WalkLaws.{Walked}
use Rattle.part_at.specs.declared.PartPlace.{PartPlace}
use Rattle.part_at.specs.Stands.{TargetStands}
use Rattle.part_at.proofs.SpanLaws.{order_at, order_same}
use Rattle.join_orders.specs.Falls.{FallsAbove}

abbrev sets_order : ℕ → Option ℕ → Bool
sets_order q (Some k) = eqb q k
sets_order q None = false

-- a record sets the order q
abbrev pub Sets : ℕ → encode.Record → Bool
Sets q r = sets_order q (order_at r)

sets_by : (q : ℕ) (h : Head) → glance.sets_order q h ≡ sets_order q (order_set h)
sets_by q PartSet = refl
sets_by q (TargetSet k) = refl
sets_by q Other = refl

-- the same by a glance
pub sets_walked : (q : ℕ) (t : List ℕ) (at : ℕ) (rs : List encode.Record) (g : Glance) (v : Walked t at rs g)
    → glance.sets_order q g.head ≡ Sets q v.step.first
sets_walked q t at rs g v =
    sets_by q g.head
    ∙ ap (sets_order q) (sym (order_walked t at rs g v) ∙ order_same (body (drop at t)) (Good v.the v.size) ∙ ap order_at v.step.means)

module _ (q : ℕ) where
  inner_sets : (rs : List encode.Record) → Inner rs → any (Sets q) rs ≡ false
  unfolding any
  inner_sets [] no_inner = refl
  inner_sets (encode.opening _ ∷ rs) x4 = elim x4 [ ]
  inner_sets (closing ∷ rs) x4 = elim x4 [ ]
  inner_sets (encode.part_head _ ∷ rs) x6 = elim x6 [ ]
  inner_sets (encode.target_head _ ∷ rs) x7 = elim x7 [ ]
  inner_sets (encode.ill_text ∷ rs) x7 = elim x7 [ ]
  inner_sets (encode.broken _ ∷ rs) x9 = elim x9 [ ]
  inner_sets (text_run cs ∷ rs) (text_inner i) = inner_sets rs i
  inner_sets (inline x ∷ rs) (inline_inner i) = inner_sets rs i

  target_sets : (g : Target) (used : List ℕ) → any (Sets q) (target_records g) || among q used ≡ among q (order_list g ++ used)
  unfolding target_records order_list any among
  target_sets no_target used = refl
  target_sets (target k xs) used =
      ap (λ (b : Bool). eqb q k || b || among q used) (inner_sets (content_records xs) (content_inner xs)) ∙ ap (λ (b : Bool). b || among q used) (or-false (eqb q k))
    where
      or-false : (b : Bool) → b || false ≡ b
      or-false true = refl
      or-false false = refl

  part_sets : (p : Part) → any (Sets q) (part_records p) ≡ any (Sets q) (target_records p.target)
  unfolding part_records any
  part_sets p =
      any_append (Sets q) (content_records p.source) (target_records p.target)
      ∙ ap (λ (b : Bool). b || any (Sets q) (target_records p.target)) (inner_sets (content_records p.source) (content_inner p.source))

  parts_set : (ps : List Part) → any (Sets q) (gather part_records ps ++ (closing ∷ [])) ≡ among q (orders ps)
  unfolding gather any orders among
  parts_set [] = refl
  parts_set (p ∷ ps) =
      ap (any (Sets q)) (append_assoc (part_records p) (gather part_records ps) (closing ∷ []))
      ∙ any_append (Sets q) (part_records p) (gather part_records ps ++ (closing ∷ []))
      ∙ ap (λ (b : Bool). b || any (Sets q) (gather part_records ps ++ (closing ∷ []))) (part_sets p)
      ∙ ap (λ (b : Bool). any (Sets q) (target_records p.target) || b) (parts_set ps)
      ∙ target_sets p.target (orders ps)

  pub unit_sets : (u : XliffUnit) → among q (orders u.parts) ≡ any (Sets q) (unit_records u)
  unfolding unit_records any
  unit_sets u = sym (parts_set u.parts)

-- one down
module _ (used : List ℕ) where
  pub unused_here : (k : ℕ) → 0 < k → among k used ≡ false → highest_unused k used ≡ k
  unfolding highest_unused
  unused_here zero l e = absurd (omega arith)
  unused_here (suc k) l e = ap (λ (b : Bool). cond b (highest_unused k used) (suc k)) e

  pub unused_below : (k : ℕ) → 0 < k → among k used ≡ true → highest_unused k used ≡ highest_unused (k - 1) used
  unfolding highest_unused
  unused_below zero l e = absurd (omega arith)
  unused_below (suc k) l e = ap (λ (b : Bool). cond b (highest_unused k used) (suc k)) e ∙ ap (λ (n : ℕ). highest_unused n used) (let z : k ≡ suc k - 1 = omega arith in z)

  pub unused_none : (k : ℕ) → k ≤ 0 → highest_unused k used ≡ 0
  unfolding highest_unused
  unused_none zero l = refl
  unused_none (suc k) l = absurd (omega arith)

-- by the targets
module _ (t : List ℕ) (x y : PartPlace) (ps : List Part) (r : ℕ) where
  both_by : (g h : Target) → TargetStands t x g → TargetStands t y h → (o k : ℕ) → x.order ≡ Some o → y.order ≡ Some k
      → lower_above o r ≡ join_order ps g h r
  unfolding join_order
  both_by no_target h a b o k e f = is_not (sym a.0 ∙ e)
  both_by (target q xs) no_target a b o k e f = is_not (sym b.0 ∙ f)
  both_by (target q xs) (target l ys) a b o k e f = ap (λ (n : ℕ). lower_above n r) (is_is (sym e ∙ a.0))

  one_by : (g h : Target) → TargetStands t x g → TargetStands t y h → is_some x.order && is_some y.order ≡ false
      → lower_above (highest_unused (length ps) (orders ps)) r ≡ join_order ps g h r
  unfolding join_order
  one_by no_target no_target a b e = refl
  one_by no_target (target k ys) a b e = refl
  one_by (target q xs) no_target a b e = refl
  one_by (target q xs) (target k ys) a b e =
      absurd (true≢false (sym (ap₂ (λ (u w : Option ℕ). is_some u && is_some w) a.0 b.0) ∙ e))

pub both_fall : (t : List ℕ) (x y : PartPlace) (o k : ℕ) → x.order ≡ Some o → y.order ≡ Some k → FallsAbove t x y o
both_fall t x y o k e f b p a c q d s u r = both_by t x y (unit t).parts r p.target q.target s.target u.target o k e f

pub one_falls : (t : List ℕ) (x y : PartPlace) (o : ℕ) → is_some x.order && is_some y.order ≡ false → o ≡ highest_unused (length (unit t).parts) (orders (unit t).parts)
    → FallsAbove t x y o
one_falls t x y o e f b p a c q d s u r =
    ap (λ (n : ℕ). lower_above n r) f ∙ one_by t x y (unit t).parts r p.target q.target s.target u.target e
