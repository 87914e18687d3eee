-- Laws of the parts that are closed to resegmenting: each operation keeps them, their ids and their flattened source.
use Prim.Native.Nat.{ℕ}
use mathlib.Core.Path.{◌≡◌, refl, sym, ap, ap₂, ◌∙◌}
use mathlib.Core.Bool.{Bool, true, false, ◌&&◌, ◌||◌, cond}
use mathlib.Core.List.{List, [], ◌∷◌, ◌++◌, map}
use lib.Dec.{eqb}
use Rattle.xliff.specs.Bytes.{'-', 'N', 'S', gather}
use Rattle.xliff.specs.Item.{Content, Form}
use Rattle.xliff.specs.Unit.{Head, segment, ignorable, Target, no_target, target, Part, head_id, resolved, is_closed, with_id, with_state}
use Rattle.xliff.specs.Focus.{Focus, nowhere, here, focus, order_part, order_parts}
use Rattle.xliff.specs.Split.{first_half, second_half, split_order, split_focus}
use Rattle.xliff.specs.Join.{dash, join_heads, join_parts, join_order, join_focus}
use Rattle.xliff.specs.SetTarget.{set_focus, new_order}
use Rattle.xliff.specs.RemoveTarget.{remove_focus}
use Rattle.xliff.specs.Rewrite.{rewrite_item, rewrite_target, rewrite_part}
use Rattle.xliff.specs.BothEnds.{ClosedPart, closed_part}
use Rattle.xliff.proofs.lists.Tests.{gather_append, or_left, or_right}
use Rattle.xliff.proofs.operations.Sources.{focus_here, flattened_map, flat_rewrite}

unfoldable pub closed_of : ℕ → List Part → List ClosedPart
closed_of c ps = gather (closed_part c) ps

closed_append : (c : ℕ) (ps qs : List Part) → closed_of c (ps ++ qs) ≡ closed_of c ps ++ closed_of c qs
unfolding closed_of
closed_append c ps qs = gather_append (closed_part c) ps qs

-- a part that is not closed is not there
not_closed : (c : ℕ) (p : Part) → is_closed c p ≡ false → closed_part c p ≡ []
unfolding closed_part
not_closed c p e = rw e

-- changed orders
closed_orders : (c : ℕ) (f : ℕ → ℕ) (ps : List Part) → closed_of c (order_parts f ps) ≡ closed_of c ps
unfolding closed_of closed_part is_closed order_parts order_part gather
closed_orders c f [] = refl
closed_orders c f (p ∷ ps) = ap (λ (l : List ClosedPart). closed_part c p ++ l) (closed_orders c f ps)

-- Split
pub open_with_id : (c i : ℕ) (h : Head) → eqb (resolved c h) 'N' ≡ false → eqb (resolved c (with_id i h)) 'N' ≡ false
unfolding resolved with_id
open_with_id c i (segment f) e = e
open_with_id c i (ignorable j) e = e

pub split_closed : (c source_cut target_cut new : ℕ) (ps : List Part) (b : List Part) (p : Part) (a : List Part) → ps ≡ b ++ (p ∷ a)
    → is_closed c p ≡ false
    → closed_of c (split_focus source_cut target_cut new ps (here b p a)) ≡ closed_of c ps
unfolding split_focus first_half second_half closed_of gather is_closed
split_closed c source_cut target_cut new ps b p a e o =
    closed_append c (order_parts (split_order p.target) b)
    (first_half source_cut target_cut p ∷ second_half source_cut target_cut new p ∷ order_parts (split_order p.target) a)
    ∙ ap₂ ◌++◌ (closed_orders c (split_order p.target) b)
    (ap₂ ◌++◌ (not_closed c (first_half source_cut target_cut p) o)
    (ap₂ ◌++◌ (not_closed c (second_half source_cut target_cut new p) (open_with_id c new p.head o))
    (closed_orders c (split_order p.target) a)))
    ∙ ap (λ (l : List ClosedPart). closed_of c b ++ (l ++ closed_of c a)) (sym (not_closed c p o))
    ∙ sym (closed_append c b (p ∷ a)) ∙ ap (closed_of c) (sym e)

-- Join
open_dash : (c : ℕ) (b : Bool) → (b ≡ true → eqb c 'N' ≡ false) → eqb (cond (eqb (dash b) '-') c (dash b)) 'N' ≡ false
unfolding dash
open_dash c true h = h refl
open_dash c false h = refl

resolves_dash : (c d : ℕ) → eqb (cond (eqb d '-') c d) 'N' ≡ false → eqb d '-' ≡ true → eqb c 'N' ≡ false
resolves_dash c d e k = rw k at e

open_join : (c : ℕ) (g h : Head) → eqb (resolved c g) 'N' ≡ false → eqb (resolved c h) 'N' ≡ false → eqb (resolved c (join_heads g h)) 'N' ≡ false
unfolding resolved join_heads
open_join c (ignorable i) (ignorable j) e f = e
open_join c (ignorable i) (segment g) d e = open_dash c (eqb g.can_resegment '-') (λ k. d)
open_join c (segment f) (ignorable j) d e = open_dash c (eqb f.can_resegment '-') (λ k. e)
open_join c (segment f) (segment g) d e =
    open_dash c (eqb f.can_resegment '-' && eqb g.can_resegment '-')
    (λ k. resolves_dash c f.can_resegment d (left (eqb f.can_resegment '-') (eqb g.can_resegment '-') k))
  where
    left : (a b : Bool) → a && b ≡ true → a ≡ true
    left true b k = refl
    left false b k = k

pub join_closed : (c : ℕ) (ps b : List Part) (p q : Part) (a : List Part) → ps ≡ b ++ (p ∷ q ∷ a) → is_closed c p || is_closed c q ≡ false
    → closed_of c (join_focus ps (here b p (q ∷ a))) ≡ closed_of c ps
unfolding join_focus join_parts closed_of gather is_closed
join_closed c ps b p q a e o =
    let op : is_closed c p ≡ false = or_left (is_closed c p) _ o in
    let oq : is_closed c q ≡ false = or_right (is_closed c p) _ o in
    closed_orders c (join_order ps p.target q.target) (b ++ (join_parts p q ∷ a))
    ∙ closed_append c b (join_parts p q ∷ a)
    ∙ ap (λ (l : List ClosedPart). closed_of c b ++ (l ++ closed_of c a)) (not_closed c (join_parts p q) (open_join c p.head q.head op oq))
    ∙ ap₂ (λ (l m : List ClosedPart). closed_of c b ++ (l ++ (m ++ closed_of c a))) (sym (not_closed c p op)) (sym (not_closed c q oq))
    ∙ sym (closed_append c b (p ∷ q ∷ a)) ∙ ap (closed_of c) (sym e)

-- Set and remove: the head keeps its id and its canResegment
pub state_id : (st : ℕ) (h : Head) → head_id (with_state st h) ≡ head_id h
unfolding head_id with_state
state_id st (segment f) = refl
state_id st (ignorable i) = refl

state_resolved : (c st : ℕ) (h : Head) → resolved c (with_state st h) ≡ resolved c h
unfolding resolved with_state
state_resolved c st (segment f) = refl
state_resolved c st (ignorable i) = refl

closed_state : (c st : ℕ) (p : Part) (g : Target)
    → closed_part c (record { head = with_state st p.head; source = p.source; target = g }) ≡ closed_part c p
unfolding closed_part is_closed
closed_state c st p g = rw (state_id st p.head, state_resolved c st p.head)

pub set_closed : (c : ℕ) (ps : List Part) (n st : ℕ) (new : Content) → closed_of c (set_focus ps n st new (focus ps n)) ≡ closed_of c ps
unfolding set_focus closed_of gather
set_closed c ps n st new = by (focus ps n) refl
  where
    by : (f : Focus) → focus ps n ≡ f → closed_of c (set_focus ps n st new f) ≡ closed_of c ps
    by nowhere e = refl
    by (here b p a) e =
        closed_append c b _
        ∙ ap (λ (l : List ClosedPart). closed_of c b ++ (l ++ closed_of c a)) (closed_state c st p (target (new_order ps n p.target) new))
        ∙ sym (closed_append c b (p ∷ a)) ∙ ap (closed_of c) (sym (focus_here ps n b p a e))

pub remove_closed : (c : ℕ) (ps : List Part) (n : ℕ) → closed_of c (remove_focus ps (focus ps n)) ≡ closed_of c ps
unfolding remove_focus closed_of gather
remove_closed c ps n = by (focus ps n) refl
  where
    by : (f : Focus) → focus ps n ≡ f → closed_of c (remove_focus ps f) ≡ closed_of c ps
    by nowhere e = refl
    by (here b p a) e =
        closed_append c b _
        ∙ ap (λ (l : List ClosedPart). closed_of c b ++ (l ++ closed_of c a)) (closed_state c _ p no_target)
        ∙ sym (closed_append c b (p ∷ a)) ∙ ap (closed_of c) (sym (focus_here ps n b p a e))

-- Rewrite
pub rewrite_closed : (c side i : ℕ) (w : Form) (ps : List Part) → closed_of c (map (rewrite_part side (rewrite_item i w)) ps) ≡ closed_of c ps
unfolding closed_of gather rewrite_part closed_part is_closed
rewrite_closed c side i w [] = refl
rewrite_closed c side i w (p ∷ ps) = ap₂ ◌++◌ (by (eqb side 'S')) (rewrite_closed c side i w ps)
  where
    by : (b : Bool) → closed_part c
        (cond b (record { head = p.head; source = map (rewrite_item i w) p.source; target = p.target })
        (record { head = p.head; source = p.source; target = rewrite_target (rewrite_item i w) p.target })) ≡ closed_part c p
    by true = rw (flattened_map (rewrite_item i w) (flat_rewrite i w) p.source)
    by false = refl
