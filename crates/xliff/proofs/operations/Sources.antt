-- Laws of the operations on units: sources, part counts, closed parts.
use Prim.Native.Nat.{ℕ, zero, suc}
use mathlib.Core.Path.{◌≡◌, refl, sym, ap, ap₂, ◌∙◌}
use mathlib.Core.Bool.{Bool, true, false, cond}
use mathlib.Core.List.{List, [], ◌∷◌, ◌++◌, map, append_assoc}
use native.Mathlib.Omega.{arith}
use lib.ListN.{length, take, drop, take-append-drop, length-append, length-map}
use lib.Dec.{eqb}
use Rattle.xliff.specs.Bytes.{'S', gather, any}
use Rattle.xliff.specs.Item.{Item, Content, Form, form_S, text, character, standalone, isolated, pair, annotation_start, annotation_end, in_form, flat, flattened, other_half}
use Rattle.xliff.specs.Unit.{Target, no_target, target, Part, source_sequence, has_target, target_items}
use Rattle.xliff.specs.Focus.{Focus, nowhere, here, behind, focus, order_target, order_part, order_parts}
use Rattle.xliff.specs.Split.{cut_item, first_items, second_items, first_half, second_half, split_order, split_focus}
use Rattle.xliff.specs.Join.{join_parts, join_order, join_focus}
use Rattle.xliff.specs.SetTarget.{set_focus}
use Rattle.xliff.specs.RemoveTarget.{remove_focus}
use Rattle.xliff.specs.Rewrite.{rewrite_item, rewrite_target, rewrite_part}
use Rattle.xliff.specs.Rules.{half_of_id}
use Rattle.xliff.proofs.lists.Tests.{gather_append, map-append}

-- a part that is found stands there
found_behind : (p : Part) (f : Focus) (b : List Part) (x : Part) (a : List Part) → behind p f ≡ here b x a
    → (c : List Part) × (f ≡ here c x a) × (b ≡ p ∷ c)
unfolding behind
found_behind p nowhere b x a e = let z : ◌≡◌ {A = ℕ} 0 1 = cc in absurd (let y : ⊥ = omega arith in y)
found_behind p (here c y d) b x a e =
    let q : y ≡ x = cc in
    let r : d ≡ a = cc in
    (c, ap₂ (here c) q r, cc)

pub focus_here : (ps : List Part) (n : ℕ) (b : List Part) (x : Part) (a : List Part) → focus ps n ≡ here b x a → ps ≡ b ++ (x ∷ a)
unfolding focus
focus_here [] n b x a e = let z : ◌≡◌ {A = ℕ} 0 1 = cc in absurd (let y : ⊥ = omega arith in y)
focus_here (p ∷ ps) zero b x a e = let z : ◌≡◌ {A = ℕ} 0 1 = cc in absurd (let y : ⊥ = omega arith in y)
focus_here (p ∷ ps) (suc zero) b x a e =
    let q : b ≡ [] = cc in
    let r : p ≡ x = cc in
    let s : ps ≡ a = cc in
    rw (q, r, s)
focus_here (p ∷ ps) (suc (suc n)) b x a e =
    let (c, f, q) = found_behind p (focus ps (suc n)) b x a e in
    rw q (ap {B = List Part} (λ l. p ∷ l) (focus_here ps (suc n) c x a f))

-- and its position is one more than the parts before it
pub focus_at : (ps : List Part) (n : ℕ) (b : List Part) (x : Part) (a : List Part) → focus ps n ≡ here b x a → n ≡ suc (length b)
unfolding focus
focus_at [] n b x a e = let z : ◌≡◌ {A = ℕ} 0 1 = cc in absurd (let y : ⊥ = omega arith in y)
focus_at (p ∷ ps) zero b x a e = let z : ◌≡◌ {A = ℕ} 0 1 = cc in absurd (let y : ⊥ = omega arith in y)
focus_at (p ∷ ps) (suc zero) b x a e = let q : b ≡ [] = cc in rw q
focus_at (p ∷ ps) (suc (suc n)) b x a e =
    let (c, f, q) = found_behind p (focus ps (suc n)) b x a e in
    rw q (ap suc (focus_at ps (suc n) c x a f))

-- a part that stands there is found
pub focus_in : (b : List Part) (x : Part) (a : List Part) → focus (b ++ (x ∷ a)) (suc (length b)) ≡ here b x a
unfolding focus behind
focus_in [] x a = refl
focus_in (y ∷ b) x a = ap (behind y) (focus_in b x a)

-- flattened, a changed form is the same
pub flat_in_form : (w : Form) (x : Item) → flat (in_form w x) ≡ flat x
unfolding flat in_form
flat_in_form w (text c) = refl
flat_in_form w (character c) = refl
flat_in_form w (standalone f) = refl
flat_in_form w (isolated h f) = refl
flat_in_form w (pair h v f) = refl
flat_in_form w (annotation_start v i t) = refl
flat_in_form w (annotation_end v i) = refl

pub flat_if : (w : Form) (b : Bool) (x : Item) → flat (cond b (in_form w x) x) ≡ flat x
flat_if w true x = flat_in_form w x
flat_if w false x = refl

pub flat_cut : (beyond : Content) (x : Item) → flat (cut_item beyond x) ≡ flat x
unfolding cut_item
flat_cut beyond x = flat_if form_S (any (other_half x) beyond) x

pub flattened_map : (f : Item → Item) → ((x : Item) → flat (f x) ≡ flat x) → (xs : Content) → flattened (map f xs) ≡ flattened xs
unfolding flattened
flattened_map f h [] = refl
flattened_map f h (x ∷ xs) = ap₂ {C = Content} ◌∷◌ (h x) (flattened_map f h xs)

pub flattened_append : (xs ys : Content) → flattened (xs ++ ys) ≡ flattened xs ++ flattened ys
unfolding flattened
flattened_append xs ys = map-append flat xs ys

pub flattened_halves : (n : ℕ) (xs : Content) → flattened (first_items n xs) ++ flattened (second_items n xs) ≡ flattened xs
unfolding first_items second_items
flattened_halves n xs =
    ap₂ ◌++◌ (flattened_map (cut_item (drop n xs)) (flat_cut (drop n xs)) (take n xs))
    (flattened_map (cut_item (take n xs)) (flat_cut (take n xs)) (drop n xs))
    ∙ sym (flattened_append (take n xs) (drop n xs)) ∙ ap flattened (take-append-drop n xs)

-- sources and orders
pub source_append : (ps qs : List Part) → source_sequence (ps ++ qs) ≡ source_sequence ps ++ source_sequence qs
unfolding source_sequence
source_append ps qs = gather_append (λ p. p.source) ps qs

pub source_orders : (f : ℕ → ℕ) (ps : List Part) → source_sequence (order_parts f ps) ≡ source_sequence ps
unfolding source_sequence order_parts order_part gather
source_orders f [] = refl
source_orders f (p ∷ ps) = ap (λ (l : Content). p.source ++ l) (source_orders f ps)

-- changed orders leave the rest of a target
pub has_order : (f : ℕ → ℕ) (g : Target) → has_target (order_target f g) ≡ has_target g
unfolding has_target order_target
has_order f no_target = refl
has_order f (target q xs) = refl

pub items_order : (f : ℕ → ℕ) (g : Target) → target_items (order_target f g) ≡ target_items g
unfolding target_items order_target
items_order f no_target = refl
items_order f (target q xs) = refl

-- Split keeps the flattened source
halves_between : (b f s m a : Content) → flattened f ++ flattened s ≡ flattened m → flattened (b ++ (f ++ (s ++ a))) ≡ flattened (b ++ (m ++ a))
halves_between b f s m a h =
    simp flattened_append
    (ap (λ (l : Content). flattened b ++ l) (sym (append_assoc (flattened f) (flattened s) (flattened a)) ∙ ap (λ (l : Content). l ++ flattened a) h))

pub split_source : (source_cut target_cut new : ℕ) (ps : List Part) (n : ℕ)
    → flattened (source_sequence (split_focus source_cut target_cut new ps (focus ps n))) ≡ flattened (source_sequence ps)
unfolding split_focus first_half second_half source_sequence gather
split_source source_cut target_cut new ps n = by (focus ps n) refl
  where
    by : (f : Focus) → focus ps n ≡ f → flattened (source_sequence (split_focus source_cut target_cut new ps f)) ≡ flattened (source_sequence ps)
    by nowhere e = refl
    by (here b p a) e =
        let g : ℕ → ℕ = split_order p.target in
        let one : Content = first_items source_cut p.source in
        let two : Content = second_items source_cut p.source in
        ap flattened
        (source_append (order_parts g b) (first_half source_cut target_cut p ∷ second_half source_cut target_cut new p ∷ order_parts g a)
        ∙ ap₂ (λ (l m : Content). l ++ (one ++ (two ++ m))) (source_orders g b) (source_orders g a))
        ∙ halves_between (source_sequence b) one two p.source (source_sequence a) (flattened_halves source_cut p.source)
        ∙ ap flattened (sym (source_append b (p ∷ a)) ∙ ap source_sequence (sym (focus_here ps n b p a e)))

-- Join keeps the source
pub join_source_here : (ps b : List Part) (p q : Part) (a : List Part) → ps ≡ b ++ (p ∷ q ∷ a)
    → source_sequence (join_focus ps (here b p (q ∷ a))) ≡ source_sequence ps
unfolding join_focus join_parts source_sequence gather
join_source_here ps b p q a e =
    source_orders (join_order ps p.target q.target) (b ++ (join_parts p q ∷ a))
    ∙ source_append b (join_parts p q ∷ a)
    ∙ ap (λ (l : Content). source_sequence b ++ l) (append_assoc p.source q.source (source_sequence a))
    ∙ sym (source_append b (p ∷ q ∷ a)) ∙ ap source_sequence (sym e)

pub join_source : (ps : List Part) (n : ℕ) → source_sequence (join_focus ps (focus ps n)) ≡ source_sequence ps
unfolding join_focus
join_source ps n = by (focus ps n) refl
  where
    by : (f : Focus) → focus ps n ≡ f → source_sequence (join_focus ps f) ≡ source_sequence ps
    by nowhere e = refl
    by (here b p []) e = refl
    by (here b p (q ∷ a)) e = join_source_here ps b p q a (focus_here ps n b p (q ∷ a) e)

-- Setting and removing a target keep the source
pub set_source : (ps : List Part) (n st : ℕ) (new : Content) → source_sequence (set_focus ps n st new (focus ps n)) ≡ source_sequence ps
unfolding set_focus source_sequence gather
set_source ps n st new = by (focus ps n) refl
  where
    by : (f : Focus) → focus ps n ≡ f → source_sequence (set_focus ps n st new f) ≡ source_sequence ps
    by nowhere e = refl
    by (here b p a) e = source_append b _ ∙ sym (source_append b (p ∷ a)) ∙ ap source_sequence (sym (focus_here ps n b p a e))

pub remove_source : (ps : List Part) (n : ℕ) → source_sequence (remove_focus ps (focus ps n)) ≡ source_sequence ps
unfolding remove_focus source_sequence gather
remove_source ps n = by (focus ps n) refl
  where
    by : (f : Focus) → focus ps n ≡ f → source_sequence (remove_focus ps f) ≡ source_sequence ps
    by nowhere e = refl
    by (here b p a) e = source_append b _ ∙ sym (source_append b (p ∷ a)) ∙ ap source_sequence (sym (focus_here ps n b p a e))

-- Rewriting keeps both sequences flattened
pub flat_rewrite : (i : ℕ) (w : Form) (x : Item) → flat (rewrite_item i w x) ≡ flat x
unfolding rewrite_item
flat_rewrite i w x = flat_if w (half_of_id i x) x

pub rewrite_source : (side i : ℕ) (w : Form) (ps : List Part)
    → flattened (source_sequence (map (rewrite_part side (rewrite_item i w)) ps)) ≡ flattened (source_sequence ps)
unfolding source_sequence gather rewrite_part
rewrite_source side i w [] = refl
rewrite_source side i w (p ∷ ps) =
    flattened_append (rewrite_part side (rewrite_item i w) p).source (source_sequence (map (rewrite_part side (rewrite_item i w)) ps))
    ∙ ap₂ ◌++◌ (by (eqb side 'S')) (rewrite_source side i w ps)
    ∙ sym (flattened_append p.source (source_sequence ps))
  where
    by : (b : Bool) → flattened
        (cond {A = Part} b (record { head = p.head; source = map (rewrite_item i w) p.source; target = p.target })
        (record { head = p.head; source = p.source; target = rewrite_target (rewrite_item i w) p.target })).source ≡ flattened p.source
    by true = flattened_map (rewrite_item i w) (flat_rewrite i w) p.source
    by false = refl

-- part counts
pub split_count : (source_cut target_cut new : ℕ) (ps b : List Part) (p : Part) (a : List Part) → ps ≡ b ++ (p ∷ a)
    → length (split_focus source_cut target_cut new ps (here b p a)) ≡ suc (length ps)
unfolding split_focus order_parts
split_count source_cut target_cut new ps b p a e =
    rw e (simp (length-append, length-map) (omega arith))

pub join_count : (ps b : List Part) (p q : Part) (a : List Part) → ps ≡ b ++ (p ∷ q ∷ a) → suc (length (join_focus ps (here b p (q ∷ a)))) ≡ length ps
unfolding join_focus order_parts
join_count ps b p q a e = simp (length-map, length-append) (omega (arith, simp length-append at (ap length e)))
