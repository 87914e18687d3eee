-- The operations keep numbers that fit into their bytes.
use Prim.Native.Nat.{ℕ, ◌<◌}
use native.Mathlib.Omega.{arith}
use mathlib.Core.Path.{◌≡◌, refl, sym, subst}
use mathlib.Core.Bool.{Bool, true, false, cond}
use mathlib.Core.List.{List, [], ◌∷◌, ◌++◌, map}
use mathlib.Core.Option.{none}
use lib.Dec.{eqb}
use lib.ListN.{take, drop}
use Rattle.xliff.specs.Bytes.{'S', Bytes, any}
use Rattle.xliff.specs.Item.{Item, Content, Form, form_S, text, character, standalone, isolated, pair, annotation_start, annotation_end, in_form, other_half}
use Rattle.xliff.specs.Unit.{Head, segment, ignorable, Target, no_target, target, Part, head_id, with_id}
use Rattle.xliff.specs.Encode.{field_bytes, content_bytes, content_records, unit_records, encode}
use Rattle.xliff.specs.Parse.{unit, content, content_fault, table_fault}
use Rattle.xliff.specs.Rules.{half_of_id}
use Rattle.xliff.specs.Check.{Valid, table_refusal}
use Rattle.xliff.specs.Focus.{Focus, nowhere, here, focus, order_target, order_part, order_parts}
use Rattle.xliff.specs.Split.{cut_item, first_items, second_items, first_target, second_target, first_half, second_half, split_order, split_focus}
use Rattle.xliff.specs.Join.{join_heads, join_targets, join_parts, join_order, join_focus}
use Rattle.xliff.specs.SetTarget.{set_focus}
use Rattle.xliff.specs.RemoveTarget.{remove_focus}
use Rattle.xliff.specs.Rewrite.{rewrite_item, rewrite_target, rewrite_part}
use Rattle.xliff.specs.Good.{each_nil, each_cons}
use Rattle.xliff.proofs.lists.Each.{each_append, each_apart, each_take, each_drop, each_map}
use Rattle.xliff.proofs.operations.Sources.{focus_here}
use Rattle.xliff.proofs.operations.Closed.{state_id}
use Rattle.xliff.proofs.unit.Table.{encode_unit, encode_content}
use Rattle.xliff.proofs.unit.Result.{then_left, then_right}
use Rattle.xliff.proofs.records.Fits.{bytes_fit, FitIn, FitContent, FitTarget, FitPart, FitParts, content_from, unit_from}

-- what is read from bytes fits
pub table_fits : (t : List ℕ) → Bytes t → Valid t → FitParts (unit t).parts
unfolding Valid table_refusal encode
table_fits t b v =
    let f : table_fault t ≡ none = then_left _ _ (then_right _ _ v) in
    unit_from (unit t) (bytes_fit (unit_records (unit t)) (subst Bytes (sym (encode_unit t b f)) b))

pub content_fits : (s : List ℕ) → Bytes s → content_fault s ≡ none → FitContent (content s)
unfolding content_bytes
content_fits s b f = content_from (content s) (bytes_fit (content_records (content s)) (subst Bytes (sym (encode_content s b f)) b))

-- contents
fit_form : (w : Form) (x : Item) → FitIn x → FitIn (in_form w x)
unfolding in_form field_bytes
fit_form w (text c) f = f
fit_form w (character c) f = f
fit_form w (standalone g) f = f
fit_form w (isolated h g) f = f
fit_form w (pair h v g) f = f
fit_form w (annotation_start v i t) f = f
fit_form w (annotation_end v i) f = f

fit_if : (w : Form) (b : Bool) (x : Item) → FitIn x → FitIn (cond b (in_form w x) x)
fit_if w true x f = fit_form w x f
fit_if w false x f = f

-- parts
fit_orders : (f : ℕ → ℕ) (ps : List Part) → FitParts ps → FitParts (order_parts f ps)
unfolding order_parts order_part order_target
fit_orders f [] each_nil = each_nil
fit_orders f (p ∷ ps) (each_cons h r) = each_cons (record { head = h.head; source = h.source; target = by p.target h.target })
    (fit_orders f ps r)
  where
    by : (g : Target) → FitTarget g → FitTarget (order_target f g)
    by no_target k = tt
    by (target q xs) k = k

-- Split
first_fits : (n : ℕ) (xs : Content) → FitContent xs → FitContent (first_items n xs)
unfolding first_items cut_item
first_fits n xs f = each_map (cut_item (drop n xs)) (λ x g. fit_if form_S (any (other_half x) (drop n xs)) x g) (take n xs) (each_take n xs f)

second_fits : (n : ℕ) (xs : Content) → FitContent xs → FitContent (second_items n xs)
unfolding second_items cut_item
second_fits n xs f = each_map (cut_item (take n xs)) (λ x g. fit_if form_S (any (other_half x) (take n xs)) x g) (drop n xs) (each_drop n xs f)

halves_fit : (n : ℕ) (g : Target) → FitTarget g → FitTarget (first_target n g) × FitTarget (second_target n g)
unfolding first_target second_target
halves_fit n no_target f = (tt, tt)
halves_fit n (target q xs) f = (first_fits n xs f, second_fits n xs f)

new_id : (i : ℕ) (h : Head) → head_id (with_id i h) ≡ i
unfolding head_id with_id
new_id i (segment f) = refl
new_id i (ignorable j) = refl

pub split_fits : (source_cut target_cut new : ℕ) (ps : List Part) (n : ℕ) → new < 65536 → FitParts ps
    → FitParts (split_focus source_cut target_cut new ps (focus ps n))
unfolding split_focus first_half second_half
split_fits source_cut target_cut new ps n l f = by (focus ps n) refl
  where
    by : (x : Focus) → focus ps n ≡ x → FitParts (split_focus source_cut target_cut new ps x)
    by nowhere e = f
    by (here b p a) e =
        let (u, v, w) = each_apart b p a (subst FitParts (focus_here ps n b p a e) f) in
        let (one, two) = halves_fit target_cut p.target v.target in
        let g : ℕ → ℕ = split_order p.target in
        each_append (order_parts g b) _ (fit_orders g b u)
        (each_cons (record { head = v.head; source = first_fits source_cut p.source v.source; target = one })
        (each_cons (record { head = subst (λ (z : ℕ). z < 65536) (sym (new_id new p.head)) l; source = second_fits source_cut p.source v.source; target = two }) (fit_orders g a w)))

-- Join
head_one : (g h : Head) → head_id g < 65536 → head_id h < 65536 → head_id (join_heads g h) < 65536
unfolding join_heads head_id
head_one (ignorable i) (ignorable j) p q = omega (arith, p, q)
head_one (ignorable i) (segment g) p q = q
head_one (segment f) (ignorable j) p q = p
head_one (segment f) (segment g) p q = p

target_one : (g h : Target) → FitTarget g → FitTarget h → FitTarget (join_targets g h)
unfolding join_targets
target_one no_target no_target p q = tt
target_one no_target (target r ys) p q = q
target_one (target o xs) no_target p q = p
target_one (target o xs) (target r ys) p q = each_append xs ys p q

pub join_fits : (ps : List Part) (n : ℕ) → FitParts ps → FitParts (join_focus ps (focus ps n))
unfolding join_focus join_parts
join_fits ps n f = by (focus ps n) refl
  where
    rest : (q : Part) (a : List Part) → FitParts (q ∷ a) → FitPart q × FitParts a
    rest q a (each_cons h r) = (h, r)

    by : (x : Focus) → focus ps n ≡ x → FitParts (join_focus ps x)
    by nowhere e = f
    by (here b p []) e = f
    by (here b p (q ∷ a)) e =
        let (u, v, w) = each_apart b p (q ∷ a) (subst FitParts (focus_here ps n b p (q ∷ a) e) f) in
        let (x, y) = rest q a w in
        fit_orders (join_order ps p.target q.target) (b ++ (join_parts p q ∷ a))
        (each_append b (join_parts p q ∷ a) u
        (each_cons
        (record {
          head = head_one p.head q.head v.head x.head;
          source = each_append p.source q.source v.source x.source;
          target = target_one p.target q.target v.target x.target;
        }) y))

-- Set and remove
pub set_fits : (ps : List Part) (n st : ℕ) (new : Content) → FitContent new → FitParts ps → FitParts (set_focus ps n st new (focus ps n))
unfolding set_focus
set_fits ps n st new g f = by (focus ps n) refl
  where
    by : (x : Focus) → focus ps n ≡ x → FitParts (set_focus ps n st new x)
    by nowhere e = f
    by (here b p a) e =
        let (u, v, w) = each_apart b p a (subst FitParts (focus_here ps n b p a e) f) in
        each_append b _ u
        (each_cons (record { head = subst (λ (z : ℕ). z < 65536) (sym (state_id st p.head)) v.head; source = v.source; target = g }) w)

pub remove_fits : (ps : List Part) (n : ℕ) → FitParts ps → FitParts (remove_focus ps (focus ps n))
unfolding remove_focus
remove_fits ps n f = by (focus ps n) refl
  where
    by : (x : Focus) → focus ps n ≡ x → FitParts (remove_focus ps x)
    by nowhere e = f
    by (here b p a) e =
        let (u, v, w) = each_apart b p a (subst FitParts (focus_here ps n b p a e) f) in
        each_append b _ u
        (each_cons (record { head = subst (λ (z : ℕ). z < 65536) (sym (state_id _ p.head)) v.head; source = v.source; target = tt }) w)

-- Rewrite
pub rewrite_fits : (side i : ℕ) (w : Form) (ps : List Part) → FitParts ps → FitParts (map (rewrite_part side (rewrite_item i w)) ps)
unfolding rewrite_part rewrite_target rewrite_item
rewrite_fits side i w [] each_nil = each_nil
rewrite_fits side i w (p ∷ ps) (each_cons h r) = each_cons (by (eqb side 'S')) (rewrite_fits side i w ps r)
  where
    item : (x : Item) → FitIn x → FitIn (rewrite_item i w x)
    item x f = fit_if w (half_of_id i x) x f

    own_target : (g : Target) → FitTarget g → FitTarget (rewrite_target (rewrite_item i w) g)
    own_target no_target k = tt
    own_target (target q xs) k = each_map (rewrite_item i w) item xs k

    by : (b : Bool) → FitPart
        (cond b (record { head = p.head; source = map (rewrite_item i w) p.source; target = p.target })
        (record { head = p.head; source = p.source; target = rewrite_target (rewrite_item i w) p.target }))
    by true = record { head = h.head; source = each_map (rewrite_item i w) item p.source h.source; target = h.target }
    by false = record { head = h.head; source = h.source; target = own_target p.target h.target }
