-- What a change of forms or of orders leaves as it is: the starts and ids of rule 6, and that an item is good as bytes.
use Rattle.xliff.specs.Good.{GoodIn}
use Prim.Native.Nat.{ℕ, ◌+◌}
use mathlib.Core.Path.{◌≡◌, refl, sym, ap, ◌∙◌}
use mathlib.Core.List.{List, map}
use Rattle.xliff.specs.Item.{Item, Content, Form, text, character, standalone, isolated, pair, annotation_start, annotation_end, in_form, flat}
use Rattle.xliff.specs.Unit.{Part}
use Rattle.xliff.specs.Focus.{order_part, order_parts}
use Rattle.xliff.specs.Rules.{starts_id}
use Rattle.xliff.proofs.operations.Sources.{items_order}
use Rattle.xliff.proofs.lists.Sum.{sum, sum_cong, sum_map}
use Rattle.xliff.proofs.rules.Flat.{class_flat, id_flat, half_flat}
use Rattle.xliff.proofs.rules.Six.{start_bit, starts, part_bit, source_ids, target_ids}
use mathlib.Core.Bool.{Bool, true, false, cond}

-- a start is one in any form
start_blind : (i : ℕ) (x : Item) → start_bit i (flat x) ≡ start_bit i x
unfolding starts_id
start_blind i x = rw (class_flat x, id_flat x, half_flat x)

pub starts_map : (i : ℕ) (f : Item → Item) → ((x : Item) → flat (f x) ≡ flat x) → (xs : Content) → starts i (map f xs) ≡ starts i xs
starts_map i f h xs =
    sum_map (start_bit i) f xs
    ∙ sum_cong (λ x. start_bit i (f x)) (start_bit i) (λ x. sym (start_blind i (f x)) ∙ ap (start_bit i) (h x) ∙ start_blind i x) xs

-- changed orders
pub source_ids_orders : (i : ℕ) (f : ℕ → ℕ) (ps : List Part) → sum (source_ids i) (order_parts f ps) ≡ sum (source_ids i) ps
unfolding order_parts order_part
source_ids_orders i f ps = sum_map (source_ids i) (order_part f) ps ∙ sum_cong (λ p. source_ids i (order_part f p)) (source_ids i) (λ p. refl) ps

pub target_ids_orders : (i : ℕ) (f : ℕ → ℕ) (ps : List Part) → sum (target_ids i) (order_parts f ps) ≡ sum (target_ids i) ps
unfolding order_parts order_part
target_ids_orders i f ps =
    sum_map (target_ids i) (order_part f) ps
    ∙ sum_cong (λ p. target_ids i (order_part f p)) (target_ids i) (λ p. ap (λ (l : Content). part_bit i p + starts i l) (items_order f p.target)) ps

-- good items
pub good_form : (w : Form) (x : Item) → GoodIn x → GoodIn (in_form w x)
unfolding in_form
good_form w (text c) g = g
good_form w (character c) g = g
good_form w (standalone f) g = g
good_form w (isolated h f) g = g
good_form w (pair h v f) g = g
good_form w (annotation_start v i t) g = g
good_form w (annotation_end v i) g = g

pub good_if : (w : Form) (b : Bool) (x : Item) → GoodIn x → GoodIn (cond b (in_form w x) x)
good_if w true x g = good_form w x g
good_if w false x g = g
