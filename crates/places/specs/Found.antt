-- What a walk over the records finds: orders for rule 5, ids for rule 6, and the markers of the two sequences.
use Rattle.std.specs.Prelude.{ℕ, ◌+◌, ◌≡◌, refl, Bool, true, false, not, ◌&&◌, cond, List, [], ◌∷◌, ◌++◌, length, eqb}
use Rattle.std.proofs.Math.Option.{Option, none}
use Rattle.xliff.specs.Bytes.{gather}
use Rattle.xliff.specs.Answer.{Refusal, refusal}
use Rattle.xliff.specs.Item.{text, class}
use Rattle.xliff.specs.Unit.{Head, head_id}
use Rattle.xliff.specs.Encode.{Record, opening, closing, part_head, target_head, text_run, inline, ill_text, broken, record_bytes}
use Rattle.xliff.specs.Sequences.{Placed}
use Rattle.xliff.specs.Rules.{bad_order, Owner, of_part, of_source, of_target, Named, start_name}

-- A walk with a state that heads set; what it finds at heads and at inline records
module _ {S B : Type 0} (part_state : S) (target_state : ℕ → S) (on_head : Head → ℕ → List B) (on_target : ℕ → ℕ → List B) (on_item : S → Placed → List B)
    (no_text : (s : S) (c at : ℕ) → on_item s (record { item = text c; at = at }) ≡ []) where
  unfoldable pub state_after : S → Record → S
  state_after s (opening c) = s
  state_after s closing = s
  state_after s (part_head h) = part_state
  state_after s (target_head q) = target_state q
  state_after s (text_run cs) = s
  state_after s (inline x) = s
  state_after s ill_text = s
  state_after s (broken b) = s

  unfoldable pub found_at : S → ℕ → Record → List B
  found_at s at (opening c) = []
  found_at s at closing = []
  found_at s at (part_head h) = on_head h at
  found_at s at (target_head q) = on_target q at
  found_at s at (text_run cs) = []
  found_at s at (inline x) = on_item s (record { item = x; at = at })
  found_at s at ill_text = []
  found_at s at (broken b) = []

  unfoldable pub found : S → ℕ → List Record → List B
  found s at [] = []
  found s at (r ∷ rs) = found_at s at r ++ found (state_after s r) (at + length (record_bytes r)) rs

-- Rule 5: the orders of the targets, with their offsets
pub record Ordered : Type 0 where
  pub order : ℕ
  pub at : ℕ

abbrev pub orders_found : ℕ → List Record → List Ordered
orders_found at rs = found {S = Unit {0}} tt (λ q. tt) (λ h at. []) (λ q at. record { order = q; at = at } ∷ []) (λ s p. []) (λ s c at. refl) tt at rs

unfoldable pub first_bad_in : ℕ → List ℕ → List Ordered → Option Refusal
first_bad_in n used [] = none
first_bad_in n used (o ∷ later) = cond (bad_order n used o.order) (refusal 5 o.at) (first_bad_in n (o.order ∷ used) later)

-- Rule 6: the ids, each with its owner and its offset
abbrev pub head_name : Head → ℕ → List Named
head_name h at = cond (eqb (head_id h) 0) [] (record { owner = of_part; name = head_id h; at = at } ∷ [])

pub no_name : (o : Owner) (c at : ℕ) → start_name o (record { item = text c; at = at }) ≡ []
unfolding start_name class
no_name o c at = refl

abbrev pub names_found : Owner → ℕ → List Record → List Named
names_found o at rs = found of_source (λ q. of_target) head_name (λ q at. []) start_name no_name o at rs

-- The markers, items with a class: those of the source sequence (source true), or those of the targets of order q.
-- Whether the walk stands in such a content
unfoldable pub marker : Bool → Placed → List Placed
marker inside p = cond (inside && not (eqb (class p.item) 0)) (p ∷ []) []

pub no_marker : (inside : Bool) (c at : ℕ) → marker inside (record { item = text c; at = at }) ≡ []
unfolding marker class
no_marker true c at = refl
no_marker false c at = refl

abbrev pub marks_found : Bool → ℕ → Bool → ℕ → List Record → List Placed
marks_found source q inside at rs = found source (λ k. not source && eqb q k) (λ h at. []) (λ k at. []) marker no_marker inside at rs

unfoldable pub markers : List Placed → List Placed
markers ps = gather (marker true) ps
