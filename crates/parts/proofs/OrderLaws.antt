-- Orders changed, in records and in parts.
use Prim.Native.Nat.{ℕ, ◌+◌, ◌-◌, ◌<◌, ◌≤◌}
use mathlib.Core.Path.{◌≡◌, refl, sym, ap, ap₂, ◌∙◌}
use mathlib.Core.Bool.{Bool, true, false}
use mathlib.Core.List.{List, [], ◌∷◌, ◌++◌, map}
use native.Mathlib.Omega.{arith}
use lib.ListN.{length, length-append}
use borrow.Author.Tests.{lt-ltb, le-ltb}
use Rattle.xliff.specs.Bytes.{two, gather}
use Rattle.xliff.specs.Unit.{Target, no_target, target, Part}
use Rattle.xliff.specs.Encode.{Record, opening, closing, part_head, target_head, text_run, inline, ill_text, broken, record_bytes, content_records, target_records, part_records, spell}
use Rattle.xliff.specs.Focus.{order_target, order_part, order_parts}
use Rattle.xliff.specs.Split.{raise_above}
use Rattle.xliff.specs.Join.{lower_above}
use Rattle.xliff.proofs.lists.Tests.{map-append}
use Rattle.xliff.specs.Good.{Each, each_nil, each_cons}
use Rattle.xliff.proofs.lists.Each.{each_append}
use Rattle.walk.specs.Kept.{Kept, kept_end, kept_item, kept_text, InPart, head_in, target_in, item_in, text_in}
use Rattle.parts.specs.Parts.{GoodTarget, GoodPart, PartsIn, SomeParts, moved, ordered, order_record}

-- one order
pub moved_below : (up : Bool) (q n : ℕ) → n ≤ q → n ≡ moved up q n
unfolding raise_above lower_above
moved_below true q n h = rw (le-ltb q n h)
moved_below false q n h = rw (le-ltb q n h)

pub moved_up : (up : Bool) (q n : ℕ) → up ≡ true → q < n → n + 1 ≡ moved up q n
unfolding raise_above
moved_up up q n e h = rw (e, lt-ltb q n h) (omega arith)

pub moved_down : (up : Bool) (q n : ℕ) → up ≡ false → q < n → n - 1 ≡ moved up q n
unfolding lower_above
moved_down up q n e h = rw (e, lt-ltb q n h)

-- the records of good parts
kept_in : (b : Bool) (rs : List Record) → Kept b rs → Each InPart rs
kept_in b rs kept_end = each_nil
kept_in b rs (kept_item g k) = each_cons (item_in g) (kept_in _ _ k)
kept_in b rs (kept_text a l k) = each_cons (text_in a l) (kept_in _ _ k)

target_records_in : (g : Target) → GoodTarget g → Each InPart (target_records g)
unfolding target_records
target_records_in no_target h = each_nil
target_records_in (target q xs) (k, l) = each_cons (target_in l) (kept_in false (content_records xs) k)

pub parts_in : (ps : List Part) → Each GoodPart ps → Each InPart (gather part_records ps)
unfolding gather part_records
parts_in [] each_nil = each_nil
parts_in (p ∷ ps) (each_cons g h) =
    each_append (part_records p) (gather part_records ps)
    (each_cons (head_in g.2)
    (each_append (content_records p.source) (target_records p.target) (kept_in false (content_records p.source) g.0)
    (target_records_in p.target g.1)))
    (parts_in ps h)

-- an order changed in each record is that order changed in each part
module _ (f : ℕ → ℕ) where
  kept_stays : (b : Bool) (rs : List Record) → Kept b rs → map (order_record f) rs ≡ rs
  kept_stays b rs kept_end = refl
  kept_stays b (inline x ∷ rs) (kept_item g k) = ap (λ (l : List Record). inline x ∷ l) (kept_stays false rs k)
  kept_stays b (text_run (d ∷ ds) ∷ rs) (kept_text a l k) = ap (λ (l : List Record). text_run (d ∷ ds) ∷ l) (kept_stays true rs k)

  target_moved : (g : Target) → GoodTarget g → map (order_record f) (target_records g) ≡ target_records (order_target f g)
  unfolding target_records order_target
  target_moved no_target h = refl
  target_moved (target q xs) (k, l) = ap (λ (l : List Record). target_head (f q) ∷ l) (kept_stays false (content_records xs) k)

  part_moved : (p : Part) → GoodPart p → map (order_record f) (part_records p) ≡ part_records (order_part f p)
  unfolding part_records order_part
  part_moved p (k, g, h) =
      ap (λ (l : List Record). part_head p.head ∷ l)
      (map-append (order_record f) (content_records p.source) (target_records p.target)
      ∙ ap₂ ◌++◌ (kept_stays false (content_records p.source) k) (target_moved p.target g))

  pub parts_moved : (ps : List Part) → Each GoodPart ps
      → map (order_record f) (gather part_records ps) ≡ gather part_records (order_parts f ps)
  unfolding gather order_parts
  parts_moved [] each_nil = refl
  parts_moved (p ∷ ps) (each_cons g h) =
      map-append (order_record f) (part_records p) (gather part_records ps) ∙ ap₂ ◌++◌ (part_moved p g) (parts_moved ps h)

  -- a change of orders keeps all lengths
  pub order_length : (r : Record) → length (record_bytes (order_record f r)) ≡ length (record_bytes r)
  unfolding record_bytes two
  order_length (opening c) = refl
  order_length closing = refl
  order_length (part_head h) = refl
  order_length (target_head q) = refl
  order_length (text_run cs) = refl
  order_length (inline x) = refl
  order_length ill_text = refl
  order_length (broken b) = refl

  orders_length : (rs : List Record) → length (spell (map (order_record f) rs)) ≡ length (spell rs)
  unfolding spell gather
  orders_length [] = refl
  orders_length (r ∷ rs) =
      omega (
        arith,
        order_length r,
        orders_length rs,
        length-append (record_bytes (order_record f r)) (spell (map (order_record f) rs)),
        length-append (record_bytes r) (spell rs),
      )

  -- they are as long as the parts that stood there; so there is room for them
  pub ordered_length : (t : List ℕ) (ps : List Part) → PartsIn t ps → length (ordered f ps) ≡ length t
  ordered_length t ps (e, h) =
      ap (λ (l : List Record). length (spell l)) (sym (parts_moved ps h)) ∙ orders_length (gather part_records ps) ∙ ap length e

  pub parts_room : (t : List ℕ) (ps : List Part) → PartsIn t ps → (o : List ℕ) → length (ordered f ps) ≤ length o → SomeParts t × (length t ≤ length o)
  parts_room t ps h o r = ((ps, h), omega (arith, ordered_length t ps h))
