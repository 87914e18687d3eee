-- A table that passes the check is that of its unit.
use Prim.Native.Nat.{ℕ, ◌+◌, ◌<◌, ◌≤◌}
use mathlib.Core.Path.{◌≡◌, refl, sym, ap, ◌∙◌, subst}
use mathlib.Core.Bool.{true, not}
use mathlib.Core.List.{List, [], ◌∷◌, ◌++◌}
use mathlib.Core.Option.{none}
use native.Mathlib.Omega.{arith}
use lib.ListN.{length, length-append}
use Rattle.xliff.specs.Bytes.{gather, Bytes}
use Rattle.xliff.specs.Unit.{Target, no_target, target, Part, order_list, orders}
use Rattle.xliff.specs.Encode.{Record, closing, part_head, target_head, record_bytes, content_records, content_bytes, target_records, part_records, spell, encode}
use Rattle.xliff.specs.Parse.{table_fault, unit}
use Rattle.xliff.specs.Sequences.{located}
use Rattle.xliff.specs.Rules.{bad_order, fault_5}
use Rattle.xliff.specs.Check.{table_refusal, Valid}
use Rattle.xliff.proofs.lists.Tests.{and_right}
use Rattle.xliff.specs.Good.{Each, each_nil, each_cons, AllGood, bytes_of, opened, closed}
use Rattle.xliff.proofs.lists.Each.{each_left, each_right}
use Rattle.xliff.proofs.records.Fits.{bytes_left, bytes_right}
use Rattle.xliff.proofs.rules.Orders.{orders_fit, rule_5, order_fits}
use Rattle.xliff.proofs.unit.Table.{encode_unit}
use Rattle.xliff.proofs.unit.Valid.{ready_parts}
use Rattle.xliff.proofs.unit.Result.{then_left, then_right, small_table, sent}
use Rattle.cut.proofs.ContentLaws.{holds_good}
use Rattle.xliff.proofs.unit.Pieces.{spell_append, table_pieces}
use Rattle.parts.specs.Parts.{GoodTarget, GoodPart, TableOf}
use Rattle.parts.proofs.TableLaws.{part_least}

-- records that are good, with orders below a bound
abbrev Small : Target → Type 0
Small no_target = Unit {0}
Small (target q xs) = q < 65535

good_target : (g : Target) → AllGood (target_records g) → Bytes (spell (target_records g)) → Small g → GoodTarget g
unfolding target_records spell gather content_bytes
good_target no_target a h l = tt
good_target (target q xs) (each_cons g a) h l =
    ((holds_good (content_bytes xs) xs (bytes_right (record_bytes (target_head q)) (content_bytes xs) h) refl a).0, l)

good_part : (p : Part) → AllGood (part_records p) → Bytes (spell (part_records p)) → Small p.target → GoodPart p
unfolding part_records spell gather content_bytes
good_part p (each_cons g a) h l =
    let s : List Record = content_records p.source in
    let t : List Record = target_records p.target in
    let b : Bytes (spell s ++ spell t) =
    subst Bytes (spell_append s t) (bytes_right (record_bytes (part_head p.head)) (spell (s ++ t)) h) in (
      (holds_good (content_bytes p.source) p.source (bytes_left (spell s) (spell t) b) refl (each_left s t a)).0,
      good_target p.target (each_right s t a) (bytes_right (spell s) (spell t) b) l,
      g,
    )

good_parts : (ps : List Part) → AllGood (gather part_records ps) → Bytes (bytes_of ps) → Each (λ (p : Part). Small p.target) ps
    → Each GoodPart ps
unfolding gather
good_parts [] a h each_nil = each_nil
good_parts (p ∷ ps) a h (each_cons l s) =
    let b : Bytes (spell (part_records p) ++ bytes_of ps) = subst Bytes (spell_append (part_records p) (gather part_records ps)) h in
    each_cons (good_part p (each_left (part_records p) (gather part_records ps) a) (bytes_left (spell (part_records p)) (bytes_of ps) b) l)
    (good_parts ps (each_right (part_records p) (gather part_records ps) a) (bytes_right (spell (part_records p)) (bytes_of ps) b) s)

-- rule 5: no order is above the number of parts
small_target : (n : ℕ) (used : List ℕ) (g : Target) (qs : List ℕ) → n < 65535 → orders_fit n used (order_list g ++ qs) ≡ true
    → Small g × ((more : List ℕ) × (orders_fit n more qs ≡ true))
unfolding order_list orders_fit
small_target n used no_target qs l e = (tt, (used, e))
small_target n used (target q xs) qs l e = (
  let o = order_fits n used [] q qs e in let z : q < 65535 =
      omega (arith, o.high) in z,
  (q ∷ used, and_right (not (bad_order n used q)) _ e),
)

small_orders : (n : ℕ) (used : List ℕ) (ps : List Part) → n < 65535 → orders_fit n used (orders ps) ≡ true
    → Each (λ (p : Part). Small p.target) ps
unfolding orders gather
small_orders n used [] l e = each_nil
small_orders n used (p ∷ ps) l e = let (s, (more, f)) = small_target n used p.target (orders ps) l e in
    each_cons s (small_orders n more ps l f)

parts_few : (ps : List Part) → length ps ≤ length (bytes_of ps)
unfolding gather spell
parts_few [] = omega arith
parts_few (p ∷ ps) =
    let z : length (bytes_of (p ∷ ps)) ≡ length (spell (part_records p)) + length (bytes_of ps) =
    ap length (spell_append (part_records p) (gather part_records ps)) ∙ length-append (spell (part_records p)) (bytes_of ps) in
    omega (arith, part_least p, parts_few ps)

pub table_of : (t : List ℕ) → Bytes t → table_refusal t ≡ none → TableOf t (unit t)
unfolding Valid table_refusal fault_5 located
table_of t b v =
    let ps : List Part = (unit t).parts in
    let f : table_fault t ≡ none = then_left _ _ (then_right _ _ v) in
    let e : encode (unit t) ≡ t = encode_unit t b f in
    let d : (opened (unit t) ++ bytes_of ps) ++ closed ≡ t = sym (table_pieces (unit t)) ∙ e in
    let l : length t ≡ length (opened (unit t)) + length (bytes_of ps) + length closed =
    ap length (sym d) ∙ length-append (opened (unit t) ++ bytes_of ps) closed
    ∙ ap (λ (n : ℕ). n + length closed) (length-append (opened (unit t)) (bytes_of ps)) in
    let m = small_table t v in
    let s = sent t b v in
    let c : Bytes (bytes_of ps) =
    bytes_right (opened (unit t)) (bytes_of ps) (bytes_left (opened (unit t) ++ bytes_of ps) closed (subst Bytes (sym d) b)) in (
      e,
      good_parts ps (each_left (gather part_records ps) (closing ∷ []) (ready_parts ps s.good).all_good) c
          (small_orders (length ps) [] ps (omega (arith, m, parts_few ps)) (rule_5 (length ps) _ [] ps s.rule_5)),
    )
