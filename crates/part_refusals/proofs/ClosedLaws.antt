-- A part's canResegment, and the orders of two parts, from where the parts stand.
use Prim.Native.Nat.{ℕ, suc, ◌+◌}
use mathlib.Core.Path.{◌≡◌, refl, sym, ap, ◌∙◌}
use mathlib.Core.Bool.{Bool, false, not}
use Rattle.std.specs.Prelude.{Option, Some, None}
use mathlib.Core.List.{List, [], ◌∷◌, ◌++◌, append_assoc}
use lib.ListN.{drop, take-append-drop}
use lib.Dec.{eqb}
use Rattle.xliff.specs.Bytes.{gather}
use Rattle.xliff.specs.Unit.{Target, no_target, target, Part, resolved, is_closed}
use Rattle.xliff.specs.Encode as encode
use Rattle.xliff.specs.Encode.{opening, closing, part_head, record_bytes, part_records, content_records, target_records, spell}
use Rattle.xliff.specs.Parse.{unit}
use Rattle.xliff.specs.Join.{bad_orders}
use Rattle.table.specs.Meaning.{meaning, body}
use Rattle.table.specs.declared.Record.TheVariants.{Unit as UnitStart, UnitEnd, Segment, Ignorable, Target as TargetHead, Text, Inline}
use Rattle.table.specs.declared.Read.{Read}
use Rattle.table.specs.declared.Read.TheVariants.{Good, Ill, Broken}
use Rattle.heads.specs.Heads.{SomeUnit, ResegmentIs}
use Rattle.part_at.specs.declared.PartPlace.{PartPlace}
use Rattle.part_at.specs.Stands.{Standing, PartStands, TargetStands}
use Rattle.part_at.proofs.ContentLaws.{Means, first_read}
use Rattle.part_refusals.specs.Refusals.{closed_by, ClosedIs, BadOrdersAre}

-- by the record's meaning
abbrev closed_at : ℕ → encode.Record → Bool
closed_at u (encode.opening c) = false
closed_at u encode.closing = false
closed_at u (part_head h) = eqb (resolved u h) 78
closed_at u (encode.target_head q) = false
closed_at u (encode.text_run cs) = false
closed_at u (encode.inline x) = false
closed_at u encode.ill_text = false
closed_at u (encode.broken b) = false

closed_same : (u : ℕ) (cs : List ℕ) (r : Read) → closed_by u r ≡ closed_at u (meaning cs r)
unfolding resolved
closed_same u cs (Good (UnitStart c) w) = refl
closed_same u cs (Good UnitEnd w) = refl
closed_same u cs (Good (Segment f) w) = refl
closed_same u cs (Good (Ignorable i) w) = refl
closed_same u cs (Good (TargetHead q) w) = refl
closed_same u cs (Good Text w) = refl
closed_same u cs (Good (Inline i) w) = refl
closed_same u cs Ill = refl
closed_same u cs (Broken b) = refl

unit_opens : (t : List ℕ) (b : List Part) (p : Part) (a : List Part) (place : PartPlace) → PartStands t b p a place
    → t ≡ record_bytes (opening (unit t).opening) ++ (spell (gather part_records b) ++ drop place.head t)
unit_opens t b p a place s =
    sym (take-append-drop place.head t) ∙ ap (λ (l : List ℕ). l ++ drop place.head t) s.before
    ∙ append_assoc (record_bytes (opening (unit t).opening)) (spell (gather part_records b)) (drop place.head t)

pub some_unit : (t : List ℕ) (place : PartPlace) → Standing t place → SomeUnit t
some_unit t place (b, p, a, s) = ((unit t).opening, spell (gather part_records b) ++ drop place.head t, unit_opens t b p a place s)

pub closed_is : (t : List ℕ) (place : PartPlace) (u : ℕ) (r : Read) → ResegmentIs t u → Means t place.head r → ClosedIs t place (closed_by u r)
unfolding is_closed part_records
closed_is t place u r e m b p a s =
    let f = first_read t place.head (part_head p.head) (content_records p.source ++ target_records p.target ++ (gather part_records a ++ (closing ∷ []))) r s.records m in
    closed_same u (body (drop place.head t)) r ∙ ap (closed_at u) f.means
    ∙ ap (λ (c : ℕ). eqb (resolved c p.head) 78) (e (unit t).opening (spell (gather part_records b) ++ drop place.head t) (unit_opens t b p a place s))

-- the orders, by the targets
abbrev pub apart : Option ℕ → Option ℕ → Bool
apart None y = false
apart (Some q) None = false
apart (Some q) (Some r) = not (eqb r (suc q))

by_targets : (t s : List ℕ) (x y : PartPlace) (g h : Target) → TargetStands t x g → TargetStands s y h
    → apart x.order y.order ≡ bad_orders g h
unfolding bad_orders
by_targets t s x y no_target no_target a b = rw a.0
by_targets t s x y no_target (target r ys) a b = rw a.0
by_targets t s x y (target q xs) no_target a b = rw (a.0, b.0)
by_targets t s x y (target q xs) (target r ys) a b = rw (a.0, b.0)

pub bad_orders_are : (x y : PartPlace) (r : Bool) → r ≡ apart x.order y.order → BadOrdersAre x y r
bad_orders_are x y r e t b p a c q d s u = e ∙ by_targets t t x y p.target q.target s.target u.target
