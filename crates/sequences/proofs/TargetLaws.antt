-- The markers of the targets, by their TG records.
use Prim.Native.Nat.{ℕ, zero, suc, ◌+◌, ◌≤◌, ◌<◌}
use mathlib.Core.Path.{◌≡◌, refl, sym, ◌∙◌, ap, subst}
use mathlib.Core.Bool.{Bool, true, false, cond}
use mathlib.Core.List.{List, [], ◌∷◌, ◌++◌, map, append_assoc}
use native.Mathlib.Omega.{arith}
use borrow.Author.Tests.{ne_eqb, eqb-true, eqb-false}
use lib.ListN.{length, drop, get_or, set, drop_of_length-le, length-append, length-map}
use lib.Seq.{get_or-set_same, get_or-set_other}
use lib.Dec.{eqb}
use Rattle.xliff.specs.Bytes.{gather}
use Rattle.xliff.specs.Item as spec
use Rattle.xliff.specs.Unit.{no_target, target, Target, Part, XliffUnit}
use Rattle.xliff.specs.Encode as encode
use Rattle.xliff.specs.Encode.{opening, closing, part_head, target_head, text_run, inline, ill_text, broken, record_bytes, content_records, target_records, part_records, unit_records}
use Rattle.xliff.specs.Parse.{unit, most_parts}
use Rattle.xliff.proofs.lists.Tests.{map-append}
use Rattle.places.specs.Passes.{Passes}
use Rattle.places.specs.Offsets.{At, Inner, no_inner, text_inner, inline_inner}
use Rattle.places.proofs.Places.{at_start, at_next, content_inner}
use Rattle.places.specs.Found.{found, found_at, state_after, marker, marks_found}
use Rattle.table.specs.Meaning.{record_meaning, body}
use Rattle.table.specs.declared.Record.{Record}
use Rattle.table.specs.declared.Record.TheVariants.{Unit as UnitStart, UnitEnd, Segment, Ignorable, Target as TargetRecord, Text, Inline}
use Rattle.glance.specs.declared.Glance.{Glance}
use Rattle.glance.specs.declared.Head.TheVariants.{Target as TargetSet}
use Rattle.glance.specs.Glances.{head_in, sets_order, Glanced}
use Rattle.orders.proofs.WalkLaws.{Walked, walked, few_parts}
use Rattle.sequences.specs.Marks.{places, offsets}
use Rattle.sequences.specs.Targets.{TargetHead, head_here, heads_from, heads_of, head_offsets, head_number, content_marks, of_order, Ordered}

-- The markers of the targets of an order are those of its TG records, one after the other
abbrev here : Bool → ℕ → List encode.Record → List ℕ
here inside at rs = cond inside (content_marks at rs) []

no_here : (inside : Bool) → cond {A = List ℕ} inside [] [] ≡ []
no_here true = refl
no_here false = refl

no_marks : (x : spec.Item) (at q : ℕ) (rs : List encode.Record) {l : List ℕ} → places (marks_found false q false (at + length (record_bytes (inline x))) rs) ≡ l
    → places (marks_found false q false at (inline x ∷ rs)) ≡ l
unfolding found found_at state_after marker
no_marks x at q rs e = e

by_heads : (q : ℕ) (inside : Bool) (at : ℕ) (rs : List encode.Record)
    → places (marks_found false q inside at rs) ≡ here inside at rs ++ gather (of_order q) (heads_from at rs)
unfolding found found_at state_after heads_from head_here content_marks gather of_order
by_heads q inside at [] = rw (no_here inside)
by_heads q inside at (opening c ∷ rs) = by_heads q inside (at + length (record_bytes (opening c))) rs
by_heads q inside at (closing ∷ rs) = by_heads q inside (at + length (record_bytes closing)) rs
by_heads q inside at (part_head h ∷ rs) = rw (no_here inside) (by_heads q false (at + length (record_bytes (part_head h))) rs)
by_heads q inside at (target_head k ∷ rs) = rw (no_here inside) (by_heads q (eqb q k) (at + length (record_bytes (target_head k))) rs)
by_heads q inside at (text_run cs ∷ rs) = by_heads q inside (at + length (record_bytes (text_run cs))) rs
by_heads q true at (inline x ∷ rs) =
    map-append (λ p. p.at) (marker true (record { item = x; at = at })) _
    ∙ ap (λ (l : List ℕ). places (marker true (record { item = x; at = at })) ++ l) (by_heads q true (at + length (record_bytes (inline x))) rs)
    ∙ sym (append_assoc (places (marker true (record { item = x; at = at })))
    (content_marks (at + length (record_bytes (inline x))) rs)
    (gather (of_order q) (heads_from (at + length (record_bytes (inline x))) rs)))
by_heads q false at (inline x ∷ rs) = no_marks x at q rs (by_heads q false (at + length (record_bytes (inline x))) rs)
by_heads q inside at (ill_text ∷ rs) = by_heads q inside (at + length (record_bytes ill_text)) rs
by_heads q inside at (broken b ∷ rs) = by_heads q inside (at + length (record_bytes (broken b))) rs

pub offsets_by_heads : (q : ℕ) (t : List ℕ) → offsets false q t ≡ gather (of_order q) (heads_of t)
unfolding offsets heads_of
offsets_by_heads q t = by_heads q false 0 (unit_records (unit t))

-- The TG at a number
abbrev blank : TargetHead
blank = record { at = 0; order = 0; behind = [] }

stands : (t : List ℕ) (at : ℕ) (rs : List encode.Record) → At t at rs → (i : ℕ) → i < length (heads_from at rs)
    → At t (get_or (heads_from at rs) i blank).at (target_head (get_or (heads_from at rs) i blank).order ∷ (get_or (heads_from at rs) i blank).behind)
unfolding heads_from head_here
stands t at [] a i l = absurd (omega arith)
stands t at (opening c ∷ rs) a i l = stands t (at + length (record_bytes (opening c))) rs (at_next t at (opening c) rs a).then i l
stands t at (closing ∷ rs) a i l = stands t (at + length (record_bytes closing)) rs (at_next t at closing rs a).then i l
stands t at (part_head h ∷ rs) a i l = stands t (at + length (record_bytes (part_head h))) rs (at_next t at (part_head h) rs a).then i l
stands t at (target_head q ∷ rs) a zero l = a
stands t at (target_head q ∷ rs) a (suc i) l = stands t (at + length (record_bytes (target_head q))) rs (at_next t at (target_head q) rs a).then i (omega arith)
stands t at (text_run cs ∷ rs) a i l = stands t (at + length (record_bytes (text_run cs))) rs (at_next t at (text_run cs) rs a).then i l
stands t at (inline x ∷ rs) a i l = stands t (at + length (record_bytes (inline x))) rs (at_next t at (inline x) rs a).then i l
stands t at (ill_text ∷ rs) a i l = stands t (at + length (record_bytes ill_text)) rs (at_next t at ill_text rs a).then i l
stands t at (broken b ∷ rs) a i l = stands t (at + length (record_bytes (broken b))) rs (at_next t at (broken b) rs a).then i l

gather_at : (f : TargetHead → List ℕ) (hs : List TargetHead) (i : ℕ) → i < length hs → gather f (drop i hs) ≡ f (get_or hs i blank) ++ gather f (drop (suc i) hs)
unfolding gather
gather_at f [] i l = absurd (omega arith)
gather_at f (h ∷ hs) zero l = refl
gather_at f (h ∷ hs) (suc i) l = gather_at f hs i (omega arith)

place_at : (hs : List TargetHead) (i : ℕ) → get_or (map (λ (h : TargetHead). h.at) hs) i 0 ≡ (get_or hs i blank).at
place_at [] i = refl
place_at (h ∷ hs) zero = refl
place_at (h ∷ hs) (suc i) = place_at hs i

-- the first glance, at a TG
pub record Begun (t : List ℕ) (at : ℕ) (g : Glance) (h : TargetHead) : Type 0 where
  pub fits : at + g.width ≤ length t
  pub rest : At t (at + g.width) h.behind
  pub order : g.head ≡ TargetSet h.order
  pub marks : content_marks (h.at + length (record_bytes (target_head h.order))) h.behind ≡ content_marks (at + g.width) h.behind

target_number : (cs : List ℕ) (x : Record) (k : ℕ) → record_meaning cs x ≡ target_head k → head_in x ≡ TargetSet k
target_number cs (UnitStart c) k e = absurd (let z : ◌≡◌ {A = ℕ} 0 1 = cc in omega arith)
target_number cs UnitEnd k e = absurd (let z : ◌≡◌ {A = ℕ} 0 1 = cc in omega arith)
target_number cs (Segment f) k e = absurd (let z : ◌≡◌ {A = ℕ} 0 1 = cc in omega arith)
target_number cs (Ignorable i) k e = absurd (let z : ◌≡◌ {A = ℕ} 0 1 = cc in omega arith)
target_number cs (TargetRecord q) k e = cc
target_number cs Text k e = absurd (let z : ◌≡◌ {A = ℕ} 0 1 = cc in omega arith)
target_number cs (Inline i) k e = absurd (let z : ◌≡◌ {A = ℕ} 0 1 = cc in omega arith)

first_is : {r x : encode.Record} {rs qs : List encode.Record} → r ∷ rs ≡ x ∷ qs → r ≡ x
first_is e = cc

others_are : {r x : encode.Record} {rs qs : List encode.Record} → r ∷ rs ≡ x ∷ qs → rs ≡ qs
others_are e = cc

begun_by : (t : List ℕ) (at : ℕ) (g : Glance) (k : ℕ) (rs : List encode.Record) → Walked t at (target_head k ∷ rs) g → Begun t at g (record { at = at; order = k; behind = rs })
begun_by t at g k rs v =
    let f : target_head k ≡ v.step.first = first_is v.step.split in
    let w : g.width ≡ length (record_bytes (target_head k)) = v.wide ∙ v.step.wide ∙ ap (λ (x : encode.Record). length (record_bytes x)) (sym f) in
    record {
      fits = v.fits;
      rest = subst (At t (at + g.width)) (sym (others_are v.step.split)) v.rest;
      order = ap (λ (h : Glance). h.head) v.is ∙ target_number (body (drop at t)) v.the k (v.step.means ∙ sym f);
      marks = ap (λ (n : ℕ). content_marks (at + n) rs) (sym w);
    }

before_end : (t : List ℕ) (at : ℕ) (r : encode.Record) (rs : List encode.Record) → At t at (r ∷ rs) → at < length t
before_end t at r rs a = let n = at_next t at r rs a in omega (arith, n.moves, n.fits)

module _ (t heads : List ℕ) (i : ℕ) (p : Passes t) (e : heads ≡ head_offsets t) (l : i < length heads) where
  number_in : i < length (heads_of t)
  unfolding head_offsets
  number_in = omega (arith, l, ap length e, length-map (heads_of t) (λ (h : TargetHead). h.at))

  head_stands : At t (head_number t i).at (target_head (head_number t i).order ∷ (head_number t i).behind)
  unfolding head_number heads_of
  head_stands = stands t 0 (unit_records (unit t)) (at_start t p) i number_in

  head_place : (x : ℕ) → x ≡ get_or heads i 0 → x ≡ (head_number t i).at
  unfolding head_offsets head_number
  head_place x k = k ∙ ap (λ (l : List ℕ). get_or l i 0) e ∙ place_at (heads_of t) i

  pub head_within : (x : ℕ) → x ≡ get_or heads i 0 → x ≤ length t
  head_within x k = omega (arith, head_place x k, head_stands.within)

  pub begun : (x : ℕ) → x ≡ get_or heads i 0 → (g : Glance) → Glanced (drop x t) g → Begun t x g (head_number t i)
  begun x k g =
      subst (λ (y : ℕ). Glanced (drop y t) g → Begun t y g (head_number t i)) (sym (head_place x k))
      (λ u. begun_by t (head_number t i).at g (head_number t i).order (head_number t i).behind
      (walked t (head_number t i).at _ g head_stands (before_end t (head_number t i).at _ _ head_stands) u))

  pub heads_more : (q : ℕ) → gather (of_order q) (drop i (heads_of t)) ≡ of_order q (head_number t i) ++ gather (of_order q) (drop (i + 1) (heads_of t))
  unfolding head_number
  heads_more q =
      gather_at (of_order q) (heads_of t) i number_in
      ∙ ap (λ (n : ℕ). of_order q (get_or (heads_of t) i blank) ++ gather (of_order q) (drop n (heads_of t))) (let z : suc i ≡ i + 1 = omega arith in z)

pub order_here : {t : List ℕ} {at : ℕ} (q : ℕ) {g : Glance} {h : TargetHead} → Begun t at g h → sets_order q g.head ≡ true → of_order q h ≡ content_marks (at + g.width) h.behind
unfolding of_order
order_here {t} {at} q {g} {h} b e =
    ap (λ (c : Bool). cond c (content_marks (h.at + length (record_bytes (target_head h.order))) h.behind) []) (sym (ap (sets_order q) b.order) ∙ e) ∙ b.marks

pub order_other : {t : List ℕ} {at : ℕ} (q : ℕ) {g : Glance} {h : TargetHead} → Begun t at g h → sets_order q g.head ≡ false → of_order q h ≡ []
unfolding of_order
order_other {t} {at} q {g} {h} b e =
    ap (λ (c : Bool). cond c (content_marks (h.at + length (record_bytes (target_head h.order))) h.behind) []) (sym (ap (sets_order q) b.order) ∙ e)

pub heads_done : (t heads : List ℕ) (i q : ℕ) → heads ≡ head_offsets t → length heads ≤ i → gather (of_order q) (drop i (heads_of t)) ≡ []
unfolding head_offsets gather
heads_done t heads i q e l =
    ap (gather (of_order q)) (drop_of_length-le (heads_of t) (let z : length (heads_of t) ≤ i = omega (arith, l, ap length e, length-map (heads_of t) (λ (h : TargetHead). h.at)) in z))

-- The orders of the TG records in an array
pub other_order : (q : ℕ) (h : TargetHead) → (q ≡ h.order → ⊥) → of_order q h ≡ []
unfolding of_order
other_order q h e = ap (λ (c : Bool). cond c (content_marks (h.at + length (record_bytes (target_head h.order))) h.behind) []) (ne_eqb q h.order e)

pub ordered_on : (t out : List ℕ) (i v : ℕ) → i < length out → Ordered t i out → v ≡ (head_number t i).order → Ordered t (i + 1) (set out i v)
ordered_on t out i v l f e k h = by (eqb k i) refl
  where
    by : (b : Bool) → eqb k i ≡ b → get_or (set out i v) k 0 ≡ (head_number t k).order
    by true p = ap (λ (j : ℕ). get_or (set out i v) j 0) (eqb-true k i p) ∙ get_or-set_same out i v 0 l ∙ e ∙ ap (λ (j : ℕ). (head_number t j).order) (sym (eqb-true k i p))
    by false p = get_or-set_other out i k v 0 (λ z. eqb-false k i p z) ∙ f k (let n = eqb-false k i p in omega (arith, n))

-- There are no more TG records than parts: at most one to a part
one_if : encode.Record → ℕ
one_if (opening c) = 0
one_if closing = 0
one_if (part_head h) = 0
one_if (target_head q) = 1
one_if (text_run cs) = 0
one_if (inline x) = 0
one_if ill_text = 0
one_if (broken b) = 0

targets_in : List encode.Record → ℕ
targets_in [] = 0
targets_in (r ∷ rs) = one_if r + targets_in rs

here_counted : (at : ℕ) (r : encode.Record) (rs : List encode.Record) → length (head_here at r rs) ≡ one_if r
unfolding head_here one_if
here_counted at (opening c) rs = refl
here_counted at closing rs = refl
here_counted at (part_head h) rs = refl
here_counted at (target_head q) rs = refl
here_counted at (text_run cs) rs = refl
here_counted at (inline x) rs = refl
here_counted at ill_text rs = refl
here_counted at (broken b) rs = refl

heads_counted : (at : ℕ) (rs : List encode.Record) → length (heads_from at rs) ≡ targets_in rs
unfolding heads_from targets_in
heads_counted at [] = refl
heads_counted at (r ∷ rs) =
    omega (
      arith,
      length-append (head_here at r rs) (heads_from (at + length (record_bytes r)) rs),
      here_counted at r rs,
      heads_counted (at + length (record_bytes r)) rs,
    )

targets_append : (rs qs : List encode.Record) → targets_in (rs ++ qs) ≡ targets_in rs + targets_in qs
unfolding targets_in
targets_append [] qs = omega arith
targets_append (r ∷ rs) qs = omega (arith, targets_append rs qs)

no_targets : {rs : List encode.Record} → Inner rs → targets_in rs ≡ 0
unfolding targets_in one_if
no_targets no_inner = refl
no_targets (text_inner h) = omega (arith, no_targets h)
no_targets (inline_inner h) = omega (arith, no_targets h)

one_target : (g : Target) → targets_in (target_records g) ≤ 1
unfolding targets_in one_if target_records
one_target no_target = omega arith
one_target (target q xs) = omega (arith, no_targets (content_inner xs))

part_targets : (p : Part) → targets_in (part_records p) ≤ 1
unfolding targets_in one_if part_records
part_targets p = omega (arith, targets_append (content_records p.source) (target_records p.target), no_targets (content_inner p.source), one_target p.target)

parts_targets : (ps : List Part) → targets_in (gather part_records ps) ≤ length ps
unfolding gather targets_in
parts_targets [] = omega arith
parts_targets (p ∷ ps) = omega (arith, targets_append (part_records p) (gather part_records ps), part_targets p, parts_targets ps)

unit_targets : (u : XliffUnit) → targets_in (unit_records u) ≤ length u.parts
unfolding unit_records targets_in one_if
unit_targets u = omega (arith, targets_append (gather part_records u.parts) (closing ∷ []), parts_targets u.parts)

pub heads_few : (t : List ℕ) → Passes t → length (head_offsets t) ≤ most_parts
unfolding head_offsets heads_of
heads_few t p =
    omega (
      arith,
      length-map (heads_from 0 (unit_records (unit t))) (λ (h : TargetHead). h.at),
      heads_counted 0 (unit_records (unit t)),
      unit_targets (unit t),
      few_parts t p,
    )
