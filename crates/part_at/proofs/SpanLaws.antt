-- The offsets of a part, from what is read at its head and at its target.
use Prim.Native.Nat.{ℕ, ◌+◌, ◌-◌, ◌≤◌}
use mathlib.Core.Path.{◌≡◌, refl, sym, ap, ◌∙◌, subst}
use mathlib.Core.Bool.{Bool, true, false}
use mathlib.Core.List.{List, ◌∷◌, ◌++◌, append_assoc}
use native.Mathlib.Omega.{arith}
use lib.ListN.{length, take, drop, length-append}
use Rattle.xliff.specs.Bytes.{gather}
use Rattle.xliff.specs.Unit.{Target, no_target, target, Part}
use Rattle.xliff.specs.Encode as encode
use Rattle.xliff.specs.Encode.{opening, closing, part_head, target_head, text_run, inline, ill_text, broken, record_bytes, head_bytes, content_records, target_records, part_records, spell, content_bytes}
use Rattle.places.specs.Offsets.{At}
use Rattle.places.proofs.Places.{content_inner}
use Rattle.walker.specs.Offsets.{After}
use Rattle.table.specs.Meaning.{meaning, width, body}
use Rattle.table.specs.declared.Record.TheVariants.{Unit as UnitStart, UnitEnd, Segment, Ignorable, Target as TargetHead, Text, Inline}
use Rattle.table.specs.declared.Read.{Read}
use Rattle.table.specs.declared.Read.TheVariants.{Good, Ill, Broken}
use Rattle.orders.specs.Heads.{order_of}
use Rattle.std.specs.Prelude.{Option, Some, None}
use Rattle.orders.proofs.OrderLaws.{is_not, is_is}
use Rattle.heads.specs.Heads.{SomeHead, SegmentIs}
use Rattle.part_at.specs.declared.PartPlace.{PartPlace}
use Rattle.part_at.specs.Content.{is_content, outer, ContentAt, ContentEnds}
use Rattle.part_at.specs.Stands.{PartOrEnd, part_next, end_next, TargetAt, TargetSpan, TargetSpans, PartFrom, PartSpans, Slice}
use Rattle.part_at.proofs.ContentLaws.{Means, First, first_read, at_past}
use Rattle.part_at.proofs.PartLaws.{slice_at}

-- the order that a record sets
abbrev pub order_at : encode.Record → Option ℕ
order_at (opening c) = None
order_at closing = None
order_at (part_head h) = None
order_at (target_head q) = Some q
order_at (text_run cs) = None
order_at (inline x) = None
order_at ill_text = None
order_at (broken b) = None

pub order_same : (cs : List ℕ) (r : Read) → order_of r ≡ order_at (meaning cs r)
order_same cs (Good (UnitStart c) w) = refl
order_same cs (Good UnitEnd w) = refl
order_same cs (Good (Segment f) w) = refl
order_same cs (Good (Ignorable i) w) = refl
order_same cs (Good (TargetHead q) w) = refl
order_same cs (Good Text w) = refl
order_same cs (Good (Inline i) w) = refl
order_same cs Ill = refl
order_same cs (Broken b) = refl

outer_begins : (rest : List encode.Record) → PartOrEnd rest → outer rest ≡ true
unfolding outer is_content
outer_begins mathlib.Core.List.[] x' = elim x' [ ]
outer_begins (opening _ ∷ rs) x5 = elim x5 [ ]
outer_begins (target_head _ ∷ rs) x6 = elim x6 [ ]
outer_begins (text_run _ ∷ rs) x7 = elim x7 [ ]
outer_begins (inline _ ∷ rs) x8 = elim x8 [ ]
outer_begins (ill_text ∷ rs) x8 = elim x8 [ ]
outer_begins (broken _ ∷ rs) x10 = elim x10 [ ]
outer_begins (part_head h ∷ rs) part_next = refl
outer_begins (closing ∷ rs) end_next = refl

outer_target : (g : Target) (rest : List encode.Record) → PartOrEnd rest → outer (target_records g ++ rest) ≡ true
unfolding outer is_content target_records
outer_target no_target rest b = outer_begins rest b
outer_target (target q xs) rest b = refl

-- at a target, or where none is
module _ (t : List ℕ) (at : ℕ) (r : Read) (m : Means t at r) (w : ℕ) (wide : w ≡ width r) where
  order_first : (x : encode.Record) (rs : List encode.Record) → At t at (x ∷ rs) → order_of r ≡ order_at x
  order_first x rs a = order_same (body (drop at t)) r ∙ ap order_at (first_read t at x rs r a m).means

  target_is : (q : ℕ) → order_of r ≡ Some q → (g : Target) (rest : List encode.Record) → At t at (target_records g ++ rest) → PartOrEnd rest
      → (xs : List _) × (g ≡ target q xs)
  unfolding target_records
  target_is q e no_target mathlib.Core.List.[] a b = elim b [ ]
  target_is q e no_target (opening _ ∷ rs) a b = elim b [ ]
  target_is q e no_target (target_head _ ∷ rs) a b = elim b [ ]
  target_is q e no_target (text_run _ ∷ rs) a b = elim b [ ]
  target_is q e no_target (inline _ ∷ rs) a b = elim b [ ]
  target_is q e no_target (ill_text ∷ rs) a b = elim b [ ]
  target_is q e no_target (broken _ ∷ rs) a b = elim b [ ]
  target_is q e no_target (part_head h ∷ rs) a part_next = is_not (sym (order_first (part_head h) rs a) ∙ e)
  target_is q e no_target (closing ∷ rs) a end_next = is_not (sym (order_first closing rs a) ∙ e)
  target_is q e (target k xs) rest a b = (xs, ap (λ (n : ℕ). target n xs) (is_is (sym (order_first (target_head k) (content_records xs ++ rest) a) ∙ e)))

  none_is : order_of r ≡ None → (g : Target) (rest : List encode.Record) → At t at (target_records g ++ rest) → PartOrEnd rest → g ≡ no_target
  unfolding target_records
  none_is e no_target rest a b = refl
  none_is e (target k xs) rest a b = is_not (sym e ∙ order_first (target_head k) (content_records xs ++ rest) a)

  target_first : (q : ℕ) (xs : List _) (rest : List encode.Record) → At t at (target_records (target q xs) ++ rest)
      → First t at (target_head q) (content_records xs ++ rest) r
  unfolding target_records
  target_first q xs rest a = first_read t at (target_head q) (content_records xs ++ rest) r a m

  content_there : (q : ℕ) (xs : List _) (rest : List encode.Record) → At t at (target_records (target q xs) ++ rest) → At t (at + w) (content_records xs ++ rest)
  content_there q xs rest a = subst (λ (k : ℕ). At t (at + k) (content_records xs ++ rest)) (sym wide) (target_first q xs rest a).then

  pub target_fits : (q : ℕ) → order_of r ≡ Some q → TargetAt t at → at + w ≤ length t
  target_fits q e (g, rest, a, b) =
      let i = target_is q e g rest a b in
      omega (arith, wide, (target_first q i.0 rest (subst (λ (h : Target). At t at (target_records h ++ rest)) i.1 a)).fits)

  pub target_content : (q : ℕ) → order_of r ≡ Some q → TargetAt t at → ContentAt t (at + w)
  target_content q e (g, rest, a, b) =
      let i = target_is q e g rest a b in
      (content_records i.0, rest, content_there q i.0 rest (subst (λ (h : Target). At t at (target_records h ++ rest)) i.1 a), content_inner i.0, outer_begins rest b)

  pub with_target : (place : PartPlace) (q : ℕ) → order_of r ≡ Some q → place.order ≡ Some q → ContentEnds t (at + w) place.end → TargetSpans t at place
  unfolding target_records spell gather
  with_target place q e o c g rest a b =
      let i = target_is q e g rest a b in
      let s = subst (λ (h : Target). At t at (target_records h ++ rest)) i.1 a in
      let f = target_first q i.0 rest s in
      let d = c (content_records i.0) rest (content_there q i.0 rest s) (content_inner i.0) (outer_begins rest b) in
      subst (λ (k : Target). TargetSpan at k place) (sym i.1)
      (record {
        ends = omega (arith, d, wide, f.wide, length-append (record_bytes (target_head q)) (spell (content_records i.0)));
        order = o;
      })

  pub without_target : (place : PartPlace) → order_of r ≡ None → place.order ≡ None → place.end ≡ at → TargetSpans t at place
  unfolding target_records spell gather
  without_target place e o n g rest a b =
      subst (λ (k : Target). TargetSpan at k place) (sym (none_is e g rest a b)) (record { ends = omega (arith, n); order = o })

-- at the head of a part
module _ (t : List ℕ) (at next : ℕ) (after : After t at next) where
  part_first : (p : Part) (rest : List encode.Record) → At t at (part_records p ++ rest)
      → First t at (part_head p.head) (content_records p.source ++ (target_records p.target ++ rest)) after.found
  unfolding part_records
  part_first p rest a =
      first_read t at (part_head p.head) (content_records p.source ++ (target_records p.target ++ rest)) after.found
      (subst (λ (l : List encode.Record). At t at (part_head p.head ∷ l)) (append_assoc (content_records p.source) (target_records p.target) rest) a) after.known

  source_there : (p : Part) (rest : List encode.Record) → At t at (part_records p ++ rest) → At t next (content_records p.source ++ (target_records p.target ++ rest))
  source_there p rest a = subst (λ (k : ℕ). At t k (content_records p.source ++ (target_records p.target ++ rest))) (sym after.offset) (part_first p rest a).then

  pub source_content : PartFrom t at → ContentAt t next
  source_content (p, rest, a, b) =
      (content_records p.source, target_records p.target ++ rest, source_there p rest a, content_inner p.source, outer_target p.target rest b)

  -- its bytes
  head_slice : (p : Part) (rest : List encode.Record) → At t at (part_records p ++ rest) → Slice t at next (head_bytes p.head)
  unfolding part_records spell gather record_bytes
  head_slice p rest a = slice_at t at next (head_bytes p.head) _ (sym a.rest) a.within (after.offset ∙ ap (λ (n : ℕ). at + n) (part_first p rest a).wide)

  pub head_within : PartFrom t at → (at ≤ next) × (next ≤ length t)
  head_within (p, rest, a, b) = ((head_slice p rest a).ordered, (head_slice p rest a).within)

  pub some_head : PartFrom t at → SomeHead (take (next - at) (drop at t))
  some_head (p, rest, a, b) = (p.head, sym (head_slice p rest a).is)

  module _ (e : ℕ) (c : ContentEnds t next e) where
    target_offset : (p : Part) (rest : List encode.Record) → At t at (part_records p ++ rest) → PartOrEnd rest → e ≡ next + length (content_bytes p.source)
    unfolding content_bytes
    target_offset p rest a b = c (content_records p.source) (target_records p.target ++ rest) (source_there p rest a) (content_inner p.source) (outer_target p.target rest b)

    target_there : (p : Part) (rest : List encode.Record) → At t at (part_records p ++ rest) → PartOrEnd rest → At t e (target_records p.target ++ rest)
    unfolding content_bytes
    target_there p rest a b =
        subst (λ (k : ℕ). At t k (target_records p.target ++ rest)) (sym (target_offset p rest a b))
        (at_past t next (content_records p.source) (target_records p.target ++ rest) (source_there p rest a))

    pub part_target : PartFrom t at → TargetAt t e
    part_target (p, rest, a, b) = (p.target, rest, target_there p rest a b, b)

    pub part_spans : (k : Bool) → SegmentIs (take (next - at) (drop at t)) k → (place : PartPlace)
        → (place.head ≡ at) × (place.source ≡ next) × (place.target ≡ e) × (place.segment ≡ k) × TargetSpans t e place → PartSpans t at place
    unfolding record_bytes
    part_spans k is place (h, s, g, m, z) p rest a b =
        record {
          head = h;
          source = omega (arith, s, after.offset, (part_first p rest a).wide);
          target = omega (arith, s, g, target_offset p rest a b);
          kind = m ∙ is p.head (sym (head_slice p rest a).is);
          rest = subst (λ (k : ℕ). TargetSpan k p.target place) (sym g) (z p.target rest (target_there p rest a b) b);
        }
