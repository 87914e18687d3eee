-- What a walk finds by glances, one record further: the markers of the source sequence, the TG records, the markers of a content.
use Prim.Native.Nat.{ℕ, ◌+◌, ◌≤◌}
use mathlib.Core.Path.{◌≡◌, refl, sym, ◌∙◌, ap}
use mathlib.Core.Bool.{false, Bool, true, not, ◌&&◌, cond}
use mathlib.Core.List.{List, [], ◌∷◌, ◌++◌, map}
use lib.ListN.{length, drop}
use lib.Dec.{eqb}
use Rattle.xliff.specs.Item.{class}
use Rattle.xliff.specs.Encode as encode
use Rattle.xliff.specs.Encode.{inline, record_bytes}
use Rattle.xliff.proofs.lists.Tests.{and_false}
use Rattle.places.specs.Offsets.{At}
use Rattle.places.proofs.Places.{at_end}
use Rattle.places.specs.Found.{found_at, marks_found}
use Rattle.table.specs.Meaning.{fields, item, record_meaning, body}
use Rattle.table.specs.declared.Item.{Item}
use Rattle.table.specs.declared.Item.TheVariants.{Character, Standalone, Isolated, Pair, AnnotationStart, AnnotationEnd}
use Rattle.table.specs.declared.Record.{Record}
use Rattle.table.specs.declared.Record.TheVariants.{Unit as UnitStart, UnitEnd, Segment, Ignorable, Target as TargetRecord, Text, Inline}
use Rattle.table.specs.declared.Read.TheVariants.{Good}
use Rattle.glance.specs.declared.Glance.{Glance}
use Rattle.glance.specs.Glances.{kind_of, head_kind_in, is_marker, marker_in}
use Rattle.orders.proofs.WalkLaws.{Walked}
use Rattle.sequences.specs.Marks.{places, ReadMarked, inside_of, inside_source}
use Rattle.sequences.specs.Targets.{TargetHead, head_here, heads_from, content_marks}
use Rattle.sequences.proofs.MarkLaws.{isolated_marked, inline_marked, marks_step}

-- Markers by a glance
pub item_marked : (i : Item) → is_marker i ≡ not (eqb (class (item i)) 0)
unfolding class
item_marked (Character c) = refl
item_marked (Standalone f) = refl
item_marked (Isolated h f) = isolated_marked h (fields f)
item_marked (Pair w h f) = refl
item_marked (AnnotationStart w i l) = refl
item_marked (AnnotationEnd w i) = refl

record_marked : (inside : Bool) (x : Record) (w : ℕ) → ReadMarked inside (Good x w) (inside && marker_in x)
unfolding found_at
record_marked inside (UnitStart c) w source q cs at = rw (and_false inside)
record_marked inside UnitEnd w source q cs at = rw (and_false inside)
record_marked inside (Segment f) w source q cs at = rw (and_false inside)
record_marked inside (Ignorable i) w source q cs at = rw (and_false inside)
record_marked inside (TargetRecord k) w source q cs at = rw (and_false inside)
record_marked inside Text w source q cs at = rw (and_false inside)
record_marked inside (Inline i) w source q cs at = inline_marked inside (is_marker i) i at (item_marked i)

inside_is : (inside : Bool) (x : Record) (w : ℕ) → inside_of true 0 inside (Good x w) ≡ inside_source (head_kind_in x) inside
inside_is inside (UnitStart c) w = refl
inside_is inside UnitEnd w = refl
inside_is inside (Segment f) w = refl
inside_is inside (Ignorable i) w = refl
inside_is inside (TargetRecord k) w = refl
inside_is inside Text w = refl
inside_is inside (Inline i) w = refl

abbrev pub source_marks : Bool → ℕ → List encode.Record → List ℕ
source_marks inside at rs = places (marks_found true 0 inside at rs)

pub sources_on : (t : List ℕ) (at : ℕ) (rs : List encode.Record) (g : Glance) (v : Walked t at rs g) (inside : Bool)
    → source_marks inside at rs ≡ cond (inside && g.marker) (at ∷ []) [] ++ source_marks (inside_source (kind_of g.head) inside) (at + g.width) v.step.others
sources_on t at rs g v inside =
    marks_step t at rs (Good v.the v.size) v.step true 0 inside (inside && marker_in v.the) (record_marked inside v.the v.size)
    ∙ ap (λ (b : Bool). cond (inside && marker_in v.the) (at ∷ []) [] ++ source_marks b (at + v.size) v.step.others) (inside_is inside v.the v.size)
    ∙ ap (λ (h : Glance). cond (inside && h.marker) (at ∷ []) [] ++ source_marks (inside_source (kind_of h.head) inside) (at + h.width) v.step.others) (sym v.is)

-- The records that a walk meets, by the reader's
module _ {t : List ℕ} {at : ℕ} {rs : List encode.Record} {g : Glance} (v : Walked t at rs g) where
  split_as : rs ≡ record_meaning (body (drop at t)) v.the ∷ v.step.others
  split_as = v.step.split ∙ ap (λ (x : encode.Record). x ∷ v.step.others) (sym v.step.means)

  size_as : length (record_bytes (record_meaning (body (drop at t)) v.the)) ≡ v.size
  size_as = ap (λ (x : encode.Record). length (record_bytes x)) v.step.means ∙ sym v.step.wide

-- The offsets of the TG records
abbrev pub head_places : ℕ → List encode.Record → List ℕ
head_places at rs = map (λ (h : TargetHead). h.at) (heads_from at rs)

heads_by : (at : ℕ) (cs : List ℕ) (x : Record) (qs : List encode.Record)
    → head_places at (record_meaning cs x ∷ qs) ≡ cond (eqb (head_kind_in x) 1) (at ∷ []) [] ++ head_places (at + length (record_bytes (record_meaning cs x))) qs
unfolding heads_from head_here
heads_by at cs (UnitStart c) qs = refl
heads_by at cs UnitEnd qs = refl
heads_by at cs (Segment f) qs = refl
heads_by at cs (Ignorable i) qs = refl
heads_by at cs (TargetRecord k) qs = refl
heads_by at cs Text qs = refl
heads_by at cs (Inline i) qs = refl

pub heads_on : (t : List ℕ) (at : ℕ) (rs : List encode.Record) (g : Glance) (v : Walked t at rs g)
    → head_places at rs ≡ cond (eqb (kind_of g.head) 1) (at ∷ []) [] ++ head_places (at + g.width) v.step.others
heads_on t at rs g v =
    ap (head_places at) (split_as v)
    ∙ heads_by at (body (drop at t)) v.the v.step.others
    ∙ ap (λ (n : ℕ). cond (eqb (head_kind_in v.the) 1) (at ∷ []) [] ++ head_places (at + n) v.step.others) (size_as v)
    ∙ ap (λ (h : Glance). cond (eqb (kind_of h.head) 1) (at ∷ []) [] ++ head_places (at + h.width) v.step.others) (sym v.is)

pub heads_end : (t : List ℕ) (at : ℕ) (rs : List encode.Record) → At t at rs → length t ≤ at → head_places at rs ≡ []
unfolding heads_from
heads_end t at rs a l = ap (head_places at) (at_end t at rs a l)

-- The markers of a content
content_by : (at : ℕ) (cs : List ℕ) (x : Record) (qs : List encode.Record)
    → content_marks at (record_meaning cs x ∷ qs)
    ≡ cond (eqb (head_kind_in x) 2) (cond (marker_in x) (at ∷ []) [] ++ content_marks (at + length (record_bytes (record_meaning cs x))) qs) []
unfolding content_marks
content_by at cs (UnitStart c) qs = refl
content_by at cs UnitEnd qs = refl
content_by at cs (Segment f) qs = refl
content_by at cs (Ignorable i) qs = refl
content_by at cs (TargetRecord k) qs = refl
content_by at cs Text qs = refl
content_by at cs (Inline i) qs = ap (λ (l : List ℕ). l ++ content_marks (at + length (record_bytes (inline (item i)))) qs) (inline_marked true (is_marker i) i at (item_marked i))

content_is : (t : List ℕ) (at : ℕ) (rs : List encode.Record) (g : Glance) (v : Walked t at rs g)
    → content_marks at rs ≡ cond (eqb (kind_of g.head) 2) (cond g.marker (at ∷ []) [] ++ content_marks (at + g.width) v.step.others) []
content_is t at rs g v =
    ap (content_marks at) (split_as v)
    ∙ content_by at (body (drop at t)) v.the v.step.others
    ∙ ap (λ (n : ℕ). cond (eqb (head_kind_in v.the) 2) (cond (marker_in v.the) (at ∷ []) [] ++ content_marks (at + n) v.step.others) []) (size_as v)
    ∙ ap (λ (h : Glance). cond (eqb (kind_of h.head) 2) (cond h.marker (at ∷ []) [] ++ content_marks (at + h.width) v.step.others) []) (sym v.is)

pub content_on : (t : List ℕ) (at : ℕ) (rs : List encode.Record) (g : Glance) (v : Walked t at rs g) → eqb (kind_of g.head) 2 ≡ true
    → content_marks at rs ≡ cond g.marker (at ∷ []) [] ++ content_marks (at + g.width) v.step.others
content_on t at rs g v e =
    content_is t at rs g v ∙ ap (λ (b : Bool). cond b (cond g.marker (at ∷ []) [] ++ content_marks (at + g.width) v.step.others) []) e

pub content_off : (t : List ℕ) (at : ℕ) (rs : List encode.Record) (g : Glance) (v : Walked t at rs g) → eqb (kind_of g.head) 2 ≡ false → content_marks at rs ≡ []
content_off t at rs g v e =
    content_is t at rs g v ∙ ap (λ (b : Bool). cond b (cond g.marker (at ∷ []) [] ++ content_marks (at + g.width) v.step.others) []) e

pub content_end : (t : List ℕ) (at : ℕ) (rs : List encode.Record) → At t at rs → length t ≤ at → content_marks at rs ≡ []
unfolding content_marks
content_end t at rs a l = ap (content_marks at) (at_end t at rs a l)
