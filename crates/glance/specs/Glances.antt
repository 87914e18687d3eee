-- A glance at a record, and what it says of the record that the specification reads there.
use Rattle.std.specs.Prelude.{ℕ, ◌≡◌, Bool, true, false, cond, List, [], ◌∷◌, length, eqb, leb, Option as RustOption, Some, None}
use Rattle.xliff.specs.Encode.{record_bytes}
use Rattle.xliff.specs.Bytes.{two_at}
use Rattle.xliff.specs.Parse.{Mark, UN, UE, SG, IG, TG, TX, CP, MO, SM, MC, EM, code_size, annotation_start_size, annotation_end_size, size_of, read}
use Rattle.marks.specs.Marks.{same_mark, one_of}
use Rattle.table.specs.Meaning.{meaning, width, body}
use Rattle.table.specs.declared.Item.{Item}
use Rattle.table.specs.declared.Item.TheVariants.{Character, Standalone, Isolated, Pair, AnnotationStart, AnnotationEnd}
use Rattle.table.specs.declared.Record.{Record}
use Rattle.table.specs.declared.Record.TheVariants.{Unit as UnitStart, UnitEnd, Segment, Ignorable, Target, Text, Inline}
use Rattle.table.specs.declared.Read.{Read}
use Rattle.table.specs.declared.Read.TheVariants.{Good, Ill, Broken}
use Rattle.glance.specs.declared.Head.{Head}
use Rattle.glance.specs.declared.Head.TheVariants.{Part, Target as TargetHead, Other}
use Rattle.glance.specs.declared.Glance.{Glance}

abbrev pub head_in : Record → Head
head_in (UnitStart f) = Other
head_in UnitEnd = Other
head_in (Segment f) = Part
head_in (Ignorable i) = Part
head_in (Target q) = TargetHead q
head_in Text = Other
head_in (Inline i) = Other

-- 0 for SG and IG, 1 for TG, 2 for all else
abbrev pub kind_of : Head → ℕ
kind_of Part = 0
kind_of (TargetHead q) = 1
kind_of Other = 2

abbrev pub head_kind_in : Record → ℕ
head_kind_in x = kind_of (head_in x)

abbrev pub is_marker : Item → Bool
is_marker (Character c) = false
is_marker (Standalone f) = true
is_marker (Isolated h f) = true
is_marker (Pair w h f) = true
is_marker (AnnotationStart w i l) = true
is_marker (AnnotationEnd w i) = true

abbrev pub marker_in : Record → Bool
marker_in (UnitStart f) = false
marker_in UnitEnd = false
marker_in (Segment f) = false
marker_in (Ignorable i) = false
marker_in (Target q) = false
marker_in Text = false
marker_in (Inline i) = is_marker i

-- the order that a TG sets
abbrev pub order_set : Head → RustOption ℕ
order_set Part = None
order_set (TargetHead q) = Some q
order_set Other = None

abbrev pub sets_order : ℕ → Head → Bool
sets_order q Part = false
sets_order q (TargetHead k) = eqb q k
sets_order q Other = false

abbrev pub glance_in : Record → ℕ → Glance
glance_in x w = record { head = head_in x; marker = marker_in x; width = w }

-- a glance agrees with what the reader finds, where that is a good record
pub data Agrees (g : Glance) : Read → Type 0 where
  on_good : {x : Record} {w : ℕ} → g ≡ glance_in x w → Agrees g (Good x w)
  on_ill : Agrees g Ill
  on_broken : {b : Bool} → Agrees g (Broken b)

-- the record that the specification reads at the head of the bytes, and a glance that agrees with it
pub record Glanced (t : List ℕ) (g : Glance) : Type 0 where
  pub found : Read
  pub means : meaning (body t) found ≡ read t
  pub wide : width found ≡ length (record_bytes (read t))
  pub agrees : Agrees g found

-- the code's cases
abbrev pub part_glance : ℕ → Glance
part_glance w = record { head = Part; marker = false; width = w }

abbrev pub item_glance : Bool → ℕ → Glance
item_glance marker w = record { head = Other; marker = marker; width = w }

abbrev pub text_glance : List ℕ → Glance
text_glance t = item_glance false (cond (leb 4 (length t)) (size_of TX t) 0)

abbrev pub target_glance : List ℕ → Glance
target_glance t =
    cond (leb (size_of TG t) (length t)) (record { head = TargetHead (two_at t 2); marker = false; width = size_of TG t })
    (item_glance false 0)

-- what is no head and no text: of all that is left, only codes are good records
abbrev pub rest_glance : Mark → Glance
rest_glance m =
    cond (one_of (MO ∷ SM ∷ []) m) (item_glance true annotation_start_size)
    (cond (one_of (MC ∷ EM ∷ []) m) (item_glance true annotation_end_size)
    (cond (same_mark CP m) (item_glance false (size_of CP []))
    (cond (same_mark UN m) (item_glance false (size_of UN []))
    (cond (same_mark UE m) (item_glance false (size_of UE []))
    (item_glance true code_size)))))

abbrev pub glance_by : Mark → List ℕ → Glance
glance_by m t =
    cond (same_mark TX m) (text_glance t)
    (cond (same_mark TG m) (target_glance t)
    (cond (same_mark SG m) (part_glance (size_of SG t))
    (cond (same_mark IG m) (part_glance (size_of IG t))
    (rest_glance m))))
