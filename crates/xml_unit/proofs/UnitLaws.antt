-- A unit: its start tag, its parts one by one, its end tag, and the end of the text.
use Prim.Native.Nat.{ℕ, suc, ◌+◌, ◌≤◌}
use mathlib.Core.Path.{◌≡◌, refl, sym, ap, subst, ◌∙◌}
use mathlib.Core.Bool.{Bool, true, false}
use mathlib.Core.List.{List, [], ◌∷◌, ◌++◌}
use native.Mathlib.Numerals.{add-one}
use native.Mathlib.Omega.{arith}
use lib.ListN.{length}
use mathlib.Core.Option.{none, some}
use Rattle.std.specs.Prelude.{Result, Ok, Err}
use Rattle.xliff.specs.Bytes.{equal}
use Rattle.xliff.specs.Encode.{Record, opening, closing}
use Rattle.xliff.specs.Good.{part_heads}
use Rattle.xliff.specs.Parse.{is_part}
use Rattle.xliff.proofs.unit.Valid.{heads_append}
use Rattle.xml.specs.Words.{'unit'}
use Rattle.xml.specs.Tokens.{Attribute, Token, start_tag, end_tag, finish}
use Rattle.xml.specs.Elements.{unit_opening, Due, unit_due, part_due, nothing_due, outside, closed, read, bad, behind, elements, xml_records}
use Rattle.xml.proofs.ContentLaws.{behind_nil}
use Rattle.table_builder.specs.declared.TableBuilder.{TableBuilder}
use Rattle.table_builder.specs.Building.{Holds}
use Rattle.xml_attribute.specs.Attribute.{short_form}
use Rattle.xml_attributes.specs.declared.Tagged.{Tagged}
use Rattle.xml_attributes.specs.Tags.{WholeTag}
use Rattle.xml_slots.specs.Slots.{ByAttributes}
use Rattle.xml_piece.specs.Pieces.{rest_at, Ahead}
use Rattle.xml_passages.specs.Passages.{Alike, OuterBlames, Leads}
use Rattle.xml_passages.proofs.OuterLaws.{leads_then, leads_bad, closed_bad, unit_opens, no_unit, bad_unit, unit_closes, text_over}
use Rattle.xml_records.specs.Collecting.{Collects}
use Rattle.xml_records.proofs.CollectLaws.{collects_none, collects_both_in_loan, collected_none}
use Rattle.xml_element.specs.declared.Blamed.{Blamed}
use Rattle.xml_element.specs.declared.StartTag.{StartTag}
use Rattle.xml_element.specs.declared.EndTag.{EndTag}
use Rattle.xml_element.specs.Opens.{blamed_at, spelled, start_tokens, end_tokens, after_tag}
use Rattle.xml_part.specs.Parts.{CollectingAt, Passed, Steps}
use Rattle.xml_part.proofs.TagSteps.{tag_same, tag_told}
use Rattle.xml_part.proofs.StepLaws.{steps_from, more_collected}
use Rattle.xml_unit.specs.Units.{Finishes, UnitEnds, BehindUnit, TextRead}

-- what is read behind a step
module _ (d d' : Due) (a b : List Token) (rs : List Record) {b₀ b₁ : TableBuilder} (l : Leads d a rs d' b)
    (put : Collects rs b₀ b₁) where
  pub finishes_then : (b₂ : TableBuilder) (m : Result (Unit {0}) Blamed) → Finishes d' b b₁ b₂ m → Finishes d a b₀ b₂ m
  unfolding Leads behind
  finishes_then b₂ (Ok done) f =
      record {
        records = rs ++ f.records;
        are = l ∙ ap (behind rs) f.are;
        collects = collects_both_in_loan put f.collects;
      }
  finishes_then b₂ (Err p) e = leads_bad d d' a b rs p.place l e

pub finishes_alike : (d : Due) (a b : List Token) (b₀ b₁ : TableBuilder) → Alike a b → (m : Result (Unit {0}) Blamed)
    → Finishes d b b₀ b₁ m → Finishes d a b₀ b₁ m
unfolding Alike
finishes_alike d a b b₀ b₁ k (Ok done) f = record { records = f.records; are = k d ∙ f.are; collects = f.collects }
finishes_alike d a b b₀ b₁ k (Err p) e = k d ∙ e

-- the end behind the unit
pub nothing_behind : (a : List Token) (p : ℕ) → Alike a (finish p ∷ []) → elements (outside nothing_due) a ≡ read []
unfolding Alike
nothing_behind a p k = k nothing_due ∙ text_over p []

pub late_behind : (a b : List Token) (p : ℕ) → Alike a b → elements (outside nothing_due) b ≡ bad p
    → elements (outside nothing_due) a ≡ bad p
unfolding Alike
late_behind a b p k e = k nothing_due ∙ e

pub fault_behind : (a : List Token) (p : ℕ) → OuterBlames a p → elements (outside nothing_due) a ≡ bad p
unfolding OuterBlames
fault_behind a p k = k nothing_due

behind_finishes : (text : List ℕ) (next : ℕ) (builder : TableBuilder) (m : Result (Unit {0}) Blamed) → BehindUnit text next m
    → Finishes nothing_due (rest_at text next) builder builder m
behind_finishes text next builder (Ok done) e = record { records = []; are = e; collects = collects_none }
behind_finishes text next builder (Err p) e = e

-- an end tag where a part is due: that of the unit, or another
module _ (text : List ℕ) (end : EndTag) where
  abbrev end_name : List ℕ
  end_name = spelled text end.name

  pub unit_ends : {builder builder' : TableBuilder} → equal end_name 'unit' ≡ true → Collects (closing ∷ []) builder builder'
      → (m : Result (Unit {0}) Blamed) → BehindUnit text end.next m → UnitEnds (end_tokens text end) builder builder' m
  unfolding UnitEnds
  unit_ends {builder' = builder'} same put m k i =
      finishes_then (part_due i) nothing_due (end_tokens text end) (rest_at text end.next) (closing ∷ [])
      (unit_closes i end_name end.place (rest_at text end.next) same) put builder' m
      (behind_finishes text end.next builder' m k)

  pub other_end : (builder builder' : TableBuilder) → equal end_name 'unit' ≡ false
      → UnitEnds (end_tokens text end) builder builder' (Err (blamed_at end.place))
  unfolding UnitEnds closed
  other_end builder builder' other i = closed_bad end.place end_name (rest_at text end.next) (part_due i) (rw other refl)

-- the parts up to a place
pub record PartsRead (text : List ℕ) (start : ℕ) (builder₀ : TableBuilder) (at : ℕ) (builder : TableBuilder) (count : ℕ)
    : Type 0 where
  pub few : count ≤ at
  pub high : at ≤ length text
  pub passed : Passed (part_due 0) (rest_at text start) count builder₀ (part_due count) (rest_at text at) builder

pub no_parts : (text : List ℕ) (start : ℕ) (builder : TableBuilder) → start ≤ length text
    → PartsRead text start builder start builder 0
unfolding Leads
no_parts text start builder h =
    record {
      few = omega arith;
      high = h;
      passed = record {
        records = [];
        heads_are = unfold part_heads in refl;
        leads = sym (behind_nil (elements (outside (part_due 0)) (rest_at text start)));
        collects = collects_none;
      };
    }

module _ (text : List ℕ) (start : ℕ) (builder₀ : TableBuilder) (at : ℕ) (builder : TableBuilder) (count : ℕ)
    (s : PartsRead text start builder₀ at builder count) where
  -- one more
  one_more : (upto next : ℕ) (tag : List Token) (builder' : TableBuilder) → Ahead text at upto → Alike (rest_at text at) tag
      → Steps text upto (part_due count) tag 1 (part_due (suc count)) builder builder' (Ok next)
      → PartsRead text start builder₀ next builder' (suc count)
  one_more upto next tag builder' goes k step =
      let here =
      steps_from text at upto 1 (part_due count) (part_due (suc count)) (rest_at text at) tag builder builder' goes k
      (Ok next) step in
      let p = s.passed in
      let q = here.1 in
      record {
        few = omega (arith, s.few, here.0.ahead);
        high = here.0.inside;
        passed = record {
          records = p.records ++ q.records;
          heads_are = omega (arith, heads_append p.records q.records, p.heads_are, q.heads_are);
          leads =
              leads_then (part_due 0) (part_due count) (part_due (suc count)) (rest_at text start) (rest_at text at)
              (rest_at text next) p.records q.records p.leads q.leads;
          collects = collects_both_in_loan p.collects q.collects;
        };
      }

  pub part_on : (upto next : ℕ) (tag : List Token) (builder' : TableBuilder) → Ahead text at upto → Alike (rest_at text at) tag
      → Steps text upto (part_due count) tag 1 (part_due (suc count)) builder builder' (Ok next)
      → PartsRead text start builder₀ next builder' (count + 1)
  part_on upto next tag builder' goes k step =
      subst (PartsRead text start builder₀ next builder') (sym (add-one count)) (one_more upto next tag builder' goes k step)

  pub parts_bad : (p : ℕ) → elements (outside (part_due count)) (rest_at text at) ≡ bad p
      → elements (outside (part_due 0)) (rest_at text start) ≡ bad p
  parts_bad p e =
      leads_bad (part_due 0) (part_due count) (rest_at text start) (rest_at text at) s.passed.records p s.passed.leads e

  pub parts_end : (end : EndTag) (builder' : TableBuilder) → Alike (rest_at text at) (end_tokens text end)
      → (m : Result (Unit {0}) Blamed) → UnitEnds (end_tokens text end) builder builder' m
      → Finishes (part_due 0) (rest_at text start) builder₀ builder' m
  unfolding UnitEnds
  parts_end end builder' k m u =
      finishes_then (part_due 0) (part_due count) (rest_at text start) (rest_at text at) s.passed.records
      s.passed.leads s.passed.collects builder' m
      (finishes_alike (part_due count) (rest_at text at) (end_tokens text end) builder builder' k m (u count))

-- the start tag of a unit
leads_as : (d d' : Due) (a b c : List Token) (rs : List Record) → a ≡ b → Leads d b rs d' c → Leads d a rs d' c
unfolding Leads
leads_as d d' a b c rs e l = ap (elements (outside d)) e ∙ l

module _ (text : List ℕ) (tag : StartTag) (slots : List ℕ) (t : Tagged)
    (w : WholeTag text tag.name.upto slots t.next t.short t.count) where
  abbrev ats : List Attribute
  ats = w.attributes

  abbrev name : List ℕ
  name = spelled text tag.name

  abbrev opens : Bool → List Token
  opens s = start_tag tag.place name ats ∷ after_tag text s tag.place name ats t.next

  tag_is : (s : Bool) → t.short ≡ s → start_tokens text tag ≡ opens s
  tag_is s k = tag_same text tag slots t w ∙ ap opens k

  pub another_name : equal name 'unit' ≡ false → elements (outside unit_due) (start_tokens text tag) ≡ bad tag.place
  another_name other =
      ap (elements (outside unit_due)) (tag_is t.short refl)
      ∙ no_unit tag.place name ats (after_tag text t.short tag.place name ats t.next) other

  module _ (same : equal name 'unit' ≡ true) where
    pub bad_opening : ByAttributes slots t.count unit_opening none
        → elements (outside unit_due) (start_tokens text tag) ≡ bad tag.place
    bad_opening told =
        ap (elements (outside unit_due)) (tag_is t.short refl)
        ∙ bad_unit tag.place name ats (after_tag text t.short tag.place name ats t.next) same
        (tag_told text tag slots t w unit_opening none told)

    module _ (letter : ℕ) (told : ByAttributes slots t.count unit_opening (some (record { can_resegment = letter })))
        {b₀ b₁ : TableBuilder} (put : Collects (opening (record { can_resegment = letter }) ∷ []) b₀ b₁) where
      abbrev first : List Record
      first = opening (record { can_resegment = letter }) ∷ []

      abbrev is_opened : unit_opening ats ≡ some (record { can_resegment = letter })
      is_opened = tag_told text tag slots t w unit_opening (some (record { can_resegment = letter })) told

      pub short_unit : {b₂ : TableBuilder} (m : Result (Unit {0}) Blamed) → t.short ≡ true → Collects (closing ∷ []) b₁ b₂
          → BehindUnit text t.next m → Finishes unit_due (start_tokens text tag) b₀ b₂ m
      unfolding short_form
      short_unit {b₂} m is close k =
          let ends = end_tag tag.place name ∷ rest_at text t.next in
          finishes_then unit_due nothing_due (start_tokens text tag) (rest_at text t.next) (first ++ (closing ∷ []))
          (leads_then unit_due (part_due 0) nothing_due (start_tokens text tag) ends (rest_at text t.next) first
          (closing ∷ [])
          (leads_as unit_due (part_due 0) (start_tokens text tag) (opens true) ends first (tag_is true is)
          (unit_opens tag.place name ats ends (record { can_resegment = letter }) same is_opened))
          (unit_closes 0 name tag.place (rest_at text t.next) same))
          (collects_both_in_loan put close) b₂ m (behind_finishes text t.next b₂ m k)

      pub long_unit : (b₂ : TableBuilder) (m : Result (Unit {0}) Blamed) → t.short ≡ false
          → Finishes (part_due 0) (rest_at text t.next) b₁ b₂ m → Finishes unit_due (start_tokens text tag) b₀ b₂ m
      unfolding short_form
      long_unit b₂ m is k =
          finishes_then unit_due (part_due 0) (start_tokens text tag) (rest_at text t.next) first
          (leads_as unit_due (part_due 0) (start_tokens text tag) (opens false) (rest_at text t.next) first (tag_is false is)
          (unit_opens tag.place name ats (rest_at text t.next) (record { can_resegment = letter }) same is_opened))
          put b₂ m k

-- it heads no part
pub opening_collected : (letter : ℕ) {builder builder' : TableBuilder} → CollectingAt 0 builder
    → Collects (opening (record { can_resegment = letter }) ∷ []) builder builder' → CollectingAt 0 builder'
opening_collected letter k put =
    let first : List Record = opening (record { can_resegment = letter }) ∷ [] in
    let no_part : part_heads first ≡ 0 = unfold part_heads is_part in refl in
    more_collected first k put no_part refl

-- the whole text
pub none_collected : {builder : TableBuilder} → Holds builder [] [] → CollectingAt 0 builder
none_collected h = record { before = []; counted = unfold part_heads in refl; collected = collected_none h }

module _ (text : List ℕ) where
  records_are : xml_records text ≡ elements (outside unit_due) (rest_at text 0)
  unfolding xml_records
  records_are = refl

  pub text_bad : (p : ℕ) → elements (outside unit_due) (rest_at text 0) ≡ bad p → xml_records text ≡ bad p
  text_bad p e = records_are ∙ e

  pub text_read : {builder : TableBuilder} (builder' : TableBuilder) → Holds builder [] [] → (m : Result (Unit {0}) Blamed)
      → Finishes unit_due (rest_at text 0) builder builder' m → TextRead text builder builder' m
  text_read builder' h (Ok done) f =
      record {
        same = f.collects.same;
        records = f.records;
        are = records_are ∙ f.are;
        collected = f.collects.on [] (collected_none h);
      }
  text_read builder' h (Err p) k = records_are ∙ k
