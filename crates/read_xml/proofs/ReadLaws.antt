-- The answers of the reader, one after the other.
use Prim.Native.Nat.{ℕ, ◌<◌, ◌≤◌}
use mathlib.Core.Path.{◌≡◌, sym, ap, ◌∙◌}
use mathlib.Core.Bool.{true, false}
use mathlib.Core.List.{List}
use mathlib.Core.Option.{Option, none}
use lib.ListN.{length, take}
use lib.Dec.{ltb}
use borrow.Author.Tests.{lt-ltb, le-ltb}
use Rattle.xliff.specs.Answer as spec
use Rattle.xliff.specs.Answer.{Refusal, refusal, applies, ◌then◌, Outcome, result, refuse, unless, answer, output}
use Rattle.xliff.specs.Unit.{XliffUnit}
use Rattle.xliff.specs.Encode.{Record, encode}
use Rattle.xliff.specs.Check.{table_refusal, check, too_large}
use Rattle.outcomes.proofs.OutcomeLaws.{accepted_none, refused_some, applied, passed, answers_refused, answers_result}
use Rattle.table_builder.specs.declared.TableBuilder.{TableBuilder}
use Rattle.writer.specs.Pieces.{lead}
use Rattle.xml.specs.Elements.{read, bad, xml_records, unit_of_records}
use Rattle.xml.specs.Xml.{table_read, read_xml}
use Rattle.xml_records.specs.Collecting.{Collected}
use Rattle.xml_records.proofs.TableReadLaws.{read_beyond, read_within, TableOf}
use Rattle.read_xml.specs.Judging.{ReadTable}

module _ (u : XliffUnit) (builder : TableBuilder) (k : ReadTable u builder) (out : List ℕ) where
  -- 15: a limit is passed, or the output is too short
  refused_15 : too_large (length out) u ≡ true
      → (spec.refused 15 0 ≡ answer (table_read (length out) u)) × (out ≡ output (table_read (length out) u) out)
  refused_15 h =
      answers_refused (table_read (length out) u) 15 0 out
      (unfold table_read in applied 15 (too_large (length out) u) (table_refusal (encode u)) (encode u) h)

  pub refused_limit : builder.over ≡ true
      → (spec.refused 15 0 ≡ answer (table_read (length out) u)) × (out ≡ output (table_read (length out) u) out)
  refused_limit over = refused_15 (k.beyond over (length out))

  -- within the limits
  module _ (free : builder.over ≡ false) (table : List ℕ) (told : table ≡ take builder.used builder.table.now) where
    abbrev whole : TableOf u builder
    whole = k.within free

    is_table : table ≡ encode u
    is_table = told ∙ whole.bytes

    large_is : too_large (length out) u ≡ ltb (length out) (length table)
    large_is = whole.large (length out) ∙ ap (ltb (length out)) (whole.long ∙ sym (ap length is_table))

    pub refused_room : length out < length table
        → (spec.refused 15 0 ≡ answer (table_read (length out) u)) × (out ≡ output (table_read (length out) u) out)
    refused_room h = refused_15 (large_is ∙ lt-ltb (length out) (length table) h)

    -- the check of the table read
    module _ (room : length table ≤ length out) where
      checked : table_read (length out) u ≡ unless (table_refusal (encode u)) (encode u)
      unfolding table_read
      checked =
          ap (λ (o : Option Refusal). unless o (encode u))
          (passed 15 (too_large (length out) u) (table_refusal (encode u))
          (large_is ∙ le-ltb (length out) (length table) room))

      pub refused_table : (n at : ℕ) → spec.refused n at ≡ check table
          → (spec.refused n at ≡ answer (table_read (length out) u)) × (out ≡ output (table_read (length out) u) out)
      refused_table n at e =
          answers_refused (table_read (length out) u) n at out
          (checked ∙ (unfold unless in ap (λ (o : Option Refusal). unless o (encode u)) refusal_is))
        where
          refusal_is : table_refusal (encode u) ≡ refusal n at
          refusal_is = sym (ap table_refusal is_table) ∙ refused_some table n at e

      pub accepted_table : (n m : ℕ) (last : List ℕ) → spec.accepted n ≡ check table → m ≡ length table → last ≡ lead table out
          → (spec.accepted m ≡ answer (table_read (length out) u)) × (last ≡ output (table_read (length out) u) out)
      accepted_table n m last e f g =
          answers_result (table_read (length out) u) (encode u) m out last
          (checked ∙ (unfold unless in ap (λ (o : Option Refusal). unless o (encode u)) none_is))
          (f ∙ ap length is_table) (g ∙ ap (λ (l : List ℕ). lead l out) is_table)
        where
          none_is : table_refusal (encode u) ≡ none
          none_is = sym (ap table_refusal is_table) ∙ accepted_none table n e

-- a text at fault, and one that is read
pub text_at_fault : (s out : List ℕ) (p : ℕ) → xml_records s ≡ bad p
    → (spec.refused 22 p ≡ answer (read_xml s (length out))) × (out ≡ output (read_xml s (length out)) out)
text_at_fault s out p e = answers_refused (read_xml s (length out)) 22 p out (unfold read_xml in rw (e, read_xml))

pub text_read : (s : List ℕ) (room : ℕ) (rs : List Record) → xml_records s ≡ read rs
    → read_xml s room ≡ table_read room (unit_of_records rs)
unfolding read_xml
text_read s room rs e = rw (e, read_xml)

pub table_of : (s : List ℕ) (rs : List Record) (builder : TableBuilder) → xml_records s ≡ read rs → Collected builder rs
    → ReadTable (unit_of_records rs) builder
table_of s rs builder e k = record { beyond = λ o room. read_beyond s e k o room; within = λ o. read_within s e k o }
