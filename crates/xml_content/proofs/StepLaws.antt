-- A piece of a content as a step of it.
use Prim.Native.Nat.{ℕ, ◌≤◌}
use mathlib.Core.Path.{◌≡◌, refl, subst}
use mathlib.Core.Logic.{◌⊎◌, inl, inr}
use mathlib.Core.List.{List, [], ◌∷◌}
use lib.ListN.{length}
use Rattle.std.specs.Prelude.{Ok, Err}
use Rattle.xliff.specs.Encode.{text_run}
use Rattle.xliff.specs.Good.{part_heads}
use Rattle.xliff.specs.Parse.{is_part}
use Rattle.xml.specs.Tokens.{char, reference}
use Rattle.table_builder.specs.declared.TableBuilder.{TableBuilder}
use Rattle.xml_names.specs.declared.Span.{Span}
use Rattle.xml_piece.specs.declared.Piece.{Piece}
use Rattle.xml_piece.specs.declared.Piece.TheVariants.{Start, Close, Comment, Character, Reference, CutTag, Fault, TextFault, End}
use Rattle.xml_piece.specs.Pieces.{rest_at, PieceRead}
use Rattle.xml_passages.specs.Passages.{Blames}
use Rattle.xml_passages.proofs.PassageLaws.{no_passage, passage_as, blames_as, char_passage, reference_passage, fault_blames, finish_blames, cut_blames, text_fault_blames}
use Rattle.xml_records.specs.Collecting.{Collects}
use Rattle.xml_records.proofs.CollectLaws.{collects_none}
use Rattle.xml_content.specs.declared.Stepped.TheVariants.{On, Tag, End as StepEnd}
use Rattle.xml_content.specs.Contents.{PieceOn, StepRead}

module _ (text : List ℕ) (at : ℕ) (m : Piece) (r : PieceRead text at m) where
  known : {n : Piece} → m ≡ n → PieceRead text at n
  known e = subst (PieceRead text at) e r

  pub start_step : {builder : TableBuilder} {name : Span} → m ≡ Start name
      → StepRead text at builder builder (Ok (Tag (record { place = at; name = name })))
  start_step e = let k = known e in (refl, k.0, k.1, k.2)

  pub close_step : {builder : TableBuilder} {name : Span} {next : ℕ} → m ≡ Close name next
      → StepRead text at builder builder (Ok (StepEnd (record { place = at; name = name; next = next })))
  close_step e = let k = known e in (refl, record { goes = k.1.goes; name = k.0 }, k.1.same)

  pub comment_step : {builder : TableBuilder} {next : ℕ} → m ≡ Comment next → PieceOn text at builder next builder
  comment_step {next = next} e =
      let k = known e in
      record {
        records = [];
        no_part = unfold part_heads in refl;
        goes = k.0;
        passage =
            λ depth. passage_as depth (rest_at text at) (rest_at text next) (rest_at text next) [] k.1
            (no_passage depth (rest_at text next));
        collects = collects_none;
      }

  module _ {c next : ℕ} where
    -- a character of text, as it stands or by a reference
    pub character_step : (m ≡ Character c next) ⊎ (m ≡ Reference c next)
        → {builder builder' : TableBuilder} → Collects (text_run (c ∷ []) ∷ []) builder builder'
        → PieceOn text at builder next builder'
    character_step (inl e) put =
        let k = known e in
        record {
          records = text_run (c ∷ []) ∷ [];
          no_part = unfold part_heads is_part in refl;
          goes = k.1.goes;
          passage = λ depth.
              passage_as depth (rest_at text at) (char at c ∷ rest_at text next) (rest_at text next) (text_run (c ∷ []) ∷ [])
              k.1.same (char_passage depth at (rest_at text next) c);
          collects = put;
        }
    character_step (inr e) put =
        let k = known e in
        record {
          records = text_run (c ∷ []) ∷ [];
          no_part = unfold part_heads is_part in refl;
          goes = k.1.goes;
          passage = λ depth.
              passage_as depth (rest_at text at) (reference at c ∷ rest_at text next) (rest_at text next) (text_run (c ∷ []) ∷ [])
              k.1.same (reference_passage depth at (rest_at text next) c);
          collects = put;
        }

    pub character_bound : (m ≡ Character c next) ⊎ (m ≡ Reference c next) → c ≤ 0x10FFFF
    character_bound (inl e) = (known e).0
    character_bound (inr e) = (known e).0

  -- places at fault
  pub cut_step : m ≡ CutTag → (depth : ℕ) → Blames depth (rest_at text at) (length text)
  cut_step e depth = blames_as depth (rest_at text at) _ (length text) (known e) (cut_blames depth at [] (length text))

  pub fault_step : {p : ℕ} → (m ≡ Fault p) ⊎ (m ≡ TextFault p) → (depth : ℕ) → Blames depth (rest_at text at) p
  fault_step {p} (inl e) depth = blames_as depth (rest_at text at) _ p (known e) (fault_blames depth p [])
  fault_step {p} (inr e) depth = blames_as depth (rest_at text at) _ p (known e) (text_fault_blames depth at [] p)

  pub end_step : m ≡ End → (depth : ℕ) → Blames depth (rest_at text at) at
  end_step e depth = blames_as depth (rest_at text at) _ at (known e) (finish_blames depth at [])
