-- A content read piece by piece and element by element.
use Prim.Native.Nat.{ℕ, ◌-◌, ◌≤◌}
use mathlib.Core.Path.{◌≡◌, refl, sym, subst}
use mathlib.Core.Bool.{false}
use mathlib.Core.List.{List, [], ◌∷◌, ◌++◌}
use native.Mathlib.Omega.{arith}
use lib.ListN.{length}
use Rattle.std.specs.Prelude.{Result, Ok, Err}
use Rattle.xliff.specs.Encode.{Record, inline}
use Rattle.xliff.specs.Good.{part_heads}
use Rattle.xliff.proofs.unit.Valid.{heads_append}
use Rattle.table.specs.Meaning.{item}
use Rattle.table_builder.specs.declared.TableBuilder.{TableBuilder}
use Rattle.xml_piece.specs.Pieces.{rest_at, Ahead}
use Rattle.xml_passages.specs.Passages.{Passage, Blames}
use Rattle.xml_passages.proofs.PassageLaws.{no_passage, passage_then, passage_as, passage_blames, blames_as}
use Rattle.xml_records.specs.Collecting.{Collects}
use Rattle.xml_records.proofs.CollectLaws.{collects_none, collects_both_in_loan}
use Rattle.xml_element.specs.declared.EndTag.{EndTag}
use Rattle.xml_element.specs.declared.NestedTag.{NestedTag}
use Rattle.xml_element.specs.declared.Blamed.{Blamed}
use Rattle.xml_element.specs.declared.StartTag.{StartTag}
use Rattle.xml_element.specs.Opens.{spelled, start_tokens, end_tokens, EndTagIn, NestedRead}
use Rattle.xml_content.specs.Contents.{PieceOn, CloseRead, ElementOn, ElementRead, ContentClosed}
use Rattle.xml_content.proofs.ElementLaws.{closed_element, other_end}

-- what is read of a content from `start` up to a place
pub record SoFar (text : List ℕ) (start depth : ℕ) (builder₀ : TableBuilder) (at : ℕ) (builder : TableBuilder) : Type 0 where
  pub records : List Record
  pub no_part : part_heads records ≡ 0
  pub low : start ≤ at
  pub high : at ≤ length text
  pub passage : Passage depth (rest_at text start) records (rest_at text at)
  pub collects : Collects records builder₀ builder

pub nothing_read : (text : List ℕ) (start depth : ℕ) (builder : TableBuilder) → start ≤ length text
    → SoFar text start depth builder start builder
nothing_read text start depth builder h =
    record {
      records = [];
      no_part = unfold part_heads in refl;
      low = omega arith;
      high = h;
      passage = no_passage depth (rest_at text start);
      collects = collects_none;
    }

module _ (text : List ℕ) (start depth : ℕ) (builder₀ : TableBuilder) (at : ℕ) (builder : TableBuilder)
    (s : SoFar text start depth builder₀ at builder) where
  on : (next : ℕ) (builder' : TableBuilder) (rs : List Record) → part_heads rs ≡ 0 → Ahead text at next
      → Passage depth (rest_at text at) rs (rest_at text next) → Collects rs builder builder'
      → SoFar text start depth builder₀ next builder'
  on next builder' rs none goes p k =
      record {
        records = s.records ++ rs;
        no_part = omega (arith, heads_append s.records rs, s.no_part, none);
        low = omega (arith, s.low, goes.ahead);
        high = goes.inside;
        passage = passage_then depth (rest_at text start) (rest_at text at) (rest_at text next) s.records rs s.passage p;
        collects = collects_both_in_loan s.collects k;
      }

  pub piece_on : (next : ℕ) (builder' : TableBuilder) → PieceOn text at builder next builder'
      → SoFar text start depth builder₀ next builder'
  piece_on next builder' k = on next builder' k.records k.no_part k.goes (k.passage depth) k.collects

  pub element_on : (tag : StartTag) (next : ℕ) (builder' : TableBuilder) → Ahead text at tag.name.upto
      → rest_at text at ≡ start_tokens text tag → ElementOn text tag depth builder next builder'
      → SoFar text start depth builder₀ next builder'
  element_on tag next builder' goes e k =
      on next builder' k.records k.no_part
      (record { ahead = omega (arith, goes.ahead, k.goes.ahead); inside = k.goes.inside })
      (passage_as depth (rest_at text at) (start_tokens text tag) (rest_at text next) k.records e k.passage) k.collects

  pub at_fault : (p : ℕ) → Blames depth (rest_at text at) p → Blames depth (rest_at text start) p
  at_fault p k = passage_blames depth (rest_at text start) (rest_at text at) s.records p s.passage k

  pub element_at_fault : (tag : StartTag) (p : ℕ) → rest_at text at ≡ start_tokens text tag
      → Blames depth (start_tokens text tag) p → Blames depth (rest_at text start) p
  element_at_fault tag p e k = at_fault p (blames_as depth (rest_at text at) (start_tokens text tag) p e k)

  pub content_ends : (end : EndTag) → EndTagIn text at end → rest_at text at ≡ end_tokens text end
      → ContentClosed text start depth builder₀ end builder
  content_ends end k e =
      record {
        records = s.records;
        no_part = s.no_part;
        ends = record {
          goes = record { ahead = omega (arith, s.low, k.goes.ahead); inside = k.goes.inside };
          name = k.name;
        };
        passage = subst (Passage depth (rest_at text start) s.records) e s.passage;
        collects = s.collects;
      }

-- behind the end tag of an element with content
module _ (text : List ℕ) (tag : StartTag) (depth : ℕ) (opened : NestedTag) (r : NestedRead text tag opened)
    (deep : depth ≡ 0 → ⊥) (long : opened.short ≡ false) {b b₁ b₂ : TableBuilder} (end : EndTag)
    (put_first : Collects (inline (item opened.start) ∷ []) b b₁)
    (k : ContentClosed text opened.next (depth - 1) b₁ end b₂) where
  pub ended : (b₃ : TableBuilder) (m : Result ℕ Blamed) → CloseRead text (spelled text tag.name) end opened.end b₂ b₃ m
      → ElementRead text tag depth b b₃ m
  ended b₃ (Ok next) (e, same, put_last) =
      subst (λ (n : ℕ). ElementOn text tag depth b n b₃) (sym e)
      (closed_element text tag depth opened r deep long end put_first k same put_last)
  ended b₃ (Err blamed) (e, other) =
      subst (Blames depth (start_tokens text tag)) (sym e) (other_end text tag depth opened r deep long end put_first k other)
