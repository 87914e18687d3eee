-- An element with content, by its start tag, its content and its end opened.
use Prim.Native.Nat.{ℕ, ◌-◌}
use mathlib.Core.Path.{◌≡◌, refl, sym, ap, subst}
use mathlib.Core.Bool.{Bool, true, false}
use mathlib.Core.List.{List, [], ◌∷◌, ◌++◌}
use native.Mathlib.Omega.{arith}
use Rattle.xliff.specs.Bytes.{equal}
use Rattle.xliff.specs.Encode.{Record, inline}
use Rattle.xliff.specs.Good.{part_heads}
use Rattle.xliff.specs.Parse.{is_part}
use Rattle.xliff.proofs.lists.Tests.{equal_refl}
use Rattle.xliff.proofs.unit.Valid.{heads_append}
use Rattle.xml.specs.Tokens.{Attribute, Token, start_tag, end_tag}
use Rattle.table.specs.Meaning.{item}
use Rattle.table_builder.specs.declared.TableBuilder.{TableBuilder}
use Rattle.xml_attribute.specs.Attribute.{short_form}
use Rattle.xml_piece.specs.Pieces.{rest_at}
use Rattle.xml_passages.specs.Passages.{Passage, Blames}
use Rattle.xml_passages.proofs.PassageLaws.{no_passage, passage_as, blames_as, too_deep, nested_blames, nested_passage, other_end_blames}
use Rattle.xml_records.specs.Collecting.{Collects}
use Rattle.xml_records.proofs.CollectLaws.{collects_both_in_loan}
use Rattle.xml_element.specs.declared.StartTag.{StartTag}
use Rattle.xml_element.specs.declared.EndTag.{EndTag}
use Rattle.xml_element.specs.declared.NestedTag.{NestedTag}
use Rattle.xml_element.specs.Opens.{spelled, start_tokens, end_tokens, after_tag, NestedRead}
use Rattle.xml_content.specs.Contents.{ElementOn, ContentClosed}

module _ (text : List ℕ) (tag : StartTag) (depth : ℕ) (opened : NestedTag) (r : NestedRead text tag opened) where
  abbrev place : ℕ
  place = tag.place

  abbrev name : List ℕ
  name = spelled text tag.name

  abbrev ats : List Attribute
  ats = r.attributes

  abbrev behind : List Token
  behind = after_tag text opened.short place name ats opened.next

  abbrev opens : List Token
  opens = start_tag place name ats ∷ behind

  abbrev first : Record
  first = inline (item opened.start)

  abbrev last : Record
  last = inline (item opened.end)

  pub deeper : depth ≡ 0 → Blames depth (start_tokens text tag) place
  deeper d =
      blames_as depth (start_tokens text tag) opens place r.same
      (too_deep depth place name ats behind (item opened.start) (item opened.end) r.is d)

  two_heads : (rs : List Record) → part_heads rs ≡ 0 → part_heads ((first ∷ rs) ++ (last ∷ [])) ≡ 0
  unfolding part_heads is_part
  two_heads rs e = omega (arith, heads_append rs (last ∷ []), e)

  module _ (deep : depth ≡ 0 → ⊥) where
    abbrev ends : List Token
    ends = end_tag place name ∷ rest_at text opened.next

    -- in the short form
    pub short_element : {b b₁ b₂ : TableBuilder} → opened.short ≡ true → Collects (first ∷ []) b b₁ → Collects (last ∷ []) b₁ b₂
        → ElementOn text tag depth b opened.next b₂
    short_element short put_first put_last =
        record {
          records = (first ∷ []) ++ (last ∷ []);
          no_part = two_heads [] (unfold part_heads in refl);
          goes = r.goes;
          passage = passage_as depth (start_tokens text tag) opens (rest_at text opened.next) _ r.same
              (nested_passage depth place name ats behind (item opened.start) (item opened.end) r.is deep [] place name
              (rest_at text opened.next)
              (subst (λ (s : Bool). Passage (depth - 1) (after_tag text s place name ats opened.next) [] ends) (sym short)
              (unfold short_form in no_passage (depth - 1) ends))
              (equal_refl name));
          collects = collects_both_in_loan put_first put_last;
        }

    module _ (long : opened.short ≡ false) where
      behind_is : behind ≡ rest_at text opened.next
      unfolding short_form
      behind_is = ap (λ (s : Bool). after_tag text s place name ats opened.next) long

      -- its content is at fault
      pub content_blames : (p : ℕ) → Blames (depth - 1) (rest_at text opened.next) p
          → Blames depth (start_tokens text tag) p
      content_blames p k =
          blames_as depth (start_tokens text tag) opens p r.same
          (nested_blames depth place name ats behind (item opened.start) (item opened.end) r.is deep p
          (blames_as (depth - 1) behind (rest_at text opened.next) p behind_is k))

      -- its content and the end tag behind it
      module _ {b b₁ b₂ : TableBuilder} (end : EndTag) (put_first : Collects (first ∷ []) b b₁)
          (k : ContentClosed text opened.next (depth - 1) b₁ end b₂) where
        abbrev end_name : List ℕ
        end_name = spelled text end.name

        within : Passage (depth - 1) behind k.records (end_tokens text end)
        within =
            passage_as (depth - 1) behind (rest_at text opened.next) (end_tokens text end) k.records behind_is k.passage

        pub closed_element : {b₃ : TableBuilder} → equal end_name name ≡ true → Collects (last ∷ []) b₂ b₃
            → ElementOn text tag depth b end.next b₃
        closed_element same put_last =
            record {
              records = (first ∷ k.records) ++ (last ∷ []);
              no_part = two_heads k.records k.no_part;
              goes = let h = r.goes.ahead in let h' = k.ends.goes.ahead in
                  record { ahead = omega (arith, h, h'); inside = k.ends.goes.inside };
              passage = passage_as depth (start_tokens text tag) opens (rest_at text end.next) _ r.same
                  (nested_passage depth place name ats behind (item opened.start) (item opened.end) r.is deep k.records
                  end.place end_name (rest_at text end.next) within same);
              collects = collects_both_in_loan (collects_both_in_loan put_first k.collects) put_last;
            }

        pub other_end : equal end_name name ≡ false → Blames depth (start_tokens text tag) end.place
        other_end other =
            blames_as depth (start_tokens text tag) opens end.place r.same
            (other_end_blames depth place name ats behind (item opened.start) (item opened.end) r.is deep k.records
            end.place end_name (rest_at text end.next) within other)
