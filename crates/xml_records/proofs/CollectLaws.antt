-- Records read one after the other and collected in a table, the code points of a run in one TX.
use Prim.Native.Nat.{ℕ}
use mathlib.Core.Path.{◌≡◌, refl, sym, ap, ◌∙◌, subst}
use mathlib.Core.Bool.{Bool}
use mathlib.Core.List.{List, [], ◌∷◌, ◌++◌, append_assoc, append-nil}
use Rattle.xliff.specs.Encode.{Record, opening, closing, part_head, target_head, text_run, inline, record_bytes, text_before, item_before}
use Rattle.xliff.specs.Unit.{Opening, Head}
use Rattle.xliff.specs.Parse.{is_part}
use Rattle.xml.proofs.MergeLaws.{texts_before, put, merged}
use Rattle.table.specs.Meaning.{item}
use Rattle.table.specs.declared.Item.{Item}
use Rattle.table.specs.declared.Item.TheVariants.{Character, Standalone, Isolated, Pair, AnnotationStart, AnnotationEnd}
use Rattle.table_builder.specs.declared.TableBuilder.{TableBuilder}
use Rattle.table_builder.specs.Building.{run_records, with_run, SameLoan, Holds, RecordPut, CodePointPut}
use Rattle.xml_records.specs.Collecting.{Gathered, Collected, Appends, Collects}

-- a code point in front of these records is a text of its own
abbrev Apart : List Record → Type 0
Apart l = (c : ℕ) → text_before c l ≡ text_run (c ∷ []) ∷ l

-- a record that is no code point of text: it stays as it is, and no text before it takes it in
pub record Whole (r : Record) : Type 0 where
  pub stays : (l : List Record) → put r l ≡ r ∷ l
  pub apart : (l : List Record) → Apart (r ∷ l)

-- a run of text in front of records that do not take it in
texts_apart : (run : List ℕ) (l : List Record) → Apart l → texts_before run l ≡ run_records run ++ l
unfolding texts_before run_records text_before
texts_apart [] l h = refl
texts_apart (c ∷ []) l h = h c
texts_apart (c ∷ d ∷ run) l h = ap (text_before c) (texts_apart (d ∷ run) l h)

texts_more : (run : List ℕ) (c : ℕ) (l : List Record) → texts_before (run ++ (c ∷ [])) l ≡ texts_before run (text_before c l)
unfolding texts_before
texts_more [] c l = refl
texts_more (d ∷ run) c l = ap (text_before d) (texts_more run c l)

-- nothing is gathered as yet
gathered_none : Gathered [] [] []
gathered_none = record { behind = λ rest. unfold texts_before in refl }

-- one record more
module _ {read done : List Record} {run : List ℕ} (g : Gathered read done run) where
  -- whatever is read
  gathered_next : (r : Record) (rest : List Record)
      → merged ((read ++ (r ∷ [])) ++ rest) ≡ done ++ texts_before run (put r (merged rest))
  unfolding merged
  gathered_next r rest = ap merged (append_assoc read (r ∷ []) rest) ∙ g.behind (r ∷ rest)

  -- a code point of text: it goes into the run
  gathered_code_point : (c : ℕ) → Gathered (read ++ (text_run (c ∷ []) ∷ [])) done (run ++ (c ∷ []))
  gathered_code_point c =
      record {
        behind = λ rest.
            unfold put texts_before in
            gathered_next (text_run (c ∷ [])) rest
            ∙ ap (λ (l : List Record). done ++ l) (sym (texts_more run c (merged rest)));
      }

  -- any other: it ends the run
  gathered_record : {r : Record} → Whole r → Gathered (read ++ (r ∷ [])) (with_run done run ++ (r ∷ [])) []
  gathered_record {r} w =
      record {
        behind = λ rest.
            unfold with_run texts_before in
            gathered_next r rest
            ∙ ap (λ (l : List Record). done ++ texts_before run l) (w.stays (merged rest))
            ∙ ap (λ (l : List Record). done ++ l) (texts_apart run (r ∷ merged rest) (w.apart (merged rest)))
            ∙ sym (append_assoc done (run_records run) (r ∷ merged rest))
            ∙ sym (append_assoc (done ++ run_records run) (r ∷ []) (merged rest));
      }

  -- at the end: what is held is what was read, put together
  pub gathered_all : merged read ≡ with_run done run
  unfolding merged with_run text_before
  gathered_all =
      ap merged (sym (append-nil read)) ∙ g.behind []
      ∙ ap (λ (l : List Record). done ++ l) (texts_apart run [] (λ c. refl) ∙ append-nil (run_records run))

-- the records that are no text
pub whole_opening : (o : Opening) → Whole (opening o)
whole_opening o = record { stays = λ l. unfold put in refl; apart = λ l c. unfold text_before in refl }

pub whole_closing : Whole closing
whole_closing = record { stays = λ l. unfold put in refl; apart = λ l c. unfold text_before in refl }

pub whole_head : (h : Head) → Whole (part_head h)
whole_head h = record { stays = λ l. unfold put in refl; apart = λ l c. unfold text_before in refl }

pub whole_target : (q : ℕ) → Whole (target_head q)
whole_target q = record { stays = λ l. unfold put in refl; apart = λ l c. unfold text_before in refl }

pub whole_item : (x : Item) → Whole (inline (item x))
unfolding put text_before
whole_item x = record { stays = stays_item; apart = apart_item }
  where
    alone : (y : Item) (l : List Record) → item_before (item y) l ≡ inline (item y) ∷ l
    alone (Character c) l = unfold item_before in refl
    alone (Standalone f) l = unfold item_before in refl
    alone (Isolated h f) l = unfold item_before in refl
    alone (Pair w h f) l = unfold item_before in refl
    alone (AnnotationStart w i t) l = unfold item_before in refl
    alone (AnnotationEnd w i) l = unfold item_before in refl

    stays_item : (l : List Record) → put (inline (item x)) l ≡ inline (item x) ∷ l
    stays_item l = alone x l

    apart_item : (l : List Record) → Apart (inline (item x) ∷ l)
    apart_item l c = refl

-- an empty table
pub collected_none : {builder : TableBuilder} → Holds builder [] [] → Collected builder []
collected_none h = record { done = []; run = []; holds = h; gathered = gathered_none }

-- one record more in it: a code point of text, any other
module _ {builder builder' : TableBuilder} where
  pub collects_code_point : {c : ℕ} → CodePointPut builder c builder'
      → Appends (text_run (c ∷ []) ∷ []) builder builder'
  unfolding CodePointPut
  collects_code_point {c} p =
      record {
        on = λ read k.
            record {
              done = k.done;
              run = k.run ++ (c ∷ []);
              holds = p k.done k.run k.holds;
              gathered = gathered_code_point k.gathered c;
            };
      }

  pub collects_record : {bytes : List ℕ} {part : Bool} {r : Record} → RecordPut builder bytes part builder' → Whole r
      → record_bytes r ≡ bytes → is_part r ≡ part → Appends (r ∷ []) builder builder'
  unfolding RecordPut
  collects_record {r = r} p w b h =
      record {
        on = λ read k.
            record {
              done = with_run k.done k.run ++ (r ∷ []);
              run = [];
              holds = p k.done k.run r k.holds b h;
              gathered = gathered_record k.gathered w;
            };
      }

  -- and in the same lent array
  pub collects_code_point_in_loan : {c : ℕ} → CodePointPut builder c builder' → SameLoan builder builder'
      → Collects (text_run (c ∷ []) ∷ []) builder builder'
  collects_code_point_in_loan p same = record { same = same; on = (collects_code_point p).on }

  pub collects_record_in_loan : {bytes : List ℕ} {part : Bool} {r : Record} → RecordPut builder bytes part builder'
      → SameLoan builder builder' → Whole r
      → record_bytes r ≡ bytes → is_part r ≡ part → Collects (r ∷ []) builder builder'
  collects_record_in_loan p same w b h = record { same = same; on = (collects_record p w b h).on }

-- no record, and some behind some
pub collects_none : {builder : TableBuilder} → Collects [] builder builder
collects_none {builder} =
    record {
      same = refl;
      on = λ read k. subst (Collected builder) (sym (append-nil read)) k;
    }

pub collects_both : {builder builder₁ builder₂ : TableBuilder} {rs qs : List Record} → Appends rs builder builder₁
    → Appends qs builder₁ builder₂ → Appends (rs ++ qs) builder builder₂
collects_both {builder₂ = builder₂} {rs = rs} {qs = qs} h k =
    record { on = λ read g. subst (Collected builder₂) (append_assoc read rs qs) (k.on (read ++ rs) (h.on read g)) }

-- and in the same lent array
pub collects_both_in_loan : {builder builder₁ builder₂ : TableBuilder} {rs qs : List Record}
    → Collects rs builder builder₁ → Collects qs builder₁ builder₂ → Collects (rs ++ qs) builder builder₂
collects_both_in_loan h k =
    record {
      same = k.same ∙ h.same;
      on = (collects_both (record { on = h.on }) (record { on = k.on })).on;
    }
