-- The order of a target that is its part's position.
use Prim.Native.Nat.{ℕ, ◌≤◌}
use mathlib.Core.Path.{◌≡◌, refl, ap, ◌∙◌}
use mathlib.Core.Bool.{Bool, true, false}
use mathlib.Core.List.{List, [], ◌∷◌}
use native.Mathlib.Omega.{arith}
use Rattle.xliff.specs.Item.{Item, text, character, standalone, isolated, pair, annotation_start, annotation_end}
use Rattle.xliff.specs.Encode.{Record, opening, closing, part_head, target_head, text_run, inline, ill_text, broken, record_bytes, item_before}
use Rattle.xliff.specs.Good.{part_heads}
use Rattle.xliff.specs.Parse.{is_part, most_parts}
use Rattle.xml.proofs.MergeLaws.{texts_before, put, merged}
use Rattle.xliff.proofs.unit.Valid.{heads_text}
use Rattle.table_builder.specs.declared.TableBuilder.{TableBuilder}
use Rattle.table_builder.specs.Building.{RecordPut}
use Rattle.table_builder.proofs.RecordLaws.{held_small, record_beyond}
use Rattle.xml_records.specs.Collecting.{Collects}
use Rattle.xml_records.proofs.CollectLaws.{gathered_all, whole_target, collects_record_in_loan}
use Rattle.xml_part.specs.Parts.{CollectingAt}

-- records put together have the heads of parts that they had
heads_texts : (cs : List ℕ) (rs : List Record) → part_heads (texts_before cs rs) ≡ part_heads rs
unfolding texts_before
heads_texts [] rs = refl
heads_texts (c ∷ cs) rs = heads_text c (texts_before cs rs) ∙ heads_texts cs rs

heads_item : (x : Item) (rs : List Record) → part_heads (item_before x rs) ≡ part_heads rs
unfolding part_heads item_before is_part
heads_item (text c) rs = heads_text c rs
heads_item (character c) rs = omega arith
heads_item (standalone f) rs = omega arith
heads_item (isolated h f) rs = omega arith
heads_item (pair h w f) rs = omega arith
heads_item (annotation_start w i t) rs = omega arith
heads_item (annotation_end w i) rs = omega arith

heads_put : (r : Record) (rs : List Record) → part_heads (put r rs) ≡ part_heads (r ∷ rs)
unfolding part_heads put is_part
heads_put (opening c) rs = refl
heads_put closing rs = refl
heads_put (part_head h) rs = refl
heads_put (target_head q) rs = refl
heads_put (text_run cs) rs = omega (arith, heads_texts cs rs)
heads_put (inline x) rs = omega (arith, heads_item x rs)
heads_put ill_text rs = refl
heads_put (broken b) rs = refl

heads_merged : (rs : List Record) → part_heads (merged rs) ≡ part_heads rs
unfolding part_heads merged
heads_merged [] = refl
heads_merged (r ∷ rs) = heads_put r (merged rs) ∙ omega (arith, heads_merged rs)

module _ {position : ℕ} {builder : TableBuilder} (k : CollectingAt position builder) where
  -- within the limits of a table a position is small
  pub position_small : builder.over ≡ false → position ≤ most_parts
  position_small free =
      let held = k.collected in
      omega (
        arith,
        (held_small held.holds free).parts,
        ap part_heads (gathered_all held.gathered),
        heads_merged k.before,
        k.counted,
      )

-- beyond them any record may be said to be put
put_beyond : (builder : TableBuilder) (bytes : List ℕ) (part : Bool) → builder.over ≡ true → RecordPut builder bytes part builder
unfolding RecordPut
put_beyond builder bytes part over done run r held b h = record_beyond held r over

pub beyond_collects : {builder : TableBuilder} (q : ℕ) → builder.over ≡ true → Collects (target_head q ∷ []) builder builder
beyond_collects {builder} q over =
    collects_record_in_loan (put_beyond builder (record_bytes (target_head q)) (is_part (target_head q)) over) refl
    (whole_target q) refl refl
