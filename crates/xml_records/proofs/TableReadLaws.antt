-- What the table is once the text is read: that of the unit, or beyond a limit as that is.
use Prim.Native.Nat.{ℕ}
use mathlib.Core.Path.{◌≡◌, sym, ap, ◌∙◌}
use mathlib.Core.Bool.{Bool, true, false, ◌||◌}
use mathlib.Core.List.{List}
use lib.ListN.{length, take}
use lib.Dec.{ltb}
use Rattle.xliff.specs.Unit.{XliffUnit}
use Rattle.xliff.specs.Encode.{Record, unit_records, spell, encode}
use Rattle.xliff.specs.Check.{too_large}
use Rattle.xliff.proofs.lists.Tests.{or-true, or_none}
use Rattle.xml.specs.Elements.{read, xml_records, unit_of_records}
use Rattle.xml.proofs.TableLaws.{records_read}
use Rattle.table_builder.specs.declared.TableBuilder.{TableBuilder}
use Rattle.table_builder.specs.Building.{with_run, past_limits}
use Rattle.table_builder.proofs.LimitLaws.{past_unit}
use Rattle.xml_records.specs.Collecting.{Collected}
use Rattle.xml_records.proofs.CollectLaws.{gathered_all}

-- the table that is built is the unit's, and only an output too short makes it too large
pub record TableOf (u : XliffUnit) (builder : TableBuilder) : Type 0 where
  pub long : builder.used ≡ length (encode u)
  pub bytes : take builder.used builder.table.now ≡ encode u
  pub large : (room : ℕ) → too_large room u ≡ ltb room builder.used

module _ (s : List ℕ) {rs : List Record} (e : xml_records s ≡ read rs) {builder : TableBuilder}
    (k : Collected builder rs) where
  -- the records that it holds are those of the unit
  held_unit : with_run k.done k.run ≡ unit_records (unit_of_records rs)
  held_unit = sym (gathered_all k.gathered) ∙ sym (records_read s rs e)

  past_read : builder.over ≡ past_limits (unit_records (unit_of_records rs))
  past_read = k.holds.told ∙ ap past_limits held_unit

  -- 15 is the room, or else a limit
  large_read : (room : ℕ) → too_large room (unit_of_records rs) ≡ ltb room (length (encode (unit_of_records rs))) || builder.over
  unfolding too_large
  large_read room =
      ap (λ (b : Bool). ltb room (length (encode (unit_of_records rs))) || b) (sym (past_unit (unit_of_records rs)) ∙ sym past_read)

  pub read_beyond : builder.over ≡ true → (room : ℕ) → too_large room (unit_of_records rs) ≡ true
  read_beyond h room =
      let short : Bool = ltb room (length (encode (unit_of_records rs))) in
      large_read room ∙ ap (λ (b : Bool). short || b) h ∙ or-true short

  pub read_within : builder.over ≡ false → TableOf (unit_of_records rs) builder
  unfolding encode
  read_within h =
      let within = k.holds.within h in
      let long : builder.used ≡ length (encode (unit_of_records rs)) =
      within.used ∙ ap (λ (l : List Record). length (spell l)) held_unit in
      record {
        long = long;
        bytes = within.bytes ∙ ap spell held_unit;
        large = λ room.
            let short : Bool = ltb room (length (encode (unit_of_records rs))) in
            large_read room ∙ ap (λ (b : Bool). short || b) h ∙ or_none short ∙ ap (ltb room) (sym long);
      }
