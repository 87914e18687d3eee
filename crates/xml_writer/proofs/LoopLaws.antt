-- The walk over the records of a table: what is written, and what is left.
use Prim.Native.Nat.{ℕ, ◌+◌, ◌<◌, ◌≤◌}
use mathlib.Core.Path.{◌≡◌, refl, sym, ap, ◌∙◌, subst}
use mathlib.Core.List.{List, [], ◌∷◌, ◌++◌, append_assoc, append-nil}
use native.Mathlib.Omega.{arith}
use lib.ListN.{length, drop}
use Rattle.xliff.specs.Encode as encode
use Rattle.xliff.specs.Encode.{unit_records, record_bytes}
use Rattle.xliff.specs.Parse.{unit}
use Rattle.xliff.specs.Good.{Each, each_cons}
use Rattle.places.specs.Offsets.{At}
use Rattle.places.specs.Passes.{Passes}
use Rattle.places.proofs.Places.{at_start, at_next, at_end}
use Rattle.table.specs.Known.{Known}
use Rattle.table.specs.Meaning.{meaning, width}
use Rattle.table.specs.declared.Record.TheVariants.{Unit as UnitStart, UnitEnd, Segment, Ignorable, Target, Text, Inline}
use Rattle.table.specs.declared.Read.{Read}
use Rattle.table.specs.declared.Read.TheVariants.{Good, Ill, Broken}
use Rattle.orders.proofs.WalkLaws.{stepped}
use Rattle.draft.specs.declared.Draft.{Draft}
use Rattle.draft.specs.Drafts.{Wrote}
use Rattle.draft.proofs.DraftLaws.{wrote_nothing, wrote_then, wrote_as}
use Rattle.xml.specs.Write.{unit_text}
use Rattle.xml_writer.specs.declared.Open.{Open}
use Rattle.xml_writer.specs.declared.Open.TheVariants.{Between}
use Rattle.xml_writer.specs.Records.{open_behind, open_read, record_text, records_text, SmallRecord, Stands, WroteRecord, read_there}
use Rattle.xml_writer.proofs.UnitLaws.{unit_written}
use Rattle.xml_writer.proofs.SmallLaws.{small_unit}

-- what is open behind what was read
pub open_read_lem : (cs : List ℕ) (o : Open) (r : Read) → open_read o r ≡ open_behind o (meaning cs r)
unfolding open_behind
open_read_lem cs o (Good (UnitStart u) w) = refl
open_read_lem cs o (Good UnitEnd w) = refl
open_read_lem cs o (Good (Segment f) w) = refl
open_read_lem cs o (Good (Ignorable i) w) = refl
open_read_lem cs o (Good (Target q) w) = refl
open_read_lem cs o (Good Text w) = refl
open_read_lem cs o (Good (Inline i) w) = refl
open_read_lem cs o Ill = refl
open_read_lem cs o (Broken b) = refl

-- so far is written, and the rest of the records gives the rest of the unit's text
pub record Told (t : List ℕ) (begun : Draft) (at : ℕ) (o : Open) (behind : Draft) : Type 0 where
  pub done : List ℕ
  pub rest : List encode.Record
  pub there : At t at rest
  pub small : Each SmallRecord rest
  pub wrote : Wrote done begun behind
  pub all : done ++ records_text o rest ≡ unit_text (unit t)

pub told_start : (t : List ℕ) (draft : Draft) → Passes t → Told t draft 0 Between draft
told_start t draft p =
    record {
      done = [];
      rest = unit_records (unit t);
      there = at_start t p;
      small = small_unit (unit t) p.good_parts;
      wrote = wrote_nothing;
      all = unit_written (unit t);
    }

each_apart : {r : encode.Record} {rs : List encode.Record} → Each SmallRecord (r ∷ rs) → SmallRecord r × Each SmallRecord rs
each_apart (each_cons a e) = (a, e)

module _ (t : List ℕ) (begun : Draft) (at : ℕ) (o : Open) (behind : Draft)
    (l : Told t begun at o behind)
  where
    pub told_end : length t ≤ at → Wrote (unit_text (unit t)) begun behind
    unfolding records_text
    told_end h =
        let e = at_end t at l.rest l.there h in
        wrote_as (sym (append-nil l.done) ∙ sym (ap (λ (rs : List encode.Record). l.done ++ records_text o rs) e)
        ∙ l.all) l.wrote

    module _ (h : at < length t) (r : Read) (k : Known (drop at t) r) where
      pub told_stands : Stands t at (read_there t at r) (width r)
      told_stands =
          let s = stepped t at l.rest r l.there h k in
          let small = each_apart (subst (Each SmallRecord) s.split l.small) in
          let same = sym s.means in (
            s.others,
            subst (λ (x : encode.Record). At t at (x ∷ s.others)) same (subst (At t at) s.split l.there),
            subst SmallRecord same small.0,
            s.wide ∙ ap (λ (x : encode.Record). length (record_bytes x)) same,
          )

      pub told_moves : 0 < width r
      told_moves = (stepped t at l.rest r l.there h k).moves

      pub told_fits : at + width r ≤ length t
      told_fits = (stepped t at l.rest r l.there h k).fits

      pub told_on : (behind' : Draft) (o' : Open) → WroteRecord t at o (read_there t at r) behind behind'
          → o' ≡ open_read o r → Told t begun (at + width r) o' behind'
      unfolding records_text
      told_on behind' o' w e =
          let s = stepped t at l.rest r l.there h k in
          let (rs, a, m, n) = told_stands in
          let piece = record_text o (read_there t at r) s.others in
          let split = s.split ∙ ap (λ (x : encode.Record). x ∷ s.others) (sym s.means) in
          let shown = ap (λ (x : Open). records_text x s.others) (e ∙ open_read_lem _ o r) in
          record {
            done = l.done ++ piece;
            rest = s.others;
            there = s.rest;
            small = (each_apart (subst (Each SmallRecord) s.split l.small)).1;
            wrote = wrote_then l.wrote (w s.others (subst (At t at) split l.there));
            all = append_assoc l.done piece (records_text o' s.others)
                ∙ ap (λ (x : List ℕ). l.done ++ (piece ++ x)) shown
                ∙ sym (ap (λ (x : List encode.Record). l.done ++ records_text o x) split) ∙ l.all;
          }

-- behind a record whose width is known the next ones stand
pub record Behind (t : List ℕ) (at w : ℕ) (rs : List encode.Record) : Type 0 where
  pub fits : at + w ≤ length t
  pub then : At t (at + w) rs

pub behind_record : (t : List ℕ) (at : ℕ) (r : encode.Record) (w : ℕ) (rs : List encode.Record) → At t at (r ∷ rs)
    → w ≡ length (record_bytes r)
    → Behind t at w rs
behind_record t at r w rs a e =
    let n = at_next t at r rs a in
    record { fits = omega (arith, n.fits); then = subst (λ (k : ℕ). At t (at + k) rs) (sym e) n.then }
