-- What a table holds, and a record put behind it.
use Prim.Native.Nat.{ℕ, ◌+◌, ◌-◌, ◌≤◌}
use mathlib.Core.Path.{◌≡◌, refl, sym, ap, subst, ◌∙◌}
use mathlib.Core.Bool.{Bool, true, false, ◌&&◌, ◌||◌, cond, true≢false}
use mathlib.Core.List.{List, [], ◌∷◌, ◌++◌}
use native.Mathlib.Omega.{arith}
use lib.ListN.{length, take, drop, length-append, length-drop}
use lib.Seq.{length-take-le, take-append_seam, take-append-add}
use lib.Dec.{eqb, ltb}
use borrow.Author.Tests.{ltb-false}
use Rattle.xliff.specs.Bytes.{gather}
use Rattle.xliff.specs.Text.{utf8s}
use Rattle.xliff.specs.Encode.{Record, record_bytes, spell}
use Rattle.xliff.specs.Good.{part_heads}
use Rattle.xliff.specs.Parse.{is_part, most_bytes, most_records, most_parts}
use Rattle.xliff.proofs.lists.Tests.{or_left}
use Rattle.writer.specs.Pieces.{lead}
use Rattle.writer.proofs.PieceLaws.{lead_length}
use Rattle.table_builder.specs.declared.TableBuilder.{TableBuilder}
use Rattle.table_builder.specs.Building.{run_records, with_run, past_limits, Holds}
use Rattle.table_builder.proofs.LimitLaws.{spell_more, spell_size, count_more, no_run, Small, small, past_one_more}
use Rattle.table_builder.proofs.LimitLaws.{Larger, past_stays, one_larger}

-- nothing is held as yet
pub empty : {builder : TableBuilder} → builder.used ≡ 0 → builder.records ≡ 0 → builder.parts ≡ 0 → builder.text ≡ 0
    → builder.over ≡ false → Holds builder [] []
unfolding with_run run_records past_limits spell gather part_heads utf8s
empty {builder} used records parts text free =
    record {
      told = free;
      within = λ e.
          record {
            used = used;
            bytes = ap (λ (k : ℕ). take k builder.table.now) used;
            records = records;
            parts = parts;
            text = text;
          };
    }

module _ {builder : TableBuilder} {done : List Record} {run : List ℕ} (held : Holds builder done run) where
  pub held_small : builder.over ≡ false → Small (with_run done run)
  held_small free = small (with_run done run) (sym held.told ∙ free)

-- beyond a limit only that is told; and it stays so
pub passed : {builder : TableBuilder} {done : List Record} {run : List ℕ} → past_limits (with_run done run) ≡ true
    → builder.over ≡ true → Holds builder done run
passed past e = record { told = e ∙ sym past; within = λ f. absurd (true≢false (sym e ∙ f)) }

pub still_passed : {builder : TableBuilder} {done : List Record} {run : List ℕ} → Holds builder done run → builder.over ≡ true
    → (done' : List Record) (run' : List ℕ) → Larger (with_run done run) (with_run done' run') → Holds builder done' run'
still_passed {done = done} {run = run} held e done' run' l =
    passed (past_stays (with_run done run) (with_run done' run') l (sym held.told ∙ e)) e

-- the bytes of a table and behind them those of a record
bytes_behind : (t s p last : List ℕ) (used : ℕ) → used ≡ length s → take used t ≡ s
    → last ≡ take used t ++ lead p (drop used t)
    → take (used + length p) last ≡ s ++ p
bytes_behind t s p last used e f g =
    rw (g, f, e, take-append-add)
    (ap (λ (l : List ℕ). s ++ l) (take-append_seam p (drop (length p) (drop (length s) t))))

-- a record behind what is held
module _ {builder : TableBuilder} {done : List Record} {run : List ℕ} (held : Holds builder done run) (r : Record) where
  abbrev all : List Record
  all = with_run done run

  abbrev more : List Record
  more = with_run (all ++ (r ∷ [])) []

  pub record_beyond : builder.over ≡ true → Holds builder (all ++ (r ∷ [])) []
  record_beyond e =
      still_passed held e (all ++ (r ∷ [])) [] (subst (Larger all) (sym (no_run (all ++ (r ∷ [])))) (one_larger all r))

  module _ (free : builder.over ≡ false) {bytes : List ℕ} {part : Bool} (spelled : record_bytes r ≡ bytes)
      (heads : is_part r ≡ part) where
    -- the test that the code makes
    abbrev past : Bool
    past =
        ltb (most_bytes - builder.used) (length bytes)
        || (eqb builder.records most_records || part && eqb builder.parts most_parts)

    past_told : past_limits more ≡ past
    past_told =
        let w = held.within free in
        ap past_limits (no_run (all ++ (r ∷ []))) ∙ past_one_more all r (held_small held free)
        ∙ rw (spelled, heads, w.used, w.records, w.parts) refl

    pub record_passes : {builder' : TableBuilder} → past ≡ true → builder'.over ≡ true → Holds builder' (all ++ (r ∷ [])) []
    record_passes test e = passed (past_told ∙ test) e

    more_size : length (spell more) ≡ builder.used + length bytes
    more_size =
        ap (λ (q : List Record). length (spell q)) (no_run (all ++ (r ∷ []))) ∙ spell_size all r
        ∙ rw (spelled, (held.within free).used) refl

    -- within the limits the record's bytes stand behind the others
    pub record_behind : {builder' : TableBuilder} → past ≡ false → builder'.over ≡ false
        → builder'.used ≡ builder.used + length bytes
        → builder'.records ≡ builder.records + 1 → builder'.parts ≡ builder.parts + cond part 1 0 → builder'.text ≡ 0
        → builder'.table.now ≡ take builder.used builder.table.now ++ lead bytes (drop builder.used builder.table.now)
        → Holds builder' (all ++ (r ∷ [])) []
    record_behind {builder'} test free' used records parts text last =
        let w = held.within free in
        let same = no_run (all ++ (r ∷ [])) in
        record {
          told = free' ∙ sym (past_told ∙ test);
          within = λ f.
              record {
                used = used ∙ sym more_size;
                bytes = ap (λ (k : ℕ). take k builder'.table.now) used
                    ∙ bytes_behind builder.table.now (spell all) bytes builder'.table.now builder.used w.used w.bytes last
                    ∙ sym (ap spell same ∙ spell_more all r ∙ ap (λ (q : List ℕ). spell all ++ q) spelled);
                records = records ∙ sym (ap length same ∙ length-append all (r ∷ []) ∙ rw w.records refl);
                parts = parts ∙ sym (ap part_heads same ∙ count_more all r ∙ rw (heads, w.parts) refl);
                text = text ∙ (unfold utf8s gather in refl);
              };
        }
