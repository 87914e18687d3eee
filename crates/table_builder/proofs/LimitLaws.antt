-- The sizes of records, and whether records are beyond a limit of a table.
use Prim.Native.Nat.{ℕ, ◌+◌, ◌-◌, ◌≤◌}
use mathlib.Core.Path.{◌≡◌, refl, sym, ap, ap₂, ◌∙◌}
use mathlib.Core.Bool.{Bool, true, false, ◌&&◌, ◌||◌, cond, true≢false}
use mathlib.Core.List.{List, [], ◌∷◌, ◌++◌, append-nil}
use native.Mathlib.Omega.{arith}
use lib.ListN.{length, length-append}
use lib.Dec.{eqb, ltb}
use borrow.Author.Tests.{ltb-true, ltb-false, lt-ltb, le-ltb, eqb-true, eqb-false}
use Rattle.xliff.specs.Bytes.{gather}
use Rattle.xliff.specs.Unit.{XliffUnit}
use Rattle.xliff.specs.Encode.{Record, record_bytes, unit_records, spell, encode}
use Rattle.xliff.specs.Parse.{is_part, most_bytes, most_records, most_parts}
use Rattle.xliff.specs.Good.{part_heads}
use Rattle.xliff.proofs.lists.Tests.{or_left, or_right, or_both, or_none}
use Rattle.xliff.proofs.unit.Pieces.{spell_append}
use Rattle.xliff.proofs.unit.Valid.{heads_append, heads_unit}
use Rattle.table_builder.specs.Building.{run_records, with_run, past_limits}

-- the sizes of records with one more
pub spell_more : (rs : List Record) (r : Record) → spell (rs ++ (r ∷ [])) ≡ spell rs ++ record_bytes r
unfolding spell gather
spell_more rs r = spell_append rs (r ∷ []) ∙ ap (λ (l : List ℕ). spell rs ++ l) (append-nil (record_bytes r))

pub spell_size : (rs : List Record) (r : Record)
    → length (spell (rs ++ (r ∷ []))) ≡ length (spell rs) + length (record_bytes r)
spell_size rs r = ap length (spell_more rs r) ∙ length-append (spell rs) (record_bytes r)

pub count_more : (rs : List Record) (r : Record) → part_heads (rs ++ (r ∷ [])) ≡ part_heads rs + cond (is_part r) 1 0
unfolding part_heads
count_more rs r = omega (arith, heads_append rs (r ∷ []))

-- the records of a unit are beyond a limit exactly if the unit is, as 15 tells it
pub past_unit : (u : XliffUnit) → past_limits (unit_records u)
    ≡ ltb most_bytes (length (encode u)) || (ltb most_records (length (unit_records u)) || ltb most_parts (length u.parts))
unfolding past_limits encode
past_unit u =
    let records = unit_records u in
    ap (λ (n : ℕ). ltb most_bytes (length (spell records)) || (ltb most_records (length records) || ltb most_parts n))
    (heads_unit u)

pub no_run : (rs : List Record) → with_run rs [] ≡ rs
unfolding with_run run_records
no_run rs = append-nil rs

-- whether a limit is passed by some more, told by what is left
beyond_bytes : (used n : ℕ) → used ≤ most_bytes → ltb most_bytes (used + n) ≡ ltb (most_bytes - used) n
beyond_bytes used n h = by (ltb (most_bytes - used) n) refl
  where
    by : (b : Bool) → ltb (most_bytes - used) n ≡ b → ltb most_bytes (used + n) ≡ b
    by true e = lt-ltb most_bytes (used + n) (omega (arith, ltb-true (most_bytes - used) n e))
    by false e = le-ltb most_bytes (used + n) (omega (arith, ltb-false (most_bytes - used) n e))

beyond_one : (limit k : ℕ) → k ≤ limit → ltb limit (k + 1) ≡ eqb k limit
beyond_one limit k h = by (eqb k limit) refl
  where
    by : (b : Bool) → eqb k limit ≡ b → ltb limit (k + 1) ≡ b
    by true e = lt-ltb limit (k + 1) (omega (arith, eqb-true k limit e))
    by false e = let apart = eqb-false k limit e in le-ltb limit (k + 1) (omega arith)

beyond_if : (part : Bool) (limit k : ℕ) → k ≤ limit → ltb limit (k + cond part 1 0) ≡ part && eqb k limit
beyond_if true limit k h = beyond_one limit k h
beyond_if false limit k h = le-ltb limit (k + 0) (omega arith)

-- within the limits
pub record Small (rs : List Record) : Type 0 where
  pub bytes : length (spell rs) ≤ most_bytes
  pub records : length rs ≤ most_records
  pub parts : part_heads rs ≤ most_parts

pub small : (rs : List Record) → past_limits rs ≡ false → Small rs
unfolding past_limits
small rs e =
    let a : Bool = ltb most_bytes (length (spell rs)) in
    let b : Bool = ltb most_records (length rs) in
    let c : Bool = ltb most_parts (part_heads rs) in
    let others : b || c ≡ false = or_right a (b || c) e in
    record {
      bytes = ltb-false most_bytes (length (spell rs)) (or_left a (b || c) e);
      records = ltb-false most_records (length rs) (or_left b c others);
      parts = ltb-false most_parts (part_heads rs) (or_right b c others);
    }

pub small_within : (rs : List Record) → Small rs → past_limits rs ≡ false
unfolding past_limits
small_within rs k =
    or_both (ltb most_bytes (length (spell rs))) (ltb most_records (length rs) || ltb most_parts (part_heads rs))
    (le-ltb most_bytes (length (spell rs)) k.bytes)
    (or_both (ltb most_records (length rs)) (ltb most_parts (part_heads rs))
    (le-ltb most_records (length rs) k.records) (le-ltb most_parts (part_heads rs) k.parts))

-- whether one record more is beyond a limit
pub past_one_more : (rs : List Record) (r : Record) → Small rs
    → past_limits (rs ++ (r ∷ []))
    ≡ ltb (most_bytes - length (spell rs)) (length (record_bytes r))
    || (eqb (length rs) most_records || is_part r && eqb (part_heads rs) most_parts)
unfolding past_limits
past_one_more rs r k =
    ap₂ ◌||◌
    (ap (ltb most_bytes) (spell_size rs r) ∙ beyond_bytes (length (spell rs)) (length (record_bytes r)) k.bytes)
    (ap₂ ◌||◌ (ap (ltb most_records) (length-append rs (r ∷ [])) ∙ beyond_one most_records (length rs) k.records)
    (ap (ltb most_parts) (count_more rs r) ∙ beyond_if (is_part r) most_parts (part_heads rs) k.parts))

-- records with some bytes more, as many records and parts
pub record Stretched (rs qs : List Record) (n : ℕ) : Type 0 where
  pub bytes : length (spell qs) ≡ length (spell rs) + n
  pub records : length qs ≡ length rs
  pub parts : part_heads qs ≡ part_heads rs

-- they are beyond a limit if the bytes are
pub past_stretched : (rs qs : List Record) (n : ℕ) → Stretched rs qs n → Small rs
    → past_limits qs ≡ ltb (most_bytes - length (spell rs)) n
unfolding past_limits
past_stretched rs qs n s k =
    ap₂ ◌||◌ (ap (ltb most_bytes) s.bytes ∙ beyond_bytes (length (spell rs)) n k.bytes)
    (or_both (ltb most_records (length qs)) (ltb most_parts (part_heads qs))
    (le-ltb most_records (length qs) (omega (arith, s.records, k.records)))
    (le-ltb most_parts (part_heads qs) (omega (arith, s.parts, k.parts))))
    ∙ or_none (ltb (most_bytes - length (spell rs)) n)

-- a limit that fewer pass is passed by more
pub record Larger (rs qs : List Record) : Type 0 where
  pub bytes : length (spell rs) ≤ length (spell qs)
  pub records : length rs ≤ length qs
  pub parts : part_heads rs ≤ part_heads qs

pub past_stays : (rs qs : List Record) → Larger rs qs → past_limits rs ≡ true → past_limits qs ≡ true
past_stays rs qs l e = by (past_limits qs) refl
  where
    by : (b : Bool) → past_limits qs ≡ b → b ≡ true
    by true f = refl
    by false f =
        let k = small qs f in
        let smaller : Small rs =
        record {
          bytes = omega (arith, l.bytes, k.bytes);
          records = omega (arith, l.records, k.records);
          parts = omega (arith, l.parts, k.parts);
        } in
        absurd (true≢false (sym e ∙ small_within rs smaller))

pub one_larger : (rs : List Record) (r : Record) → Larger rs (rs ++ (r ∷ []))
one_larger rs r =
    record {
      bytes = omega (arith, spell_size rs r);
      records = omega (arith, length-append rs (r ∷ []));
      parts = omega (arith, count_more rs r);
    }

pub stretched_larger : (rs qs : List Record) (n : ℕ) → Stretched rs qs n → Larger rs qs
stretched_larger rs qs n s =
    record {
      bytes = omega (arith, s.bytes);
      records = omega (arith, s.records);
      parts = omega (arith, s.parts);
    }
