-- A code point put into the open run of text, or into a new one.
use Prim.Native.Nat.{ℕ, ◌+◌, ◌-◌, ◌<◌, ◌≤◌}
use mathlib.Core.Path.{◌≡◌, refl, sym, ap, ap₂, subst, ◌∙◌}
use mathlib.Core.Bool.{true, false}
use mathlib.Core.List.{List, [], ◌∷◌, ◌++◌, append_assoc, append-nil}
use native.Mathlib.Omega.{arith}
use lib.ListN.{length, take, drop, length-append, take-append-drop}
use lib.Seq.{take-append_seam, drop-append_seam, drop-append-add}
use lib.Dec.{ltb}
use borrow.Author.Tests.{lt-ltb, le-ltb}
use Rattle.xliff.specs.Bytes.{'T', 'X', two, gather}
use Rattle.xliff.specs.Text.{utf8, utf8s}
use Rattle.xliff.specs.Encode.{Record, text_run, record_bytes, spell}
use Rattle.xliff.specs.Good.{part_heads}
use Rattle.xliff.specs.Parse.{is_part, most_bytes}
use Rattle.xliff.proofs.lists.Tests.{gather_append}
use Rattle.xliff.proofs.text.Utf8.{utf8s_nonempty}
use Rattle.writer.specs.Pieces.{lead, overlay, number_bytes}
use Rattle.writer.proofs.PieceLaws.{lead_length, over_lead}
use Rattle.table_builder.specs.declared.TableBuilder.{TableBuilder}
use Rattle.table_builder.specs.Building.{run_records, with_run, past_limits, Holds}
use Rattle.table_builder.proofs.LimitLaws.{spell_more, count_more, no_run, Stretched, past_stretched}
use Rattle.table_builder.proofs.LimitLaws.{Larger, one_larger, stretched_larger}
use Rattle.table_builder.proofs.RecordLaws.{held_small, passed, still_passed}

-- the bytes of one code point, and of a run with one more
utf8s_one : (c : ℕ) → utf8s (c ∷ []) ≡ utf8 c
unfolding utf8s gather
utf8s_one c = append-nil (utf8 c)

utf8s_more : (run : List ℕ) (c : ℕ) → utf8s (run ++ (c ∷ [])) ≡ utf8s run ++ utf8 c
unfolding utf8s
utf8s_more run c = gather_append utf8 run (c ∷ []) ∙ ap (λ (l : List ℕ). utf8s run ++ l) (utf8s_one c)

utf8s_size : (run : List ℕ) (c : ℕ) → length (utf8s (run ++ (c ∷ []))) ≡ length (utf8s run) + length (utf8 c)
utf8s_size run c = ap length (utf8s_more run c) ∙ length-append (utf8s run) (utf8 c)

-- the record of an open run, and with one code point more
with_open : (done : List Record) (run : List ℕ) → 1 ≤ length (utf8s run) → with_run done run ≡ done ++ (text_run run ∷ [])
unfolding with_run run_records utf8s gather
with_open done [] h = absurd (omega arith)
with_open done (d ∷ ds) h = refl

with_more : (done : List Record) (run : List ℕ) (c : ℕ)
    → with_run done (run ++ (c ∷ [])) ≡ done ++ (text_run (run ++ (c ∷ [])) ∷ [])
unfolding with_run run_records
with_more done [] c = refl
with_more done (d ∷ ds) c = refl

-- the bytes before the length of the text that stands last, and all bytes
marked : List Record → List ℕ
marked done = spell done ++ ('T' ∷ 'X' ∷ [])

marked_size : (done : List Record) → length (marked done) ≡ length (spell done) + 2
unfolding marked
marked_size done = length-append (spell done) ('T' ∷ 'X' ∷ [])

text_spelled : (done : List Record) (run : List ℕ)
    → spell (done ++ (text_run run ∷ [])) ≡ marked done ++ (two (length (utf8s run)) ++ utf8s run)
unfolding marked record_bytes
text_spelled done run =
    spell_more done (text_run run)
    ∙ sym (append_assoc (spell done) ('T' ∷ 'X' ∷ []) (two (length (utf8s run)) ++ utf8s run))

-- a run with one code point more: as many records and parts
module _ (done : List Record) (run : List ℕ) (c : ℕ) (opened : 1 ≤ length (utf8s run)) where
  abbrev now_all : List Record
  now_all = with_run done run

  abbrev more_all : List Record
  more_all = with_run done (run ++ (c ∷ []))

  abbrev long : ℕ
  long = length (utf8s run) + length (utf8 c)

  now_spelled : spell now_all ≡ marked done ++ (two (length (utf8s run)) ++ utf8s run)
  now_spelled = ap spell (with_open done run opened) ∙ text_spelled done run

  more_spelled : spell more_all ≡ marked done ++ (two long ++ (utf8s run ++ utf8 c))
  more_spelled =
      ap spell (with_more done run c) ∙ text_spelled done (run ++ (c ∷ []))
      ∙ ap₂ (λ (n : ℕ) (l : List ℕ). marked done ++ (two n ++ l)) (utf8s_size run c) (utf8s_more run c)

  now_size : length (spell now_all) ≡ length (marked done) + (2 + length (utf8s run))
  unfolding two
  now_size = omega (arith, ap length now_spelled, length-append (marked done) (two (length (utf8s run)) ++ utf8s run))

  stretched : Stretched now_all more_all (length (utf8 c))
  unfolding two is_part
  stretched =
      let open_is = with_open done run opened in
      let more_is = with_more done run c in
      record {
        bytes = omega (
          arith,
          now_size,
          ap length more_spelled,
          length-append (marked done) (two long ++ (utf8s run ++ utf8 c)),
          length-append (utf8s run) (utf8 c),
        );
        records = omega (
          arith,
          ap length open_is,
          ap length more_is,
          length-append done (text_run run ∷ []),
          length-append done (text_run (run ++ (c ∷ [])) ∷ []),
        );
        parts = ap part_heads more_is ∙ count_more done (text_run (run ++ (c ∷ [])))
            ∙ sym (ap part_heads open_is ∙ count_more done (text_run run));
      }

-- what was beyond a limit stays so
run_larger : (done : List Record) (run : List ℕ) (c : ℕ) → Larger (with_run done run) (with_run done (run ++ (c ∷ [])))
run_larger done [] c =
    subst (λ (q : List Record). Larger q (with_run done (c ∷ []))) (sym (no_run done))
    (subst (Larger done) (sym (with_more done [] c)) (one_larger done (text_run (c ∷ []))))
run_larger done (d ∷ ds) c =
    stretched_larger (with_run done (d ∷ ds)) (with_run done ((d ∷ ds) ++ (c ∷ []))) (length (utf8 c))
    (stretched done (d ∷ ds) c (utf8s_nonempty d ds))

pub text_beyond : {builder : TableBuilder} {done : List Record} {run : List ℕ} → Holds builder done run → builder.over ≡ true
    → (c : ℕ) → Holds builder done (run ++ (c ∷ []))
text_beyond {done = done} {run = run} held e c = still_passed held e done (run ++ (c ∷ [])) (run_larger done run c)

-- the record of one code point: its mark, its length, its text
first_spelled : (c : ℕ) → record_bytes (text_run (c ∷ [])) ≡ ('T' ∷ 'X' ∷ []) ++ two (length (utf8 c)) ++ utf8 c
unfolding record_bytes two
first_spelled c = ap (λ (x : List ℕ). ('T' ∷ 'X' ∷ []) ++ two (length x) ++ x) (utf8s_one c)

-- in a scratch
pub first_wrote : (c wide : ℕ) (o a b l : List ℕ) (length_at text_at end : ℕ) → wide ≡ length (utf8 c)
    → length_at ≡ 2
    → a ≡ overlay o 0 ('T' ∷ 'X' ∷ [])
    → text_at ≡ length_at + 2
    → b ≡ overlay a length_at (number_bytes wide)
    → end ≡ text_at + length (utf8 c)
    → l ≡ overlay b text_at (utf8 c)
    → record_bytes (text_run (c ∷ [])) ≡ take end l
unfolding two
first_wrote c wide o a b l length_at text_at end w k2 ea k4 eb ke el =
    let mark : List ℕ = 'T' ∷ 'X' ∷ [] in
    let size : List ℕ = number_bytes wide in
    let two_pieces = eb ∙ over_lead o mark size a length_at ea k2 in
    let three = el ∙ over_lead o (mark ++ size) (utf8 c) b text_at two_pieces (omega arith) in
    let whole : List ℕ = mark ++ size ++ utf8 c in
    let all_of : end ≡ length whole = omega arith in
    first_spelled c ∙ ap (λ (n : ℕ). mark ++ two n ++ utf8 c) (sym w)
    ∙ sym (ap₂ take all_of three ∙ take-append_seam whole (drop (length whole) o))

-- a text of one code point is an open run
first_run : (done : List Record) (c : ℕ)
    → with_run (with_run done [] ++ (text_run (c ∷ []) ∷ [])) [] ≡ with_run done (c ∷ [])
first_run done c =
    no_run (with_run done [] ++ (text_run (c ∷ []) ∷ []))
    ∙ ap (λ (q : List Record). q ++ (text_run (c ∷ []) ∷ [])) (no_run done)
    ∙ sym (with_more done [] c)

-- the record is put by `put`, and then its text counts, unless a limit is passed
module _ {put : TableBuilder} (done : List Record) (run : List ℕ) (c : ℕ) (closed : length (utf8s run) ≡ 0)
    (held : Holds put (with_run done run ++ (text_run (c ∷ []) ∷ [])) []) where
  same_records : with_run (with_run done run ++ (text_run (c ∷ []) ∷ [])) [] ≡ with_run done (run ++ (c ∷ []))
  same_records = by run closed
    where
      by : (q : List ℕ) → length (utf8s q) ≡ 0
          → with_run (with_run done q ++ (text_run (c ∷ []) ∷ [])) [] ≡ with_run done (q ++ (c ∷ []))
      by [] e = first_run done c
      by (d ∷ ds) e = absurd (omega (arith, e, utf8s_nonempty d ds))

  no_text : utf8s run ≡ []
  no_text = by run closed
    where
      by : (q : List ℕ) → length (utf8s q) ≡ 0 → utf8s q ≡ []
      by [] e = unfold utf8s gather in refl
      by (d ∷ ds) e = absurd (omega (arith, e, utf8s_nonempty d ds))

  pub first_passed : put.over ≡ true → Holds put done (run ++ (c ∷ []))
  first_passed e = passed (sym (ap past_limits same_records) ∙ sym held.told ∙ e) e

  pub first_held : {last : TableBuilder} → put.over ≡ false → last.over ≡ put.over → last.table.now ≡ put.table.now → last.used ≡ put.used
      → last.records ≡ put.records → last.parts ≡ put.parts → last.text ≡ length (utf8 c) → Holds last done (run ++ (c ∷ []))
  first_held free over table used records parts text =
      let k = held.within free in
      record {
        told = over ∙ held.told ∙ ap past_limits same_records;
        within = λ f.
            record {
              used = used ∙ k.used ∙ ap (λ (q : List Record). length (spell q)) same_records;
              bytes = ap₂ take used table ∙ k.bytes ∙ ap spell same_records;
              records = records ∙ k.records ∙ ap length same_records;
              parts = parts ∙ k.parts ∙ ap part_heads same_records;
              text = text ∙ sym (ap length (utf8s_more run c ∙ ap (λ (l : List ℕ). l ++ utf8 c) no_text));
            };
      }

-- a piece that stands at the head is overlaid in its middle
patched_by : (h m n x r : List ℕ) → length n ≡ length m
    → take (length h) ((h ++ (m ++ x)) ++ r) ++ n ++ drop (length h + length n) ((h ++ (m ++ x)) ++ r) ≡ (h ++ (n ++ x)) ++ r
patched_by h m n x r e = simp (append_assoc, e, take-append_seam, drop-append-add, drop-append_seam)

patched_size : (h m n x : List ℕ) → length n ≡ length m → length (h ++ (m ++ x)) ≡ length (h ++ (n ++ x))
patched_size h m n x e =
    omega (arith, length-append h (m ++ x), length-append m x, length-append h (n ++ x), length-append n x)

patched : (t h m n x : List ℕ) (at : ℕ) → at ≡ length h → length n ≡ length m
    → overlay (lead (h ++ (m ++ x)) t) at n ≡ lead (h ++ (n ++ x)) t
patched t h m n x at e f =
    rw e
    (patched_by h m n x (drop (length (h ++ (m ++ x))) t) f
    ∙ ap (λ (k : ℕ). (h ++ (n ++ x)) ++ drop k t) (patched_size h m n x f))

-- what stands at the head, with a piece behind it and another in its middle
further_bytes : (t h m n x q t1 t2 : List ℕ) (used at : ℕ) → used ≡ length (h ++ (m ++ x)) → take used t ≡ h ++ (m ++ x)
    → t1 ≡ overlay t used q
    → at ≡ length h
    → length n ≡ length m
    → t2 ≡ overlay t1 at n
    → t2 ≡ lead (h ++ (n ++ (x ++ q))) t
further_bytes t h m n x q t1 t2 used at e f g k l d =
    let headed : t ≡ lead (h ++ (m ++ x)) t
    = sym (take-append-drop used t) ∙ ap₂ (λ (a : List ℕ) (j : ℕ). a ++ drop j t) f e in
    let regroup : (h ++ (m ++ x)) ++ q ≡ h ++ (m ++ (x ++ q)) = simp append_assoc in
    let first = g ∙ over_lead t (h ++ (m ++ x)) q t used headed e ∙ ap (λ (p : List ℕ). lead p t) regroup in
    d ∙ ap (λ (p : List ℕ). overlay p at n) first ∙ patched t h m n (x ++ q) at k l

-- a code point behind the open run
module _ {builder : TableBuilder} {done : List Record} {run : List ℕ} (held : Holds builder done run)
    (free : builder.over ≡ false) (opened : 1 ≤ builder.text) where
  some_text : 1 ≤ length (utf8s run)
  some_text = omega (arith, opened, (held.within free).text)

  module _ (c : ℕ) {wide : ℕ} (w : wide ≡ length (utf8 c)) where
    -- the test that the code makes
    further_told : past_limits (with_run done (run ++ (c ∷ []))) ≡ ltb (most_bytes - builder.used) wide
    further_told =
        past_stretched (with_run done run) (with_run done (run ++ (c ∷ []))) (length (utf8 c))
        (stretched done run c some_text) (held_small held free)
        ∙ rw (w, (held.within free).used) refl

    pub further_passes : {builder' : TableBuilder} → most_bytes - builder.used < wide → builder'.over ≡ true → Holds builder' done (run ++ (c ∷ []))
    further_passes test e = passed (further_told ∙ lt-ltb (most_bytes - builder.used) wide test) e

    -- the code point stands behind the table, and the length before the text says all of it
    module _ {t1 t2 : List ℕ} {end : ℕ} (e : end ≡ builder.used + length (utf8 c))
        (f : t1 ≡ overlay builder.table.now builder.used (utf8 c))
        (g : t2 ≡ overlay t1 (end - (builder.text + wide) - 2) (number_bytes (builder.text + wide))) where
      abbrev all : List ℕ
      all = spell (with_run done (run ++ (c ∷ [])))

      length_at : end - (builder.text + wide) - 2 ≡ length (marked done)
      length_at =
          let k = held.within free in
          omega (arith, e, w, k.used, k.text, now_size done run c some_text)

      all_size : end ≡ length all
      all_size = omega (arith, e, (held.within free).used, (stretched done run c some_text).bytes)

      all_spelled : marked done ++ (two (builder.text + wide) ++ (utf8s run ++ utf8 c)) ≡ all
      all_spelled = rw ((held.within free).text, w) (sym (more_spelled done run c some_text))

      further_wrote : t2 ≡ lead all builder.table.now
      unfolding two
      further_wrote =
          let k = held.within free in
          let spelled = now_spelled done run c some_text in
          let at = end - (builder.text + wide) - 2 in
          further_bytes builder.table.now (marked done) (two (length (utf8s run))) (two (builder.text + wide)) (utf8s run)
          (utf8 c) t1 t2 builder.used at (k.used ∙ ap length spelled) (k.bytes ∙ spelled) f length_at refl g
          ∙ ap (λ (p : List ℕ). lead p builder.table.now) all_spelled

      pub further_held : {builder' : TableBuilder} → wide ≤ most_bytes - builder.used → builder'.over ≡ false
          → builder'.table.now ≡ t2 → builder'.used ≡ end
          → builder'.records ≡ builder.records → builder'.parts ≡ builder.parts → builder'.text ≡ builder.text + wide
          → Holds builder' done (run ++ (c ∷ []))
      further_held fits free' table used records parts text =
          let k = held.within free in
          let s = stretched done run c some_text in
          record {
            told = free' ∙ sym (further_told ∙ le-ltb (most_bytes - builder.used) wide fits);
            within = λ h.
                record {
                  used = used ∙ all_size;
                  bytes = ap₂ take (used ∙ all_size) (table ∙ further_wrote)
                      ∙ take-append_seam all (drop (length all) builder.table.now);
                  records = records ∙ k.records ∙ sym s.records;
                  parts = parts ∙ k.parts ∙ sym s.parts;
                  text = text ∙ omega (arith, w, k.text, utf8s_size run c);
                };
          }
