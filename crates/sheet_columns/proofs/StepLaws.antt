-- A row filled step by step.
use Prim.Native.Nat.{ℕ, suc, ◌+◌, ◌-◌, ◌<◌, ◌≤◌}
use native.Mathlib.Omega.{arith}
use mathlib.Core.Path.{◌≡◌, refl, sym, ap, ◌∙◌, subst}
use mathlib.Core.Bool.{Bool, true, false, not, ◌&&◌, cond, true≢false}
use mathlib.Core.List.{List, [], ◌∷◌, ◌++◌, map, append_assoc, append-nil}
use lib.ListN.{length, take, drop, length-append, length-take, replicate}
use lib.Dec.{ltb}
use borrow.Author.Tests.{ltb-true, ltb-false, le-leb, lt-leb, not-true}
use Rattle.xliff.specs.Bytes.{gather}
use Rattle.xliff.specs.Text.{utf8s}
use Rattle.xliff.specs.Item.{Content, text}
use Rattle.xliff.specs.Desk.{blank}
use Rattle.xliff.proofs.lists.Tests.{gather_append}
use Rattle.xliff.proofs.text.Utf8.{utf8s_append}
use Rattle.text.specs.Points.{PassedOver}
use Rattle.text.specs.declared.points.Points.{Points}
use Rattle.table.specs.Meaning.{item}
use Rattle.table.specs.declared.Item.{Item}
use Rattle.draft.specs.declared.Draft.{Draft}
use Rattle.draft.specs.Drafts.{Wrote}
use Rattle.draft.proofs.DraftLaws.{wrote_nothing, wrote_then, wrote_as}
use Rattle.sheet.specs.Column.{cell, shown, shown_all, fits, column_cells}
use Rattle.sheet.proofs.Widths.{shown_within}
use Rattle.sheet_columns.specs.declared.Filling.{Filling}
use Rattle.sheet_columns.specs.Taken.{taken, untaken, Ends, next_row}
use Rattle.sheet_columns.specs.Filled.{Ahead, SomeAhead, Going, goes_on, Step, Filled, TextNext, ItemNext, RowItems, PutRow}
use Rattle.sheet_columns.proofs.TakenLaws.{takes_fitting, ends_full, ends_over, ends_filled, takes_points}
use Rattle.sheet_columns.proofs.CursorLaws.{Run, run, ahead_end}
use Rattle.sheet_columns.proofs.ByteLaws.{text_cells, text_long, item_bytes}

-- code points of a text
module _ (c : List ℕ) (f : Filling) (p : Points)
    (passes : PassedOver (take (f.next.at + f.next.left - f.next.at) (drop f.next.at c)) f.room p) where
  the_run : (xs : Content) → Ahead c f.next.at f.next.left xs → Run c f.next.at f.next.left f.room p xs
  the_run xs m = run c f.next.at f.next.left xs m f.room p passes

  pub points_fit : (xs : Content) → Ahead c f.next.at f.next.left xs → p.bytes ≤ f.next.left
  points_fit xs m = (the_run xs m).fits

  module _ (more : f.full ≡ false) (draft draft' : Draft)
      (w : Wrote (map cell (take (f.next.at + p.bytes - f.next.at) (drop f.next.at c))) draft draft') where
    abbrev behind : Filling
    behind =
        record {
          next = record { at = f.next.at + p.bytes; left = f.next.at + f.next.left - (f.next.at + p.bytes) };
          room = p.left;
          full = f.full;
        }

    points_step : (xs : Content) → Ahead c f.next.at f.next.left xs → Step c f draft behind draft' xs
    points_step xs m =
        let r = the_run xs m in
        let cs = r.points in
        let k = f.room in
        let (t, u) = takes_points k cs r.others in
        let after = map text (drop k cs) ++ r.others in
        let left : k - length cs ≡ p.left = sym r.room in
        record {
          took = map text (take k cs);
          after = after;
          ahead = r.ahead;
          takes = ap (taken k) r.all ∙ t ∙ ap (λ (n : ℕ). map text (take k cs) ++ taken n after) left;
          leaves = ap (untaken k) r.all ∙ u ∙ ap (λ (n : ℕ). untaken n after) left;
          cells = omega (arith, text_long (take k cs), length-take k cs, r.room);
          wrote = wrote_as (ap (map cell) r.shown ∙ text_cells (take k cs)) w;
          ended = λ e. absurd (true≢false (sym e ∙ more));
        }

    pub points_filled : (xs : Content) → Ahead c f.next.at f.next.left xs → 0 < f.next.left → 0 < f.room
        → Filled c f draft behind draft'
    points_filled xs m h k =
        let some = (the_run xs m).some h k in (
          record { onward = λ e. omega arith; stays = λ e. absurd (true≢false (sym e ∙ more)) },
          points_step,
        )

-- an item that is no text
module _ (c : List ℕ) (f : Filling) (more : f.full ≡ false) (z : f.next.left ≡ 0) (i : Item) (w : ℕ)
    (next : ItemNext c f.next.at i w) (draft : Draft) where
  from_record : (xs : Content) → Ahead c f.next.at f.next.left xs → Ahead c f.next.at 0 xs
  from_record xs m = subst (λ (n : ℕ). Ahead c f.next.at n xs) z m

  -- it fits
  module _ (n : ℕ) (cells : n ≡ length (shown (item i))) where
    module _ (h : n ≤ f.room) (draft' : Draft) (wrote : Wrote (shown (item i)) draft draft') where
      abbrev past : Filling
      past = record { next = record { at = f.next.at + w; left = f.next.left }; room = f.room - n; full = f.full }

      item_step : (xs : Content) → Ahead c f.next.at f.next.left xs → Step c f draft past draft' xs
      unfolding shown_all gather fits
      item_step xs m =
          let t = next.then xs (from_record xs m) in
          let x = item i in
          let fit : fits f.room x ≡ true = le-leb (length (shown x)) f.room (omega (arith, cells)) in
          let (a, b) = takes_fitting f.room x t.others fit in
          let left : f.room - length (shown x) ≡ f.room - n = ap (λ (k : ℕ). f.room - k) (sym cells) in
          record {
            took = x ∷ [];
            after = t.others;
            ahead = subst (λ (k : ℕ). Ahead c (f.next.at + w) k t.others) (sym z) t.ahead;
            takes = ap (taken f.room) t.all ∙ a ∙ ap (λ (k : ℕ). x ∷ taken k t.others) left;
            leaves = ap (untaken f.room) t.all ∙ b ∙ ap (λ (k : ℕ). untaken k t.others) left;
            cells = omega (arith, cells, length-append (shown x) []);
            wrote = wrote_as (sym (ap utf8s (append-nil (shown x)) ∙ item_bytes i)) wrote;
            ended = λ e. absurd (true≢false (sym e ∙ more));
          }

      pub item_filled : Filled c f draft past draft'
      item_filled =
          (record { onward = λ e. omega (arith, next.wide); stays = λ e. absurd (true≢false (sym e ∙ more)) }, item_step)

    -- it does not, and nothing is taken
    module _ (h : f.room < n) where
      abbrev full : Filling
      full = record { next = f.next; room = f.room; full = true }

      full_step : (xs : Content) → Ahead c f.next.at f.next.left xs → Step c f draft full draft xs
      unfolding shown_all gather utf8s fits
      full_step xs m =
          let t = next.then xs (from_record xs m) in
          let x = item i in
          let over : fits f.room x ≡ false = lt-leb (length (shown x)) f.room (omega (arith, cells)) in
          record {
            took = [];
            after = xs;
            ahead = m;
            takes = refl;
            leaves = refl;
            cells = omega arith;
            wrote = wrote_nothing;
            ended = λ e. subst (Ends f.room) (sym t.all) (ends_full f.room x t.others over);
          }

      pub full_filled : Filled c f draft full draft
      full_filled =
          let few = shown_within (item i) in
          (record { onward = λ e. absurd (true≢false e); stays = λ e. (refl, refl, omega (arith, cells)) }, full_step)

-- a text that is entered: nothing of it is taken yet
abbrev pub entered : Filling → ℕ → Filling
entered f w = record { next = record { at = f.next.at + 4; left = w - 4 }; room = f.room; full = f.full }

pub entered_filled : (c : List ℕ) (f : Filling) (draft : Draft) → f.full ≡ false → f.next.left ≡ 0 → (w : ℕ)
    → TextNext c f.next.at w → Filled c f draft (entered f w) draft
unfolding shown_all gather utf8s
entered_filled c f draft more z w next = (
  record { onward = λ e. omega arith; stays = λ e. absurd (true≢false (sym e ∙ more)) },
  λ xs m. record {
    took = [];
    after = xs;
    ahead = next.then xs (subst (λ (n : ℕ). Ahead c f.next.at n xs) z m);
    takes = refl;
    leaves = refl;
    cells = omega arith;
    wrote = wrote_nothing;
    ended = λ e. absurd (true≢false (sym e ∙ more));
  },
)

-- one step behind others
shown_then : (xs ys : Content) → shown_all (xs ++ ys) ≡ shown_all xs ++ shown_all ys
unfolding shown_all
shown_then xs ys = gather_append shown xs ys

step_then : (c : List ℕ) (f : Filling) (first : Draft) (g : Filling) (mid : Draft) (r : Filling) (last : Draft)
    (xs : Content)
    → (s : Step c f first g mid xs) → Step c g mid r last s.after → Step c f first r last xs
step_then c f first g mid r last xs s t =
    let a = s.took in
    let b = t.took in
    let both : shown_all (a ++ b) ≡ shown_all a ++ shown_all b = shown_then a b in
    record {
      took = a ++ b;
      after = t.after;
      ahead = t.ahead;
      takes = s.takes ∙ ap (λ (l : Content). a ++ l) t.takes ∙ sym (append_assoc a b (taken r.room t.after));
      leaves = s.leaves ∙ t.leaves;
      cells = omega (arith, ap length both, length-append (shown_all a) (shown_all b), s.cells, t.cells);
      wrote = wrote_as (sym (ap utf8s both ∙ utf8s_append (shown_all a) (shown_all b)))
          (wrote_then s.wrote t.wrote);
      ended = t.ended;
    }

-- what a loop measures: the bytes ahead, none where the row is full
abbrev pub bytes_left : List ℕ → Filling → ℕ
bytes_left c f = cond f.full 0 (suc (length c - f.next.at))

-- The loop: a row so far
pub record SoFar (c : List ℕ) (begun : Filling) (first : Draft) (f : Filling) (draft : Draft) : Type 0 where
  pub forth : begun.next.at ≤ f.next.at
  pub further : f.room < column_cells → begun.next.at < f.next.at
  pub full : f.full ≡ true → f.room < column_cells
  pub steps : (xs : Content) → Ahead c begun.next.at begun.next.left xs → Step c begun first f draft xs

pub so_far_start : (c : List ℕ) (begun : Filling) (draft : Draft) → begun.room ≡ 33 → begun.full ≡ false
    → SoFar c begun draft begun draft
unfolding shown_all gather utf8s
so_far_start c begun draft all more =
    record {
      forth = omega arith;
      further = λ h. absurd (let z : ⊥ = omega arith in z);
      full = λ e. absurd (true≢false (sym e ∙ more));
      steps = λ xs m. record {
        took = [];
        after = xs;
        ahead = m;
        takes = refl;
        leaves = refl;
        cells = omega arith;
        wrote = wrote_nothing;
        ended = λ e. absurd (true≢false (sym e ∙ more));
      };
    }

and_apart : (a b c : Bool) → a && (b && c) ≡ true → (a ≡ true) × (b ≡ true) × (c ≡ true)
and_apart true true true e = (refl, refl, refl)
and_apart true true false e = absurd (true≢false (sym e))
and_apart true false c e = absurd (true≢false (sym e))
and_apart false b c e = absurd (true≢false (sym e))

pub more_room : (f : Filling) (n : ℕ) → goes_on f n ≡ true → (f.full ≡ false) × (0 < f.room) × (f.next.at < n)
more_room f n e =
    let (a, b, d) = and_apart (not f.full) (ltb 0 f.room) (ltb f.next.at n) e in
    (not-true f.full a, ltb-true 0 f.room b, ltb-true f.next.at n d)

module _ (c : List ℕ) (begun : Filling) (first : Draft) (f : Filling) (draft : Draft) (some : SomeAhead c begun.next)
    (s : SoFar c begun first f draft) where
  -- a step that it can go on with
  so_far : Step c begun first f draft some.0
  so_far = s.steps some.0 some.1

  pub goes : f.full ≡ false → Going c f
  goes more = ((so_far.after, so_far.ahead), more)

  -- one step more
  pub so_far_on : (r : Filling) (next : Draft) → Filled c f draft r next → SoFar c begun first r next
  so_far_on r next (moved, steps) =
      record {
        forth = by r.full refl;
        further = on r.full refl;
        full = λ e. (moved.stays e).2;
        steps = λ xs m.
            let t = s.steps xs m in
            step_then c begun first f draft r next xs t (steps t.after t.ahead);
      }
    where
      by : (b : Bool) → r.full ≡ b → begun.next.at ≤ r.next.at
      by true e = omega (arith, (moved.stays e).0, s.forth)
      by false e = omega (arith, moved.onward e, s.forth)

      on : (b : Bool) → r.full ≡ b → r.room < column_cells → begun.next.at < r.next.at
      on true e h =
          let (there, room, less) = moved.stays e in
          let z = s.further (omega (arith, room)) in
          omega arith
      on false e h = omega (arith, moved.onward e, s.forth)

  -- the bytes that are left fall, or the row is full
  pub falls : (r : Filling) (next : Draft) → Filled c f draft r next → goes_on f (length c) ≡ true
      → bytes_left c r < bytes_left c f
  falls r next (moved, steps) e = by f.full r.full refl refl
    where
      by : (a b : Bool) → f.full ≡ a → r.full ≡ b
          → cond b 0 (suc (length c - r.next.at)) < cond a 0 (suc (length c - f.next.at))
      by true b x y = absurd (true≢false (sym x ∙ (more_room f (length c) e).0))
      by false true x y = omega arith
      by false false x y = omega (arith, moved.onward y, (more_room f (length c) e).2)

  -- nothing more is taken
  module _ (e : goes_on f (length c) ≡ false) where
    ends : (xs : Content) → Ahead c f.next.at f.next.left xs → (f.full ≡ true → Ends f.room xs) → Ends f.room xs
    ends xs m ended = by f.full refl (ltb 0 f.room) refl (ltb f.next.at (length c)) refl
      where
        by : (a : Bool) → f.full ≡ a → (b : Bool) → ltb 0 f.room ≡ b → (d : Bool) → ltb f.next.at (length c) ≡ d
            → Ends f.room xs
        by true x b y d z = ended x
        by false x false y d z =
            let none : 0 ≡ f.room = omega (arith, ltb-false 0 f.room y) in
            subst (λ (n : ℕ). Ends n xs) none (ends_filled xs)
        by false x true y false z =
            let over : xs ≡ [] = ahead_end c f.next.at f.next.left xs m (ltb-false f.next.at (length c) z) in
            subst (Ends f.room) (sym over) (ends_over f.room)
        by false x true y true z = absurd (true≢false (sym (rw (x, y, z) refl) ∙ e))

    row_items : begun.room ≡ 33 → (xs : Content) → Ahead c begun.next.at begun.next.left xs
        → RowItems c first f draft xs
    row_items all xs m =
        let t = s.steps xs m in
        let (a, b) = ends t.after t.ahead t.ended in
        let took : taken column_cells xs ≡ t.took
        = ap (λ (n : ℕ). taken n xs) (sym all) ∙ t.takes ∙ ap (λ (l : Content). t.took ++ l) a
        ∙ append-nil t.took in
        let leaves : untaken column_cells xs ≡ t.after
        = ap (λ (n : ℕ). untaken n xs) (sym all) ∙ t.leaves ∙ b in
        record {
          cells = ap (λ (l : Content). length (shown_all l) + f.room) took ∙ t.cells ∙ all;
          wrote = wrote_as (ap (λ (l : Content). utf8s (shown_all l)) (sym took)) t.wrote;
          ahead = subst (Ahead c f.next.at f.next.left) (sym leaves) t.ahead;
        }

    further : begun.next.at < length c → begun.next.at < f.next.at
    further h = by f.full refl (ltb 0 f.room) refl (ltb f.next.at (length c)) refl
      where
        by : (a : Bool) → f.full ≡ a → (b : Bool) → ltb 0 f.room ≡ b → (d : Bool) → ltb f.next.at (length c) ≡ d
            → begun.next.at < f.next.at
        by true x b y d z = s.further (s.full x)
        by false x false y d z = s.further (omega (arith, ltb-false 0 f.room y))
        by false x true y false z = omega (arith, ltb-false f.next.at (length c) z)
        by false x true y true z = absurd (true≢false (sym (rw (x, y, z) refl) ∙ e))

    -- and the padding
    pub row_put : begun.room ≡ 33 → (last : Draft) → Wrote (replicate f.room blank) draft last
        → PutRow c begun.next first last f.next
    unfolding next_row
    row_put all last w = (
      s.forth,
      further,
      λ xs m.
          let r = row_items all xs m in
          let shown = shown_all (taken column_cells xs) in
          let room : f.room ≡ column_cells - length shown = omega (arith, r.cells) in
          record {
            wrote = wrote_as (ap (λ (n : ℕ). utf8s shown ++ replicate n blank) room) (wrote_then r.wrote w);
            ahead = r.ahead;
          },
    )
