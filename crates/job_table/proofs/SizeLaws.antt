-- The size of a record by its mark, and the walk to the first UE.
use Prim.Native.Nat.{ℕ, zero, suc, ◌+◌, ◌-◌, ◌≤◌, ◌<◌}
use mathlib.Core.Path.{◌≡◌, refl, sym, ap, subst, ◌∙◌}
use mathlib.Core.Bool.{Bool, true, false, cond, false≢true}
use mathlib.Core.List.{List, [], ◌∷◌}
use mathlib.Core.Option.{Option, none, some}
use native.Mathlib.Omega.{arith}
use lib.ListN.{length, drop, length-drop, drop_of_length-le}
use lib.Seq.{drop-drop}
use borrow.Author.Tests.{ne_eqb}
use Rattle.xliff.specs.Bytes.{two_at, enough}
use Rattle.xliff.specs.Parse as parse
use Rattle.xliff.specs.Parse.{is, mark_at, size_of}
use Rattle.xliff.specs.Desk.{whole_size, is_UE, to_UE, table_length}
use Rattle.xliff.proofs.lists.Tests.{enough_length}
use Rattle.marks.specs.Marks.{marked, meaning, fixed_width}
use Rattle.marks.specs.declared.Mark.{Mark}
use Rattle.marks.proofs.MarkLaws.{fixed_or_text}
use Rattle.requests.proofs.RequestLaws.{enough_yes, enough_not}
use Rattle.std.specs.Prelude.{Option as RustOption, Some, None}
use Rattle.job_table.specs.Sizes.{whole_of, SizeIs}

pub whole_zero : (n : ℕ) (s : List ℕ) → n ≡ 0 → whole_of n s ≡ 0
unfolding whole_of enough
whole_zero n s e = ap (λ (k : ℕ). whole_of k s) e

pub whole_not : (n : ℕ) (s : List ℕ) → length s < n → whole_of n s ≡ 0
unfolding whole_of
whole_not n s h = rw (enough_not n s h) refl

pub whole_yes : (n : ℕ) (s : List ℕ) → n ≤ length s → whole_of n s ≡ n
unfolding whole_of
whole_yes n s h = rw (enough_yes n s h) refl

-- the size by the mark, where the bytes of a text's length may be missing
pub short_size : (m : Mark) (s : List ℕ) → length s < 4 → meaning m ≡ mark_at s → whole_of (fixed_width m) s ≡ whole_size s
unfolding whole_size whole_of two_at
short_size m s h e =
    fixed_or_text m s (ap (λ (n : ℕ). whole_of n s))
    (λ x. ap (λ (n : Mark). whole_of (fixed_width n) s) x ∙ whole_not 4 s (omega arith) ∙ sym (whole_not (4 + two_at s 2) s (omega arith))
    ∙ sym (ap (λ (n : Mark). whole_of (size_of (meaning n) s) s) x))
    ∙ ap (λ (k : parse.Mark). whole_of (size_of k s) s) e

no_record : whole_size [] ≡ 0
unfolding whole_size mark_at enough
no_record = refl

pub end_is : (s : List ℕ) → 2 ≤ length s → marked s (85 ∷ 69 ∷ []) ≡ is_UE s
unfolding is_UE is
end_is [] h = absurd (omega arith)
end_is (a ∷ []) h = absurd (omega arith)
end_is (a ∷ b ∷ s) h = refl

pub end_short : (s : List ℕ) → length s < 2 → false ≡ is_UE s
unfolding is_UE
end_short [] h = refl
end_short (a ∷ []) h = refl
end_short (a ∷ b ∷ s) h = absurd (omega arith)

-- what was found
pub none_found : (o : RustOption ℕ) (n : ℕ) → SizeIs o n → o ≡ None → n ≡ 0
none_found o n s e = subst (λ (q : RustOption ℕ). SizeIs q n) e s

pub size_found : (o : RustOption ℕ) (n k : ℕ) → SizeIs o n → o ≡ Some k → (n ≡ k) × (1 ≤ k)
size_found o n k s e = subst (λ (q : RustOption ℕ). SizeIs q n) e s

-- The walk from an offset on, with steps enough
pub record Walk (job : List ℕ) (at : ℕ) : Type 0 where
  pub steps : ℕ
  pub same : to_UE (length job) 0 job ≡ to_UE steps at (drop at job)
  pub enough_steps : length job ≤ at + steps

pub walk_start : (job : List ℕ) → Walk job 0
walk_start job = record { steps = length job; same = refl; enough_steps = omega arith }

size_fits : (s : List ℕ) → whole_size s ≤ length s
unfolding whole_size
size_fits s = by (enough (size_of (mark_at s) s) s) refl
  where
    by : (b : Bool) → enough (size_of (mark_at s) s) s ≡ b → cond b (size_of (mark_at s) s) 0 ≤ length s
    by true e = enough_length (size_of (mark_at s) s) s e
    by false e = omega arith

pub size_within : (job : List ℕ) (at n : ℕ) → at ≤ length job → n ≡ whole_size (drop at job) → at + n ≤ length job
size_within job at n h e = omega (arith, e, size_fits (drop at job), length-drop at job, h)

next_step : (f at n : ℕ) (s : List ℕ) → 1 ≤ f → is_UE s ≡ false → n ≡ whole_size s → 1 ≤ n → to_UE f at s ≡ to_UE (f - 1) (at + n) (drop n s)
unfolding to_UE
next_step zero at n s p u e q = absurd (omega arith)
next_step (suc f) at n s p u e q =
    let z : suc f - 1 ≡ f = omega arith in
    rw (z, e, u, ne_eqb (whole_size s) 0 (λ w. omega (arith, w, e, q))) refl

pub walk_on : (job : List ℕ) (at n : ℕ) → Walk job at → at < length job → is_UE (drop at job) ≡ false → n ≡ whole_size (drop at job) → 1 ≤ n → Walk job (at + n)
walk_on job at n w h u e q =
    record {
      steps = w.steps - 1;
      same = w.same ∙ next_step w.steps at n (drop at job) (omega (arith, w.enough_steps, h)) u e q
          ∙ ap (to_UE (w.steps - 1) (at + n)) (drop-drop n at job);
      enough_steps = omega (arith, w.enough_steps, q, h);
    }

found_by : (job : List ℕ) (o : Option ℕ) (n : ℕ) → to_UE (length job) 0 job ≡ o → o ≡ some n → table_length job ≡ n
unfolding table_length
found_by job o n e f = rw (table_length, e ∙ f) refl

lost_by : (job : List ℕ) → to_UE (length job) 0 job ≡ none → table_length job ≡ length job
unfolding table_length
lost_by job e = rw (table_length, e) refl

ends_at : (f at : ℕ) (s : List ℕ) → 1 ≤ f → is_UE s ≡ true → to_UE f at s ≡ some (at + 2)
unfolding to_UE
ends_at zero at s p u = absurd (omega arith)
ends_at (suc f) at s p u = rw u refl

stuck_at : (f at : ℕ) (s : List ℕ) → is_UE s ≡ false → whole_size s ≡ 0 → to_UE f at s ≡ none
unfolding to_UE
stuck_at zero at s u e = refl
stuck_at (suc f) at s u e = rw (u, e) refl

two_there : (s : List ℕ) → is_UE s ≡ true → 2 ≤ length s
unfolding is_UE
two_there [] u = absurd (false≢true u)
two_there (a ∷ []) u = absurd (false≢true u)
two_there (a ∷ b ∷ s) u = omega arith

module _ (job : List ℕ) (at : ℕ) (w : Walk job at) where
  -- a UE ends the table
  pub walk_ends : at < length job → is_UE (drop at job) ≡ true → (at + 2 ≡ table_length job) × (at + 2 ≤ length job)
  walk_ends h u = (
    sym (found_by job _ (at + 2) w.same (ends_at w.steps at (drop at job) (omega (arith, w.enough_steps, h)) u)),
    omega (arith, two_there (drop at job) u, length-drop at job),
  )

  -- no whole record: no UE is reached
  pub walk_stuck : is_UE (drop at job) ≡ false → whole_size (drop at job) ≡ 0 → length job ≡ table_length job
  walk_stuck u e = sym (lost_by job (w.same ∙ stuck_at w.steps at (drop at job) u e))

  pub walk_over : length job ≤ at → length job ≡ table_length job
  walk_over h =
      let e = drop_of_length-le job h in
      walk_stuck (ap is_UE e ∙ sym (end_short [] (omega arith))) (ap whole_size e ∙ no_record)
