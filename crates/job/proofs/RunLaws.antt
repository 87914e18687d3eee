-- What a job prints, by the check of its table.
use Prim.Native.Nat.{ℕ, ◌≤◌}
use mathlib.Core.Path.{◌≡◌, refl, sym, ap, ◌∙◌}
use mathlib.Core.List.{List, ◌++◌}
use native.Mathlib.Omega.{arith}
use lib.ListN.{length, take, drop, length-append}
use lib.Seq.{length-take-le, take_all}
use Rattle.xliff.specs.Answer as spec
use Rattle.xliff.specs.Check.{table_refusal, check}
use Rattle.xliff.specs.Desk.{answer_requests, line, table_length, desk_job}
use Rattle.xliff.specs.Parse.{most_bytes}
use Rattle.xliff.proofs.unit.Result.{then_left, applies_none}
use lib.Dec.{ltb}
use borrow.Author.Tests.{ltb-false}
use Rattle.writer.specs.Pieces.{lead}
use Rattle.outcomes.proofs.OutcomeLaws.{accepted_none, refused_some}

-- an accepted table has at most 8,192 bytes
pub accepted_small : (t : List ℕ) (m : ℕ) → spec.accepted m ≡ check t → length t ≤ most_bytes
unfolding table_refusal
accepted_small t m h = ltb-false most_bytes (length t) (applies_none 1 (ltb most_bytes (length t)) (then_left _ _ (accepted_none t m h)))

accepted_here : (job t : List ℕ) (m : ℕ) → t ≡ take (table_length job) job → spec.accepted m ≡ check t
    → desk_job job ≡ answer_requests (length job) (take (table_length job) job) (table_length job) (drop (table_length job) job)
unfolding desk_job
accepted_here job t m e h = rw (desk_job, ap table_refusal (sym e) ∙ accepted_none t m h) refl

refused_here : (job t : List ℕ) (k at : ℕ) → t ≡ take (table_length job) job → spec.refused k at ≡ check t → desk_job job ≡ line (spec.refused k at)
unfolding desk_job
refused_here job t k at e h = rw (desk_job, ap table_refusal (sym e) ∙ refused_some t k at h) refl

module _ (job : List ℕ) (n : ℕ) (e : n ≡ table_length job) where
  pub job_accepted : (m : ℕ) → spec.accepted m ≡ check (take n job) → desk_job job ≡ answer_requests (length job) (take n job) n (drop n job)
  job_accepted m h =
      accepted_here job (take n job) m (ap (λ (k : ℕ). take k job) e) h ∙ ap (λ (k : ℕ). answer_requests (length job) (take k job) k (drop k job)) (sym e)

  pub job_refused : (k at : ℕ) → spec.refused k at ≡ check (take n job) → desk_job job ≡ line (spec.refused k at)
  job_refused k at h = refused_here job (take n job) k at (ap (λ (k : ℕ). take k job) e) h

-- what is printed lies within the output
pub within : (p out last : List ℕ) (r : ℕ) → r ≡ length p → last ≡ p ++ drop (length p) out → (r ≤ length last) × (r ≡ length (take r last))
within p out last r e f =
    let l : r ≤ length last = omega (arith, e, ap length f, length-append p (drop (length p) out)) in
    (l, sym (length-take-le r last l))

-- a job that is not cut
pub whole_job : (job out last : List ℕ) (n : ℕ) → length job ≤ 65535 → n ≡ length (desk_job job) → last ≡ lead (desk_job job) out
    → (n ≡ length (desk_job (take 65535 job))) × (last ≡ lead (desk_job (take 65535 job)) out)
whole_job job out last n h e f =
    let whole = sym (take_all 65535 job h) in
    (e ∙ ap (λ (l : List ℕ). length (desk_job l)) whole, f ∙ ap (λ (l : List ℕ). lead (desk_job l) out) whole)
