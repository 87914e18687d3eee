-- One request after the other.
use Prim.Native.Nat.{ℕ, zero, suc, ◌+◌, ◌-◌, ◌≤◌, ◌<◌}
use mathlib.Core.Path.{◌≡◌, refl, sym, ap, ap₂, subst, ◌∙◌}
use mathlib.Core.List.{List, [], ◌∷◌, ◌++◌, append_assoc}
use mathlib.Core.Option.{none, some}
use native.Mathlib.Omega.{arith}
use lib.ListN.{length, take, drop, length-drop, length-append, drop_of_length-le}
use lib.Seq.{length-take-le, take-append_seam, drop-drop}
use Rattle.xliff.specs.Answer as spec
use Rattle.xliff.specs.Answer.{Outcome, result, refuse, answer, output, next_table}
use Rattle.xliff.specs.Calls.{outcome, left}
use Rattle.xliff.specs.Desk.{Request, request, answer_requests, line, table_line}
use Rattle.answers.specs.declared.Answer.{Answer}
use Rattle.answers.specs.declared.Answer.TheVariants.{Accepted, Refused}
use Rattle.writer.specs.Pieces.{lead}
use Rattle.xliff.specs.Parse.{most_bytes}
use Rattle.writer.proofs.PieceLaws.{lead_length, two_back}
use Rattle.outcomes.specs.Outcomes.{Answers}
use Rattle.job.specs.Job.{FitsIn, kept_table}

clash : {A : Type 0} {n m k : ℕ} → spec.accepted n ≡ spec.refused m k → A
clash e = absurd (let z : ◌≡◌ {A = ℕ} 0 1 = cc in omega arith)

length_of : {n m : ℕ} → spec.accepted n ≡ spec.accepted m → n ≡ m
length_of e = cc

-- what an accepted answer leaves in the lent output is the whole result
fits_by : (s out last : List ℕ) → length out ≡ most_bytes → length last ≡ most_bytes → last ≡ s ++ drop (length s) out → length s ≤ most_bytes
fits_by s out last h k e = omega (arith, h, k, ap length e, length-append s (drop (length s) out), length-drop (length s) out)

pub head_by : (s out last : List ℕ) (m : ℕ) → m ≡ length s → last ≡ s ++ drop (length s) out → take m last ≡ s
head_by s out last m e f = rw (e, f, take-append_seam) refl

pub answer_fits : (o : Outcome) (a : Answer) (out last : List ℕ) → Answers o a out last → length out ≡ most_bytes → length last ≡ most_bytes → FitsIn a
unfolding answer output
answer_fits (result s) (Accepted m) out last h k l = omega (arith, length_of h.0, fits_by s out last k l h.1)
answer_fits (result s) (Refused n at) out last h k l = tt
answer_fits (refuse r) (Accepted m) out last h k l = clash h.0
answer_fits (refuse r) (Refused n at) out last h k l = tt

pub answer_keeps : (o : Outcome) (a : Answer) (n : ℕ) (table out last : List ℕ) → Answers o a out last → kept_table a n table last ≡ next_table o (take n table)
unfolding answer output next_table
answer_keeps (result s) (Accepted m) n table out last h = head_by s out last m (length_of h.0) h.1
answer_keeps (result s) (Refused k at) n table out last h = clash (sym h.0)
answer_keeps (refuse r) (Accepted m) n table out last h = clash h.0
answer_keeps (refuse r) (Refused k at) n table out last h = refl

pub put_keeps : (table work last : List ℕ) (m r : ℕ) → m ≤ length work → length work ≡ most_bytes → r ≡ length (take m work) → last ≡ lead (take m work) table
    → (take r last ≡ take m work) × (r ≤ most_bytes)
put_keeps table work last m r h k e f = (head_by (take m work) table last r e f, omega (arith, e, length-take-le m work h, h, k))

-- the first of the requests
requests_on : (f : ℕ) (t : List ℕ) (at : ℕ) (s : List ℕ) (q : Request) → 1 ≤ f → 1 ≤ length s → some q ≡ request s
    → answer_requests f t at s ≡ line (answer (outcome t q.call)) ++ answer_requests (f - 1) (left t q.call) (at + q.size) (drop q.size s)
unfolding answer_requests
requests_on zero t at s q h k e = absurd (omega arith)
requests_on (suc f) t at [] q h k e = absurd (omega arith)
requests_on (suc f) t at (b ∷ s) q h k e =
    let z : suc f - 1 ≡ f = omega arith in
    rw (answer_requests, sym e)
    (ap (λ (i : ℕ). line (answer (outcome t q.call)) ++ answer_requests i (left t q.call) (at + q.size) (drop q.size (b ∷ s))) (sym z))

requests_stop : (f : ℕ) (t : List ℕ) (at : ℕ) (s : List ℕ) → 1 ≤ f → 1 ≤ length s → none ≡ request s
    → answer_requests f t at s ≡ line (spec.refused 2 at) ++ table_line t
unfolding answer_requests
requests_stop zero t at s h k e = absurd (omega arith)
requests_stop (suc f) t at [] h k e = absurd (omega arith)
requests_stop (suc f) t at (b ∷ s) h k e = rw (answer_requests, sym e) refl

requests_end : (f : ℕ) (t : List ℕ) (at : ℕ) (s : List ℕ) → s ≡ [] → answer_requests f t at s ≡ table_line t
unfolding answer_requests
requests_end zero t at s e = refl
requests_end (suc f) t at s e = rw e refl

-- the requests of the table at the head of a buffer are those of the table itself
pub same_requests : (job table : List ℕ) (m n : ℕ) → m ≡ n → take m table ≡ take n job
    → answer_requests (length job) (take m table) m (drop m job) ≡ answer_requests (length job) (take n job) n (drop n job)
same_requests job table m n e f = ap₂ (λ (t : List ℕ) (k : ℕ). answer_requests (length job) t k (drop k job)) f e

-- the second piece behind the first, in the room left of an output whose length stays
room_back : (out₀ a b out last : List ℕ) (k room : ℕ) → room ≡ length out₀ - k → k ≤ length out₀ → k ≡ length a → out ≡ lead a out₀
    → last ≡ lead b (take room (drop k out)) → take k out ++ (last ++ drop room (drop k out)) ≡ lead (a ++ b) out₀
room_back out₀ a b out last k room r h e f =
    let same : length out ≡ length out₀ = ap length f ∙ lead_length a out₀ (omega (arith, h, e)) in
    let is_room : room ≡ length out - k = r ∙ ap (λ (l : ℕ). l - k) (sym same) in
    subst (λ (j : ℕ). last ≡ lead b (take j (drop k out)) → take k out ++ (last ++ drop j (drop k out)) ≡ lead (a ++ b) out₀) (sym is_room)
    (two_back out₀ a b out last k e f)

-- what is printed so far, and what the requests from an offset on have to print
pub record Printed (job first : List ℕ) (n : ℕ) (out₀ out table : List ℕ) (at m k : ℕ) : Type 0 where
  pub lines : List ℕ
  pub long : k ≡ length lines
  pub wrote : out ≡ lead lines out₀
  pub steps : ℕ
  pub enough : length job ≤ at + steps
  pub same : lines ++ answer_requests steps (take m table) at (drop at job) ≡ answer_requests (length job) (take n first) n (drop n job)

module _ (job first : List ℕ) (n : ℕ) (out₀ : List ℕ) where
  pub printed_start : Printed job first n out₀ out₀ first n n 0
  printed_start = record { lines = []; long = refl; wrote = refl; steps = length job; enough = omega arith; same = refl }

  module _ (out table : List ℕ) (at m k room : ℕ) (is_room : room ≡ length out₀ - k) (within : k ≤ length out₀)
      (p : Printed job first n out₀ out table at m k) where
    -- a line more
    printed_by : (q : Request) (table' last : List ℕ) (m' k' : ℕ) → at < length job → 4 ≤ q.size → some q ≡ request (drop at job)
        → k' ≡ length (line (answer (outcome (take m table) q.call)))
        → last ≡ lead (line (answer (outcome (take m table) q.call))) (take room (drop k out))
        → take m' table' ≡ left (take m table) q.call
        → Printed job first n out₀ (take k out ++ (last ++ drop room (drop k out))) table' (at + q.size) m' (k + k')
    printed_by q table' last m' k' h g e l w v =
        record {
          lines = p.lines ++ line (answer (outcome (take m table) q.call));
          long = omega (arith, p.long, l, length-append p.lines (line (answer (outcome (take m table) q.call))));
          wrote = room_back out₀ p.lines (line (answer (outcome (take m table) q.call))) out last k room is_room within p.long p.wrote w;
          steps = p.steps - 1;
          enough = omega (arith, p.enough, h, g);
          same =
              append_assoc p.lines (line (answer (outcome (take m table) q.call))) _
              ∙ ap (λ (l : List ℕ). p.lines ++ (line (answer (outcome (take m table) q.call)) ++ l))
              (ap₂ (λ (t s : List ℕ). answer_requests (p.steps - 1) t (at + q.size) s) v (sym (drop-drop q.size at job)))
              ∙ ap (λ (l : List ℕ). p.lines ++ l)
              (sym (requests_on p.steps (take m table) at (drop at job) q (omega (arith, p.enough, h)) (omega (arith, length-drop at job, h)) e))
              ∙ p.same;
        }

    pub printed_on : (q : Request) (table' last : List ℕ) (m' k' i : ℕ) → i ≡ q.size → at < length job → 4 ≤ q.size → some q ≡ request (drop at job)
        → k' ≡ length (line (answer (outcome (take m table) q.call)))
        → last ≡ lead (line (answer (outcome (take m table) q.call))) (take room (drop k out))
        → take m' table' ≡ left (take m table) q.call
        → Printed job first n out₀ (take k out ++ (last ++ drop room (drop k out))) table' (at + i) m' (k + k')
    printed_on q table' last m' k' i f h g e l w v =
        subst (λ (j : ℕ). Printed job first n out₀ (take k out ++ (last ++ drop room (drop k out))) table' (at + j) m' (k + k')) (sym f)
        (printed_by q table' last m' k' h g e l w v)

    -- the last lines
    module _ (last : List ℕ) (k' : ℕ) (piece : List ℕ) (l : k' ≡ length piece) (w : last ≡ lead piece (take room (drop k out))) where
      ends_by : answer_requests p.steps (take m table) at (drop at job) ≡ piece
          → (k + k' ≡ length (answer_requests (length job) (take n first) n (drop n job)))
          × (take k out ++ (last ++ drop room (drop k out)) ≡ lead (answer_requests (length job) (take n first) n (drop n job)) out₀)
      ends_by e =
          let z : p.lines ++ piece ≡ answer_requests (length job) (take n first) n (drop n job) = ap (λ (x : List ℕ). p.lines ++ x) (sym e) ∙ p.same in (
            omega (arith, p.long, l, length-append p.lines piece, ap length z),
            room_back out₀ p.lines piece out last k room is_room within p.long p.wrote w ∙ ap (λ (x : List ℕ). lead x out₀) z,
          )

      pub printed_stop : at < length job → none ≡ request (drop at job) → piece ≡ line (spec.refused 2 at) ++ table_line (take m table)
          → (k + k' ≡ length (answer_requests (length job) (take n first) n (drop n job)))
          × (take k out ++ (last ++ drop room (drop k out)) ≡ lead (answer_requests (length job) (take n first) n (drop n job)) out₀)
      printed_stop h e f = ends_by (requests_stop p.steps (take m table) at (drop at job) (omega (arith, p.enough, h)) (omega (arith, length-drop at job, h)) e ∙ sym f)

      pub printed_end : length job ≤ at → piece ≡ table_line (take m table)
          → (k + k' ≡ length (answer_requests (length job) (take n first) n (drop n job)))
          × (take k out ++ (last ++ drop room (drop k out)) ≡ lead (answer_requests (length job) (take n first) n (drop n job)) out₀)
      printed_end h f = ends_by (requests_end p.steps (take m table) at (drop at job) (drop_of_length-le job h) ∙ sym f)
