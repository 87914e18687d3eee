-- What rewrite answers once the pair is found: 20, 21, 15, or the rewritten table.
use Prim.Native.Nat.{ℕ, ◌≤◌, ◌<◌}
use mathlib.Core.Path.{◌≡◌, sym, ◌∙◌}
use mathlib.Core.Bool.{Bool, true, false}
use mathlib.Core.List.{List, ◌++◌}
use lib.ListN.{length, drop}
use Rattle.xliff.specs.Bytes.{Bytes}
use Rattle.xliff.specs.Encode.{encode}
use Rattle.xliff.specs.Parse.{unit}
use Rattle.xliff.specs.Rewrite.{form_of, rewrite_unit, rewrite}
use Rattle.answers.specs.declared.Answer.TheVariants.{Accepted, Refused}
use Rattle.outcomes.specs.Outcomes.{Answers}
use Rattle.outcomes.proofs.OutcomeLaws.{answers_refused, answers_result}
use Rattle.rewrite_refusals.specs.Asked.{fails_to_P}
use Rattle.rewrite_refusals.proofs.ChainLaws.{refused_20, refused_21, refused_15, done}
use Rattle.whole_pair.specs.declared.WholePair.{WholePair}
use Rattle.rewrite.specs.Paired.{Paired, already_in}
use Rattle.rewrite.proofs.PairLaws.{already_is, no_room, enough_room}

abbrev rewritten : List ℕ → ℕ → ℕ → ℕ → List ℕ
rewritten t side i w = encode (rewrite_unit (unit t) side i (form_of w))

module _ {t : List ℕ} {side i w : ℕ} {v : WholePair} (q : Paired t side i w v) (out : List ℕ) where
  -- "already so"
  pub answers_20 : already_in w v.form_p ≡ true → Answers (rewrite t side i w (length out)) (Refused 20 0) out out
  answers_20 h =
      answers_refused _ 20 0 out
      (refused_20 t side i w (length out) q.ready.0 q.ready.1 q.pair q.found (sym (already_is q) ∙ h))

  module _ (h : already_in w v.form_p ≡ false) where
    -- to pc or mrk, and it cannot be
    pub answers_21 : fails_to_P (unit t) side i (form_of w) q.pair ≡ true → Answers (rewrite t side i w (length out)) (Refused 21 0) out out
    answers_21 k =
        answers_refused _ 21 0 out
        (refused_21 t side i w (length out) q.ready.0 q.ready.1 q.pair q.found (sym (already_is q) ∙ h) k)

    module _ (k : fails_to_P (unit t) side i (form_of w) q.pair ≡ false) (b : Bytes t) where
      pub answers_15 : length out < length t → Answers (rewrite t side i w (length out)) (Refused 15 0) out out
      answers_15 l =
          answers_refused _ 15 0 out
          (refused_15 t side i w (length out) q.ready.0 q.ready.1 q.pair q.found (sym (already_is q) ∙ h) k
          (no_room q b (length out) l))

      pub answers_rewritten : length t ≤ length out → (n : ℕ) (last : List ℕ)
          → n ≡ length (rewritten t side i w) → last ≡ rewritten t side i w ++ drop (length (rewritten t side i w)) out
          → Answers (rewrite t side i w (length out)) (Accepted n) out last
      answers_rewritten l n last e f =
          answers_result _ (rewritten t side i w) n out last
          (done t side i w (length out) q.ready.0 q.ready.1 q.pair q.found (sym (already_is q) ∙ h) k
          (enough_room q b (length out) l)) e f
