-- An operation whose result is a text: it is measured, refused by 15 where the output is too short, else written.
use Prim.Native.Nat.{ℕ}
use mathlib.Core.Path.{◌≡◌, sym, ap, ◌∙◌}
use mathlib.Core.Bool.{true, false}
use mathlib.Core.List.{List}
use mathlib.Core.Option.{Option, none}
use lib.ListN.{length}
use lib.Dec.{ltb}
use Rattle.std.specs.Borrow.{MutBor}
use Rattle.xliff.specs.Answer.{Refusal, refusal, applies, ◌then◌, refused, accepted, Outcome, result, refuse, unless, answer, output}
use Rattle.xliff.specs.Check.{table_refusal}
use Rattle.outcomes.proofs.OutcomeLaws.{answers_refused, answers_result}
use Rattle.draft.specs.declared.Draft.{Draft}
use Rattle.draft.specs.Drafts.{Began, Wrote}
use Rattle.draft.proofs.DraftLaws.{measured_stays, measured_tells, written_used, written_there}

-- its outcome: the table's check, 15, the text
abbrev pub text_outcome : List ℕ → ℕ → List ℕ → Outcome
text_outcome t room text = unless (table_refusal t then applies 15 (ltb room (length text))) text

module _ (t : List ℕ) (room : ℕ) (text : List ℕ) where
  abbrev short : Option Refusal
  short = applies 15 (ltb room (length text))

  -- the check refuses the table
  pub text_refused : (n at : ℕ) → table_refusal t ≡ refusal n at
      → text_outcome t room text ≡ refuse (record { number = n; place = at })
  unfolding ◌then◌ unless
  text_refused n at e = ap (λ (o : Option Refusal). unless (o then short) text) e

  -- it passes
  module _ (e : table_refusal t ≡ none) where
    passed : text_outcome t room text ≡ unless short text
    unfolding ◌then◌
    passed = ap (λ (o : Option Refusal). unless (o then short) text) e

    pub text_15 : ltb room (length text) ≡ true → text_outcome t room text ≡ refuse (record { number = 15; place = 0 })
    unfolding applies unless
    text_15 h = passed ∙ rw h

    pub text_written : ltb room (length text) ≡ false → text_outcome t room text ≡ result text
    unfolding applies unless
    text_written h = passed ∙ rw h

module _ (o : Outcome) (text : List ℕ) (out : MutBor (List ℕ))
    (short : ltb (length out.now) (length text) ≡ true → o ≡ refuse (record { number = 15; place = 0 }))
    (enough : ltb (length out.now) (length text) ≡ false → o ≡ result text)
    (b : Draft) (s : Began true out b) (m : Draft) (w : Wrote text b m) where
  told : m.full ≡ ltb (length out.now) (length text)
  told = measured_tells text out b s m w

  -- `last`: the output once the draft is let go
  pub answers_15 : m.full ≡ true → {last : List ℕ} → last ≡ m.out.now
      → (refused 15 0 ≡ answer o) × (last ≡ output o out.now)
  answers_15 f l =
      let a = answers_refused o 15 0 out.now (short (sym told ∙ f)) in
      (a.0, l ∙ measured_stays text out b s m w ∙ a.1)

  -- and then written
  module _ (f : m.full ≡ false) (out₁ : MutBor (List ℕ)) (same : out₁.now ≡ m.out.now)
      (c : Draft) (r : Began false out₁ c) (k : Draft) (x : Wrote text c k) where
    pub answers_written : {n : ℕ} → n ≡ k.used → {last : List ℕ} → last ≡ k.out.now
        → (accepted n ≡ answer o) × (last ≡ output o out.now)
    answers_written {n} u l =
        let a = answers_result o text k.used out.now k.out.now (enough (sym told ∙ f))
        (written_used text out b s m w f out₁ same c r k x) (written_there text out b s m w f out₁ same c r k x) in
        (ap accepted u ∙ a.0, l ∙ a.1)
