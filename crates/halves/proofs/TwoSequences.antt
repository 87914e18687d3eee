-- A rule over both sequences: one step of its walk, and the least place at fault in both.
use Prim.Native.Nat.{ℕ, suc, ◌+◌, ◌<◌}
use mathlib.Core.Path.{◌≡◌, sym, ap, ap₂, ◌∙◌}
use mathlib.Core.Bool.{Bool, true, false, cond}
use mathlib.Core.List.{List, [], ◌++◌, map}
use lib.ListN.{length, drop, get_or}
use Rattle.answers.proofs.Places.{blamed_on, first_two, toward_none}
use Rattle.answers.specs.Answers.{refusal_at, lower, toward}
use Rattle.std.specs.Prelude.{Option, None}
use Rattle.xliff.specs.Item.{Item, Content}
use Rattle.xliff.specs.Encode.{unit_records}
use Rattle.xliff.specs.Parse.{unit}
use Rattle.xliff.specs.Sequences.{Placed, located, blamed, items, first_of, placed_source_sequence, placed_target_sequence}
use Rattle.places.specs.Passes.{Passes}
use Rattle.places.specs.Found.{marks_found}
use Rattle.places.specs.Markers.{OnMarks, placed_at, target_offsets}
use Rattle.places.proofs.Tests.{length_located, source_blamed, target_blamed}
use Rattle.halves.specs.Nearest.{earlier, marker_at}
use Rattle.halves.proofs.Runs.{earlier_on}

-- one marker further
module _ (n : ℕ) (bad : Content → Item → Content → Bool) (t markers : List ℕ) (i : ℕ) (best : Option ℕ) where
  pub blamed_step : (b : Bool) (at : ℕ) (after : Option ℕ) → i < length markers → at ≡ get_or markers i 0
      → b ≡ bad (earlier (marker_at t markers) i) (marker_at t markers i) (items (placed_at t (drop (suc i) markers))) → after ≡ cond b (lower best at) best
      → toward n best (blamed bad (earlier (marker_at t markers) i) (placed_at t (drop i markers)))
      ≡ toward n after (blamed bad (earlier (marker_at t markers) (i + 1)) (placed_at t (drop (i + 1) markers)))
  blamed_step b at after h e f g =
      blamed_on bad t markers (earlier (marker_at t markers) i) i best n b h f
      ∙ ap₂ (λ (p : Option ℕ) (l : Content). toward n p (blamed bad l (placed_at t (drop (i + 1) markers))))
      (ap (λ (k : ℕ). cond b (lower best k) best) (sym e) ∙ sym g) (earlier_on (marker_at t markers) i)

-- both sequences
pub two_sequences : (n : ℕ) (bad bad' : Content → Item → Content → Bool) → OnMarks bad bad → OnMarks bad' bad' → (t source_markers target_markers : List ℕ) (p q : Option ℕ) → Passes t
    → source_markers ≡ map (λ (p : Placed). p.at) (marks_found true 0 false 0 (unit_records (unit t))) → target_markers ≡ target_offsets t 0 (length (unit t).parts)
    → refusal_at n p ≡ toward n None (blamed bad [] (placed_at t source_markers)) → refusal_at n q ≡ toward n p (blamed bad' [] (placed_at t target_markers))
    → refusal_at n q ≡ first_of n (blamed bad [] (placed_source_sequence (located (unit t).parts)) ++ blamed bad' [] (placed_target_sequence (located (unit t).parts)))
two_sequences n bad bad' o o' t source_markers target_markers p q s e f g h =
    h
    ∙ sym (first_two n p (blamed bad [] (placed_at t source_markers)) (blamed bad' [] (placed_at t target_markers)) (g ∙ sym (toward_none n _)))
    ∙ ap (first_of n)
    (ap₂ ◌++◌ (ap (λ (l : List ℕ). blamed bad [] (placed_at t l)) e ∙ sym (source_blamed t s bad bad o))
    (ap (λ (l : List ℕ). blamed bad' [] (placed_at t l)) (f ∙ ap (target_offsets t 0) (sym (length_located (unit t).parts))) ∙ sym (target_blamed t s bad' bad' o')))
