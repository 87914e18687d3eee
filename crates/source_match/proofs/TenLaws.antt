-- Rule 10, both sequences.
use Prim.Native.Nat.{ℕ}
use mathlib.Core.Path.{◌≡◌, sym, ap, ap₂, ◌∙◌}
use mathlib.Core.Bool.{true}
use mathlib.Core.List.{List, [], ◌++◌}
use lib.ListN.{length}
use Rattle.answers.proofs.Places.{first_two}
use Rattle.answers.specs.Answers.{refusal_at, toward}
use Rattle.xliff.specs.Item.{Content}
use Rattle.xliff.specs.Parse.{unit}
use Rattle.xliff.specs.Sequences.{located, blamed, first_of}
use Rattle.xliff.specs.Rules.{bad_10_source, bad_10_target, fault_10}
use Rattle.places.specs.Passes.{Passes}
use Rattle.places.specs.Markers.{placed_at, target_offsets}
use Rattle.places.proofs.Tests.{length_located}
use Rattle.places.proofs.Ten.{rule_10_marks}
use Rattle.std.specs.Prelude.{Option}
use Rattle.sequences.specs.Marks.{offsets}
use Rattle.views.specs.Views.{items_of_markers}
use Rattle.views.proofs.ViewLaws.{items_at}

pub rule_10_is : (t source_markers target_markers : List ℕ) (p q : Option ℕ) → Passes t → source_markers ≡ offsets true 0 t → target_markers ≡ target_offsets t 0 (length (unit t).parts)
    → refusal_at 10 p ≡ first_of 10 (blamed bad_10_source [] (placed_at t source_markers)) → refusal_at 10 q
    ≡ toward 10 p (blamed (bad_10_target (items_of_markers t source_markers)) [] (placed_at t target_markers))
    → refusal_at 10 q ≡ fault_10 (unit t).parts
unfolding offsets
rule_10_is t source_markers target_markers p q s e f g h =
    h
    ∙ sym (first_two 10 p (blamed bad_10_source [] (placed_at t source_markers)) (blamed (bad_10_target (items_of_markers t source_markers)) [] (placed_at t target_markers)) g)
    ∙ ap₂ (λ (a b : List ℕ). first_of 10
    (blamed bad_10_source [] (placed_at t a)
    ++ blamed (bad_10_target (items_of_markers t a)) [] (placed_at t b)))
    e (f ∙ ap (target_offsets t 0) (sym (length_located (unit t).parts)))
    ∙ ap (λ (c : Content). first_of 10
    (blamed bad_10_source [] (placed_at t (offsets true 0 t))
    ++ blamed (bad_10_target c) [] (placed_at t (target_offsets t 0 (length (located (unit t).parts))))))
    (sym (items_at t (offsets true 0 t)))
    ∙ sym (rule_10_marks t s)
