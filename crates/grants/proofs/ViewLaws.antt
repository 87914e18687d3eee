-- The view does not show what is outside the grant; an engineer's is the table.
use Prim.Native.Nat.{ℕ, suc}
use mathlib.Core.Path.{◌≡◌, refl, sym, ap, ap₂, ◌∙◌}
use mathlib.Core.Bool.{cond}
use mathlib.Core.List.{List, [], ◌∷◌}
use mathlib.Core.Option.{Option, none}
use lib.ListN.{length}
use lib.Dec.{ltb}
use Rattle.xliff.specs.Bytes.{'I', among}
use Rattle.xliff.specs.Answer.{Refusal, applies, ◌then◌, Outcome, unless}
use Rattle.xliff.specs.Unit.{Opening, Head, segment, no_target, Part, XliffUnit, with_state}
use Rattle.xliff.specs.Encode.{encode}
use Rattle.xliff.specs.Parse.{unit, table_fault}
use Rattle.xliff.specs.Check.{table_refusal, Valid, operation}
use Rattle.xliff.specs.Focus.{with_parts}
use Rattle.xliff.proofs.unit.Result.{then_left, then_right}
use Rattle.xliff.proofs.unit.Table.{encode_unit}
use Rattle.grants.specs.Grant.{Role, engineer, Grant, part_granted, within}
use Rattle.grants.specs.View.{hidden, shown, view_parts, view_unit, view, SameButState, two_segments, two_ignorables, DifferOutside, no_parts, inside, outside, SameView, EngineersView}

same_heads : (h k : Head) → SameButState h k → with_state 'I' h ≡ with_state 'I' k
unfolding with_state
same_heads _ _ (two_segments f k i c) =
    ap₂ (λ (i c : ℕ). segment (record { id = i; can_resegment = c; state = 'I' })) i c
same_heads _ _ (two_ignorables i) = refl

same_parts : (g : Grant) (n : ℕ) (ps qs : List Part) → DifferOutside g n ps qs → view_parts g n ps ≡ view_parts g n qs
unfolding view_parts shown
same_parts g n _ _ (no_parts _) = refl
same_parts g n _ _ (inside _ p ps qs w d) =
    ap (λ (l : List Part). shown (within g n) p ∷ l) (same_parts g (suc n) ps qs d)
same_parts g n _ _ (outside _ h k xs a b ps qs w s d) =
    let headed : Head → Part = λ x. record { head = x; source = xs; target = no_target } in
    rw w (ap₂ {C = List Part} ◌∷◌ (ap headed (same_heads h k s)) (same_parts g (suc n) ps qs d))

-- on a valid table the view is the outcome of 15 alone
on_valid : (t : List ℕ) (own : Option Refusal) (u : XliffUnit) → table_refusal t ≡ none
    → operation t own u ≡ unless own (encode u)
unfolding operation ◌then◌
on_valid t own u e = ap (λ (o : Option Refusal). unless (o then own) (encode u)) e

shown_as : ℕ → XliffUnit → Outcome
shown_as room v = unless (applies 15 (ltb room (length (encode v)))) (encode v)

view_valid : (t : List ℕ) (g : Grant) (room : ℕ) → Valid t → view t g room ≡ shown_as room (view_unit g (unit t))
unfolding view Valid shown_as
view_valid t g room v = on_valid t _ (view_unit g (unit t)) v

pub same_view : SameView
unfolding SameView view_unit with_parts
same_view s t g room v w c d =
    view_valid s g room v
    ∙ ap₂ (λ (o : Opening) (ps : List Part). shown_as room (record { opening = o; parts = ps })) c
    (same_parts g 1 (unit s).parts (unit t).parts d)
    ∙ sym (view_valid t g room w)

engineer_parts : (g : Grant) → g.role ≡ engineer → (n : ℕ) (ps : List Part) → view_parts g n ps ≡ ps
unfolding view_parts shown within part_granted
engineer_parts g e n [] = refl
engineer_parts g e n (p ∷ ps) =
    ap₂ {C = List Part} ◌∷◌ (ap (λ (r : Role). cond (part_granted r (among n g.positions)) p (hidden p)) e)
    (engineer_parts g e (suc n) ps)

pub engineers_view : EngineersView
unfolding EngineersView view_unit with_parts Valid table_refusal shown_as
engineers_view t g room b v e =
    let f : table_fault t ≡ none = then_left _ _ (then_right _ _ v) in
    view_valid t g room v
    ∙ ap (λ (ps : List Part). shown_as room (record { opening = (unit t).opening; parts = ps }))
    (engineer_parts g e 1 (unit t).parts)
    ∙ ap (λ (l : List ℕ). unless (applies 15 (ltb room (length l))) l) (encode_unit t b f)
