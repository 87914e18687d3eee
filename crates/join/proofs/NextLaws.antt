-- The part behind a part.
use Prim.Native.Nat.{ℕ, suc, ◌+◌}
use mathlib.Core.Path.{◌≡◌, sym, ap, ap₂, ◌∙◌, subst}
use mathlib.Core.List.{List, [], ◌∷◌, ◌++◌, append_assoc}
use native.Mathlib.Omega.{arith}
use native.Mathlib.Numerals.{add-one}
use lib.ListN.{length, length-append}
use Rattle.xliff.specs.Unit.{Part}
use Rattle.xliff.specs.Focus.{nowhere, here, focus}
use Rattle.xliff.specs.Parse.{unit}
use Rattle.xliff.proofs.operations.Sources.{focus_here, focus_at, focus_in}
use Rattle.part_at.proofs.PartLaws.{focus_beyond}
use Rattle.part_at.specs.declared.PartPlace.{PartPlace}
use Rattle.part_at.specs.Stands.{PartStands}
use Rattle.join_result.specs.Result.{Beside}

module _ (ps : List Part) (n : ℕ) (b : List Part) (p : Part) where
  one_more : n ≡ suc (length b) → suc n ≡ suc (length (b ++ (p ∷ [])))
  one_more e = omega (arith, length-append b (p ∷ []))

  pub next_there : (q : Part) (a : List Part) → focus ps n ≡ here b p (q ∷ a) → focus ps (suc n) ≡ here (b ++ (p ∷ [])) q a
  next_there q a e =
      ap₂ focus (focus_here ps n b p (q ∷ a) e ∙ sym (append_assoc b (p ∷ []) (q ∷ a))) (one_more (focus_at ps n b p (q ∷ a) e))
      ∙ focus_in (b ++ (p ∷ [])) q a

  pub none_next : focus ps n ≡ here b p [] → focus ps (suc n) ≡ nowhere
  none_next e = ap₂ focus (focus_here ps n b p [] e) (one_more (focus_at ps n b p [] e))
      ∙ focus_beyond (b ++ (p ∷ [])) (suc (length (b ++ (p ∷ [])))) (omega arith)

clash : {A : Type 0} {b : List Part} {p : Part} {a : List Part} → nowhere ≡ here b p a → A
clash e = absurd (let z : ◌≡◌ {A = ℕ} 0 1 = cc in let y : ⊥ = omega arith in y)

-- there is no next part only behind the last
pub last_part : (ps : List Part) (n : ℕ) (b : List Part) (p : Part) (a : List Part) → focus ps n ≡ here b p a → focus ps (n + 1) ≡ nowhere
    → focus ps n ≡ here b p []
last_part ps n b p [] e f = e
last_part ps n b p (q ∷ a) e f = clash (sym f ∙ ap (focus ps) (add-one n) ∙ next_there ps n b p q a e)

-- two parts one after the other stand side by side
pub record Next (t : List ℕ) (n : ℕ) (x y : PartPlace) : Type 0 where
  pub before : List Part
  pub first : Part
  pub second : Part
  pub after : List Part
  pub is : focus (unit t).parts n ≡ here before first (second ∷ after)
  pub beside : Beside t x y before first second after

pub next_part : (t : List ℕ) (n : ℕ) (x y : PartPlace) (b : List Part) (p : Part) (a : List Part) → focus (unit t).parts n ≡ here b p a
    → PartStands t b p a x
    → (c : List Part) (q : Part) (d : List Part) → focus (unit t).parts (n + 1) ≡ here c q d → PartStands t c q d y → Next t n x y
next_part t n x y b p [] e s c q d f u = clash (sym (none_next (unit t).parts n b p e) ∙ ap (focus (unit t).parts) (sym (add-one n)) ∙ f)
next_part t n x y b p (r ∷ a) e s c q d f u =
    let z : here c q d ≡ here (b ++ (p ∷ [])) r a = sym f ∙ ap (focus (unit t).parts) (add-one n) ∙ next_there (unit t).parts n b p r a e in
    record {
      before = b;
      first = p;
      second = r;
      after = a;
      is = e;
      beside = record { first = s; second = same c q d (b ++ (p ∷ [])) r a z u };
    }
  where
    same : (c : List Part) (q : Part) (d : List Part) (c' : List Part) (q' : Part) (d' : List Part) → here c q d ≡ here c' q' d'
        → PartStands t c q d y → PartStands t c' q' d' y
    same c q d c' q' d' z u =
        let i : c ≡ c' = cc in
        let j : q ≡ q' = cc in
        let k : d ≡ d' = cc in
        subst (λ (l : List Part). PartStands t c' q' l y) k
        (subst (λ (l : Part). PartStands t c' l d y) j (subst (λ (l : List Part). PartStands t l q d y) i u))
