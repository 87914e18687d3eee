-- Entities, one by one.
use Prim.Native.Nat.{ℕ, ◌+◌, ◌≤◌, ◌<◌}
use mathlib.Core.Path.{◌≡◌, ap, ◌∙◌}
use mathlib.Core.Bool.{true, false}
use mathlib.Core.List.{List}
use native.Mathlib.Numerals.{add-one}
use lib.ListN.{length, get_or, drop, drop_of_length-le}
use lib.Seq.{drop-cons}
use Rattle.std.specs.Borrow.{Bor}
use Rattle.xml.specs.Characters.{Front, found, begins}
use Rattle.xml_reference.specs.References.{entities_else}

abbrev Entity : Type 0
Entity = Bor (List ℕ) × ℕ

-- none of those before the place i stands at the front
abbrev pub NoneBefore : List Entity → List ℕ → ℕ → Type 0
NoneBefore es s i = (f : Front) → entities_else f es s ≡ entities_else f (drop i es) s

module _ (es : List Entity) (s : List ℕ) (i : ℕ) (so_far : NoneBefore es s i) where
  module _ (d : Entity) (h : i < length es) where
    pub this_entity : begins (get_or es i d).0.now s ≡ true → (c : ℕ) → c ≡ (get_or es i d).1 → (f : Front)
        → entities_else f es s ≡ found c (length (get_or es i d).0.now)
    unfolding entities_else
    this_entity e c k f = so_far f ∙ ap (λ (l : List Entity). entities_else f l s) (drop-cons es i d h) ∙ rw (e, k)

    pub another_entity : begins (get_or es i d).0.now s ≡ false → NoneBefore es s (i + 1)
    unfolding entities_else
    another_entity e f =
        so_far f ∙ ap (λ (l : List Entity). entities_else f l s) (drop-cons es i d h) ∙ rw (e, add-one)

  pub no_entity : length es ≤ i → (f : Front) → entities_else f es s ≡ f
  unfolding entities_else
  no_entity h f = so_far f ∙ ap (λ (l : List Entity). entities_else f l s) (drop_of_length-le es {i = i} h)
