-- Laws of ids as numbers.
use Prim.Native.Nat.{ℕ}
use mathlib.Core.Path.{◌≡◌, refl, ◌∙◌, ap, ap₂}
use mathlib.Core.Bool.{cond}
use mathlib.Core.List.{List, [], ◌∷◌}
use Rattle.std.specs.Prelude.{None, Some}
use borrow.Author.Tests.{eq-eqb, ne_eqb}
use lib.Dec.{eqb}
use Rattle.xliff.specs.Rules.{Owner, of_part, of_source, of_target, start_name}
use Rattle.places.specs.Found.{found_at, head_name, no_name}
use Rattle.table.specs.Meaning.{record_meaning, meaning}
use Rattle.table.specs.declared.Item.{Item}
use Rattle.table.specs.declared.Segment.{Segment}
use Rattle.table.specs.declared.Record.{Record}
use Rattle.table.specs.declared.Record.TheVariants.{Unit as IsUnit, UnitEnd, Segment as IsSegment, Ignorable, Target as IsTarget, Text, Inline}
use Rattle.table.specs.declared.Read.{Read}
use Rattle.table.specs.declared.Read.TheVariants.{Good, Ill, Broken}
use Rattle.xliff.specs.Item.{Half, start, end, Fields, isolated, class, half, id_of}
use Rattle.ids.specs.Keys.{owner, Keyed, named}

-- a number of an owner and an id
pub named_some : (o id k at : ℕ) → Keyed o id k → named (Some k) at ≡ record { owner = owner o; name = id; at = at } ∷ []
unfolding named
named_some o id k at e = ap₂ (λ (a b : ℕ). record { owner = owner a; name = b; at = at } ∷ []) e.0 e.1

pub named_none : (at : ℕ) → named None at ≡ []
unfolding named
named_none at = refl

pub part_owner : owner 1 ≡ of_part
unfolding owner
part_owner = refl

pub head_named : (id k at : ℕ) → (id ≡ 0 → ⊥) → Keyed 1 id k → named (Some k) at ≡ cond (eqb id 0) [] (record { owner = of_part; name = id; at = at } ∷ [])
head_named id k at n e = rw (ne_eqb id 0 n) (named_some 1 id k at e ∙ ap (λ (o : Owner). record { owner = o; name = id; at = at } ∷ []) part_owner)

pub head_none : (id at : ℕ) → id ≡ 0 → named None at ≡ cond (eqb id 0) [] (record { owner = of_part; name = id; at = at } ∷ [])
head_none id at e = rw (eq-eqb id 0 e) (named_none at)

pub isolated_name : (o : Owner) (h : Half) (f : Fields) (at : ℕ) → start_name o (record { item = isolated h f; at = at }) ≡ record { owner = o; name = f.id; at = at } ∷ []
unfolding start_name class half id_of
isolated_name o start f at = refl
isolated_name o end f at = refl

-- a record that gives no id
pub no_id : (o : Owner) (cs : List ℕ) (at : ℕ) (x : Record) → ((f : Segment) → x ≡ IsSegment f → ⊥) → ((i : ℕ) → x ≡ Ignorable i → ⊥) → ((i : Item) → x ≡ Inline i → ⊥)
    → named None at ≡ found_at of_source (λ q. of_target) head_name (λ q at. []) start_name no_name o at (record_meaning cs x)
unfolding named found_at
no_id o cs at (IsUnit c) a b d = refl
no_id o cs at UnitEnd a b d = refl
no_id o cs at (IsSegment f) a b d = absurd (a f refl)
no_id o cs at (Ignorable i) a b d = absurd (b i refl)
no_id o cs at (IsTarget q) a b d = refl
no_id o cs at Text a b d = refl
no_id o cs at (Inline i) a b d = absurd (d i refl)

-- what is no good record gives none
pub no_record : (o : Owner) (cs : List ℕ) (at : ℕ) (r : Read) → ((x : Record) (w : ℕ) → r ≡ Good x w → ⊥)
    → named None at ≡ found_at of_source (λ q. of_target) head_name (λ q at. []) start_name no_name o at (meaning cs r)
unfolding named found_at
no_record o cs at (Good x w) a = absurd (a x w refl)
no_record o cs at Ill a = refl
no_record o cs at (Broken b) a = refl
