-- The ids that markers give, by their keys.
use Prim.Native.Nat.{ℕ, ◌+◌, ◌*◌, ◌≤◌}
use mathlib.Core.Path.{◌≡◌, ◌∙◌}
use mathlib.Core.Bool.{Bool, true, false, not, ◌&&◌, ◌||◌, cond, true≢false}
use mathlib.Core.List.{[], ◌∷◌}
use Rattle.std.specs.Prelude.{None, Some}
use native.Mathlib.Omega.{arith}
use lib.Dec.{eqb}
use Rattle.xliff.specs.Item.{Item, text, class, half, id_of}
use Rattle.xliff.specs.Encode.{Record, opening, closing, part_head, target_head, text_run, inline, ill_text, broken}
use Rattle.xliff.specs.Parse.{is_part}
use Rattle.xliff.specs.Rules.{of_source, of_target, start_name}
use Rattle.places.specs.Found.{found_at, head_name, no_name}
use Rattle.places.specs.Markers.{item_in}
use Rattle.keys.specs.Keys.{key}
use Rattle.keys.proofs.KeyLaws.{id_key_lem, class_key_lem, half_key_lem}
use Rattle.ids.specs.Keys.{owner, named, name_by}
use Rattle.ids.proofs.KeyLaws.{named_some, named_none}

name_key : (x : Item) (o at : ℕ) → o ≤ 3 → named (name_by o (key x)) at ≡ start_name (owner o) (record { item = x; at = at })
unfolding name_by start_name
name_key x o at h = rw (class_key_lem x, half_key_lem x, id_key_lem x) (by (eqb (class x) 0) (eqb (half x) 2))
  where
    by : (c e : Bool) → named (cond (c || e) None (Some (id_of x * 64 + o))) at ≡ cond (not c && not e) (record { owner = owner o; name = id_of x; at = at } ∷ []) []
    by true e = named_none at
    by false true = named_none at
    by false false = named_some o (id_of x) (id_of x * 64 + o) at (omega arith, omega arith)

-- a record that begins no part
pub name_other : (r : Record) (o at : ℕ) → o ≤ 3 → is_part r ≡ false
    → named (name_by o (key (item_in r))) at ≡ found_at of_source (λ q. of_target) head_name (λ q at. []) start_name no_name (owner o) at r
unfolding found_at item_in is_part
name_other (opening c) o at h e = name_key (text 0) o at h ∙ no_name (owner o) 0 at
name_other closing o at h e = name_key (text 0) o at h ∙ no_name (owner o) 0 at
name_other (part_head p) o at h e = absurd (true≢false e)
name_other (target_head q) o at h e = name_key (text 0) o at h ∙ no_name (owner o) 0 at
name_other (text_run cs) o at h e = name_key (text 0) o at h ∙ no_name (owner o) 0 at
name_other (inline x) o at h e = name_key x o at h
name_other ill_text o at h e = name_key (text 0) o at h ∙ no_name (owner o) 0 at
name_other (broken b) o at h e = name_key (text 0) o at h ∙ no_name (owner o) 0 at
