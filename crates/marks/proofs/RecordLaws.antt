-- What is read of a good record by its mark: how many bytes it takes, and its number at an offset.
use Prim.Native.Nat.{ℕ, suc, ◌+◌, ◌*◌, ◌≤◌}
use mathlib.Core.Path.{◌≡◌, refl, sym, ap, ap₂, ◌∙◌}
use mathlib.Core.List.{List, [], ◌∷◌, ◌++◌}
use native.Mathlib.Omega.{arith}
use lib.ListN.{length, get_or, drop}
use lib.Seq.{get_or-drop}
use Rattle.xliff.specs.Bytes.{two, four, two_at}
use Rattle.xliff.specs.Text.{utf8s}
use Rattle.xliff.specs.Item.{Item, start, end, form_P, form_S, text, character, standalone, isolated, pair, annotation_start, annotation_end, mark}
use Rattle.xliff.specs.Unit.{segment, ignorable}
use Rattle.xliff.specs.Encode.{Record, opening, closing, part_head, target_head, text_run, inline, ill_text, broken, code_bytes, field_bytes, head_bytes, record_bytes}
use Rattle.xliff.specs.Parse.{is, mark_of, mark_at, size_of}
use Rattle.xliff.specs.Good.{GoodItem, GoodRecord}
use Rattle.xliff.proofs.lists.Tests.{two_value}

-- the size that the mark says is that of the bytes
abbrev Sized : Record → List ℕ → Type 0
Sized r s = size_of (mark_at (record_bytes r ++ s)) (record_bytes r ++ s) ≡ length (record_bytes r)

item_size : (x : Item) (s : List ℕ) → GoodItem x → Sized (inline x) s
unfolding mark_at mark_of is record_bytes mark field_bytes code_bytes two four
item_size (text c) s g = absurd g
item_size (character c) s g = refl
item_size (standalone f) s g = refl
item_size (isolated start f) s g = refl
item_size (isolated end f) s g = refl
item_size (pair start form_P f) s g = refl
item_size (pair start form_S f) s g = refl
item_size (pair end form_P f) s g = refl
item_size (pair end form_S f) s g = refl
item_size (annotation_start form_P i t) s g = refl
item_size (annotation_start form_S i t) s g = refl
item_size (annotation_end form_P i) s g = refl
item_size (annotation_end form_S i) s g = refl

pub record_size : (r : Record) (s : List ℕ) → GoodRecord r → Sized r s
unfolding mark_at mark_of is two_at record_bytes head_bytes two
record_size (opening o) s g = refl
record_size closing s g = refl
record_size (part_head (segment f)) s g = refl
record_size (part_head (ignorable i)) s g = refl
record_size (target_head q) s g = refl
record_size (text_run cs) s g = omega (arith, two_value (length (utf8s cs)))
record_size (inline x) s g = item_size x s g
record_size ill_text s g = absurd g
record_size (broken b) s g = absurd g

-- a number read at an offset is that of the rest
pub number_there : (t : List ℕ) (at i : ℕ) → two_at t (at + i) ≡ two_at (drop at t) i
unfolding two_at
number_there t at i =
    let next : at + suc i ≡ suc (at + i) = omega arith in
    sym (ap₂ (λ (a b : ℕ). a * 256 + b) (get_or-drop at t i 0) (get_or-drop at t (suc i) 0 ∙ ap (λ (k : ℕ). get_or t k 0) next))

-- the mark of bytes is that of the bytes with more behind them
pub mark_front : (l s : List ℕ) → 2 ≤ length l → mark_at (l ++ s) ≡ mark_at l
unfolding mark_at
mark_front [] s h = absurd (let y : ⊥ = omega arith in y)
mark_front (a ∷ []) s h = absurd (let y : ⊥ = omega arith in y)
mark_front (a ∷ b ∷ l) s h = refl
