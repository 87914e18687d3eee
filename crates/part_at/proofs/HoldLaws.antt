-- The bytes of the contents of a part that stands in a table hold them.
use mathlib.Core.Bool.{true, false, true≢false}
use Rattle.std.specs.Prelude.{is_some, Option, cond}
use Prim.Native.Nat.{ℕ, zero, suc, ◌+◌, ◌-◌, ◌≤◌}
use mathlib.Core.Path.{◌≡◌, sym, refl, ap, ◌∙◌, subst}
use mathlib.Core.List.{List, [], ◌∷◌, ◌++◌}
use native.Mathlib.Omega.{arith}
use lib.ListN.{length, take, drop}
use Rattle.xliff.specs.Bytes.{Bytes, no_bytes, one_byte, gather}
use Rattle.xliff.specs.Item.{Content}
use Rattle.xliff.specs.Unit.{Target, no_target, target, Part, target_items}
use Rattle.xliff.specs.Encode.{Record, content_records, target_records, part_records, spell, content_bytes}
use Rattle.xliff.specs.Good.{each_cons, AllGood}
use Rattle.xliff.proofs.lists.Each.{each_left, each_right}
use Rattle.xliff.proofs.unit.Table.{bytes_drop}
use Rattle.walk.specs.Kept.{kept_end, Holds}
use Rattle.cut.proofs.ContentLaws.{holds_good}
use Rattle.part_at.specs.declared.PartPlace.{PartPlace}
use Rattle.part_at.specs.Stands.{Slice, TargetStands, PartStands}

pub bytes_take : (n : ℕ) (s : List ℕ) → Bytes s → Bytes (take n s)
bytes_take zero s h = no_bytes
bytes_take (suc n) [] h = no_bytes
bytes_take (suc n) (b ∷ s) (one_byte p h) = one_byte p (bytes_take n s h)

pub good_rest : {r : Record} {rs : List Record} → AllGood (r ∷ rs) → AllGood rs
good_rest (each_cons g a) = a

-- the slices of the code
abbrev pub source_of : List ℕ → PartPlace → List ℕ
source_of t x = take (x.target - x.source) (drop x.source t)

abbrev pub target_of : List ℕ → PartPlace → List ℕ
target_of t x = take (x.end - (x.target + 4)) (drop (x.target + 4) t)

-- the bytes of a slice of a table hold a content
pub holds_slice : (t : List ℕ) (from to : ℕ) (xs : Content) → Bytes t → Slice t from to (content_bytes xs) → AllGood (content_records xs) → Holds (take (to - from) (drop from t)) xs
holds_slice t from to xs h s g = holds_good (take (to - from) (drop from t)) xs (bytes_take (to - from) (drop from t) (bytes_drop from t h)) (sym s.is) g

-- no bytes hold no content
holds_nothing : (t : List ℕ) (to from : ℕ) → from ≡ to → Holds (take (to - from) (drop from t)) []
unfolding content_records spell gather
holds_nothing t to from e =
    (kept_end, ap (λ (n : ℕ). take n (drop from t)) (let z : 0 ≡ to - from = omega (arith, e) in z))

pub record TargetThere (t : List ℕ) (x : PartPlace) (g : Target) : Type 0 where
  pub ordered : x.target + 4 ≤ x.end
  pub within : x.end ≤ length t
  pub holds : Holds (target_of t x) (target_items g)

pub nothing_there : (t : List ℕ) (x : PartPlace) (g : Target) → TargetStands t x g → is_some x.order ≡ false → target_items g ≡ []
unfolding target_items
nothing_there t x no_target s z = refl
nothing_there t x (target q xs) (o, hs, ts) z = absurd (true≢false (sym (ap is_some o) ∙ z))

module _ (t : List ℕ) (h : Bytes t) (b : List Part) (p : Part) (a : List Part) (x : PartPlace) (s : PartStands t b p a x) where
  pub good_part : AllGood (content_records p.source ++ target_records p.target)
  unfolding part_records
  good_part = good_rest (each_left (part_records p) _ s.records.good)

  pub holds_source : Holds (source_of t x) p.source
  holds_source = holds_slice t x.source x.target p.source h s.source (each_left (content_records p.source) (target_records p.target) good_part)

  target_order : (g : Target) → TargetStands t x g → x.target ≤ length t → (x.target ≤ x.end) × (x.end ≤ length t)
  target_order no_target e k = (omega (arith, e.1), omega (arith, e.1))
  target_order (target q xs) e k = (omega (arith, e.2.ordered), e.2.within)

  pub target_ends : (x.target ≤ x.end) × (x.end ≤ length t)
  target_ends = target_order p.target s.target s.source.within

  good_target : AllGood (target_records p.target)
  good_target = each_right (content_records p.source) (target_records p.target) good_part

  there : (g : Target) → TargetStands t x g → AllGood (target_records g) → is_some x.order ≡ true → TargetThere t x g
  unfolding target_items target_records
  there no_target (o, e) k z = absurd (true≢false (sym z ∙ ap is_some o))
  there (target q xs) (o, hs, ts) k z = record { ordered = ts.ordered; within = ts.within; holds = holds_slice t (x.target + 4) x.end xs h ts (good_rest k) }

  pub target_there : is_some x.order ≡ true → TargetThere t x p.target
  target_there z = there p.target s.target good_target z

  -- the target's content from `start` on, which is at the end without a target
  abbrev from : ℕ → List ℕ
  from start = take (x.end - start) (drop start t)

  held_by : (g : Target) → TargetStands t x g → AllGood (target_records g) → (start : ℕ)
      → start ≡ cond (is_some x.order) (x.target + 4) x.end → Holds (from start) (target_items g)
  unfolding target_items target_records
  held_by no_target (o, e) k start is =
      holds_nothing t x.end start (is ∙ ap (λ (q : Option ℕ). cond (is_some q) (x.target + 4) x.end) o)
  held_by (target q xs) (o, hs, ts) k start is =
      subst (λ (n : ℕ). Holds (from n) xs)
      (sym (is ∙ ap (λ (q : Option ℕ). cond (is_some q) (x.target + 4) x.end) o))
      (holds_slice t (x.target + 4) x.end xs h ts (good_rest k))

  pub target_held : (start : ℕ) → start ≡ cond (is_some x.order) (x.target + 4) x.end → Holds (from start) (target_items p.target)
  target_held start is = held_by p.target s.target good_target start is
