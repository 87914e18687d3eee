-- The number of records with a target set, and the test of 15.
use Prim.Native.Nat.{ℕ, ◌+◌, ◌-◌, ◌<◌, ◌≤◌}
use mathlib.Core.Path.{◌≡◌, refl, sym, ap, ◌∙◌}
use mathlib.Core.Bool.{true, false, ◌||◌, true≢false}
use mathlib.Core.List.{List, ◌∷◌, ◌++◌}
use native.Mathlib.Omega.{arith}
use lib.ListN.{length, length-append}
use lib.Dec.{ltb}
use borrow.Author.Tests.{lt-ltb, le-ltb}
use Rattle.xliff.specs.Item.{Content}
use Rattle.xliff.specs.Unit.{Target, no_target, target, Part, XliffUnit, target_items}
use Rattle.xliff.specs.Encode.{Record, content_records, target_records, part_records, unit_records, content_bytes, encode}
use Rattle.xliff.specs.Parse.{unit, most_bytes, most_parts, most_records}
use Rattle.xliff.specs.Check.{too_large}
use Rattle.xliff.specs.Focus.{with_parts}
use Rattle.xliff.proofs.lists.Tests.{or-true, or_none}
use Rattle.xliff.proofs.unit.Valid.{heads_unit}
use Rattle.places.specs.Passes.{Passes}
use Rattle.walk.specs.Kept.{Of, Holds, Rest}
use Rattle.walk.proofs.WalkLaws.{Next, rest_start, rest_end}
use Rattle.std.specs.Prelude.{is_some}
use Rattle.part_at.specs.declared.PartPlace.{PartPlace}
use Rattle.part_at.specs.Stands.{PartStands, TargetStands}
use Rattle.part_at.proofs.CountLaws.{count, count_append, count_cons, unit_count}
use Rattle.set_result.specs.SetUnit.{set_part, unit_with, size_with}
use Rattle.set_result.proofs.PieceLaws.{set_long}

pub holds_bytes : (c : List ℕ) (xs : Content) → Holds c xs → content_bytes xs ≡ c
unfolding content_bytes
holds_bytes c xs o = o.1

-- the records of a content, of which n are passed
pub record Passed (c : List ℕ) (rs : List Record) (at n : ℕ) : Type 0 where
  pub after : List Record
  pub rest : Rest c at after
  pub count : n + length after ≡ length rs

pub passed_start : (c : List ℕ) (rs : List Record) → Of c rs → Passed c rs 0 0
passed_start c rs o = record { after = rs; rest = rest_start c rs o; count = omega arith }

pub passed_on : (c : List ℕ) (rs : List Record) (at w n : ℕ) (m : Passed c rs at n) → Next c at w m.after → Passed c rs (at + w) (n + 1)
passed_on c rs at w n m k =
    record { after = k.others; rest = k.rest; count = omega (arith, m.count, ap (λ (l : List Record). length l) k.all) }

pub passed_all : (c : List ℕ) (rs : List Record) (at n : ℕ) → length c ≤ at → Passed c rs at n → n ≡ length rs
passed_all c rs at n h m = omega (arith, m.count, ap (λ (l : List Record). length l) (rest_end c at m.after h m.rest))

-- the records of the old target
module _ (t : List ℕ) (place : PartPlace) where
  pub old_there : (g : Target) → TargetStands t place g → is_some place.order ≡ true → (n : ℕ)
      → n ≡ length (content_records (target_items g)) → 1 + n ≡ length (target_records g)
  unfolding target_records target_items
  old_there no_target s e n h = absurd (true≢false (sym e ∙ ap is_some s.0))
  old_there (target q xs) s e n h = omega (arith, h)

  pub no_old : (g : Target) → TargetStands t place g → is_some place.order ≡ false → 0 ≡ length (target_records g)
  unfolding target_records
  no_old no_target s e = refl
  no_old (target q xs) s e = absurd (true≢false (sym (ap is_some s.0) ∙ e))

-- the records of parts
count_at : (b : List Part) (p : Part) (a : List Part) → count (b ++ (p ∷ a)) ≡ count b + (length (part_records p) + count a)
count_at b p a = count_append b (p ∷ a) ∙ ap (λ (n : ℕ). count b + n) (count_cons p a)

part_count : (p : Part) → length (part_records p) ≡ 1 + length (content_records p.source) + length (target_records p.target)
unfolding part_records
part_count p = omega (arith, length-append (content_records p.source) (target_records p.target))

module _ (u : XliffUnit) (st q : ℕ) (xs : Content) (b : List Part) (p : Part) (a : List Part) (e : u.parts ≡ b ++ (p ∷ a)) where
  pub old_within : length (target_records p.target) ≤ length (unit_records u)
  old_within =
      let z : count u.parts ≡ count (b ++ (p ∷ a)) = ap count e in
      omega (arith, z, unit_count u, count_at b p a, part_count p)

  pub new_records : length (unit_records u) + 1 + length (content_records xs) - length (target_records p.target) ≡ length
      (unit_records (unit_with u st q xs b p a))
  unfolding unit_with with_parts target_records
  new_records =
      let z : count u.parts ≡ count (b ++ (p ∷ a)) = ap count e in
      omega (
        arith,
        z,
        unit_count (unit_with u st q xs b p a),
        unit_count u,
        count_at b (set_part st q xs p) a,
        count_at b p a,
        part_count (set_part st q xs p),
        part_count p,
      )

  pub same_parts : length (unit_with u st q xs b p a).parts ≡ length u.parts
  unfolding unit_with with_parts
  same_parts =
      let z : length u.parts ≡ length (b ++ (p ∷ a)) = ap (λ (l : List Part). length l) e in
      omega (arith, z, length-append b (set_part st q xs p ∷ a), length-append b (p ∷ a))

-- the test
too_large_is : (room bytes records : ℕ) (v : XliffUnit) → bytes ≡ length (encode v) → records ≡ length (unit_records v)
    → length v.parts ≤ most_parts
    → ltb room bytes || (ltb most_bytes bytes || ltb most_records records) ≡ too_large room v
unfolding too_large
too_large_is room bytes records v x y z = rw (x, y, le-ltb most_parts (length v.parts) z, or_none (ltb most_records (length (unit_records v))))

long_is : (room : ℕ) (v : XliffUnit) → most_bytes < length (encode v) → true ≡ too_large room v
unfolding too_large
long_is room v x = sym (rw (lt-ltb most_bytes (length (encode v)) x) (or-true (ltb room (length (encode v)))))

module _ (t : List ℕ) (k : Passes t) (place : PartPlace) (b : List Part) (p : Part) (a : List Part) (s : PartStands t b p a place)
    (c : List ℕ) (xs : Content) (is : content_bytes xs ≡ c) (st q room : ℕ) where
  abbrev v : XliffUnit
  v = unit_with (unit t) st q xs b p a

  pub long_content : most_bytes < length c → true ≡ too_large room v
  long_content l = long_is room v (omega (arith, set_long t b p a place s st q xs c is))

  pub counted : (all new old : ℕ) → all ≡ length (unit_records (unit t)) → new ≡ length (content_records xs)
      → old ≡ length (target_records p.target)
      → ltb room (size_with t place c) || (ltb most_bytes (size_with t place c) || ltb most_records (all + 1 + new - old)) ≡ too_large room v
  counted all new old x y z =
      too_large_is room (size_with t place c) (all + 1 + new - old) v (sym (set_long t b p a place s st q xs c is))
      (rw (x, y, z) (new_records (unit t) st q xs b p a s.all))
      (omega (arith, same_parts (unit t) st q xs b p a s.all, k.few_parts, heads_unit (unit t)))
