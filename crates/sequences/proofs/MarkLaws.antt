-- Markers, one record further.
use Prim.Native.Nat.{ℕ, zero, suc, ◌+◌, ◌-◌, ◌≤◌, ◌<◌}
use mathlib.Core.Path.{◌≡◌, refl, sym, ◌∙◌, ap, ap₂}
use mathlib.Core.Bool.{Bool, true, false, not, ◌&&◌, cond, true≢false}
use mathlib.Core.List.{List, [], ◌∷◌, ◌++◌, append_assoc, append-nil}
use native.Mathlib.Omega.{arith}
use lib.ListN.{length, take, drop, set, length-set, length-append}
use lib.Dec.{eqb}
use Rattle.xliff.specs.Encode as encode
use Rattle.xliff.specs.Encode.{record_bytes}
use Rattle.xliff.specs.Item as spec
use Rattle.xliff.specs.Item.{class}
use Rattle.xliff.proofs.lists.Tests.{map-append}
use Rattle.xliff.specs.Parse.{most_records}
use Rattle.places.specs.Passes.{Passes}
use Rattle.places.specs.Offsets.{At}
use Rattle.places.proofs.Places.{at_end}
use Rattle.places.specs.Found.{found, found_at, state_after, marker, no_marker, marks_found}
use Rattle.places.specs.Markers.{target_offsets}
use Rattle.places.proofs.Few.{few_source}
use Rattle.table.specs.Meaning.{meaning, width, body, half, item}
use Rattle.table.specs.declared.Half.{Half}
use Rattle.table.specs.declared.Half.TheVariants.{Start, End}
use Rattle.table.specs.declared.Item.{Item}
use Rattle.table.specs.declared.Record.TheVariants.{Unit as UnitStart, UnitEnd, Segment, Ignorable, Target, Text, Inline}
use Rattle.table.specs.declared.Read.{Read}
use Rattle.table.specs.declared.Read.TheVariants.{Good, Ill, Broken}
use Rattle.orders.proofs.WalkLaws.{Stepped}
use Rattle.sequences.specs.Marks.{places, ItemMarked, ReadMarked, inside_of, offsets}

pub isolated_marked : (h : Half) (f : spec.Fields) → true ≡ not (eqb (class (spec.isolated (half h) f)) 0)
unfolding class
isolated_marked Start f = refl
isolated_marked End f = refl

pub inline_marked : (inside b : Bool) (i : Item) (at : ℕ) → ItemMarked i b → places (marker inside (record { item = item i; at = at })) ≡ cond (inside && b) (at ∷ []) []
unfolding marker
inline_marked inside b i at e = rw (← e) (by (inside && b))
  where
    by : (c : Bool) → places (cond c (record { item = item i; at = at } ∷ []) []) ≡ cond c (at ∷ []) []
    by true = refl
    by false = refl

inside_after : (source : Bool) (q : ℕ) (inside : Bool) (cs : List ℕ) (r : Read)
    → state_after source (λ k. not source && eqb q k) (λ h at. []) (λ k at. []) marker no_marker inside (meaning cs r) ≡ inside_of source q inside r
unfolding state_after
inside_after source q inside cs (Good (UnitStart c) w) = refl
inside_after source q inside cs (Good UnitEnd w) = refl
inside_after source q inside cs (Good (Segment f) w) = refl
inside_after source q inside cs (Good (Ignorable i) w) = refl
inside_after source q inside cs (Good (Target k) w) = refl
inside_after source q inside cs (Good Text w) = refl
inside_after source q inside cs (Good (Inline i) w) = refl
inside_after source q inside cs Ill = refl
inside_after source q inside cs (Broken b) = refl

pub marks_step : (t : List ℕ) (at : ℕ) (rs : List encode.Record) (r : Read) (s : Stepped t at rs r) (source : Bool) (q : ℕ) (inside b : Bool) → ReadMarked inside r b
    → places (marks_found source q inside at rs) ≡ cond b (at ∷ []) [] ++ places (marks_found source q (inside_of source q inside r) (at + width r) s.others)
unfolding found
marks_step t at rs r s source q inside b e =
    ap (λ (l : List encode.Record). places (marks_found source q inside at l)) s.split
    ∙ map-append (λ p. p.at) (found_at source (λ k. not source && eqb q k) (λ h at. []) (λ k at. []) marker no_marker inside at s.first) _
    ∙ ap₂ (λ (l : List ℕ) (p : Bool). l ++ places (marks_found source q p (at + length (record_bytes s.first)) s.others))
    (ap (λ (x : encode.Record). places (found_at source (λ k. not source && eqb q k) (λ h at. []) (λ k at. []) marker no_marker inside at x)) (sym s.means) ∙ e source q (body (drop at t)) at)
    (ap (state_after source (λ k. not source && eqb q k) (λ h at. []) (λ k at. []) marker no_marker inside) (sym s.means) ∙ inside_after source q inside (body (drop at t)) r)
    ∙ ap (λ (j : ℕ). cond b (at ∷ []) [] ++ places (marks_found source q (inside_of source q inside r) (at + j) s.others)) (sym s.wide)

pub marks_end : (t : List ℕ) (at : ℕ) (rs : List encode.Record) (source : Bool) (q : ℕ) (inside : Bool) → At t at rs → length t ≤ at → places (marks_found source q inside at rs) ≡ []
unfolding found
marks_end t at rs source q inside a l = ap (λ (l : List encode.Record). places (marks_found source q inside at l)) (at_end t at rs a l)

take_more : (l : List ℕ) (n k : ℕ) → n < length l → take (suc n) (set l n k) ≡ take n l ++ (k ∷ [])
take_more [] n k h = absurd (omega arith)
take_more (x ∷ l) zero k h = refl
take_more (x ∷ l) (suc n) k h = ap {B = List ℕ} (λ r. x ∷ r) (take_more l n k (omega arith))

-- a number stored behind the first n
pub put_room : (b : Bool) (k m n : ℕ) → b ≡ true → length (cond b (k ∷ []) []) + m ≤ n → m < n
put_room true k m n e h = omega arith
put_room false k m n e h = absurd (true≢false (sym e))

pub put_more : (b : Bool) (l : List ℕ) (n k : ℕ) → b ≡ true → n < length l
    → (take (1 + n) (set l n k) ≡ take n l ++ cond b (k ∷ []) []) × (1 + n ≡ length (cond b (k ∷ []) []) + n) × (length (set l n k) ≡ length l)
put_more true l n k e h = (ap (λ (j : ℕ). take j (set l n k)) (let z : 1 + n ≡ suc n = omega arith in z) ∙ take_more l n k h, refl, length-set l n k)
put_more false l n k e h = absurd (true≢false (sym e))

pub put_none : (b : Bool) (l : List ℕ) (n k : ℕ) → b ≡ false → (take n l ≡ take n l ++ cond b (k ∷ []) []) × (n ≡ length (cond b (k ∷ []) []) + n) × (length l ≡ length l)
put_none true l n k e = absurd (true≢false e)
put_none false l n k e = (sym (append-nil (take n l)), omega arith, refl)

pub collected : (A P P' T T' W : List ℕ) → P ≡ A ++ P' → T' ≡ T ++ A → T ++ P ≡ W → T' ++ P' ≡ W
collected A P P' T T' W e f g = ap (λ (l : List ℕ). l ++ P') f ∙ append_assoc T A P' ∙ ap (λ (l : List ℕ). T ++ l) (sym e) ∙ g

pub counted : (A P P' : List ℕ) (m m' k : ℕ) → P ≡ A ++ P' → m' ≡ length A + m → length P + m ≡ k → length P' + m' ≡ k
counted A P P' m m' k e f g = omega (arith, ap length e, length-append A P', f, g)

pub source_room : (t : List ℕ) → Passes t → length (offsets true 0 t) ≤ most_records
unfolding offsets
source_room t p = few_source t p

target_first : (t : List ℕ) (q m : ℕ) → target_offsets t q (suc m) ≡ offsets false (suc q) t ++ target_offsets t (suc q) m
unfolding target_offsets offsets
target_first t q m = refl

pub order_on : (t : List ℕ) (q parts : ℕ) → q < parts → target_offsets t q (parts - q) ≡ offsets false (q + 1) t ++ target_offsets t (q + 1) (parts - (q + 1))
order_on t q parts h =
    ap (target_offsets t q) (let z : parts - q ≡ suc (parts - (q + 1)) = omega arith in z)
    ∙ target_first t q (parts - (q + 1))
    ∙ ap (λ (k : ℕ). offsets false k t ++ target_offsets t k (parts - (q + 1))) (let z : suc q ≡ q + 1 = omega arith in z)

pub order_end : (t : List ℕ) (q parts : ℕ) → parts ≤ q → target_offsets t q (parts - q) ≡ []
unfolding target_offsets
order_end t q parts h = ap (target_offsets t q) (let z : parts - q ≡ 0 = omega arith in z)

pub order_start : (t : List ℕ) (parts : ℕ) → target_offsets t 0 (parts - 0) ≡ target_offsets t 0 parts
order_start t parts = ap (target_offsets t 0) (let z : parts - 0 ≡ parts = omega arith in z)
