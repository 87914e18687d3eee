-- The walks that look for a code, and for one that is lost: each stops, or goes on by one record.
use Rattle.xliff.specs.Good.{GoodItem, gets}
use Prim.Native.Nat.{ℕ, zero, suc, ◌+◌, ◌≤◌}
use mathlib.Core.Path.{◌≡◌, refl, sym, ap, ap₂, ◌∙◌}
use mathlib.Core.Bool.{Bool, true, false, not, ◌&&◌, true≢false}
use mathlib.Core.List.{List, [], ◌∷◌, ◌++◌}
use Rattle.std.specs.Cmp.Lexicographic.{pointwise}
use Rattle.std.proofs.Math.Seq.{drop-cons}
use native.Mathlib.Omega.{arith}
use lib.ListN.{length, get_or, take, drop}
use Rattle.std.specs.Prelude.{Option, Some, None, is_some}
use lib.Dec.{eqb}
use Rattle.xliff.specs.Bytes.{equal, among, any}
use Rattle.xliff.specs.Item.{Item, Content, start, end, text, character, standalone, isolated, pair, annotation_start, annotation_end, class, non_removable}
use Rattle.xliff.specs.Encode.{Record, text_run, inline, record_bytes, content_records}
use Rattle.xliff.specs.SetTarget.{same_flat, is_lost}
use Rattle.xliff.proofs.lists.Tests.{any_same}
use Rattle.walk.specs.Kept.{items}
use Rattle.walk.proofs.WalkLaws.{Next, Searched, search_found, search_on}
use Rattle.cut.proofs.HalfLaws.{items_of}
use Rattle.codes.specs.Codes.{code, are_same}
use Rattle.codes.specs.declared.Code.{Code}
use Rattle.codes.specs.Lost.{non_removable_at, fields_at, same_at, is_code_at, lost_at}
use Rattle.codes.proofs.SameLaws.{item_non_removable, text_non_removable, item_same, text_same, code_same}

-- what is no code is none
pub not_same : (a : Option Code) → are_same a None ≡ false
not_same None = refl
not_same (Some a) = refl

-- a code that is looked for
no_code : (t : List ℕ) (c : ℕ) → is_code_at t (text c) ≡ false
unfolding is_code_at
no_code t c = refl

module _ (t c : List ℕ) (rs : List Record) (at w : ℕ) (m : Searched (is_code_at t) c rs at) (n : Next c at w m.after) where
  pub has_found : same_at t (drop at c) ≡ true → true ≡ any (is_code_at t) (items rs)
  has_found e = search_found (is_code_at t) (same_at t) (no_code t) (λ cs s. text_same s t cs) (λ x s g. item_same s t x g) c rs at w m n e

  pub has_on : same_at t (drop at c) ≡ false → Searched (is_code_at t) c rs (at + w)
  has_on e = search_on (is_code_at t) (same_at t) (no_code t) (λ cs s. text_same s t cs) (λ x s g. item_same s t x g) c rs at w m n e

-- a code that is lost
not_lost : (ys : Content) (c : ℕ) → is_lost ys (text c) ≡ false
unfolding is_lost non_removable class among
not_lost ys c = refl

text_lost : (ys : Content) (cs s : List ℕ) → lost_at ys (record_bytes (text_run cs) ++ s) ≡ false
unfolding lost_at
text_lost ys cs s = rw (text_non_removable s cs)

non_removable_code : (x : Item) → non_removable x ≡ true → is_some (code x) ≡ true
unfolding non_removable class among
non_removable_code (text c) e = absurd (true≢false (sym e))
non_removable_code (character c) e = absurd (true≢false (sym e))
non_removable_code (standalone f) e = refl
non_removable_code (isolated start f) e = refl
non_removable_code (isolated end f) e = refl
non_removable_code (pair start w f) e = refl
non_removable_code (pair end w f) e = refl
non_removable_code (annotation_start w i t) e = absurd (true≢false (sym e))
non_removable_code (annotation_end w i) e = absurd (true≢false (sym e))

item_lost : (ys : Content) (x : Item) (s : List ℕ) → GoodItem x → lost_at ys (record_bytes (inline x) ++ s) ≡ is_lost ys x
unfolding lost_at is_lost
item_lost ys x s g = rw (item_non_removable s x g) (by (non_removable x) refl)
  where
    by : (b : Bool) → non_removable x ≡ b → b && not (any (is_code_at (record_bytes (inline x) ++ s)) ys) ≡ b && not (any (same_flat x) ys)
    by true e = ap not (any_same (is_code_at (record_bytes (inline x) ++ s)) (same_flat x) (code_same s x g (non_removable_code x e)) ys)
    by false e = refl

module _ (ys : Content) (c : List ℕ) (rs : List Record) (at w : ℕ) (m : Searched (is_lost ys) c rs at) (n : Next c at w m.after) where
  pub lost_found : lost_at ys (drop at c) ≡ true → true ≡ any (is_lost ys) (items rs)
  lost_found e = search_found (is_lost ys) (lost_at ys) (not_lost ys) (text_lost ys) (item_lost ys) c rs at w m n e

  pub lost_on : lost_at ys (drop at c) ≡ false → Searched (is_lost ys) c rs (at + w)
  lost_on e = search_on (is_lost ys) (lost_at ys) (not_lost ys) (text_lost ys) (item_lost ys) c rs at w m n e

-- the fields of two codes, read one by one or as a slice
equal_pointwise : (s t : List ℕ) → pointwise eqb s t ≡ equal s t
unfolding equal
equal_pointwise [] [] = refl
equal_pointwise [] (b ∷ t) = refl
equal_pointwise (a ∷ s) [] = refl
equal_pointwise (a ∷ s) (b ∷ t) = ap (λ (r : Bool). eqb a b && r) (equal_pointwise s t)

gets_slice : (n i : ℕ) (t : List ℕ) → i + n ≤ length t → take n (drop i t) ≡ gets i n t
unfolding gets
gets_slice zero i t h = refl
gets_slice (suc n) i t h =
    rw (drop-cons t i 0 (omega arith)) (ap (λ (l : List ℕ). get_or t i 0 ∷ l) (gets_slice n (suc i) t (omega arith)))

pub fields_equal : (t u : List ℕ) → 12 ≤ length t → 12 ≤ length u
    → pointwise eqb (take 10 (drop 2 t)) (take 10 (drop 2 u)) ≡ equal (fields_at t) (fields_at u)
unfolding fields_at
fields_equal t u h k =
    equal_pointwise (take 10 (drop 2 t)) (take 10 (drop 2 u)) ∙ ap₂ equal (gets_slice 10 2 t h) (gets_slice 10 2 u k)

-- the ways through is_lost_code
pub lost_none : (ys : Content) (t : List ℕ) → non_removable_at t ≡ false → lost_at ys t ≡ false
unfolding lost_at
lost_none ys t e = rw e

pub lost_some : (ys : Content) (t : List ℕ) (r : Bool) → non_removable_at t ≡ true → r ≡ any (is_code_at t) ys → not r ≡ lost_at ys t
unfolding lost_at
lost_some ys t r e f = rw (e, f)

-- the answers for a content
pub lost_in : (ys : Content) (t : List ℕ) (r b : Bool) → r ≡ lost_at (items (content_records ys)) t → r ≡ b → lost_at ys t ≡ b
lost_in ys t r b e f = sym (e ∙ ap (λ (l : Content). lost_at l t) (items_of ys)) ∙ f

pub any_lost : (xs ys : Content) (r : Bool) → r ≡ any (is_lost ys) (items (content_records xs)) → r ≡ any (is_lost ys) xs
any_lost xs ys r e = e ∙ ap (any (is_lost ys)) (items_of xs)
