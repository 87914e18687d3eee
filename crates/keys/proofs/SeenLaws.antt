-- An item by its key: the rest of its view stands in its bytes.
use Prim.Native.Nat.{ℕ, ◌+◌, ◌-◌, ◌*◌, ◌/◌, ◌%◌, ◌≤◌}
use mathlib.Core.Path.{◌≡◌, refl, sym, ◌∙◌, ap, subst}
use mathlib.Core.Bool.{Bool, true, false, cond}
use mathlib.Core.List.{List}
use native.Mathlib.Omega.{arith}
use borrow.Author.Tests.{leb-true}
use lib.ListN.{length, drop}
use lib.Dec.{eqb, leb}
use Rattle.places.specs.Markers.{item_at}
use Rattle.xliff.specs.Bytes.{two_at}
use Rattle.xliff.specs.Parse.{Mark, UN, UE, SG, IG, TG, TX, CP, PH, PO, PC, SC, EC, IS, IE, MO, SM, MC, EM, unknown, mark_at}
use Rattle.table.specs.Records.{sized, unit_of, segment_of, ignorable_of, target_of, fields_of, standalone_of, isolated_of, pair_of, annotation_start_of, annotation_end_of, text_of, character_of, record_by, record_of}
use Rattle.table.specs.declared.Half.{Half}
use Rattle.table.specs.declared.Half.TheVariants.{Start, End}
use Rattle.table.specs.declared.Form.{Form}
use Rattle.table.specs.declared.Record.{Record}
use Rattle.table.specs.declared.Record.TheVariants.{Text}
use Rattle.table.specs.declared.Read.{Read}
use Rattle.table.specs.declared.Read.TheVariants.{Good, Broken}
use Rattle.table.proofs.ReadLaws.{known_is}
use Rattle.views.specs.declared.View.{View}
use Rattle.views.specs.Views.{view_of, nothing, code_view, annotation_view, half_number, record_view, view_of_read}
use Rattle.views.proofs.ViewLaws.{view_known}
use Rattle.keys.specs.Keys.{key, key_of}
use Rattle.keys.proofs.KeyLaws.{key_view}

-- what the bytes of a record say of its view
pub data Seen (s : List ℕ) : View → Type 0 where
  seen_nothing : Seen s nothing
  seen_code : {c h : ℕ} {p : Bool} → 12 ≤ length s → 1 ≤ c → c ≤ 4 → h ≤ 2 → Seen s (code_view c h p (fields_of s))
  seen_annotation : {h : ℕ} {p : Bool} → 4 ≤ length s → h ≤ 2 → Seen s (annotation_view h p (two_at s 2))

half_small : (h : Half) → half_number h ≤ 2
half_small Start = omega arith
half_small End = omega arith

module _ (s : List ℕ) where
  abbrev Seeing : Read → Type 0
  Seeing r = Seen s (view_of_read r)

  either : (b : Bool) (r q : Read) → Seeing r → Seeing q → Seeing (cond b r q)
  either true r q x y = x
  either false r q x y = y

  sized_seen : (part : Bool) (n : ℕ) (ok : Bool) (x : Record) → (n ≤ length s → Seen s (record_view x)) → Seeing (sized part s n ok x)
  unfolding sized
  sized_seen part n ok x f = by (leb n (length s)) refl ok
    where
      by : (a : Bool) → leb n (length s) ≡ a → (b : Bool) → Seeing (cond a (cond b (Good x n) (Broken part)) (Broken part))
      by true e true = f (leb-true n (length s) e)
      by true e false = seen_nothing
      by false e b = seen_nothing

  pair_seen : (f : Form) (h : Half) → Seeing (pair_of s f h)
  unfolding pair_of
  pair_seen f h = sized_seen false 12 _ _ (λ l. seen_code l (omega arith) (omega arith) (half_small h))

  isolated_seen : (h : Half) → Seeing (isolated_of s h)
  unfolding isolated_of
  isolated_seen Start = sized_seen false 12 _ _ (λ l. seen_code l (omega arith) (omega arith) (omega arith))
  isolated_seen End = sized_seen false 12 _ _ (λ l. seen_code l (omega arith) (omega arith) (omega arith))

  standalone_seen : Seeing (standalone_of s)
  unfolding standalone_of
  standalone_seen = sized_seen false 12 _ _ (λ l. seen_code l (omega arith) (omega arith) (omega arith))

  start_seen : (f : Form) → Seeing (annotation_start_of s f)
  unfolding annotation_start_of
  start_seen f = sized_seen false 5 _ _ (λ l. seen_annotation (omega arith) (omega arith))

  end_seen : (f : Form) → Seeing (annotation_end_of s f)
  unfolding annotation_end_of
  end_seen f = sized_seen false 4 _ _ (λ l. seen_annotation (omega arith) (omega arith))

  text_seen : Seeing (text_of s true)
  unfolding text_of
  text_seen = either (leb 4 (length s)) _ _ (either (leb (two_at s 2) (length s - 4)) (Good Text (4 + two_at s 2)) (Broken false) seen_nothing seen_nothing) seen_nothing

  mark_seen : (m : Mark) → Seeing (record_by m s true)
  unfolding record_by unit_of segment_of ignorable_of target_of character_of
  mark_seen UN = sized_seen false 3 _ _ (λ l. seen_nothing)
  mark_seen UE = seen_nothing
  mark_seen SG = sized_seen true 6 _ _ (λ l. seen_nothing)
  mark_seen IG = sized_seen true 4 _ _ (λ l. seen_nothing)
  mark_seen TG = sized_seen false 4 _ _ (λ l. seen_nothing)
  mark_seen TX = text_seen
  mark_seen CP = sized_seen false 6 _ _ (λ l. seen_nothing)
  mark_seen PH = standalone_seen
  mark_seen PO = pair_seen _ _
  mark_seen PC = pair_seen _ _
  mark_seen SC = pair_seen _ _
  mark_seen EC = pair_seen _ _
  mark_seen IS = isolated_seen _
  mark_seen IE = isolated_seen _
  mark_seen MO = start_seen _
  mark_seen SM = start_seen _
  mark_seen MC = end_seen _
  mark_seen EM = end_seen _
  mark_seen unknown = seen_nothing

pub seen_at : (t : List ℕ) (at : ℕ) → Seen (drop at t) (view_of (item_at t at))
seen_at t at = subst (Seen (drop at t)) (view_known t at (record_of (drop at t) true) (known_is (drop at t) (record_of (drop at t) true) refl)) (mark_seen (drop at t) (mark_at (drop at t)))

-- the parts of a key
module _ (k i c h : ℕ) (hs : h ≤ 2) where
  class_of : (p : Bool) → k ≡ i * 64 + (c * 8 + (h * 2 + cond p 1 0)) → c ≤ 5 → k % 64 / 8 ≡ c
  class_of true e cs = omega arith
  class_of false e cs = omega arith

  half_of : (p : Bool) → k ≡ i * 64 + (c * 8 + (h * 2 + cond p 1 0)) → c ≤ 5 → k % 8 / 2 ≡ h
  half_of true e cs = omega arith
  half_of false e cs = omega arith

  form_of : (p : Bool) → k ≡ i * 64 + (c * 8 + (h * 2 + cond p 1 0)) → c ≤ 5 → eqb (k % 2) 1 ≡ p
  form_of true e cs = ap (λ (n : ℕ). eqb n 1) (let z : k % 2 ≡ 1 = omega arith in z)
  form_of false e cs = ap (λ (n : ℕ). eqb n 1) (let z : k % 2 ≡ 0 = omega arith in z)

-- what view_at says, by the class in the key
pub record Told (s : List ℕ) (k : ℕ) (v : View) : Type 0 where
  pub none : k % 64 / 8 ≡ 0 → nothing ≡ v
  pub annotation : k % 64 / 8 ≡ 5 → (4 ≤ length s) × (annotation_view (k % 8 / 2) (eqb (k % 2) 1) (two_at s 2) ≡ v)
  pub code : (k % 64 / 8 ≡ 0 → ⊥) → (k % 64 / 8 ≡ 5 → ⊥) → (12 ≤ length s) × (code_view (k % 64 / 8) (k % 8 / 2) (eqb (k % 2) 1) (fields_of s) ≡ v)

told_by : (s : List ℕ) (k : ℕ) (v : View) → Seen s v → k ≡ key_of v → Told s k v
told_by s k _ seen_nothing e =
    record {
      none = λ z. refl;
      annotation = λ z. absurd (omega (arith, e));
      code = λ z w. absurd (z (omega (arith, e)));
    }
told_by s k _ (seen_code {c} {h} {p} l a b hs) e =
    let m = class_of k (two_at s 2) c h hs p e (omega arith) in
    record {
      none = λ z. absurd (omega (arith, m, a));
      annotation = λ z. absurd (omega (arith, m, b));
      code = λ z w. (l, rw (m, half_of k (two_at s 2) c h hs p e (omega arith), form_of k (two_at s 2) c h hs p e (omega arith)));
    }
told_by s k _ (seen_annotation {h} {p} l hs) e =
    let m = class_of k (two_at s 2) 5 h hs p e (omega arith) in
    record {
      none = λ z. absurd (omega (arith, m));
      annotation = λ z. (l, rw (half_of k (two_at s 2) 5 h hs p e (omega arith), form_of k (two_at s 2) 5 h hs p e (omega arith)));
      code = λ z w. absurd (w m);
    }

pub told : (t : List ℕ) (at k : ℕ) → k ≡ key (item_at t at) → Told (drop at t) k (view_of (item_at t at))
told t at k e = told_by (drop at t) k (view_of (item_at t at)) (seen_at t at) (e ∙ sym (key_view (item_at t at)))
