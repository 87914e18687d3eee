-- The key of a head or marker.
use Prim.Native.Nat.{ℕ, ◌≤◌}
use mathlib.Core.Path.{◌≡◌, refl, sym, ◌∙◌, ap, subst}
use mathlib.Core.Bool.{Bool, true, false, cond, true≢false}
use mathlib.Core.List.{List, [], ◌∷◌, map}
use native.Mathlib.Omega.{arith}
use borrow.Author.Tests.{eqb-true}
use lib.ListN.{length, take, drop, drop_of_length-le}
use lib.Dec.{eqb}
use Rattle.xliff.specs.Bytes.{Bytes, two, enough}
use Rattle.xliff.specs.Item.{id_of, class, half, is_form_P}
use Rattle.xliff.specs.Encode.{Record, opening, closing, part_head, target_head, text_run, inline, ill_text, broken, record_bytes}
use Rattle.xliff.specs.Parse.{is_broken, is, mark_of, mark_at, whole, read_as, read}
use Rattle.xliff.proofs.lists.Tests.{and_left, and_right}
use Rattle.xliff.proofs.records.Read.{ReadFrom, read_sound}
use Rattle.places.specs.Markers.{item_in, item_at}
use Rattle.marks.specs.Marks.{marked}
use Rattle.keys.specs.Keys.{key}
use Rattle.keys.proofs.FillLaws.{filled_all}
use Rattle.contents.specs.Contents.{bar_key, bar_keys}
use Rattle.contents.specs.Heads.{head_kind}

bar_key_is : (r : Record) → cond (eqb (head_kind r) 1) 1 (key (item_in r)) ≡ bar_key r
unfolding bar_key head_kind item_in key id_of class half is_form_P
bar_key_is (opening c) = refl
bar_key_is closing = refl
bar_key_is (part_head h) = refl
bar_key_is (target_head q) = refl
bar_key_is (text_run cs) = refl
bar_key_is (inline x) = refl
bar_key_is ill_text = refl
bar_key_is (broken b) = refl

-- the key of the record at an offset, which is that of TG or not
pub bar_key_by : (t : List ℕ) (at : ℕ) (b : Bool) → eqb (head_kind (read (drop at t))) 1 ≡ b → cond b 1 (key (item_at t at)) ≡ bar_key (read (drop at t))
unfolding item_at
bar_key_by t at b e = ap (λ (c : Bool). cond c 1 (key (item_at t at))) (sym e) ∙ bar_key_is (read (drop at t))

pub bar_key_out : (t : List ℕ) (at : ℕ) → length t ≤ at → 0 ≡ bar_key (read (drop at t))
unfolding bar_key read read_as mark_at
bar_key_out t at h = rw (drop_of_length-le t h)

pub keys_filled : (t markers out : List ℕ) (i : ℕ) → i ≤ length markers → length markers ≤ i → take i out ≡ map (λ (o : ℕ). bar_key (read (drop o t))) (take i markers)
    → take (length markers) out ≡ bar_keys t markers
unfolding bar_keys
keys_filled t markers out i a b e =
    ap (λ (n : ℕ). take n out) (let z : length markers ≡ i = omega arith in z) ∙ filled_all (λ (o : ℕ). bar_key (read (drop o t))) markers out i b e

-- four bytes whose mark is TG are a good record
target_letters : (a b c d : ℕ) (s : List ℕ) → a ≡ 84 → b ≡ 71 → eqb (head_kind (read (a ∷ b ∷ c ∷ d ∷ s))) 1 ≡ true
unfolding head_kind read mark_at mark_of is read_as whole enough
target_letters a b c d s e f = rw (e, f)

target_there : (s : List ℕ) → 4 ≤ length s → marked s (84 ∷ 71 ∷ []) ≡ true → true ≡ eqb (head_kind (read s)) 1
target_there [] l m = absurd (omega arith)
target_there (a ∷ []) l m = absurd (omega arith)
target_there (a ∷ b ∷ []) l m = absurd (omega arith)
target_there (a ∷ b ∷ c ∷ []) l m = absurd (omega arith)
target_there (a ∷ b ∷ c ∷ d ∷ s) l m =
    sym (target_letters a b c d s (eqb-true a 84 (and_left (eqb a 84) (eqb b 71) m)) (eqb-true b 71 (and_right (eqb a 84) (eqb b 71) m)))

-- bytes that do not begin with that mark, or are fewer, are none
pub no_target : (s : List ℕ) → Bytes s → (4 ≤ length s → marked s (84 ∷ 71 ∷ []) ≡ false) → false ≡ eqb (head_kind (read s)) 1
unfolding head_kind is_broken record_bytes two
no_target s h f = by (read s) refl
  where
    by : (r : Record) → read s ≡ r → false ≡ eqb (head_kind r) 1
    by (opening c) e = refl
    by closing e = refl
    by (part_head p) e = refl
    by (target_head q) e =
        let g = subst (ReadFrom s) e (read_sound s h (ap is_broken e)) in
        let l : 4 ≤ length s = omega (arith, ap length g.bytes) in
        let m : marked s (84 ∷ 71 ∷ []) ≡ true = ap (λ (l : List ℕ). marked l (84 ∷ 71 ∷ [])) g.bytes in
        absurd (true≢false (sym m ∙ f l))
    by (text_run cs) e = refl
    by (inline x) e = refl
    by ill_text e = refl
    by (broken b) e = refl

pub target_is : (s : List ℕ) → Bytes s → 4 ≤ length s → (b : Bool) → b ≡ marked s (84 ∷ 71 ∷ []) → b ≡ eqb (head_kind (read s)) 1
target_is s h l true m = target_there s l (sym m)
target_is s h l false m = no_target s h (λ k. sym m)
