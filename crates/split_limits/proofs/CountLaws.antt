-- A place and the number of items.
use Prim.Native.Nat.{ℕ, zero, suc, ◌+◌, ◌<◌, ◌≤◌}
use mathlib.Core.Path.{◌≡◌, sym, ap, ◌∙◌, subst}
use mathlib.Core.Bool.{Bool, false}
use mathlib.Core.List.{List, ◌∷◌, ◌++◌, map}
use native.Mathlib.Omega.{arith}
use lib.ListN.{length, length-append}
use lib.Dec.{eqb, leb, ltb}
use borrow.Author.Tests.{ne_eqb, lt-ltb, le-ltb, le-leb, lt-leb}
use Rattle.xliff.specs.Bytes.{gather}
use Rattle.xliff.specs.Item.{Content, text}
use Rattle.xliff.specs.Encode.{Record, text_run, record_bytes, spell, content_records}
use Rattle.xliff.specs.Parse.{reading, take_record}
use Rattle.walk.specs.Kept.{Kept, kept_item, kept_text, Of, Holds, items, an_item, a_text}
use Rattle.walk.specs.Place.{Inside, over, between, within, Parted}
use Rattle.walk.specs.declared.Place.{Place}
use Rattle.walk.proofs.WalkLaws.{inline_least}
use Rattle.xliff.proofs.unit.Pieces.{spell_append}
use Rattle.walk.proofs.PlaceLaws.{kept_items, kept_back}
use Rattle.cut.proofs.HalfLaws.{items_of, length_texts}

-- what a place says of the number of items
pub record Counted (k at left size count : ℕ) : Type 0 where
  pub inside : ltb at size ≡ ltb k count
  pub enough : eqb left 0 ≡ leb k count

some_item : (b : Bool) (r : Record) (rs : List Record) → Kept b (r ∷ rs) → (1 ≤ length (items (r ∷ rs))) × (4 ≤ length (record_bytes r))
unfolding reading take_record
some_item b r rs (kept_item g k) = (omega arith, inline_least r (an_item g))
some_item b r rs (kept_text a l k) = (omega arith, inline_least r (a_text a l))

texts_count : (cs ds : List ℕ) (rs : List Record) → length (items (text_run (cs ++ ds) ∷ rs)) ≡ length cs + length ds + length (items rs)
unfolding reading take_record
texts_count cs ds rs =
    length-append (map text (cs ++ ds)) (items rs) ∙ ap (λ (n : ℕ). n + length (items rs)) (length_texts (cs ++ ds) ∙ length-append cs ds)

is_inside : (k at size count : ℕ) → at < size → k < count → Counted k at 0 size count
is_inside k at size count x y = record { inside = lt-ltb at size x ∙ sym (lt-ltb k count y); enough = sym (le-leb k count (omega arith)) }

is_over : (k at left size count : ℕ) → size ≤ at → count + left ≡ k → Counted k at left size count
is_over k at zero size count x y = record { inside = le-ltb at size x ∙ sym (le-ltb k count (omega arith)); enough = sym (le-leb k count (omega arith)) }
is_over k at (suc l) size count x y =
    record { inside = le-ltb at size x ∙ sym (le-ltb k count (omega arith)); enough = ne_eqb (suc l) 0 (λ q. omega arith) ∙ sym (lt-leb k count (omega arith)) }

by_place : (k at into left n size count : ℕ) (b : List Record) (f : Bool) → Kept f b → Inside k n into left b → size ≡ at + length (spell b) → count ≡ n + length (items b)
    → Counted k at left size count
unfolding spell gather reading
by_place k at into left n size count b f kp (over e) s m = is_over k at left size count (omega arith) (omega arith)
by_place k at into left n size count b f kp (between {r} {rs} e) s m =
    let i = some_item f r rs kp in
    is_inside k at size count (omega (arith, length-append (record_bytes r) (spell rs), i.1)) (omega (arith, i.0))
by_place k at into left n size count b f kp (within u us v vs rs e) s m =
    let i = some_item f (text_run ((u ∷ us) ++ (v ∷ vs))) rs kp in
    is_inside k at size count (omega (arith, length-append (record_bytes (text_run ((u ∷ us) ++ (v ∷ vs)))) (spell rs), i.1))
    (omega (arith, texts_count (u ∷ us) (v ∷ vs) rs))

counted_by : (k : ℕ) (c : List ℕ) (at into left : ℕ) (a b : List Record) → Of c (a ++ b) → at ≡ length (spell a) → Inside k (length (items a)) into left b
    → Counted k at left (length c) (length (items (a ++ b)))
counted_by k c at into left a b o h i =
    by_place k at into left (length (items a)) (length c) (length (items (a ++ b))) b (kept_back false a b o.0).0 (kept_back false a b o.0).1 i
    (ap length (sym o.1 ∙ spell_append a b) ∙ length-append (spell a) (spell b) ∙ ap (λ (n : ℕ). n + length (spell b)) (sym h))
    (ap length (kept_items false a b o.0) ∙ length-append (items a) (items b))

pub counted : (k : ℕ) (c : List ℕ) (xs : Content) (p : Place) → Holds c xs → Parted k (content_records xs) p → Counted k p.at p.left (length c) (length xs)
counted k c xs p o q =
    subst (λ (l : Content). Counted k p.at p.left (length c) (length l)) (ap (λ (l : List Record). items l) (sym q.parts) ∙ items_of xs)
    (counted_by k c p.at p.into p.left q.before q.after (subst (λ (l : List Record). Of c l) q.parts o) q.offset q.inside)
