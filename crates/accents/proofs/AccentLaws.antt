-- What a cut at a place of a content parts.
use Prim.Native.Nat.{ℕ, ◌+◌, ◌≤◌}
use mathlib.Core.Path.{◌≡◌, refl, sym, ap, ap₂, ◌∙◌, subst}
use mathlib.Core.Bool.{Bool, true, false, ◌&&◌}
use mathlib.Core.List.{List, [], ◌∷◌, ◌++◌, map, append-nil, append_assoc}
use native.Mathlib.Omega.{arith}
use lib.ListN.{length, take, drop, drop_of_length-le}
use Rattle.xliff.specs.Bytes.{gather}
use Rattle.xliff.specs.Text.{is_accent, utf8, utf8s}
use Rattle.xliff.specs.Item.{Item, Content, text, character, standalone, isolated, pair, annotation_start, annotation_end}
use Rattle.xliff.specs.Encode.{Record, text_run, inline, spell, content_records}
use Rattle.xliff.specs.Parse.{reading, take_record}
use Rattle.xliff.specs.Split.{is_text, is_accent_item, first_is, last_is, cuts_off_accent}
use Rattle.xliff.specs.Good.{Allowed, one_point, GoodItem}
use Rattle.xliff.proofs.lists.Tests.{and-true, and_false}
use Rattle.xliff.proofs.text.Utf8.{utf8s_nonempty}
use Rattle.text.specs.Utf8.{char_of}
use Rattle.text.proofs.TextLaws.{decoded_allowed}
use Rattle.walk.specs.Kept.{Kept, kept_item, kept_text, Of, Holds, items}
use Rattle.walk.specs.Place.{Inside, over, between, within, Parted}
use Rattle.walk.specs.declared.Place.{Place}
use Rattle.walk.proofs.PlaceLaws.{kept_back}
use Rattle.cut.proofs.HalfLaws.{items_of, halves_taken, halves_dropped, taken, dropped, kept_text_back, from_cut, fits_in, whole_size}
use Rattle.accents.specs.Accents.{accent_of}

-- the first items, and the last ones
cuts_off_by : (k : ℕ) (xs before behind : Content) → drop k xs ≡ behind → take k xs ≡ before
    → cuts_off_accent k xs ≡ first_is is_accent_item behind && last_is is_text before
unfolding cuts_off_accent
cuts_off_by k xs before behind d t = ap₂ (λ (u v : Content). first_is is_accent_item u && last_is is_text v) d t

last_append : (test : Item → Bool) (xs : Content) (y : Item) (ys : Content)
    → last_is test (xs ++ (y ∷ ys)) ≡ last_is test (y ∷ ys)
unfolding last_is
last_append test [] y ys = refl
last_append test (x ∷ []) y ys = refl
last_append test (x ∷ z ∷ xs) y ys = last_append test (z ∷ xs) y ys

last_cons : (test : Item → Bool) (x : Item) (ys : Content) → test x ≡ false → last_is test ys ≡ false
    → last_is test (x ∷ ys) ≡ false
unfolding last_is
last_cons test x [] h e = h
last_cons test x (y ∷ ys) h e = e

-- the last of some code points of text is text
texts_last : (u : ℕ) (us : List ℕ) → last_is is_text (map text (u ∷ us)) ≡ true
unfolding last_is is_text
texts_last u [] = refl
texts_last u (v ∷ us) = texts_last v us

-- a record that is no text holds no text, and no accent
not_text : (x : Item) → GoodItem x → is_text x ≡ false
unfolding is_text
not_text (text c) g = absurd g
not_text (character c) g = refl
not_text (standalone f) g = refl
not_text (isolated h f) g = refl
not_text (pair h w f) g = refl
not_text (annotation_start w i t) g = refl
not_text (annotation_end w i) g = refl

not_accent : (x : Item) → GoodItem x → is_accent_item x ≡ false
unfolding is_accent_item
not_accent (text c) g = absurd g
not_accent (character c) g = refl
not_accent (standalone f) g = refl
not_accent (isolated h f) g = refl
not_accent (pair h w f) g = refl
not_accent (annotation_start w i t) g = refl
not_accent (annotation_end w i) g = refl

-- what stands before a text is no text: between two texts stands a record that is none
between_texts : (ds : List ℕ) (a : List Record) (cs : List ℕ) (rs : List Record) → Kept true (a ++ (text_run cs ∷ rs))
    → last_is is_text (items a) ≡ false → last_is is_text (map text ds ++ items a) ≡ false
unfolding reading take_record
between_texts ds [] cs rs x'' e = elim x'' [ ]
between_texts ds (Rattle.xliff.specs.Encode.opening _ ∷ a) cs rs x7 e = elim x7 [ ]
between_texts ds (Rattle.xliff.specs.Encode.closing ∷ a) cs rs x7 e = elim x7 [ ]
between_texts ds (Rattle.xliff.specs.Encode.part_head _ ∷ a) cs rs x9 e = elim x9 [ ]
between_texts ds (Rattle.xliff.specs.Encode.target_head _ ∷ a) cs rs x10 e = elim x10 [ ]
between_texts ds (text_run _ ∷ a) cs rs x11 e = elim x11 [ ]
between_texts ds (Rattle.xliff.specs.Encode.ill_text ∷ a) cs rs x11 e = elim x11 [ ]
between_texts ds (Rattle.xliff.specs.Encode.broken _ ∷ a) cs rs x13 e = elim x13 [ ]
between_texts ds (inline x ∷ a) cs rs (kept_item g k) e = last_append is_text (map text ds) x (items a) ∙ e

before_text : (b : Bool) (a : List Record) (cs : List ℕ) (rs : List Record) → Kept b (a ++ (text_run cs ∷ rs))
    → last_is is_text (items a) ≡ false
unfolding last_is reading take_record
before_text b [] cs rs k = refl
before_text b (Rattle.xliff.specs.Encode.opening _ ∷ a) cs rs k = elim k [ ]
before_text b (Rattle.xliff.specs.Encode.closing ∷ a) cs rs k = elim k [ ]
before_text b (Rattle.xliff.specs.Encode.part_head _ ∷ a) cs rs k = elim k [ ]
before_text b (Rattle.xliff.specs.Encode.target_head _ ∷ a) cs rs k = elim k [ ]
before_text b (Rattle.xliff.specs.Encode.ill_text ∷ a) cs rs k = elim k [ ]
before_text b (Rattle.xliff.specs.Encode.broken _ ∷ a) cs rs k = elim k [ ]
before_text b (inline x ∷ a) cs rs (kept_item g k) =
    last_cons is_text x (items a) (not_text x g) (before_text false a cs rs k)
before_text b (text_run ds ∷ a) cs rs (kept_text h l k) = between_texts ds a cs rs k (before_text true a cs rs k)

-- A CUT BETWEEN TWO RECORDS parts nothing, and so does one behind the last item
between_records : (k : ℕ) (a : List Record) (r : Record) (rs : List Record) → Kept false (a ++ (r ∷ rs))
    → length (items a) ≡ k
    → cuts_off_accent k (items (a ++ (r ∷ rs))) ≡ false
unfolding first_is is_accent_item reading take_record
between_records k a r rs kept e =
    cuts_off_by k (items (a ++ (r ∷ rs))) (items a) (items (r ∷ rs)) (halves_dropped k a (r ∷ rs) kept e)
    (halves_taken k a (r ∷ rs) kept e)
    ∙ by r (kept_back false a (r ∷ rs) kept).0 (kept_back false a (r ∷ rs) kept).1 kept
  where
    by : (r : Record) (b : Bool) → Kept b (r ∷ rs) → Kept false (a ++ (r ∷ rs))
        → first_is is_accent_item (items (r ∷ rs)) && last_is is_text (items a) ≡ false
    by (Rattle.xliff.specs.Encode.opening _) b x3 kept = elim x3 [ ]
    by Rattle.xliff.specs.Encode.closing b x3 kept = elim x3 [ ]
    by (Rattle.xliff.specs.Encode.part_head _) b x5 kept = elim x5 [ ]
    by (Rattle.xliff.specs.Encode.target_head _) b x6 kept = elim x6 [ ]
    by Rattle.xliff.specs.Encode.ill_text b x6 kept = elim x6 [ ]
    by (Rattle.xliff.specs.Encode.broken _) b x8 kept = elim x8 [ ]
    by (inline x) b (kept_item g k) kept = ap (λ (z : Bool). z && last_is is_text (items a)) (not_accent x g)
    by (text_run cs) b (kept_text h l k) kept =
        ap (λ (z : Bool). first_is is_accent_item (items (text_run cs ∷ rs)) && z) (before_text false a cs rs kept)
        ∙ and_false (first_is is_accent_item (items (text_run cs ∷ rs)))

pub behind_all : (k : ℕ) (xs : Content) → length xs ≤ k → cuts_off_accent k xs ≡ false
unfolding first_is
behind_all k xs h = cuts_off_by k xs (take k xs) [] (drop_of_length-le xs {i = k} h) refl

-- INSIDE A TEXT it parts an accent exactly where the code point behind it is one
module _ (k u : ℕ) (us : List ℕ) (v : ℕ) (vs : List ℕ) (a rs : List Record)
    (kept : Kept false (a ++ (text_run ((u ∷ us) ++ (v ∷ vs)) ∷ rs)))
    (count : length (items a) + length (u ∷ us) ≡ k) where
  inside_text : cuts_off_accent k (items (a ++ (text_run ((u ∷ us) ++ (v ∷ vs)) ∷ rs))) ≡ is_accent v
  unfolding first_is is_accent_item
  inside_text =
      cuts_off_by k (items (a ++ (text_run ((u ∷ us) ++ (v ∷ vs)) ∷ rs))) (items a ++ map text (u ∷ us))
      (map text (v ∷ vs) ++ items rs)
      (dropped k u us v vs a rs kept count) (taken k u us v vs a rs kept count)
      ∙ ap (λ (z : Bool). is_accent v && z) (last_append is_text (items a) (text u) (map text us) ∙ texts_last u us)
      ∙ and-true (is_accent v)

  first_allowed : Allowed (v ∷ vs)
  first_allowed = by (kept_text_back k u us v vs a rs kept count)
    where
      by : Kept false (text_run (v ∷ vs) ∷ rs) → Allowed (v ∷ vs)
      by (kept_text h l k) = h

-- the decoder there
decoded_there : (v : ℕ) (vs s t : List ℕ) → Allowed (v ∷ vs) → t ≡ utf8s (v ∷ vs) ++ s
    → accent_of (char_of t) ≡ is_accent v
unfolding utf8s gather
decoded_there v vs s t (one_point h a) e =
    ap (λ (l : List ℕ). accent_of (char_of l)) (e ∙ append_assoc (utf8 v) (utf8s vs) s)
    ∙ ap accent_of (decoded_allowed v (utf8s vs ++ s) h)

-- AS THE CODE MEETS IT, by the place of the item behind the cut
pub record PartedAt (k : ℕ) (c : List ℕ) (xs : Content) (at into : ℕ) : Type 0 where
  pub apart : into ≡ 0 → false ≡ cuts_off_accent k xs
  pub fits : 1 ≤ into → at + 4 + into ≤ length c
  pub together : 1 ≤ into → accent_of (char_of (drop (at + 4 + into) c)) ≡ cuts_off_accent k xs

parted_by : (k : ℕ) (c : List ℕ) (at into left : ℕ) (a b : List Record) → Of c (a ++ b) → at ≡ length (spell a)
    → Inside k (length (items a)) into left b → PartedAt k c (items (a ++ b)) at into
parted_by k c at into left a b o h (over e) =
    record {
      apart = λ z. sym (behind_all k (items (a ++ [])) (omega (arith, ap (λ (l : List Record). length (items l)) (append-nil a))));
      fits = λ z. absurd (let y : ⊥ = omega arith in y);
      together = λ z. absurd (let y : ⊥ = omega arith in y);
    }
parted_by k c at into left a b o h (between {r} {rs} e) =
    record {
      apart = λ z. sym (between_records k a r rs o.0 e);
      fits = λ z. absurd (let y : ⊥ = omega arith in y);
      together = λ z. absurd (let y : ⊥ = omega arith in y);
    }
parted_by k c at into left a b o h (within u us v vs rs e) =
    record {
      apart = λ z. absurd (let y : ⊥ = omega (arith, utf8s_nonempty u us) in y);
      fits = λ z. omega (arith, fits_in k c at u us v vs a rs o h e, whole_size k c at u us v vs a rs o h e);
      together = λ z.
          decoded_there v vs (spell rs) (drop (at + 4 + length (utf8s (u ∷ us))) c)
          (first_allowed k u us v vs a rs o.0 e)
          (from_cut k c at u us v vs a rs o h e)
          ∙ sym (inside_text k u us v vs a rs o.0 e);
    }

pub parted_at : (k : ℕ) (c : List ℕ) (xs : Content) (p : Place) → Holds c xs → Parted k (content_records xs) p
    → PartedAt k c xs p.at p.into
parted_at k c xs p o q =
    subst (λ (l : Content). PartedAt k c l p.at p.into) (ap (λ (l : List Record). items l) (sym q.parts)
    ∙ items_of xs)
    (parted_by k c p.at p.into p.left q.before q.after (subst (λ (l : List Record). Of c l) q.parts o)
    q.offset q.inside)
