-- The fixed codes of a content, record by record.
use Rattle.xliff.specs.Good.{GoodItem}
use Prim.Native.Nat.{ℕ, ◌+◌, ◌<◌, ◌≤◌}
use mathlib.Core.Path.{◌≡◌, refl, sym, ap, ◌∙◌, subst}
use mathlib.Core.Bool.{true, false, true≢false}
use mathlib.Core.List.{List, [], ◌∷◌, ◌++◌, map}
use native.Mathlib.Omega.{arith}
use lib.ListN.{length, get_or, drop}
use Rattle.std.specs.Prelude.{is_some}
use Rattle.xliff.specs.Bytes.{two, four, two_at, among, keep}
use Rattle.xliff.specs.Item.{Item, Content, start, end, form_P, form_S, text, character, standalone, isolated, pair, annotation_start, annotation_end, mark, class, half, id_of, fields, is_fixed}
use Rattle.xliff.specs.Encode.{Record, text_run, inline, code_bytes, field_bytes, record_bytes, spell}
use Rattle.xliff.specs.Parse.{is, mark_of, mark_at, reading, take_record}
use Rattle.xliff.specs.SetTarget.{FixedCode, fixed_code, fixed_list}
use Rattle.xliff.proofs.lists.Tests.{two_value, and_left}
use Rattle.walk.specs.Kept.{items, Inline, an_item, a_text, Rest}
use Rattle.walk.specs.Marks.{number, kind}
use Rattle.walk.proofs.WalkLaws.{Next, item_kind, rest_end, first_of}
use Rattle.codes.specs.Codes.{code_at}
use Rattle.codes.proofs.CodeLaws.{code_long}
use Rattle.codes.specs.Fixed.{fixed_at, half_number, fixed_here, Found}

module _ (s : List ℕ) where
  item_fixed : (x : Item) → GoodItem x → fixed_at (record_bytes (inline x) ++ s) ≡ is_fixed x
  unfolding fixed_at code_at mark_at mark_of is record_bytes mark field_bytes code_bytes two four is_fixed class fields
      among
  item_fixed (text c) g = absurd g
  item_fixed (character c) g = refl
  item_fixed (standalone f) g = refl
  item_fixed (isolated start f) g = refl
  item_fixed (isolated end f) g = refl
  item_fixed (pair start form_P f) g = refl
  item_fixed (pair start form_S f) g = refl
  item_fixed (pair end form_P f) g = refl
  item_fixed (pair end form_S f) g = refl
  item_fixed (annotation_start form_P i t) g = refl
  item_fixed (annotation_start form_S i t) g = refl
  item_fixed (annotation_end form_P i) g = refl
  item_fixed (annotation_end form_S i) g = refl

  text_fixed : (cs : List ℕ) → fixed_at (record_bytes (text_run cs) ++ s) ≡ false
  unfolding fixed_at code_at mark_at mark_of is record_bytes two
  text_fixed cs = refl

  item_number : (x : Item) → is_fixed x ≡ true → number (record_bytes (inline x) ++ s) ≡ id_of x
  unfolding two_at is_fixed class among record_bytes mark field_bytes code_bytes two id_of
  item_number (text c) e = absurd (true≢false (sym e))
  item_number (character c) e = absurd (true≢false (sym e))
  item_number (standalone f) e = two_value f.id
  item_number (isolated start f) e = two_value f.id
  item_number (isolated end f) e = two_value f.id
  item_number (pair start form_P f) e = two_value f.id
  item_number (pair start form_S f) e = two_value f.id
  item_number (pair end form_P f) e = two_value f.id
  item_number (pair end form_S f) e = two_value f.id
  item_number (annotation_start w i t) e = absurd (true≢false (sym e))
  item_number (annotation_end w i) e = absurd (true≢false (sym e))

  item_letter : (x : Item) → is_fixed x ≡ true → get_or (record_bytes (inline x) ++ s) 11 0 ≡ (fields x).can_reorder
  unfolding is_fixed class among record_bytes mark field_bytes code_bytes two fields
  item_letter (text c) e = absurd (true≢false (sym e))
  item_letter (character c) e = absurd (true≢false (sym e))
  item_letter (standalone f) e = refl
  item_letter (isolated start f) e = refl
  item_letter (isolated end f) e = refl
  item_letter (pair start form_P f) e = refl
  item_letter (pair start form_S f) e = refl
  item_letter (pair end form_P f) e = refl
  item_letter (pair end form_S f) e = refl
  item_letter (annotation_start w i t) e = absurd (true≢false (sym e))
  item_letter (annotation_end w i) e = absurd (true≢false (sym e))

kind_half : (x : Item) → is_fixed x ≡ true → half_number (kind x) ≡ half x
unfolding is_fixed class among half
kind_half (text c) e = absurd (true≢false (sym e))
kind_half (character c) e = absurd (true≢false (sym e))
kind_half (standalone f) e = refl
kind_half (isolated start f) e = refl
kind_half (isolated end f) e = refl
kind_half (pair start w f) e = refl
kind_half (pair end w f) e = refl
kind_half (annotation_start w i t) e = absurd (true≢false (sym e))
kind_half (annotation_end w i) e = absurd (true≢false (sym e))

fixed_texts : (cs : List ℕ) (ys : Content) → fixed_list (map text cs ++ ys) ≡ fixed_list ys
unfolding fixed_list keep is_fixed class among
fixed_texts [] ys = refl
fixed_texts (c ∷ cs) ys = fixed_texts cs ys

first_off : (r : Record) (rs : List Record) (s : List ℕ) → Inline r → fixed_at (record_bytes r ++ s) ≡ false
    → fixed_list (items (r ∷ rs)) ≡ fixed_list (items rs)
unfolding fixed_list keep reading take_record
first_off (Rattle.xliff.specs.Encode.opening _) rs s x3 e = elim x3 [ ]
first_off Rattle.xliff.specs.Encode.closing rs s x3 e = elim x3 [ ]
first_off (Rattle.xliff.specs.Encode.part_head _) rs s x5 e = elim x5 [ ]
first_off (Rattle.xliff.specs.Encode.target_head _) rs s x6 e = elim x6 [ ]
first_off Rattle.xliff.specs.Encode.ill_text rs s x6 e = elim x6 [ ]
first_off (Rattle.xliff.specs.Encode.broken _) rs s x8 e = elim x8 [ ]
first_off (inline x) rs s (an_item g) e = rw (sym (item_fixed s x g) ∙ e)
first_off (text_run cs) rs s (a_text a l) e = fixed_texts cs (items rs)

fixed_item : (x : Item) (xs : Content) → is_fixed x ≡ true → fixed_list (x ∷ xs) ≡ fixed_code x ∷ fixed_list xs
unfolding fixed_list keep
fixed_item x xs e = rw e

-- what is read of a fixed code is its entry in the list
fixed_read : (s : List ℕ) (x : Item) → GoodItem x → is_fixed x ≡ true
    → fixed_here (record_bytes (inline x) ++ s) ≡ fixed_code x
unfolding fixed_code
fixed_read s x g f i =
    record {
      id = item_number s x f i;
      half = (ap half_number (item_kind s x g) ∙ kind_half x f) i;
      letter = item_letter s x f i;
    }

first_on : (r : Record) (rs : List Record) (s : List ℕ) → Inline r → fixed_at (record_bytes r ++ s) ≡ true
    → fixed_list (items (r ∷ rs)) ≡ fixed_here (record_bytes r ++ s) ∷ fixed_list (items rs)
unfolding reading take_record
first_on (Rattle.xliff.specs.Encode.opening _) rs s x3 e = elim x3 [ ]
first_on Rattle.xliff.specs.Encode.closing rs s x3 e = elim x3 [ ]
first_on (Rattle.xliff.specs.Encode.part_head _) rs s x5 e = elim x5 [ ]
first_on (Rattle.xliff.specs.Encode.target_head _) rs s x6 e = elim x6 [ ]
first_on Rattle.xliff.specs.Encode.ill_text rs s x6 e = elim x6 [ ]
first_on (Rattle.xliff.specs.Encode.broken _) rs s x8 e = elim x8 [ ]
first_on (inline x) rs s (an_item g) e =
    let f : is_fixed x ≡ true = sym (item_fixed s x g) ∙ e in
    fixed_item x (items rs) f ∙ ap (λ (k : FixedCode). k ∷ fixed_list (items rs)) (sym (fixed_read s x g f))
first_on (text_run cs) rs s (a_text a l) e = absurd (true≢false (sym e ∙ text_fixed s cs))

-- a fixed code has twelve bytes
a_code : (t : List ℕ) → fixed_at t ≡ true → is_some (code_at t) ≡ true
unfolding fixed_at
a_code t e = and_left (is_some (code_at t)) _ e

-- at a fixed code: what stands behind it, and its place in the list
pub record Code (c : List ℕ) (rs : List Record) (at : ℕ) : Type 0 where
  pub others : List Record
  pub rest : Rest c (at + 12) others
  pub room : at + 12 ≤ length c
  pub list : fixed_list (items rs) ≡ fixed_here (drop at c) ∷ fixed_list (items others)

code_here : (c : List ℕ) (at w : ℕ) (rs : List Record) → Next c at w rs → fixed_at (drop at c) ≡ true → Code c rs at
code_here c at w rs n e =
    let f : fixed_at (record_bytes n.first ++ spell n.others) ≡ true = ap fixed_at (sym n.bytes) ∙ e in
    let l : length (record_bytes n.first) ≡ 12 =
    code_long n.first (spell n.others) n.good (a_code (record_bytes n.first ++ spell n.others) f) in
    let wide : w ≡ 12 = n.width ∙ l in
    record {
      others = n.others;
      rest = subst (λ (k : ℕ). Rest c (at + k) n.others) wide n.rest;
      room = omega (arith, n.fit);
      list =
          ap (λ (l : List Record). fixed_list (items l)) n.all
          ∙ first_on n.first n.others (spell n.others) n.good f
          ∙ ap (λ (l : List ℕ). fixed_here l ∷ fixed_list (items n.others)) (sym n.bytes);
    }

pub found_code : (c : List ℕ) (rs : List Record) (at : ℕ) → Found c rs at → at < length c → Code c rs at
found_code c rs at m l =
    let k = code_here c at _ m.after (first_of c at m.after l m.rest) (m.fixed l) in
    record { others = k.others; rest = k.rest; room = k.room; list = m.list ∙ k.list }

pub found_end : (c : List ℕ) (rs : List Record) (at : ℕ) → Found c rs at → length c ≤ at → fixed_list (items rs) ≡ []
unfolding fixed_list keep reading
found_end c rs at m l = m.list ∙ ap (λ (l : List Record). fixed_list (items l)) (rest_end c at m.after l m.rest)

-- The search from one record on: up to the offset at no code is fixed
pub record Sought (c : List ℕ) (rs : List Record) (at : ℕ) : Type 0 where
  pub after : List Record
  pub rest : Rest c at after
  pub list : fixed_list (items rs) ≡ fixed_list (items after)

pub sought_start : (c : List ℕ) (rs : List Record) (at : ℕ) → Rest c at rs → Sought c rs at
sought_start c rs at m = record { after = rs; rest = m; list = refl }

-- a record that is not fixed is passed over
pub sought_on : (c : List ℕ) (rs : List Record) (at w : ℕ) (m : Sought c rs at) (n : Next c at w m.after)
    → fixed_at (drop at c) ≡ false → Sought c rs (at + w)
sought_on c rs at w m n e =
    record {
      after = n.others;
      rest = n.rest;
      list = m.list ∙ ap (λ (l : List Record). fixed_list (items l)) n.all
          ∙ first_off n.first n.others (spell n.others) n.good (ap fixed_at (sym n.bytes) ∙ e);
    }

-- the search ends at a fixed code, or at the end
pub sought_here : (c : List ℕ) (rs : List Record) (at : ℕ) → Sought c rs at → fixed_at (drop at c) ≡ true → Found c rs at
sought_here c rs at m f = record { after = m.after; rest = m.rest; list = m.list; fixed = λ h. f }

pub sought_nowhere : (c : List ℕ) (rs : List Record) (at : ℕ) → Sought c rs at → length c ≤ at → Found c rs at
sought_nowhere c rs at m h =
    record { after = m.after; rest = m.rest; list = m.list; fixed = λ k. absurd (let y : ⊥ = omega arith in y) }
