-- The halves of a content as the code writes them: what fits, and what is written.
use Prim.Native.Nat.{ℕ, zero, suc, ◌+◌, ◌-◌, ◌<◌, ◌≤◌}
use mathlib.Core.Path.{◌≡◌, refl, sym, ap, ◌∙◌, subst}
use mathlib.Core.List.{List, ◌++◌}
use native.Mathlib.Omega.{arith}
use lib.ListN.{length, take, drop, length-drop}
use lib.Seq.{length-take-le}
use Rattle.xliff.specs.Item.{Content}
use Rattle.xliff.specs.Encode.{Record, spell, content_records, content_bytes}
use Rattle.xliff.specs.Split.{first_items, second_items}
use Rattle.xliff.proofs.lists.Slices.{tail_is, slice_size, slice_long}
use Rattle.walker.specs.Offsets.{WidthAt}
use Rattle.walk.specs.Kept.{Of, Fair, Holds, items, Inline, InContent}
use Rattle.walk.specs.Place.{PlaceOf}
use Rattle.walk.specs.declared.Place.{Place}
use Rattle.walk.proofs.WalkLaws.{next}
use Rattle.writer.specs.Pieces.{lead}
use Rattle.writer.proofs.PieceLaws.{two_back}
use Rattle.cut.specs.Turned.{cut_record, cut_records, text_piece, CutOne, CutAll}
use Rattle.cut.specs.Halves.{RoomFor, WroteFor}
use Rattle.cut.proofs.CutLaws.{cut_length}
use Rattle.cut.proofs.LoopLaws.{Written, written_on}
use Rattle.cut.proofs.HalfLaws.{Inner, Sides, sides, front_size, first_size_0, first_size_1, second_size_0, second_size_1, piece_size}

-- the records of a, cut: one further
pub cut_on : (a beyond : List ℕ) (rs qs : List Record) (o : List ℕ) (at w : ℕ) (l y : List ℕ) → Of beyond qs
    → Written InContent (cut_record (items qs)) a rs o at l → at < length a → WidthAt a at w
    → CutOne (take (at + w - at) (drop at a)) beyond (take (length l - at) (drop at l)) y
    → Written InContent (cut_record (items qs)) a rs o (at + w) (take at l ++ (y ++ drop (length l - at) (drop at l)))
cut_on a beyond rs qs o at w l y p m h e one =
    let n = next a at w m.upto.after h m.upto.rest e in
    written_on InContent (cut_record (items qs)) a rs o at l m Inline w n y (cut_length n.first (items qs) n.good)
    (one n.first qs n.good n.slice p)

module _ (k : ℕ) (c : List ℕ) (p : Place) (place : PlaceOf c k p) where
  the_sides : (xs : Content) → Holds c xs → Sides k c xs p
  the_sides xs o = sides k c xs p o (place (content_records xs) o)

  -- the parts of the content that the code lends on
  abbrev pub before : List ℕ
  before = take p.at c

  abbrev pub behind : List ℕ
  behind = take (length c - p.at) (drop p.at c)

  -- the text's bytes before the cut
  abbrev pub front_text : List ℕ
  front_text = take (p.at + 4 + p.into - (p.at + 4)) (drop (p.at + 4) c)

  -- those behind it, and what is behind the text, where w is the width of the text's record
  abbrev pub back_text : ℕ → List ℕ
  back_text w = take (p.at + w - (p.at + 4 + p.into)) (drop (p.at + 4 + p.into) c)

  abbrev pub rest : ℕ → List ℕ
  rest w = take (length c - (p.at + w)) (drop (p.at + w) c)

  behind_of : (rs : List Record) → Of (drop p.at c) rs → Of behind rs
  behind_of rs o = subst (λ (l : List ℕ). Of l rs) (sym (tail_is p.at c)) o

  rest_of : (w : ℕ) (xs : Content) (a b : List Record) (i : Inner k c xs p a b) → WidthAt c p.at w → Of (rest w) i.others
  rest_of w xs a b i e =
      subst (λ (l : List ℕ). Of l i.others) (sym (tail_is (p.at + w) c))
      (subst (λ (n : ℕ). Of (drop (p.at + n) c) i.others) (sym (i.width w e)) i.rest)

  -- the first half
  pub record FirstFits (o : List ℕ) : Type 0 where
    pub fit : p.at ≤ length c
    pub long : length before ≡ p.at
    pub room : p.at ≤ length o
    pub fair : Fair before × Fair behind
    pub text_fit : 1 ≤ p.into → p.at + 4 + p.into ≤ length c
    pub text_long : 1 ≤ p.into → length front_text ≡ p.into
    pub text_small : 1 ≤ p.into → p.into < 65536
    pub text_room : 1 ≤ p.into → p.at + (4 + p.into) ≤ length o

  pub first_fits : (o : List ℕ) → RoomFor (first_items k) c o → FirstFits o
  first_fits o (xs, h, room) =
      let s = the_sides xs h in
      let text_fit : 1 ≤ p.into → p.at + 4 + p.into ≤ length c = λ z. let i = s.inner z in omega (arith, i.fit, i.less) in
      record {
        fit = s.fit;
        long = length-take-le p.at c s.fit;
        room = by s room p.into refl;
        fair = ((s.before, s.front), (s.after, behind_of s.after s.back));
        text_fit = text_fit;
        text_long = λ z. slice_size c (p.at + 4) p.into (text_fit z);
        text_small = λ z. let i = s.inner z in omega (arith, i.less, i.small);
        text_room = λ z. omega (arith, first_size_1 k c xs p s z);
      }
    where
      by : (s : Sides k c xs p) → length (content_bytes (first_items k xs)) ≤ length o → (n : ℕ) → p.into ≡ n → p.at ≤ length o
      by s l zero e = omega (arith, first_size_0 k c xs p s e)
      by s l (suc n) e = omega (arith, first_size_1 k c xs p s (omega arith))

  -- cut between two records
  pub first_clean : (o l : List ℕ) (n : ℕ) → p.into ≡ 0 → n ≡ length before → CutAll before behind o l → WroteFor (first_items k) c o n l
  first_clean o l n z e f xs h =
      let s = the_sides xs h in (
        e ∙ length-take-le p.at c s.fit ∙ sym (first_size_0 k c xs p s z),
        f s.before s.after s.front (behind_of s.after s.back) ∙ ap (λ (x : List ℕ). lead x o) (sym (s.first z)),
      )

  -- cut inside a text
  pub first_inner : (o l y : List ℕ) (n m : ℕ) → 1 ≤ p.into → n ≡ length before → CutAll before behind o l → m ≡ 4 + length front_text
      → y ≡ lead (text_piece front_text) (take (length l - n) (drop n l))
      → WroteFor (first_items k) c o (n + m) (take n l ++ (y ++ drop (length l - n) (drop n l)))
  first_inner o l y n m z e f g h xs holds =
      let s = the_sides xs holds in
      let i = s.inner z in
      let front : List ℕ = spell (cut_records (items s.after) s.before) in
      let long = length-take-le p.at c s.fit in
      let text = slice_size c (p.at + 4) p.into (omega (arith, i.fit, i.less)) in
      let width : p.at + 4 + p.into - (p.at + 4) ≡ p.into = omega arith in (
        omega (arith, e, long, g, text, first_size_1 k c xs p s z),
        two_back o front (text_piece front_text) l y n (e ∙ long ∙ sym (front_size k c xs p s))
            (f s.before s.after s.front (behind_of s.after s.back)) h
            ∙ ap (λ (x : List ℕ). lead x o) (ap (λ (j : ℕ). front ++ text_piece (take j (drop (p.at + 4) c))) width ∙ sym i.first),
      )

  -- the second half
  pub record SecondInner (o : List ℕ) (w : ℕ) : Type 0 where
    pub next_fit : p.at + w ≤ length c
    pub text_fit : p.at + 4 + p.into ≤ p.at + w
    pub text_long : length (back_text w) ≡ p.at + w - (p.at + 4 + p.into)
    pub text_small : length (back_text w) < 65536
    pub rest_long : length (rest w) ≡ length c - (p.at + w)
    pub rest_fair : Fair (rest w)
    pub room : 4 + length (back_text w) + length (rest w) ≤ length o

  pub record SecondFits (o : List ℕ) : Type 0 where
    pub fit : p.at ≤ length c
    pub long : length before ≡ p.at
    pub fair : Fair before × Fair behind
    pub room : p.into ≡ 0 → length behind ≤ length o
    pub inner : (w : ℕ) → 1 ≤ p.into → WidthAt c p.at w → SecondInner o w

  behind_long : length behind ≡ length c - p.at
  behind_long = ap length (tail_is p.at c) ∙ length-drop p.at c

  back_long : (w : ℕ) (xs : Content) (a b : List Record) (i : Inner k c xs p a b) → WidthAt c p.at w
      → length (back_text w) ≡ p.at + w - (p.at + 4 + p.into)
  back_long w xs a b i e =
      slice_long c (p.at + 4 + p.into) (p.at + w) (omega (arith, i.width w e, i.less)) (omega (arith, i.width w e, i.fit))

  rest_long_is : (w : ℕ) → length (rest w) ≡ length c - (p.at + w)
  rest_long_is w = ap length (tail_is (p.at + w) c) ∙ length-drop (p.at + w) c

  pub second_fits : (o : List ℕ) → RoomFor (second_items k) c o → SecondFits o
  second_fits o (xs, h, room) =
      let s = the_sides xs h in
      record {
        fit = s.fit;
        long = length-take-le p.at c s.fit;
        fair = ((s.before, s.front), (s.after, behind_of s.after s.back));
        room = λ z. omega (arith, behind_long, second_size_0 k c xs p s z);
        inner = λ w z e.
            let i = s.inner z in
            let width = i.width w e in
            let text = back_long w xs s.before s.after i e in
            record {
              next_fit = omega (arith, width, i.fit);
              text_fit = omega (arith, width, i.less);
              text_long = text;
              text_small = omega (arith, width, i.small, text);
              rest_long = rest_long_is w;
              rest_fair = (i.others, rest_of w xs s.before s.after i e);
              room = omega (arith, width, i.fit, i.less, text, rest_long_is w, second_size_1 k c xs p s z);
            };
      }

  pub second_clean : (o l : List ℕ) (n : ℕ) → p.into ≡ 0 → n ≡ length behind → CutAll behind before o l → WroteFor (second_items k) c o n l
  second_clean o l n z e f xs h =
      let s = the_sides xs h in (
        e ∙ behind_long ∙ sym (second_size_0 k c xs p s z),
        f s.after s.before (behind_of s.after s.back) s.front ∙ ap (λ (x : List ℕ). lead x o) (sym (s.second z)),
      )

  -- written in two pieces: its text, and what is behind the text
  pub second_inner : (w : ℕ) (o l y : List ℕ) (n m : ℕ) → 1 ≤ p.into → WidthAt c p.at w → n ≡ 4 + length (back_text w)
      → m ≡ length (rest w)
      → l ≡ lead (text_piece (back_text w)) o → CutAll (rest w) before (take (length l - n) (drop n l)) y
      → WroteFor (second_items k) c o (n + m) (take n l ++ (y ++ drop (length l - n) (drop n l)))
  second_inner w o l y n m z e f g h u xs holds =
      let s = the_sides xs holds in
      let i = s.inner z in
      let width = i.width w e in
      let text = back_long w xs s.before s.after i e in
      let others : List ℕ = spell (cut_records (items s.before) i.others) in
      let cut : p.at + w - (p.at + 4 + p.into) ≡ i.size - p.into = omega arith in (
        omega (arith, f, g, text, rest_long_is w, width, i.fit, i.less, second_size_1 k c xs p s z),
        two_back o (text_piece (back_text w)) others l y n (f ∙ sym (piece_size (back_text w))) h
            (u i.others s.before (rest_of w xs s.before s.after i e) s.front)
            ∙ ap (λ (x : List ℕ). lead x o) (ap (λ (j : ℕ). text_piece (take j (drop (p.at + 4 + p.into) c)) ++ others) cut
            ∙ sym i.second),
      )
