-- The two halves of a content, by the place of the cut.
use Prim.Native.Nat.{ℕ, zero, suc, ◌+◌, ◌-◌, ◌<◌, ◌≤◌}
use mathlib.Core.Path.{◌≡◌, refl, sym, ap, ap₂, ◌∙◌, subst}
use mathlib.Core.Bool.{Bool, true, false, cond, ◌||◌}
use mathlib.Core.List.{List, [], ◌∷◌, ◌++◌, map, append_assoc, append-nil}
use native.Mathlib.Omega.{arith}
use lib.ListN.{length, take, drop, length-append, length-drop, drop_of_length-le}
use lib.Seq.{take_at, drop_at, drop-drop, take_all, length-take-le}
use Rattle.xliff.specs.Bytes.{two, gather, any}
use Rattle.xliff.specs.Text.{utf8s}
use Rattle.xliff.specs.Item.{Item, Content, text, in_form, form_S, id_of}
use Rattle.xliff.specs.Encode.{Record, text_run, inline, record_bytes, spell, content_records, content_bytes}
use Rattle.xliff.specs.Parse.{Reading, reading, take_record}
use Rattle.xliff.specs.Split.{cut_item, first_items, second_items}
use Rattle.xliff.proofs.lists.Tests.{map-append, map_same}
use Rattle.xliff.specs.Good.{Allowed, no_text, one_point}
use Rattle.xliff.proofs.records.Parse.{reading_content, onto}
use Rattle.walker.specs.Offsets.{WidthAt}
use Rattle.walk.specs.Kept.{Kept, kept_end, kept_item, kept_text, Of, Holds, items, an_item, text_in}
use Rattle.std.specs.Prelude.{Option}
use Rattle.walk.specs.declared.HalfKind.{HalfKind}
use Rattle.walk.specs.Marks.{kind, is_other, has_other}
use Rattle.walk.specs.Place.{Inside, over, between, within, Parted}
use Rattle.walk.specs.declared.Place.{Place}
use Rattle.walk.proofs.RecordLaws.{width_there}
use Rattle.walk.proofs.WalkLaws.{texts_other}
use Rattle.xliff.proofs.text.Utf8.{utf8s_append, utf8s_nonempty}
use Rattle.xliff.proofs.unit.Pieces.{spell_append}
use Rattle.walk.proofs.PlaceLaws.{kept_items, kept_front, kept_back}
use Rattle.cut.specs.Turned.{cut_record, cut_records, text_piece}
use Rattle.cut.proofs.CutLaws.{any_other, cut_bytes, cut_length}

-- the items of the records of a content
pub items_of : (xs : Content) → items (content_records xs) ≡ xs
unfolding onto reading
items_of xs =
    ap (λ (rs : List Record). items rs) (sym (append-nil (content_records xs)))
    ∙ ap (λ (g : Reading). g.items) (reading_content xs []) ∙ append-nil xs

pub weaken : (b : Bool) (rs : List Record) → Kept b rs → Kept false rs
weaken true [] k = kept_end
weaken true (Rattle.xliff.specs.Encode.opening _ ∷ rs) k = elim k [ ]
weaken true (Rattle.xliff.specs.Encode.closing ∷ rs) k = elim k [ ]
weaken true (Rattle.xliff.specs.Encode.part_head _ ∷ rs) k = elim k [ ]
weaken true (Rattle.xliff.specs.Encode.target_head _ ∷ rs) k = elim k [ ]
weaken true (text_run _ ∷ rs) k = elim k [ ]
weaken true (Rattle.xliff.specs.Encode.ill_text ∷ rs) k = elim k [ ]
weaken true (Rattle.xliff.specs.Encode.broken _ ∷ rs) k = elim k [ ]
weaken true (inline x ∷ rs) (kept_item g k) = kept_item g k
weaken false rs k = k

-- texts at the front of what is beyond the cut do not matter
beyond_texts : (cs : List ℕ) (ys : Content) (x : Item) → cut_item (map text cs ++ ys) x ≡ cut_item ys x
unfolding cut_item
beyond_texts cs ys x =
    ap (λ (b : Bool). cond b (in_form form_S x) x)
    (any_other x (map text cs ++ ys) ∙ texts_other (kind x) (id_of x) cs ys
    ∙ sym (any_other x ys))

-- nor at its end
texts_behind : (k : Option HalfKind) (i : ℕ) (ys : Content) (cs : List ℕ) → has_other k i (ys ++ map text cs) ≡ has_other k i ys
unfolding has_other any
texts_behind k i [] cs = ap (has_other k i) (sym (append-nil (map text cs))) ∙ texts_other k i cs []
texts_behind k i (y ∷ ys) cs = ap (λ (b : Bool). is_other k i y || b) (texts_behind k i ys cs)

beyond_behind : (ys : Content) (cs : List ℕ) (x : Item) → cut_item (ys ++ map text cs) x ≡ cut_item ys x
unfolding cut_item
beyond_behind ys cs x =
    ap (λ (b : Bool). cond b (in_form form_S x) x)
    (any_other x (ys ++ map text cs) ∙ texts_behind (kind x) (id_of x) ys cs
    ∙ sym (any_other x ys))

-- cut between two records
module _ (k : ℕ) (a b : List Record) (kp : Kept false (a ++ b)) where
  pub halves_taken : (length (items a) ≡ k) → take k (items (a ++ b)) ≡ items a
  halves_taken e = ap (take k) (kept_items false a b kp) ∙ take_at (items a) (items b) k e

  pub halves_dropped : (length (items a) ≡ k) → drop k (items (a ++ b)) ≡ items b
  halves_dropped e = ap (drop k) (kept_items false a b kp) ∙ drop_at (items a) (items b) k e

  pub clean_first : length (items a) ≡ k
      → content_bytes (first_items k (items (a ++ b))) ≡ spell (cut_records (items b) a)
  unfolding first_items
  clean_first e =
      ap₂ (λ (u v : Content). content_bytes (map (cut_item u) v)) (halves_dropped e) (halves_taken e)
      ∙ cut_bytes false (items b) a (kept_front false a b kp)

  pub clean_second : length (items a) ≡ k
      → content_bytes (second_items k (items (a ++ b))) ≡ spell (cut_records (items a) b)
  unfolding second_items
  clean_second e =
      ap₂ (λ (u v : Content). content_bytes (map (cut_item u) v)) (halves_taken e) (halves_dropped e)
      ∙ cut_bytes (kept_back false a b kp).0 (items a) b (kept_back false a b kp).1

-- a text in two
allowed_front : (us bs : List ℕ) → Allowed (us ++ bs) → Allowed us
allowed_front [] bs h = no_text
allowed_front (a ∷ us) bs (one_point p h) = one_point p (allowed_front us bs h)

pub allowed_back : (us bs : List ℕ) → Allowed (us ++ bs) → Allowed bs
allowed_back [] bs h = h
allowed_back (a ∷ us) bs (one_point p h) = allowed_back us bs h

pub record TextKept (cs : List ℕ) (rs : List Record) : Type 0 where
  pub allowed : Allowed cs
  pub small : length (utf8s cs) < 65536
  pub others : Kept true rs

text_kept : (b : Bool) (us : List Record) (cs : List ℕ) (rs : List Record) → Kept b (us ++ (text_run cs ∷ rs))
    → TextKept cs rs
text_kept b [] cs rs (kept_text a l k) = record { allowed = a; small = l; others = k }
text_kept b (Rattle.xliff.specs.Encode.opening _ ∷ us) cs rs x4 = elim x4 [ ]
text_kept b (Rattle.xliff.specs.Encode.closing ∷ us) cs rs x4 = elim x4 [ ]
text_kept b (Rattle.xliff.specs.Encode.part_head _ ∷ us) cs rs x6 = elim x6 [ ]
text_kept b (Rattle.xliff.specs.Encode.target_head _ ∷ us) cs rs x7 = elim x7 [ ]
text_kept b (Rattle.xliff.specs.Encode.ill_text ∷ us) cs rs x7 = elim x7 [ ]
text_kept b (Rattle.xliff.specs.Encode.broken _ ∷ us) cs rs x9 = elim x9 [ ]
text_kept b (inline x ∷ us) cs rs (kept_item g k) = text_kept false us cs rs k
text_kept b (text_run ds ∷ us) cs rs (kept_text a l k) = text_kept true us cs rs k

-- another text in its place
text_instead : (b : Bool) (us : List Record) (cs : List ℕ) (rs : List Record) (e : ℕ) (es : List ℕ)
    → Kept b (us ++ (text_run cs ∷ rs)) → Allowed (e ∷ es) → length (utf8s (e ∷ es)) < 65536
    → Kept b (us ++ (text_run (e ∷ es) ∷ []))
text_instead b [] cs rs e es (kept_text a l k) p q = kept_text p q kept_end
text_instead b (Rattle.xliff.specs.Encode.opening _ ∷ us) cs rs e es x6 p q = elim x6 [ ]
text_instead b (Rattle.xliff.specs.Encode.closing ∷ us) cs rs e es x6 p q = elim x6 [ ]
text_instead b (Rattle.xliff.specs.Encode.part_head _ ∷ us) cs rs e es x8 p q = elim x8 [ ]
text_instead b (Rattle.xliff.specs.Encode.target_head _ ∷ us) cs rs e es x9 p q = elim x9 [ ]
text_instead b (Rattle.xliff.specs.Encode.ill_text ∷ us) cs rs e es x9 p q = elim x9 [ ]
text_instead b (Rattle.xliff.specs.Encode.broken _ ∷ us) cs rs e es x11 p q = elim x11 [ ]
text_instead b (inline x ∷ us) cs rs e es (kept_item g k) p q = kept_item g (text_instead false us cs rs e es k p q)
text_instead b (text_run ds ∷ us) cs rs e es (kept_text a l k) p q =
    kept_text a l (text_instead true us cs rs e es k p q)

pub length_texts : (cs : List ℕ) → length (map text cs) ≡ length cs
length_texts [] = refl
length_texts (c ∷ cs) = ap suc (length_texts cs)

-- cut inside a text: the code points us before the cut, vs behind it
module _ (k u : ℕ) (us : List ℕ) (v : ℕ) (vs : List ℕ) (a rs : List Record)
    (kp : Kept false (a ++ (text_run ((u ∷ us) ++ (v ∷ vs)) ∷ rs)))
    (count : length (items a) + length (u ∷ us) ≡ k) where
  abbrev all : Content
  all = items (a ++ (text_run ((u ∷ us) ++ (v ∷ vs)) ∷ rs))

  tk : TextKept ((u ∷ us) ++ (v ∷ vs)) rs
  tk = text_kept false a ((u ∷ us) ++ (v ∷ vs)) rs kp

  apart : all ≡ (items a ++ map text (u ∷ us)) ++ (map text (v ∷ vs) ++ items rs)
  unfolding reading take_record
  apart =
      kept_items false a (text_run ((u ∷ us) ++ (v ∷ vs)) ∷ rs) kp
      ∙ ap (λ (l : Content). items a ++ (l ++ items rs)) (map-append text (u ∷ us) (v ∷ vs))
      ∙ ap (λ (l : Content). items a ++ l) (append_assoc (map text (u ∷ us)) (map text (v ∷ vs)) (items rs))
      ∙ sym (append_assoc (items a) (map text (u ∷ us)) (map text (v ∷ vs) ++ items rs))

  long : length (items a ++ map text (u ∷ us)) ≡ k
  long =
      length-append (items a) (map text (u ∷ us)) ∙ ap (λ (n : ℕ). length (items a) + n) (length_texts (u ∷ us)) ∙ count

  pub taken : take k all ≡ items a ++ map text (u ∷ us)
  taken = ap (take k) apart ∙ take_at (items a ++ map text (u ∷ us)) (map text (v ∷ vs) ++ items rs) k long

  pub dropped : drop k all ≡ map text (v ∷ vs) ++ items rs
  dropped = ap (drop k) apart ∙ drop_at (items a ++ map text (u ∷ us)) (map text (v ∷ vs) ++ items rs) k long

  -- what is beyond the cut, with the whole text
  abbrev beyond : Content
  beyond = items (text_run ((u ∷ us) ++ (v ∷ vs)) ∷ rs)

  same_beyond : (x : Item) → cut_item (map text (v ∷ vs) ++ items rs) x ≡ cut_item beyond x
  unfolding reading take_record
  same_beyond x = beyond_texts (v ∷ vs) (items rs) x ∙ sym (beyond_texts ((u ∷ us) ++ (v ∷ vs)) (items rs) x)

  pub kept_text_front : Kept false (a ++ (text_run (u ∷ us) ∷ []))
  kept_text_front =
      text_instead false a ((u ∷ us) ++ (v ∷ vs)) rs u us kp (allowed_front (u ∷ us) (v ∷ vs) tk.allowed)
      (let l : length (utf8s ((u ∷ us) ++ (v ∷ vs))) ≡ length (utf8s (u ∷ us) ++ utf8s (v ∷ vs)) =
      ap length (utf8s_append (u ∷ us) (v ∷ vs)) in
      omega (arith, tk.small, length-append (utf8s (u ∷ us)) (utf8s (v ∷ vs))))

  pub kept_text_back : Kept false (text_run (v ∷ vs) ∷ rs)
  kept_text_back =
      kept_text (allowed_back (u ∷ us) (v ∷ vs) tk.allowed)
      (let l : length (utf8s ((u ∷ us) ++ (v ∷ vs))) ≡ length (utf8s (u ∷ us) ++ utf8s (v ∷ vs)) =
      ap length (utf8s_append (u ∷ us) (v ∷ vs)) in
      omega (arith, tk.small, length-append (utf8s (u ∷ us)) (utf8s (v ∷ vs)))) tk.others

  pub front_items : items (a ++ (text_run (u ∷ us) ∷ [])) ≡ items a ++ map text (u ∷ us)
  unfolding reading take_record
  front_items = kept_items false a (text_run (u ∷ us) ∷ []) kept_text_front
      ∙ ap (λ (l : Content). items a ++ l) (append-nil (map text (u ∷ us)))

  pub inner_first : content_bytes (first_items k all) ≡ spell (cut_records beyond a) ++ record_bytes (text_run (u ∷ us))
  unfolding first_items spell gather
  inner_first =
      ap₂ (λ (p q : Content). content_bytes (map (cut_item p) q)) dropped (taken ∙ sym front_items)
      ∙ ap content_bytes (map_same _ _ same_beyond (items (a ++ (text_run (u ∷ us) ∷ []))))
      ∙ cut_bytes false beyond (a ++ (text_run (u ∷ us) ∷ [])) kept_text_front
      ∙ ap spell (map-append (cut_record beyond) a (text_run (u ∷ us) ∷ []))
      ∙ spell_append (cut_records beyond a) (text_run (u ∷ us) ∷ [])
      ∙ ap (λ (l : List ℕ). spell (cut_records beyond a) ++ l) (append-nil (record_bytes (text_run (u ∷ us))))

  pub inner_second : content_bytes (second_items k all) ≡ record_bytes (text_run (v ∷ vs))
      ++ spell (cut_records (items a) rs)
  unfolding second_items spell gather reading take_record
  inner_second =
      ap₂ (λ (p q : Content). content_bytes (map (cut_item p) q)) taken dropped
      ∙ ap content_bytes (map_same _ _ (beyond_behind (items a) (u ∷ us)) (map text (v ∷ vs) ++ items rs))
      ∙ cut_bytes false (items a) (text_run (v ∷ vs) ∷ rs) kept_text_back

-- The cut at a place of c, as the code meets it. Inside a text: the bytes of the text, the records behind it
pub record Inner (k : ℕ) (c : List ℕ) (xs : Content) (p : Place) (before after : List Record) : Type 0 where
  pub size : ℕ
  pub others : List Record
  pub width : (w : ℕ) → WidthAt c p.at w → w ≡ 4 + size
  pub less : p.into < size
  pub small : size < 65536
  pub fit : p.at + (4 + size) ≤ length c
  pub rest : Of (drop (p.at + (4 + size)) c) others
  pub first : content_bytes (first_items k xs) ≡ spell (cut_records (items after) before)
      ++ text_piece (take p.into (drop (p.at + 4) c))
  pub second : content_bytes (second_items k xs) ≡ text_piece (take (size - p.into) (drop (p.at + 4 + p.into) c))
      ++ spell
      (cut_records (items before) others)

pub record Sides (k : ℕ) (c : List ℕ) (xs : Content) (p : Place) : Type 0 where
  pub before : List Record
  pub after : List Record
  pub front : Of (take p.at c) before
  pub back : Of (drop p.at c) after
  pub fit : p.at ≤ length c
  pub first : p.into ≡ 0 → content_bytes (first_items k xs) ≡ spell (cut_records (items after) before)
  pub second : p.into ≡ 0 → content_bytes (second_items k xs) ≡ spell (cut_records (items before) after)
  pub inner : 1 ≤ p.into → Inner k c xs p before after

module _ (k : ℕ) (c : List ℕ) (at : ℕ) (a b : List Record) (o : Of c (a ++ b)) (h : at ≡ length (spell a)) where
  pieces : c ≡ spell a ++ spell b
  pieces = sym o.1 ∙ spell_append a b

  the_front : Of (take at c) a
  the_front = (kept_front false a b o.0, sym (ap (take at) pieces ∙ take_at (spell a) (spell b) at (sym h)))

  the_back : Of (drop at c) b
  the_back = (
    weaken (kept_back false a b o.0).0 b (kept_back false a b o.0).1,
    sym (ap (drop at) pieces ∙ drop_at (spell a) (spell b) at (sym h)),
  )

  the_fit : at ≤ length c
  the_fit =
      let l : length c ≡ length (spell a ++ spell b)
      = ap length pieces in omega (arith, length-append (spell a) (spell b))

-- nothing behind the cut
over_first : (k : ℕ) (a : List Record) → Kept false (a ++ []) → length (items a) ≤ k
    → content_bytes (first_items k (items (a ++ []))) ≡ spell (cut_records (items []) a)
unfolding first_items reading
over_first k a kp h =
    let e : items (a ++ []) ≡ items a = ap (λ (l : List Record). items l) (append-nil a) in
    ap₂ (λ (u v : Content). content_bytes (map (cut_item u) v)) (ap (drop k) e ∙ drop_of_length-le (items a) {i = k} h)
    (ap (take k) e ∙ take_all k (items a) h)
    ∙ cut_bytes false [] a (kept_front false a [] kp)

over_second : (k : ℕ) (a : List Record) → length (items a) ≤ k
    → content_bytes (second_items k (items (a ++ []))) ≡ spell (cut_records (items a) [])
unfolding second_items content_bytes content_records
over_second k a h =
    let e : items (a ++ []) ≡ items a = ap (λ (l : List Record). items l) (append-nil a) in
    ap (λ (u : Content). content_bytes (map (cut_item (take k (items (a ++ [])))) u)) (ap (drop k) e
    ∙ drop_of_length-le (items a) {i = k} h)

-- inside a text
module _ (k : ℕ) (c : List ℕ) (at u : ℕ) (us : List ℕ) (v : ℕ) (vs : List ℕ) (a rs : List Record)
    (o : Of c (a ++ (text_run ((u ∷ us) ++ (v ∷ vs)) ∷ rs)))
    (h : at ≡ length (spell a)) (count : length (items a) + length (u ∷ us) ≡ k) where
  abbrev us' : List ℕ
  us' = utf8s (u ∷ us)

  abbrev vs' : List ℕ
  vs' = utf8s (v ∷ vs)

  abbrev whole : List ℕ
  whole = utf8s ((u ∷ us) ++ (v ∷ vs))

  whole_is : whole ≡ us' ++ vs'
  whole_is = utf8s_append (u ∷ us) (v ∷ vs)

  pub whole_size : length whole ≡ length us' + length vs'
  whole_size = ap length whole_is ∙ length-append us' vs'

  from_record : drop at c ≡ record_bytes (text_run ((u ∷ us) ++ (v ∷ vs))) ++ spell rs
  unfolding spell gather
  from_record = sym (the_back k c at a (text_run ((u ∷ us) ++ (v ∷ vs)) ∷ rs) o h).1

  record_size : length (record_bytes (text_run ((u ∷ us) ++ (v ∷ vs)))) ≡ 4 + length whole
  unfolding record_bytes two
  record_size = omega arith

  from_text : drop (at + 4) c ≡ us' ++ (vs' ++ spell rs)
  unfolding record_bytes two
  from_text =
      sym (drop-drop 4 at c) ∙ ap (drop 4) from_record ∙ ap (λ (l : List ℕ). l ++ spell rs) whole_is
      ∙ append_assoc us' vs' (spell rs)

  pub from_cut : drop (at + 4 + length us') c ≡ vs' ++ spell rs
  from_cut =
      sym (drop-drop (length us') (at + 4) c) ∙ ap (drop (length us')) from_text
      ∙ drop_at us' (vs' ++ spell rs) (length us') refl

  from_rest : drop (at + (4 + length whole)) c ≡ spell rs
  from_rest =
      sym (drop-drop (4 + length whole) at c) ∙ ap (drop (4 + length whole)) from_record
      ∙ drop_at (record_bytes (text_run ((u ∷ us) ++ (v ∷ vs)))) (spell rs) (4 + length whole) record_size

  piece : (cs : List ℕ) → record_bytes (text_run cs) ≡ text_piece (utf8s cs)
  unfolding record_bytes
  piece cs = refl

  pub fits_in : at + (4 + length whole) ≤ length c
  fits_in =
      let l : length (drop at c) ≡ length (record_bytes (text_run ((u ∷ us) ++ (v ∷ vs)))) + length (spell rs) =
      ap length from_record ∙ length-append (record_bytes (text_run ((u ∷ us) ++ (v ∷ vs)))) (spell rs) in
      let f = the_fit k c at a (text_run ((u ∷ us) ++ (v ∷ vs)) ∷ rs) o h in
      omega (arith, length-drop at c, record_size)

  pub the_inner : Inner k c (items (a ++ (text_run ((u ∷ us) ++ (v ∷ vs)) ∷ rs)))
      (record { at = at; into = length us'; left = 0 }) a (text_run ((u ∷ us) ++ (v ∷ vs)) ∷ rs)
  the_inner =
      let kept = text_kept false a ((u ∷ us) ++ (v ∷ vs)) rs o.0 in
      record {
        size = length whole;
        others = rs;
        width = λ w h. width_there c at w h (text_run ((u ∷ us) ++ (v ∷ vs))) (spell rs)
            (text_in kept.allowed kept.small) from_record ∙ record_size;
        less = omega (arith, whole_size, utf8s_nonempty v vs);
        small = kept.small;
        fit = fits_in;
        rest = (weaken true rs kept.others, sym from_rest);
        first = inner_first k u us v vs a rs o.0 count
            ∙ ap (λ (l : List ℕ). spell (cut_records (items (text_run ((u ∷ us) ++ (v ∷ vs)) ∷ rs)) a) ++ l)
            (piece (u ∷ us)
            ∙ ap text_piece
            (sym (ap (take (length us')) from_text ∙ take_at us' (vs' ++ spell rs) (length us') refl)));
        second = inner_second k u us v vs a rs o.0 count
            ∙ ap (λ (l : List ℕ). l ++ spell (cut_records (items a) rs))
            (piece (v ∷ vs)
            ∙ ap text_piece
            (sym (ap (take (length whole - length us')) from_cut
            ∙ take_at vs' (spell rs) (length whole - length us')
            (let z : length vs' ≡ length whole - length us' = omega (arith, whole_size) in z))));
      }

sides_by : (k : ℕ) (c : List ℕ) (at into left : ℕ) (a b : List Record) (o : Of c (a ++ b)) (h : at ≡ length (spell a))
    → Inside k (length (items a)) into left b
    → Sides k c (items (a ++ b)) (record { at = at; into = into; left = left })
sides_by k c at into left a b o h (over e) =
    record {
      before = a;
      after = b;
      front = the_front k c at a b o h;
      back = the_back k c at a b o h;
      fit = the_fit k c at a b o h;
      first = λ z. over_first k a o.0 (omega arith);
      second = λ z. over_second k a (omega arith);
      inner = λ z. absurd (let y : ⊥ = omega arith in y);
    }
sides_by k c at into left a b o h (between e) =
    record {
      before = a;
      after = b;
      front = the_front k c at a b o h;
      back = the_back k c at a b o h;
      fit = the_fit k c at a b o h;
      first = λ z. clean_first k a b o.0 e;
      second = λ z. clean_second k a b o.0 e;
      inner = λ z. absurd (let y : ⊥ = omega arith in y);
    }
sides_by k c at into left a b o h (within u us v vs rs e) =
    record {
      before = a;
      after = b;
      front = the_front k c at a b o h;
      back = the_back k c at a b o h;
      fit = the_fit k c at a b o h;
      first = λ z. absurd (let y : ⊥ = omega (arith, utf8s_nonempty u us) in y);
      second = λ z. absurd (let y : ⊥ = omega (arith, utf8s_nonempty u us) in y);
      inner = λ z. the_inner k c at u us v vs a rs o h e;
    }

pub sides : (k : ℕ) (c : List ℕ) (xs : Content) (p : Place) → Holds c xs → Parted k (content_records xs) p
    → Sides k c xs p
sides k c xs p o q =
    subst (λ (l : Content). Sides k c l p) (ap (λ (l : List Record). items l) (sym q.parts) ∙ items_of xs)
    (sides_by k c p.at p.into p.left q.before q.after
    (subst (λ (l : List Record). Of c l) q.parts o) q.offset
    q.inside)

-- lengths: cut records are as long as they were
cut_size : (b : Bool) (ys : Content) (rs : List Record) → Kept b rs
    → length (spell (cut_records ys rs)) ≡ length (spell rs)
unfolding spell gather
cut_size b ys [] k = refl
cut_size b ys (Rattle.xliff.specs.Encode.opening _ ∷ rs) k = elim k [ ]
cut_size b ys (Rattle.xliff.specs.Encode.closing ∷ rs) k = elim k [ ]
cut_size b ys (Rattle.xliff.specs.Encode.part_head _ ∷ rs) k = elim k [ ]
cut_size b ys (Rattle.xliff.specs.Encode.target_head _ ∷ rs) k = elim k [ ]
cut_size b ys (Rattle.xliff.specs.Encode.ill_text ∷ rs) k = elim k [ ]
cut_size b ys (Rattle.xliff.specs.Encode.broken _ ∷ rs) k = elim k [ ]
cut_size b ys (inline x ∷ rs) (kept_item g k) =
    length-append (record_bytes (inline (cut_item ys x))) (spell (cut_records ys rs))
    ∙ ap₂ ◌+◌ (cut_length (inline x) ys (an_item g)) (cut_size false ys rs k)
    ∙ sym (length-append (record_bytes (inline x)) (spell rs))
cut_size b ys (text_run cs ∷ rs) (kept_text a l k) =
    length-append (record_bytes (text_run cs)) (spell (cut_records ys rs))
    ∙ ap (λ (n : ℕ). length (record_bytes (text_run cs)) + n) (cut_size true ys rs k)
    ∙ sym (length-append (record_bytes (text_run cs)) (spell rs))

pub of_size : (c : List ℕ) (ys : Content) (rs : List Record) → Of c rs → length (spell (cut_records ys rs)) ≡ length c
of_size c ys rs o = cut_size false ys rs o.0 ∙ ap length o.1

pub piece_size : (t : List ℕ) → length (text_piece t) ≡ 4 + length t
unfolding two
piece_size t = omega arith

module _ (k : ℕ) (c : List ℕ) (xs : Content) (p : Place) (s : Sides k c xs p) where
  pub front_size : length (spell (cut_records (items s.after) s.before)) ≡ p.at
  front_size = of_size (take p.at c) (items s.after) s.before s.front ∙ length-take-le p.at c s.fit

  pub back_size : length (spell (cut_records (items s.before) s.after)) ≡ length c - p.at
  back_size = of_size (drop p.at c) (items s.before) s.after s.back ∙ length-drop p.at c

  pub rest_size : (i : Inner k c xs p s.before s.after)
      → length (spell (cut_records (items s.before) i.others)) ≡ length c - (p.at + (4 + i.size))
  rest_size i =
      of_size (drop (p.at + (4 + i.size)) c) (items s.before) i.others i.rest
      ∙ length-drop (p.at + (4 + i.size)) c

  pub first_size_0 : p.into ≡ 0 → length (content_bytes (first_items k xs)) ≡ p.at
  first_size_0 z = ap length (s.first z) ∙ front_size

  pub first_size_1 : 1 ≤ p.into → length (content_bytes (first_items k xs)) ≡ p.at + (4 + p.into)
  first_size_1 z =
      let i = s.inner z in
      let t : length (take p.into (drop (p.at + 4) c)) ≡ p.into = length-take-le p.into (drop (p.at + 4) c)
      (omega (arith, length-drop (p.at + 4) c, i.fit, i.less)) in
      ap length i.first ∙ length-append (spell (cut_records (items s.after) s.before))
      (text_piece (take p.into (drop (p.at + 4) c)))
      ∙ ap₂ ◌+◌ front_size (piece_size (take p.into (drop (p.at + 4) c)) ∙ ap (λ (n : ℕ). 4 + n) t)

  pub first_least : p.at ≤ length (content_bytes (first_items k xs))
  first_least = by p.into refl
    where
      by : (n : ℕ) → p.into ≡ n → p.at ≤ length (content_bytes (first_items k xs))
      by zero e = omega (arith, first_size_0 e)
      by (suc n) e = omega (arith, first_size_1 (omega arith))

  pub second_size_0 : p.into ≡ 0 → length (content_bytes (second_items k xs)) ≡ length c - p.at
  second_size_0 z = ap length (s.second z) ∙ back_size

  pub second_size_1 : 1 ≤ p.into → length (content_bytes (second_items k xs)) ≡ length c - p.at - p.into
  second_size_1 z =
      let i = s.inner z in
      let t : length (take (i.size - p.into) (drop (p.at + 4 + p.into) c)) ≡ i.size - p.into =
      length-take-le (i.size - p.into) (drop (p.at + 4 + p.into) c)
      (omega (arith, length-drop (p.at + 4 + p.into) c, i.fit, i.less)) in
      ap length i.second
      ∙ length-append (text_piece (take (i.size - p.into) (drop (p.at + 4 + p.into) c)))
      (spell (cut_records (items s.before) i.others))
      ∙ ap₂ ◌+◌ (piece_size (take (i.size - p.into) (drop (p.at + 4 + p.into) c)) ∙ ap (λ (n : ℕ). 4 + n) t)
      (rest_size i)
      ∙ (let z : 4 + (i.size - p.into) + (length c - (p.at + (4 + i.size))) ≡ length c - p.at - p.into =
      omega (arith, i.fit, i.less) in z)
