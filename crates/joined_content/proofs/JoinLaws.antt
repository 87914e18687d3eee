-- Where two contents meet, and what they are joined.
use Prim.Native.Nat.{ℕ, ◌+◌, ◌-◌, ◌/◌, ◌%◌, ◌<◌, ◌≤◌}
use mathlib.Core.Path.{◌≡◌, refl, sym, ap, ap₂, ◌∙◌, subst}
use mathlib.Core.Bool.{Bool, true, false, ◌&&◌, true≢false}
use mathlib.Core.List.{List, [], ◌∷◌, ◌++◌, map, append_assoc, append-nil}
use native.Mathlib.Omega.{arith}
use Rattle.std.specs.Prelude.{Option, Some, None}
use lib.ListN.{length, take, drop, length-append, length-drop}
use lib.Seq.{drop_at, take-append-add, drop-append-add}
use Rattle.writer.specs.Pieces.{lead, overlay, number_bytes}
use Rattle.xliff.proofs.lists.Slices.{tail_is}
use Rattle.writer.proofs.PieceLaws.{two_back}
use Rattle.xliff.specs.Bytes.{two, two_at, gather}
use Rattle.xliff.specs.Text.{utf8s}
use Rattle.xliff.specs.Item.{Content, text}
use Rattle.xliff.specs.Encode.{Record, text_run, inline, record_bytes, spell, content_records, content_bytes}
use Rattle.xliff.specs.Parse.{reading, take_record}
use Rattle.xliff.proofs.lists.Tests.{two_value, map-append, and_left, and_right}
use Rattle.xliff.specs.Good.{Allowed, one_point}
use Rattle.walk.specs.Kept.{Kept, kept_end, kept_item, kept_text, Of, Holds, items, Inline, an_item, a_text, InContent}
use Rattle.marks.specs.Marks.{marked}
use Rattle.marks.proofs.RecordLaws.{number_there}
use Rattle.walker.specs.Offsets.{WidthAt}
use Rattle.walk.specs.Marks.{number}
use Rattle.walk.proofs.RecordLaws.{Upto, upto_on}
use Rattle.walk.proofs.WalkLaws.{Next, next as next_record, first_of, rest_start, rest_end, inline_least}
use Rattle.xliff.proofs.text.Utf8.{utf8s_append}
use Rattle.xliff.proofs.unit.Pieces.{spell_append}
use Rattle.walk.proofs.PlaceLaws.{is_text, kept_items}
use Rattle.cut.proofs.CutLaws.{kept_records}
use Rattle.cut.proofs.HalfLaws.{items_of}
use Rattle.joined_content.specs.Seam.{Last, Seam, apart, touching, SeamOf, SeamFound, RoomContents, WroteContents}

-- next is the offset behind the record at the offset at of c
pub record Behind (c : List ℕ) (at next : ℕ) : Type 0 where
  pub width : ℕ
  pub offset : next ≡ at + width
  pub read : WidthAt c at width

pub behind : (c : List ℕ) (at w : ℕ) → WidthAt c at w → Behind c at (at + w)
behind c at w e = record { width = w; offset = refl; read = e }

module _ (c : List ℕ) (rs : List Record) (at next : ℕ) (h : at < length c) (b : Behind c at next) (m : Upto InContent c rs at) where
  the_next : Next c at b.width m.after
  the_next = next_record c at b.width m.after h m.rest b.read

  pub behind_fits : (at + 4 ≤ next) × (next ≤ length c)
  behind_fits = let n = the_next in (omega (arith, b.offset, n.least), omega (arith, b.offset, n.fit))

  pub upto_next : Upto InContent c rs next
  upto_next = subst (λ (k : ℕ). Upto InContent c rs k) (sym b.offset) (upto_on InContent Inline c rs at b.width m the_next)

  -- it is the last one
  pub upto_last : length c ≤ next → Last rs at
  upto_last k =
      let n = the_next in
      let none : n.others ≡ [] = rest_end c (at + b.width) n.others (omega (arith, b.offset)) n.rest in
      record {
        before = m.before;
        last = n.first;
        all = m.all ∙ ap (λ (l : List Record). m.before ++ l) (n.all ∙ ap {B = List Record} (λ l. n.first ∷ l) none);
        offset = m.offset;
      }

-- the last record
pub kept_last : (b : Bool) (a : List Record) (r : Record) → Kept b (a ++ (r ∷ [])) → Inline r
kept_last b [] r (kept_item g k) = an_item g
kept_last b [] r (kept_text a l k) = a_text a l
kept_last b (Rattle.xliff.specs.Encode.opening _ ∷ a) r x4 = elim x4 [ ]
kept_last b (Rattle.xliff.specs.Encode.closing ∷ a) r x4 = elim x4 [ ]
kept_last b (Rattle.xliff.specs.Encode.part_head _ ∷ a) r x6 = elim x6 [ ]
kept_last b (Rattle.xliff.specs.Encode.target_head _ ∷ a) r x7 = elim x7 [ ]
kept_last b (Rattle.xliff.specs.Encode.ill_text ∷ a) r x7 = elim x7 [ ]
kept_last b (Rattle.xliff.specs.Encode.broken _ ∷ a) r x9 = elim x9 [ ]
kept_last b (inline x ∷ a) r (kept_item g k) = kept_last false a r k
kept_last b (text_run cs ∷ a) r (kept_text p l k) = kept_last true a r k

-- what does not begin with a text may stand behind one
text_marked : (cs s : List ℕ) → marked (record_bytes (text_run cs) ++ s) (84 ∷ 88 ∷ []) ≡ true
unfolding record_bytes
text_marked cs s = refl

strong : (qs : List Record) → Kept false qs → marked (spell qs) (84 ∷ 88 ∷ []) ≡ false → Kept true qs
unfolding spell gather
strong [] k e = kept_end
strong (Rattle.xliff.specs.Encode.opening _ ∷ qs) k e = elim k [ ]
strong (Rattle.xliff.specs.Encode.closing ∷ qs) k e = elim k [ ]
strong (Rattle.xliff.specs.Encode.part_head _ ∷ qs) k e = elim k [ ]
strong (Rattle.xliff.specs.Encode.target_head _ ∷ qs) k e = elim k [ ]
strong (Rattle.xliff.specs.Encode.ill_text ∷ qs) k e = elim k [ ]
strong (Rattle.xliff.specs.Encode.broken _ ∷ qs) k e = elim k [ ]
strong (inline x ∷ qs) (kept_item g k) e = kept_item g k
strong (text_run cs ∷ qs) (kept_text a l k) e = absurd (true≢false (sym (text_marked cs (spell qs)) ∙ e))

pub kept_meet : (b : Bool) (a : List Record) (r : Record) (qs : List Record) → Kept b (a ++ (r ∷ [])) → Kept false qs
    → marked (record_bytes r ++ []) (84 ∷ 88 ∷ []) && marked (spell qs) (84 ∷ 88 ∷ []) ≡ false
    → Kept b ((a ++ (r ∷ [])) ++ qs)
unfolding record_bytes
kept_meet b [] r qs (kept_item g k) q e = kept_item g q
kept_meet b [] r qs (kept_text a l k) q e = kept_text a l (strong qs q e)
kept_meet b (Rattle.xliff.specs.Encode.opening _ ∷ a) r qs x6 q e = elim x6 [ ]
kept_meet b (Rattle.xliff.specs.Encode.closing ∷ a) r qs x6 q e = elim x6 [ ]
kept_meet b (Rattle.xliff.specs.Encode.part_head _ ∷ a) r qs x8 q e = elim x8 [ ]
kept_meet b (Rattle.xliff.specs.Encode.target_head _ ∷ a) r qs x9 q e = elim x9 [ ]
kept_meet b (Rattle.xliff.specs.Encode.ill_text ∷ a) r qs x9 q e = elim x9 [ ]
kept_meet b (Rattle.xliff.specs.Encode.broken _ ∷ a) r qs x11 q e = elim x11 [ ]
kept_meet b (inline x ∷ a) r qs (kept_item g k) q e = kept_item g (kept_meet false a r qs k q e)
kept_meet b (text_run cs ∷ a) r qs (kept_text p l k) q e = kept_text p l (kept_meet true a r qs k q e)

no_bytes_left : (c : List ℕ) (rs : List Record) → length c ≡ 0 → Of c rs → rs ≡ []
no_bytes_left c rs z o = rest_end c 0 rs (omega arith) (rest_start c rs o)

-- the answers of the code
pub seam_none : (a : List ℕ) (rs qs : List Record) → length a ≡ 0 → Of a rs → Kept false qs
    → Seam (length a) rs qs (length a)
seam_none a rs qs z o k = apart (subst (λ (l : List Record). Kept false (l ++ qs)) (sym (no_bytes_left a rs z o)) k)

-- where the texts touch, or the end of the first content
pub some_seam : (a b : List ℕ) (o : Option ℕ) → SeamFound a b o → (n : ℕ) × SeamOf a b n
some_seam a b None s = (length a, s)
some_seam a b (Some n) s = (n, s.0)

pub no_seam : (a b : List ℕ) (o : Option ℕ) → SeamFound a b o → o ≡ None → SeamOf a b (length a)
no_seam a b o s e = subst (λ (q : Option ℕ). SeamFound a b q) e s

pub seam_at : (a b : List ℕ) (o : Option ℕ) (n : ℕ) → SeamFound a b o → o ≡ Some n → SeamOf a b n × (n < length a)
seam_at a b o n s e = subst (λ (q : Option ℕ). SeamFound a b q) e s

pub seam_last : (a b : List ℕ) (rs qs : List Record) → length b ≡ 0 → Of b qs → Kept false rs → Seam (length a) rs qs (length a)
seam_last a b rs qs z o k = apart (subst (Kept false) (sym (ap (λ (l : List Record). rs ++ l) (no_bytes_left b qs z o) ∙ append-nil rs)) k)

-- the bytes of the last record
pub last_bytes : (a : List ℕ) (rs : List Record) (p : ℕ) → Of a rs → (m : Last rs p) → drop p a ≡ record_bytes m.last ++ []
unfolding spell gather
last_bytes a rs p o m =
    ap (drop p) (sym o.1 ∙ ap spell m.all ∙ spell_append m.before (m.last ∷ []))
    ∙ drop_at (spell m.before) (record_bytes m.last ++ []) p (sym m.offset)

pub last_inline : (a : List ℕ) (rs : List Record) (p : ℕ) → Of a rs → (m : Last rs p) → Inline m.last
last_inline a rs p o m = kept_last false m.before m.last (subst (Kept false) m.all o.0)

pub last_least : (a : List ℕ) (rs : List Record) (p : ℕ) → Of a rs → Last rs p → (4 ≤ length (drop p a)) × (p + 4 ≤ length a)
last_least a rs p o m =
    let l : length (drop p a) ≡ length (record_bytes m.last ++ []) = ap length (last_bytes a rs p o m) in
    let k = inline_least m.last (last_inline a rs p o m) in
    (omega (arith, length-append (record_bytes m.last) []), omega (arith, length-append (record_bytes m.last) [], length-drop p a))

pub first_least : (b : List ℕ) (qs : List Record) → Of b qs → 0 < length b → 4 ≤ length b
first_least b qs o h = let n = first_of b 0 qs h (rest_start b qs o) in omega (arith, n.least, n.fit)

pub seam_apart : (a b : List ℕ) (rs qs : List Record) (p : ℕ) → Of a rs → Of b qs → Last rs p
    → marked (drop p a) (84 ∷ 88 ∷ []) && marked b (84 ∷ 88 ∷ []) ≡ false → Seam (length a) rs qs (length a)
seam_apart a b rs qs p o q m e =
    apart (subst (λ (l : List Record). Kept false (l ++ qs)) (sym m.all)
    (kept_meet false m.before m.last qs (subst (Kept false) m.all o.0) q.0
    (ap₂ (λ (u v : List ℕ). marked u (84 ∷ 88 ∷ []) && marked v (84 ∷ 88 ∷ [])) (sym (last_bytes a rs p o m)) q.1 ∙ e)))

pub seam_touching : (a b : List ℕ) (rs qs : List Record) (p : ℕ) → Of a rs → Of b qs → 0 < length b → Last rs p
    → marked (drop p a) (84 ∷ 88 ∷ []) && marked b (84 ∷ 88 ∷ []) ≡ true → Seam (length a) rs qs p
seam_touching a b rs qs p o q h m e =
    let n = first_of b 0 qs h (rest_start b qs q) in
    let u = is_text m.last (drop p a) [] (last_inline a rs p o m) (last_bytes a rs p o m)
    (and_left (marked (drop p a) (84 ∷ 88 ∷ [])) _ e) in
    let v = is_text n.first b (spell n.others) n.good n.bytes (and_right (marked (drop p a) (84 ∷ 88 ∷ [])) _ e) in
    subst (λ (j : ℕ). Seam (length a) rs qs j) (sym m.offset)
    (touching m.before u.points v.points n.others
    (m.all ∙ ap (λ (r : Record). m.before ++ (r ∷ [])) u.is) (n.all ∙ ap {B = List Record} (λ r. r ∷ n.others) v.is))

-- contents whose records can stand side by side
joined_apart : (a b : List ℕ) (xs ys : Content) → Holds a xs → Holds b ys → Kept false (content_records xs ++ content_records ys)
    → content_bytes (xs ++ ys) ≡ a ++ b
unfolding content_bytes
joined_apart a b xs ys o q k =
    let i : items (content_records xs ++ content_records ys) ≡ xs ++ ys =
    kept_items false (content_records xs) (content_records ys) k ∙ ap₂ ◌++◌ (items_of xs) (items_of ys) in
    ap (λ (l : Content). spell (content_records l)) (sym i) ∙ ap spell (kept_records false (content_records xs ++ content_records ys) k)
    ∙ spell_append (content_records xs) (content_records ys) ∙ ap₂ ◌++◌ o.1 q.1

-- two texts made one
allowed_both : (cs ds : List ℕ) → Allowed cs → Allowed ds → Allowed (cs ++ ds)
allowed_both [] ds a b = b
allowed_both (c ∷ cs) ds (one_point p a) b = one_point p (allowed_both cs ds a b)

one_text : (b : Bool) (a : List Record) (cs ds : List ℕ) (rs : List Record) → Kept b (a ++ (text_run cs ∷ []))
    → Kept false (text_run ds ∷ rs) → length (utf8s (cs ++ ds)) < 65536
    → Kept b (a ++ (text_run (cs ++ ds) ∷ rs))
one_text b [] cs ds rs (kept_text a l k) (kept_text p m n) h = kept_text (allowed_both cs ds a p) h n
one_text b (Rattle.xliff.specs.Encode.opening _ ∷ a) cs ds rs x7 q h = elim x7 [ ]
one_text b (Rattle.xliff.specs.Encode.closing ∷ a) cs ds rs x7 q h = elim x7 [ ]
one_text b (Rattle.xliff.specs.Encode.part_head _ ∷ a) cs ds rs x9 q h = elim x9 [ ]
one_text b (Rattle.xliff.specs.Encode.target_head _ ∷ a) cs ds rs x10 q h = elim x10 [ ]
one_text b (Rattle.xliff.specs.Encode.ill_text ∷ a) cs ds rs x10 q h = elim x10 [ ]
one_text b (Rattle.xliff.specs.Encode.broken _ ∷ a) cs ds rs x12 q h = elim x12 [ ]
one_text b (inline x ∷ a) cs ds rs (kept_item g k) q h = kept_item g (one_text false a cs ds rs k q h)
one_text b (text_run es ∷ a) cs ds rs (kept_text p l k) q h = kept_text p l (one_text true a cs ds rs k q h)

module _ (before : List Record) (cs ds : List ℕ) (others : List Record) where
  -- the first content with the length of the whole text
  abbrev pub patched : List ℕ
  patched = spell before ++ (84 ∷ 88 ∷ (two (length (utf8s cs) + length (utf8s ds)) ++ utf8s cs))

  whole_bytes : (b : List ℕ) → spell (text_run ds ∷ others) ≡ b → spell (before ++ (text_run (cs ++ ds) ∷ others)) ≡ patched ++ drop 4 b
  unfolding spell gather record_bytes two
  whole_bytes b e =
      let n : length (utf8s (cs ++ ds)) ≡ length (utf8s cs) + length (utf8s ds) = ap length (utf8s_append cs ds)
      ∙ length-append (utf8s cs) (utf8s ds) in
      spell_append before (text_run (cs ++ ds) ∷ others)
      ∙ ap₂ (λ (k : ℕ) (l : List ℕ). spell before ++ (84 ∷ 88 ∷ ((k / 256 ∷ k % 256 ∷ l) ++ spell others))) n (utf8s_append cs ds)
      ∙ ap (λ (l : List ℕ). spell before ++
      (84 ∷ 88 ∷ (length (utf8s cs) + length (utf8s ds)) / 256 ∷ (length (utf8s cs) + length (utf8s ds)) % 256 ∷ l))
      (append_assoc (utf8s cs) (utf8s ds) (spell others))
      ∙ sym (append_assoc (spell before) (84 ∷ 88 ∷ (two (length (utf8s cs) + length (utf8s ds)) ++ utf8s cs)) (utf8s ds ++ spell others))
      ∙ ap (λ (l : List ℕ). patched ++ drop 4 l) e

  texts_items : Kept false (before ++ (text_run cs ∷ [])) → Kept false (before ++ (text_run (cs ++ ds) ∷ others))
      → items (before ++ (text_run (cs ++ ds) ∷ others)) ≡ items (before ++ (text_run cs ∷ [])) ++ items (text_run ds ∷ others)
  unfolding reading take_record
  texts_items k l =
      kept_items false before (text_run (cs ++ ds) ∷ others) l
      ∙ ap (λ (m : Content). items before ++ (m ++ items others)) (map-append text cs ds)
      ∙ ap (λ (m : Content). items before ++ m) (append_assoc (map text cs) (map text ds) (items others))
      ∙ sym (append_assoc (items before) (map text cs) (map text ds ++ items others))
      ∙ ap (λ (m : Content). (items before ++ m) ++ (map text ds ++ items others)) (sym (append-nil (map text cs)))
      ∙ ap (λ (m : Content). m ++ (map text ds ++ items others)) (sym (kept_items false before (text_run cs ∷ []) k))

-- two contents whose texts touch at n
pub record Touch (a b : List ℕ) (xs ys : Content) (n : ℕ) : Type 0 where
  pub before : List Record
  pub cs : List ℕ
  pub ds : List ℕ
  pub others : List Record
  pub offset : n ≡ length (spell before)
  pub first : a ≡ spell before ++ record_bytes (text_run cs)
  pub second : b ≡ record_bytes (text_run ds) ++ spell others
  pub bytes : content_bytes (xs ++ ys) ≡ patched before cs ds others ++ drop 4 b

record_long : (cs : List ℕ) → length (record_bytes (text_run cs)) ≡ 4 + length (utf8s cs)
unfolding record_bytes two
record_long cs = omega arith

touch_first : (a : List ℕ) (rs before : List Record) (cs : List ℕ) → Of a rs → rs ≡ before ++ (text_run cs ∷ [])
    → a ≡ spell before ++ record_bytes (text_run cs)
unfolding spell gather
touch_first a rs before cs o e =
    sym o.1 ∙ ap spell e ∙ spell_append before (text_run cs ∷ [])
    ∙ ap (λ (l : List ℕ). spell before ++ l) (append-nil (record_bytes (text_run cs)))

seam_length : (a : List ℕ) (rs before : List Record) (cs : List ℕ) → Of a rs → rs ≡ before ++ (text_run cs ∷ [])
    → length a ≡ length (spell before) + (4 + length (utf8s cs))
seam_length a rs before cs o e =
    ap length (touch_first a rs before cs o e) ∙ length-append (spell before) (record_bytes (text_run cs))
    ∙ ap (λ (n : ℕ). length (spell before) + n) (record_long cs)

seam_kept : (a : List ℕ) (rs qs : List Record) (n : ℕ) → Of a rs → Seam (length a) rs qs n → n ≡ length a → Kept false (rs ++ qs)
seam_kept a rs qs n o (apart k) e = k
seam_kept a rs qs n o (touching before cs ds others f g) e = absurd (let z : ⊥ = omega (arith, seam_length a rs before cs o f) in z)

touch_by : (a b : List ℕ) (xs ys : Content) (before : List Record) (cs ds : List ℕ) (others : List Record) → Holds a xs → Holds b ys
    → length a + length b < 65536
    → content_records xs ≡ before ++ (text_run cs ∷ []) → content_records ys ≡ text_run ds ∷ others
    → Touch a b xs ys (length (spell before))
unfolding content_bytes spell gather
touch_by a b xs ys before cs ds others o q h f g =
    let e : spell (text_run ds ∷ others) ≡ b = sym (ap spell g) ∙ q.1 in
    let k : Kept false (before ++ (text_run cs ∷ [])) = subst (Kept false) f o.0 in
    let n : length (utf8s (cs ++ ds)) ≡ length (utf8s cs) + length (utf8s ds) = ap length (utf8s_append cs ds)
    ∙ length-append (utf8s cs) (utf8s ds) in
    let lb : length b ≡ length (record_bytes (text_run ds)) + length (spell others) = ap length (sym e)
    ∙ length-append (record_bytes (text_run ds)) (spell others) in
    let l : Kept false (before ++ (text_run (cs ++ ds) ∷ others)) =
    one_text false before cs ds others k (subst (Kept false) g q.0)
    (omega (arith, seam_length a (content_records xs) before cs o f, record_long ds)) in
    let i : items (before ++ (text_run (cs ++ ds) ∷ others)) ≡ xs ++ ys =
    texts_items before cs ds others k l
    ∙ ap₂ ◌++◌ (ap (λ (m : List Record). items m) (sym f) ∙ items_of xs) (ap (λ (m : List Record). items m) (sym g) ∙ items_of ys) in
    record {
      before = before;
      cs = cs;
      ds = ds;
      others = others;
      offset = refl;
      first = touch_first a (content_records xs) before cs o f;
      second = sym e;
      bytes = ap (λ (m : Content). spell (content_records m)) (sym i)
          ∙ ap spell (kept_records false (before ++ (text_run (cs ++ ds) ∷ others)) l)
          ∙ whole_bytes before cs ds others b e;
    }

touch_at : (a b : List ℕ) (xs ys : Content) (rs qs : List Record) (end n : ℕ) → Holds a xs → Holds b ys
    → length a + length b < 65536 → content_records xs ≡ rs → content_records ys ≡ qs
    → Seam end rs qs n → (n ≡ end → ⊥) → Touch a b xs ys n
touch_at a b xs ys rs qs end n o q h u v (apart k) z = absurd (z refl)
touch_at a b xs ys rs qs end n o q h u v (touching before cs ds others f g) z = touch_by a b xs ys before cs ds others o q h (u ∙ f) (v ∙ g)

touch : (a b : List ℕ) (xs ys : Content) (n : ℕ) → Holds a xs → Holds b ys → length a + length b < 65536
    → Seam (length a) (content_records xs) (content_records ys) n
    → (n ≡ length a → ⊥) → Touch a b xs ys n
touch a b xs ys n o q h s z = touch_at a b xs ys (content_records xs) (content_records ys) (length a) n o q h refl refl s z

-- a number written over the length of a text
over_mid : (s u r : List ℕ) (x y c d n : ℕ) → n ≡ length s
    → overlay ((s ++ (84 ∷ 88 ∷ x ∷ y ∷ u)) ++ r) (n + 2) (c ∷ d ∷ []) ≡ (s ++ (84 ∷ 88 ∷ c ∷ d ∷ u)) ++ r
over_mid s u r x y c d n e =
    let a : (s ++ (84 ∷ 88 ∷ x ∷ y ∷ u)) ++ r ≡ s ++ (84 ∷ 88 ∷ x ∷ y ∷ (u ++ r)) = append_assoc s (84 ∷ 88 ∷ x ∷ y ∷ u) r in
    let p : take (n + 2) ((s ++ (84 ∷ 88 ∷ x ∷ y ∷ u)) ++ r) ≡ s ++ (84 ∷ 88 ∷ []) =
    ap₂ (λ (k : ℕ) (l : List ℕ). take (k + 2) l) e a ∙ take-append-add s (84 ∷ 88 ∷ x ∷ y ∷ (u ++ r)) 2 in
    let q : drop (n + 2 + 2) ((s ++ (84 ∷ 88 ∷ x ∷ y ∷ u)) ++ r) ≡ u ++ r =
    ap₂ (λ (k : ℕ) (l : List ℕ). drop k l) (let z : n + 2 + 2 ≡ length s + 4 = omega arith in z) a
    ∙ drop-append-add s (84 ∷ 88 ∷ x ∷ y ∷ (u ++ r)) 4 in
    ap₂ (λ (v w : List ℕ). v ++ (c ∷ d ∷ []) ++ w) p q
    ∙ ap (λ (v : List ℕ). v ++ (u ++ r)) (append_assoc s (84 ∷ 88 ∷ []) (c ∷ d ∷ []))
    ∙ append_assoc s (84 ∷ 88 ∷ c ∷ d ∷ []) (u ++ r) ∙ sym (append_assoc s (84 ∷ 88 ∷ c ∷ d ∷ u) r)

-- lengths and numbers where texts touch
module _ (a b : List ℕ) (xs ys : Content) (n : ℕ) (t : Touch a b xs ys n) where
  abbrev the_patched : List ℕ
  the_patched = patched t.before t.cs t.ds t.others

  patched_long : length the_patched ≡ length a
  unfolding two
  patched_long =
      let p = length-append (spell t.before) (84 ∷ 88 ∷ (two (length (utf8s t.cs) + length (utf8s t.ds)) ++ utf8s t.cs)) in
      let q : length a ≡ length (spell t.before) + length (record_bytes (text_run t.cs)) = ap length t.first
      ∙ length-append (spell t.before) (record_bytes (text_run t.cs)) in
      omega (arith, record_long t.cs)

  touch_a : length a ≡ n + (4 + length (utf8s t.cs))
  touch_a =
      ap length t.first ∙ length-append (spell t.before) (record_bytes (text_run t.cs))
      ∙ ap₂ ◌+◌ (sym t.offset) (record_long t.cs)

  touch_b : length b ≡ 4 + length (utf8s t.ds) + length (spell t.others)
  touch_b = ap length t.second ∙ length-append (record_bytes (text_run t.ds)) (spell t.others)
      ∙ ap (λ (k : ℕ). k + length (spell t.others)) (record_long t.ds)

  touch_size : length (content_bytes (xs ++ ys)) ≡ length a + (length b - 4)
  touch_size = ap length t.bytes ∙ length-append the_patched (drop 4 b) ∙ ap₂ ◌+◌ patched_long (length-drop 4 b)

  number_is : (cs s : List ℕ) → number (record_bytes (text_run cs) ++ s) ≡ length (utf8s cs)
  unfolding two_at record_bytes two
  number_is cs s = two_value (length (utf8s cs))

  touch_number_a : number (drop n a) ≡ length (utf8s t.cs)
  touch_number_a =
      ap number (ap (drop n) t.first ∙ drop_at (spell t.before) (record_bytes (text_run t.cs)) n (sym t.offset)
      ∙ sym (append-nil (record_bytes (text_run t.cs))))
      ∙ number_is t.cs []

  touch_number_b : number b ≡ length (utf8s t.ds)
  touch_number_b = ap number t.second ∙ number_is t.ds (spell t.others)

  touch_wrote : (o l m y : List ℕ) (x j : ℕ) → l ≡ lead a o → x ≡ length (utf8s t.cs) + length (utf8s t.ds)
      → m ≡ overlay l (n + 2) (number_bytes x) → j ≡ length a
      → y ≡ lead (take (length b - 4) (drop 4 b)) (take (length m - j) (drop j m))
      → take j m ++ (y ++ drop (length m - j) (drop j m)) ≡ lead (content_bytes (xs ++ ys)) o
  unfolding two record_bytes
  touch_wrote o l m y x j e f g h k =
      let s : List ℕ = spell t.before in
      let u : List ℕ = utf8s t.cs in
      let r : List ℕ = drop (length a) o in
      let z : l ≡ (s ++ (84 ∷ 88 ∷ length u / 256 ∷ length u % 256 ∷ u)) ++ r = e ∙ ap (λ (q : List ℕ). q ++ r) t.first in
      let w : m ≡ (s ++ (84 ∷ 88 ∷ x / 256 ∷ x % 256 ∷ u)) ++ r =
      g ∙ ap (λ (q : List ℕ). overlay q (n + 2) (number_bytes x)) z
      ∙ over_mid s u r (length u / 256) (length u % 256) (x / 256) (x % 256) n t.offset in
      let v : m ≡ lead the_patched o =
      w ∙ ap (λ (k : ℕ). (s ++ (84 ∷ 88 ∷ k / 256 ∷ k % 256 ∷ u)) ++ r) f ∙ ap (λ (k : ℕ). the_patched ++ drop k o) (sym patched_long) in
      two_back o the_patched (drop 4 b) m y j (h ∙ sym patched_long) v (k
      ∙ ap (λ (q : List ℕ). lead q (take (length m - j) (drop j m))) (tail_is 4 b))
      ∙ ap (λ (q : List ℕ). lead q o) (sym t.bytes)

room_at : (a b : List ℕ) (xs ys : Content) (rs qs : List Record) (end n : ℕ) → Holds a xs → Holds b ys → length a + length b < 65536
    → content_records xs ≡ rs → content_records ys ≡ qs
    → Seam end rs qs n → length a ≤ length (content_bytes (xs ++ ys))
room_at a b xs ys rs qs end n o q h u v (apart k) =
    let e : length (content_bytes (xs ++ ys)) ≡ length a + length b =
    ap length (joined_apart a b xs ys o q (subst (Kept false) (ap₂ ◌++◌ (sym u) (sym v)) k)) ∙ length-append a b in
    omega arith
room_at a b xs ys rs qs end n o q h u v (touching before cs ds others f g) =
    omega (arith, touch_size a b xs ys (length (spell before)) (touch_by a b xs ys before cs ds others o q h (u ∙ f) (v ∙ g)))

joined_room : (a b : List ℕ) (xs ys : Content) (n : ℕ) → Holds a xs → Holds b ys → length a + length b < 65536
    → Seam (length a) (content_records xs) (content_records ys) n
    → length a ≤ length (content_bytes (xs ++ ys))
joined_room a b xs ys n o q h s = room_at a b xs ys (content_records xs) (content_records ys) (length a) n o q h refl refl s

-- What fits where the contents a and b, that meet at n, are written over o
pub record Touching (a b o : List ℕ) (n : ℕ) : Type 0 where
  pub first_fit : n + 4 ≤ length a
  pub second_fit : 4 ≤ length b
  pub sum_small : two_at a (n + 2) + two_at b 2 < 65536
  pub rest_room : length a + length (take (length b - 4) (drop 4 b)) ≤ length o

pub record JoinFits (a b o : List ℕ) (n : ℕ) : Type 0 where
  pub first_room : length a ≤ length o
  pub both_room : n ≡ length a → length a + length b ≤ length o
  pub touching : (n ≡ length a → ⊥) → Touching a b o n

module _ (a b : List ℕ) (n : ℕ) (seam : SeamOf a b n) where
  the_seam : (xs ys : Content) → Holds a xs → Holds b ys → Seam (length a) (content_records xs) (content_records ys) n
  the_seam xs ys o q = seam (content_records xs) (content_records ys) o q

  side_by_side : (xs ys : Content) → Holds a xs → Holds b ys → n ≡ length a → content_bytes (xs ++ ys) ≡ a ++ b
  side_by_side xs ys o q e = joined_apart a b xs ys o q (seam_kept a (content_records xs) (content_records ys) n o (the_seam xs ys o q) e)

  rest_long : length (take (length b - 4) (drop 4 b)) ≡ length b - 4
  rest_long = ap length (tail_is 4 b) ∙ length-drop 4 b

  pub join_fits : (o : List ℕ) → RoomContents a b o → JoinFits a b o n
  join_fits o (xs, ys, h, q, small, room) =
      record {
        first_room = omega (arith, room, joined_room a b xs ys n h q small (the_seam xs ys h q));
        both_room = λ e. omega (arith, room, ap length (side_by_side xs ys h q e), length-append a b);
        touching = λ e.
            let t = touch a b xs ys n h q small (the_seam xs ys h q) e in
            let first = touch_a a b xs ys n t in
            let second = touch_b a b xs ys n t in
            record {
              first_fit = omega (arith, first);
              second_fit = omega (arith, second);
              sum_small = omega (
                arith,
                small,
                first,
                second,
                number_there a n 2,
                touch_number_a a b xs ys n t,
                touch_number_b a b xs ys n t,
              );
              rest_room = omega (arith, room, rest_long, touch_size a b xs ys n t);
            };
      }

  -- side by side
  pub join_apart : (o l y : List ℕ) (k m : ℕ) → n ≡ length a → k ≡ length a → l ≡ lead a o → m ≡ length b
      → y ≡ lead b (take (length l - k) (drop k l))
      → WroteContents a b o (k + m) (take k l ++ (y ++ drop (length l - k) (drop k l)))
  join_apart o l y k m e f g h u xs ys p q =
      let j = side_by_side xs ys p q e in (
        omega (arith, f, h, ap length j, length-append a b),
        two_back o a b l y k f g u ∙ ap (λ (x : List ℕ). lead x o) (sym j),
      )

  -- two texts made one
  pub join_touching : (o l z y : List ℕ) (k x m : ℕ) → RoomContents a b o → (n ≡ length a → ⊥) → k ≡ length a → l ≡ lead a o
      → x ≡ two_at a (n + 2) + two_at b 2
      → z ≡ overlay l (n + 2) (number_bytes x) → m ≡ length (take (length b - 4) (drop 4 b))
      → y ≡ lead (take (length b - 4) (drop 4 b)) (take (length z - k) (drop k z))
      → WroteContents a b o (k + m) (take k z ++ (y ++ drop (length z - k) (drop k z)))
  join_touching o l z y k x m (_, _, _, _, small, _) e f g h u v w xs ys p q =
      let t = touch a b xs ys n p q small (the_seam xs ys p q) e in
      let sum = h ∙ ap₂ ◌+◌ (number_there a n 2 ∙ touch_number_a a b xs ys n t) (touch_number_b a b xs ys n t) in (
        omega (arith, f, v, rest_long, touch_b a b xs ys n t, touch_size a b xs ys n t),
        touch_wrote a b xs ys n t o l z y x k g sum u f w,
      )
