-- The items ahead of an offset of a content: at its start, at its end, behind code points and behind a record.
use Prim.Native.Nat.{ℕ, zero, suc, ◌+◌, ◌-◌, ◌<◌, ◌≤◌}
use native.Mathlib.Omega.{arith}
use mathlib.Core.Path.{◌≡◌, refl, sym, ap, ◌∙◌, subst}
use mathlib.Core.Bool.{Bool, true, false}
use mathlib.Core.List.{List, [], ◌∷◌, ◌++◌, map, append_assoc}
use lib.ListN.{length, take, drop, length-append, length-drop, take-append-drop}
use lib.Seq.{drop-drop, take_at, drop_at}
use Rattle.xliff.specs.Bytes.{two, gather}
use Rattle.xliff.specs.Text.{utf8s}
use Rattle.xliff.specs.Item.{Content, text}
use Rattle.xliff.specs.Encode as encode
use Rattle.xliff.specs.Encode.{opening, closing, part_head, target_head, text_run, inline, ill_text, broken, record_bytes, spell, content_records}
use Rattle.xliff.specs.Parse.{reading, take_record}
use Rattle.xliff.specs.Good.{each_nil, each_cons, Allowed, no_text, AllGood}
use Rattle.xliff.proofs.text.Utf8.{utf8s_nonempty, utf8s_append}
use Rattle.places.specs.Offsets.{At}
use Rattle.places.proofs.Places.{at_end}
use Rattle.places.proofs.Texts.{text_behind}
use Rattle.text.specs.Points.{TextBytes, PassedOver}
use Rattle.text.specs.declared.points.Points.{Points}
use Rattle.table.specs.Known.{Known}
use Rattle.table.specs.Meaning.{item, meaning, body}
use Rattle.table.specs.declared.Item.{Item}
use Rattle.table.specs.declared.Record.{Record}
use Rattle.table.specs.declared.Record.TheVariants.{Unit as UnitStart, UnitEnd, Segment, Ignorable, Target, Text, Inline}
use Rattle.table.specs.declared.Read.{Read}
use Rattle.table.specs.declared.Read.TheVariants.{Good, Ill, Broken}
use Rattle.orders.proofs.WalkLaws.{Stepped, stepped}
use Rattle.walk.specs.Kept.{Kept, kept_end, kept_item, kept_text, Holds, items}
use Rattle.cut.proofs.HalfLaws.{items_of, allowed_back}
use Rattle.sheet_columns.specs.Filled.{Ahead, ItemAhead, ReadNext}

kept_good : {a : Bool} {rs : List encode.Record} → Kept a rs → AllGood rs
kept_good kept_end = each_nil
kept_good (kept_item g k) = each_cons g (kept_good k)
kept_good (kept_text a l k) = each_cons a (kept_good k)

pub ahead_start : (c : List ℕ) (xs : Content) → Holds c xs → Ahead c 0 0 xs
unfolding utf8s gather
ahead_start c xs (k, e) =
    record {
      points = [];
      records = content_records xs;
      behind = false;
      all = sym (items_of xs);
      allowed = no_text;
      size = refl;
      kept = k;
      bytes = sym e;
      within = omega arith;
    }

-- a text of no bytes has no code points
no_points : (cs : List ℕ) → length (utf8s cs) ≡ 0 → cs ≡ []
no_points [] e = refl
no_points (c ∷ cs) e = absurd (let z : ⊥ = omega (arith, utf8s_nonempty c cs) in z)

-- a record of a content has an item
some_item : {a : Bool} {rs : List encode.Record} → Kept a rs → 1 ≤ length (spell rs) → 1 ≤ length (items rs)
unfolding spell gather reading take_record
some_item kept_end h = absurd (let z : ⊥ = omega arith in z)
some_item (kept_item g k) h = omega arith
some_item (kept_text a l k) h = omega arith

module _ (c : List ℕ) (at left : ℕ) (xs : Content) (m : Ahead c at left xs) where
  bytes_left : length c - at ≡ left + length (spell m.records)
  bytes_left =
      let l = ap length m.bytes in
      omega (arith, l, m.size, length-drop at c, length-append (utf8s m.points) (spell m.records))

  pub text_fits : at + left ≤ length c
  text_fits = omega (arith, bytes_left, m.within)

  -- behind the text stand the records
  there : At c (at + left) m.records
  there =
      record {
        good = kept_good m.kept;
        rest = sym (drop_at (utf8s m.points) (spell m.records) left m.size) ∙ sym (ap (drop left) m.bytes)
            ∙ drop-drop left at c;
        within = text_fits;
      }

  pub ahead_end : length c ≤ at → xs ≡ []
  unfolding reading
  ahead_end h =
      let none : m.points ≡ [] = no_points m.points (omega (arith, m.size, bytes_left)) in
      let over : m.records ≡ [] = at_end c (at + left) m.records there (omega arith) in
      m.all ∙ ap (λ (cs : List ℕ). map text cs ++ items m.records) none
      ∙ ap (λ (rs : List encode.Record). items rs) over

  pub ahead_more : at < length c → 1 ≤ length xs
  unfolding utf8s gather
  ahead_more h = by m.points m.all m.size
    where
      by : (cs : List ℕ) → xs ≡ map text cs ++ items m.records → length (utf8s cs) ≡ left → 1 ≤ length xs
      by [] e s = let l = ap length e in omega (arith, some_item m.kept (omega (arith, bytes_left, s)))
      by (d ∷ cs) e s = let l = ap length e in omega arith

  -- the text that the offset stands in
  pub text_there : take (at + left - at) (drop at c) ≡ utf8s m.points
  text_there =
      ap (λ (n : ℕ). take n (drop at c)) (let z : at + left - at ≡ left = omega arith in z)
      ∙ ap (take left) m.bytes ∙ take_at (utf8s m.points) (spell m.records) left m.size

  pub text_here : TextBytes (take (at + left - at) (drop at c))
  text_here = (m.points, m.allowed, sym text_there)

-- the first k code points passed over
utf8s_apart : (k : ℕ) (cs : List ℕ) → utf8s cs ≡ utf8s (take k cs) ++ utf8s (drop k cs)
utf8s_apart k cs = ap utf8s (sym (take-append-drop k cs)) ∙ utf8s_append (take k cs) (drop k cs)

-- the code points of a text that a row with so many cells takes
pub record Run (c : List ℕ) (at left k : ℕ) (p : Points) (xs : Content) : Type 0 where
  pub points : List ℕ
  pub others : Content
  pub all : xs ≡ map text points ++ others
  pub size : p.bytes ≡ length (utf8s (take k points))
  pub room : p.left ≡ k - length points
  pub shown : take (at + p.bytes - at) (drop at c) ≡ utf8s (take k points)
  pub ahead : Ahead c (at + p.bytes) (at + left - (at + p.bytes)) (map text (drop k points) ++ others)
  pub some : 0 < left → 0 < k → 0 < p.bytes
  pub fits : p.bytes ≤ left

some_bytes : (k : ℕ) (cs : List ℕ) → 0 < length (utf8s cs) → 0 < k → 0 < length (utf8s (take k cs))
unfolding utf8s gather
some_bytes k [] h l = absurd (let z : ⊥ = omega arith in z)
some_bytes zero (d ∷ cs) h l = absurd (let z : ⊥ = omega arith in z)
some_bytes (suc k) (d ∷ cs) h l = omega (arith, utf8s_nonempty d (take k cs))

pub run : (c : List ℕ) (at left : ℕ) (xs : Content) → (m : Ahead c at left xs) → (k : ℕ) (p : Points)
    → PassedOver (take (at + left - at) (drop at c)) k p → Run c at left k p xs
run c at left xs m k p passes =
    let cs = m.points in
    let (bytes, room) = passes cs m.allowed (sym (text_there c at left xs m)) in
    let two = utf8s_apart k cs in
    let long : length (utf8s cs) ≡ length (utf8s (take k cs)) + length (utf8s (drop k cs))
    = ap length two ∙ length-append (utf8s (take k cs)) (utf8s (drop k cs)) in
    let there : drop at c ≡ utf8s (take k cs) ++ (utf8s (drop k cs) ++ spell m.records)
    = m.bytes ∙ ap (λ (l : List ℕ). l ++ spell m.records) two
    ∙ append_assoc (utf8s (take k cs)) (utf8s (drop k cs)) (spell m.records) in
    record {
      points = cs;
      others = items m.records;
      all = m.all;
      size = bytes;
      room = room;
      shown = ap (λ (n : ℕ). take n (drop at c)) (let z : at + p.bytes - at ≡ p.bytes = omega arith in z)
          ∙ ap (take p.bytes) there
          ∙ take_at (utf8s (take k cs)) (utf8s (drop k cs) ++ spell m.records) p.bytes (sym bytes);
      ahead = record {
        points = drop k cs;
        records = m.records;
        behind = m.behind;
        all = refl;
        allowed = allowed_back (take k cs) (drop k cs) (subst Allowed (sym (take-append-drop k cs)) m.allowed);
        size = omega (arith, long, bytes, m.size);
        kept = m.kept;
        bytes = sym (drop-drop p.bytes at c) ∙ ap (drop p.bytes) there
            ∙ drop_at (utf8s (take k cs)) (utf8s (drop k cs) ++ spell m.records) p.bytes (sym bytes);
        within = omega (arith, long, bytes, m.size, text_fits c at left xs m);
      };
      some = λ h l. subst (λ (n : ℕ). 0 < n) (sym bytes) (some_bytes k cs (omega (arith, m.size)) l);
      fits = omega (arith, long, bytes, m.size);
    }

-- no text is begun: records are ahead
module _ (c : List ℕ) (at : ℕ) (xs : Content) (m : Ahead c at 0 xs) where
  begun : m.points ≡ []
  begun = no_points m.points m.size

  all_records : xs ≡ items m.records
  all_records = m.all ∙ ap (λ (cs : List ℕ). map text cs ++ items m.records) begun

  records_there : At c at m.records
  records_there =
      subst (λ (n : ℕ). At c n m.records) (let z : at + 0 ≡ at = omega arith in z) (there c at 0 xs m)

-- behind a record others are ahead
behind_record : (c : List ℕ) (at : ℕ) {a : Bool} (rs : List encode.Record) → Kept a rs → At c at rs
    → Ahead c at 0 (items rs)
unfolding utf8s gather
behind_record c at {a} rs k r =
    record {
      points = [];
      records = rs;
      behind = a;
      all = refl;
      allowed = no_text;
      size = refl;
      kept = k;
      bytes = sym r.rest;
      within = r.within;
    }

-- by the record that was read there
module _ (c : List ℕ) (at : ℕ) (h : at < length c) (r : Read) (k : Known (drop at c) r) where
  next_record : (xs : Content) → (m : Ahead c at 0 xs) → Stepped c at m.records r
  next_record xs m = stepped c at m.records r (records_there c at xs m) h k

item_next : (c : List ℕ) (at : ℕ) (i : Item) (w : ℕ) (xs : Content) → Known (drop at c) (Good (Inline i) w)
    → at < length c → Ahead c at 0 xs → ItemAhead c at i w xs
unfolding reading take_record
item_next c at i w xs k h m =
    let s = next_record c at h (Good (Inline i) w) k xs m in
    let split = s.split ∙ ap (λ (r : encode.Record). r ∷ s.others) (sym s.means) in
    by s.others (subst (Kept m.behind) split m.kept) s.rest
    (all_records c at xs m ∙ ap (λ (rs : List encode.Record). items rs) split)
  where
    by : {a : Bool} (rs : List encode.Record) → Kept a (inline (item i) ∷ rs) → At c (at + w) rs
        → xs ≡ items (inline (item i) ∷ rs) → ItemAhead c at i w xs
    by rs (kept_item g k) r e = record { others = items rs; all = e; ahead = behind_record c (at + w) rs k r }

-- a text that is entered
text_kept : {a : Bool} {cs : List ℕ} {rs : List encode.Record} → Kept a (text_run cs ∷ rs)
    → Allowed cs × (1 ≤ length (utf8s cs)) × Kept true rs
text_kept (kept_text {d} {ds} a l k) = (a, utf8s_nonempty d ds, k)

text_wide : (cs : List ℕ) → length (record_bytes (text_run cs)) ≡ 4 + length (utf8s cs)
unfolding record_bytes two
text_wide cs = omega arith

text_next : (c : List ℕ) (at w : ℕ) (xs : Content) → Known (drop at c) (Good Text w) → at < length c → Ahead c at 0 xs
    → (4 < w) × (at + w ≤ length c) × Ahead c (at + 4) (w - 4) xs
unfolding reading take_record
text_next c at w xs k h m =
    let s = next_record c at h (Good Text w) k xs m in
    let cs = body (drop at c) in
    let split = s.split ∙ ap (λ (r : encode.Record). r ∷ s.others) (sym s.means) in
    let (a, some, kept) = text_kept (subst (Kept m.behind) split m.kept) in
    let wide : w ≡ 4 + length (utf8s cs)
    = s.wide ∙ ap (λ (r : encode.Record). length (record_bytes r)) (sym s.means) ∙ text_wide cs in
    let there = subst (At c at) split (records_there c at xs m) in (
      omega (arith, some, wide),
      s.fits,
      record {
        points = cs;
        records = s.others;
        behind = true;
        all = all_records c at xs m ∙ ap (λ (rs : List encode.Record). items rs) split;
        allowed = a;
        size = omega (arith, wide);
        kept = kept;
        bytes = text_behind c at w cs s.others there (wide ∙ sym (text_wide cs));
        within = omega (arith, s.fits, wide);
      },
    )

-- what was read tells what comes next
abbrev InContent : List encode.Record → Type 0
InContent [] = Unit {0}
InContent (opening u ∷ rs) = ⊥
InContent (closing ∷ rs) = ⊥
InContent (part_head h ∷ rs) = ⊥
InContent (target_head q ∷ rs) = ⊥
InContent (text_run cs ∷ rs) = Unit {0}
InContent (inline x ∷ rs) = Unit {0}
InContent (ill_text ∷ rs) = ⊥
InContent (broken b ∷ rs) = ⊥

in_content : {a : Bool} {rs : List encode.Record} → Kept a rs → InContent rs
in_content kept_end = tt
in_content (kept_item g k) = tt
in_content (kept_text a l k) = tt

met : (c : List ℕ) (at : ℕ) (h : at < length c) (r : Read) → Known (drop at c) r → (xs : Content) → Ahead c at 0 xs
    → (rs : List encode.Record) × InContent (meaning (body (drop at c)) r ∷ rs)
met c at h r k xs m =
    let s = next_record c at h r k xs m in
    let split = s.split ∙ ap (λ (q : encode.Record). q ∷ s.others) (sym s.means) in
    (s.others, in_content (subst (Kept m.behind) split m.kept))

read_next : (c : List ℕ) (at : ℕ) (xs : Content) → Ahead c at 0 xs → at < length c → (r : Read) → Known (drop at c) r
    → ReadNext c at r
read_next c at xs m h (Good (UnitStart u) w) k = (met c at h (Good (UnitStart u) w) k xs m).1
read_next c at xs m h (Good UnitEnd w) k = (met c at h (Good UnitEnd w) k xs m).1
read_next c at xs m h (Good (Segment f) w) k = (met c at h (Good (Segment f) w) k xs m).1
read_next c at xs m h (Good (Ignorable i) w) k = (met c at h (Good (Ignorable i) w) k xs m).1
read_next c at xs m h (Good (Target q) w) k = (met c at h (Good (Target q) w) k xs m).1
read_next c at xs m h (Good Text w) k =
    let (wide, fits, then) = text_next c at w xs k h m in
    record { wide = wide; fits = fits; then = λ ys n. (text_next c at w ys k h n).2 }
read_next c at xs m h (Good (Inline i) w) k =
    let s = next_record c at h (Good (Inline i) w) k xs m in
    record { wide = s.moves; fits = s.fits; then = λ ys n. item_next c at i w ys k h n }
read_next c at xs m h Ill k = (met c at h Ill k xs m).1
read_next c at xs m h (Broken b) k = (met c at h (Broken b) k xs m).1

pub known_next : (c : List ℕ) (at left : ℕ) (xs : Content) → Ahead c at left xs → left ≤ 0 → at < length c → (r : Read)
    → Known (drop at c) r → (left ≡ 0) × ReadNext c at r
known_next c at left xs m h l r k =
    let z : left ≡ 0 = omega arith in
    (z, read_next c at xs (subst (λ (n : ℕ). Ahead c at n xs) z m) l r k)

-- it is a good record
pub good_next : (c : List ℕ) (at : ℕ) (r : Read) → ReadNext c at r → ((x : Record) (w : ℕ) → r ≡ Good x w → ⊥) → ⊥
good_next c at (Good x w) n other = other x w refl
good_next c at Ill n other = n
good_next c at (Broken b) n other = n
