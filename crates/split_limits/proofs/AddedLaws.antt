-- The records that a cut adds to a content, to a target and to a part.
use Prim.Native.Nat.{ℕ, zero, suc, ◌+◌, ◌*◌, ◌≤◌}
use mathlib.Core.Path.{◌≡◌, refl, sym, ap, ap₂, ◌∙◌, subst}
use mathlib.Core.Bool.{true, false, true≢false}
use Rattle.std.specs.Prelude.{is_some}
use mathlib.Core.List.{List, [], ◌∷◌, ◌++◌, map, append-nil}
use native.Mathlib.Omega.{arith}
use lib.ListN.{length, take, drop, length-append, drop_of_length-le}
use lib.Seq.{take_all}
use Rattle.xliff.specs.Bytes.{two, gather}
use Rattle.xliff.specs.Text.{utf8s}
use Rattle.xliff.specs.Item.{Content}
use Rattle.xliff.specs.Unit.{Target, no_target, target, Part, target_items}
use Rattle.xliff.specs.Encode.{Record, text_run, record_bytes, head_bytes, spell, content_records, content_bytes, target_records, part_records}
use Rattle.xliff.specs.Parse.{reading, take_record}
use Rattle.xliff.specs.Split.{cut_item, first_items, second_items, first_target, second_target, first_half, second_half}
use Rattle.walk.specs.Kept.{Kept, kept_end, Holds, items}
use Rattle.walk.specs.Place.{Inside, over, between, within, Parted}
use Rattle.walk.specs.declared.Place.{Place}
use Rattle.xliff.proofs.text.Utf8.{utf8s_nonempty}
use Rattle.walk.proofs.PlaceLaws.{kept_front, kept_back}
use Rattle.cut.specs.Turned.{cut_records}
use Rattle.cut.proofs.CutLaws.{cut_kept, cut_items, kept_records}
use Rattle.cut.proofs.HalfLaws.{items_of, weaken, halves_taken, halves_dropped, taken, dropped, kept_text_front, kept_text_back, front_items, sides, first_size_0, first_size_1, second_size_0, second_size_1}
use Rattle.halves_of_part.specs.Parts.{halves}
use Rattle.xliff.proofs.unit.Pieces.{part_bytes}
use Rattle.heads.proofs.HeadLaws.{id_long}
use Rattle.halves_of_part.proofs.PartLaws.{halves_are}
use Rattle.part_at.specs.declared.PartPlace.{PartPlace}
use Rattle.part_at.specs.Stands.{TargetStands}
use Rattle.split_limits.specs.Added.{ContentAdded, TargetAdded, PartAdded}

-- what the bytes before a cut in a text tell: 1 if the cut stands inside it
abbrev pub one_if : ℕ → ℕ
one_if zero = 0
one_if (suc n) = 1

pub some_one : (m : ℕ) → 1 ≤ m → one_if m ≡ 1
some_one zero h = absurd (let y : ⊥ = omega arith in y)
some_one (suc m) h = refl

pub none_zero : (m : ℕ) → m ≡ 0 → one_if m ≡ 0
none_zero m h = rw h

few_one : (m : ℕ) → one_if m ≤ 1
few_one zero = omega arith
few_one (suc m) = omega arith

-- the records of the two halves, before any mark is turned
record Halved (k : ℕ) (all : List Record) (n : ℕ) : Type 0 where
  pub firsts : List Record
  pub seconds : List Record
  pub kept_first : Kept false firsts
  pub kept_second : Kept false seconds
  pub taken : take k (items all) ≡ items firsts
  pub dropped : drop k (items all) ≡ items seconds
  pub count : length firsts + length seconds ≡ length all + n

halved_within : (k u : ℕ) (us : List ℕ) (v : ℕ) (vs : List ℕ) (a rs : List Record)
    → Kept false (a ++ (text_run ((u ∷ us) ++ (v ∷ vs)) ∷ rs)) → length (items a) + length (u ∷ us) ≡ k
    → Halved k (a ++ (text_run ((u ∷ us) ++ (v ∷ vs)) ∷ rs)) 1
unfolding reading take_record
halved_within k u us v vs a rs kept count =
    record {
      firsts = a ++ (text_run (u ∷ us) ∷ []);
      seconds = text_run (v ∷ vs) ∷ rs;
      kept_first = kept_text_front k u us v vs a rs kept count;
      kept_second = kept_text_back k u us v vs a rs kept count;
      taken = taken k u us v vs a rs kept count ∙ sym (front_items k u us v vs a rs kept count);
      dropped = dropped k u us v vs a rs kept count;
      count = omega (arith, length-append a (text_run (u ∷ us) ∷ []), length-append a (text_run ((u ∷ us) ++ (v ∷ vs)) ∷ rs));
    }

halved_by : (k into left : ℕ) (a b : List Record) → Kept false (a ++ b) → Inside k (length (items a)) into left b
    → Halved k (a ++ b) (one_if into)
unfolding reading
halved_by k into left a b kp (over e) =
    let z : items (a ++ []) ≡ items a = ap (λ (l : List Record). items l) (append-nil a) in
    record {
      firsts = a;
      seconds = [];
      kept_first = kept_front false a [] kp;
      kept_second = kept_end;
      taken = ap (take k) z ∙ take_all k (items a) (omega arith);
      dropped = ap (drop k) z ∙ drop_of_length-le (items a) {i = k} (omega arith);
      count = omega (arith, length-append a []);
    }
halved_by k into left a b kp (between {r} {rs} e) =
    record {
      firsts = a;
      seconds = r ∷ rs;
      kept_first = kept_front false a (r ∷ rs) kp;
      kept_second = weaken (kept_back false a (r ∷ rs) kp).0 (r ∷ rs) (kept_back false a (r ∷ rs) kp).1;
      taken = halves_taken k a (r ∷ rs) kp e;
      dropped = halves_dropped k a (r ∷ rs) kp e;
      count = omega (arith, length-append a (r ∷ rs));
    }
halved_by k into left a b kp (within u us v vs rs e) =
    subst (λ (n : ℕ). Halved k (a ++ (text_run ((u ∷ us) ++ (v ∷ vs)) ∷ rs)) n)
    (sym (some_one (length (utf8s (u ∷ us))) (utf8s_nonempty u us)))
    (halved_within k u us v vs a rs kp e)

-- turning the marks keeps the number of records
length_cut : (ys : Content) (rs : List Record) → length (cut_records ys rs) ≡ length rs
length_cut ys [] = refl
length_cut ys (r ∷ rs) = ap suc (length_cut ys rs)

cut_count : (ys : Content) (rs : List Record) → Kept false rs → length (content_records (map (cut_item ys) (items rs))) ≡ length rs
cut_count ys rs k =
    ap (λ (l : Content). length (content_records l)) (sym (cut_items false ys rs k))
    ∙ ap (λ (l : List Record). length l) (kept_records false (cut_records ys rs) (cut_kept false ys rs k)) ∙ length_cut ys rs

halved_count : (k : ℕ) (all : List Record) (n : ℕ) → Halved k all n
    → length (content_records (first_items k (items all))) + length (content_records (second_items k (items all))) ≡ length all + n
unfolding first_items second_items
halved_count k all n h =
    let x : length (content_records (map (cut_item (drop k (items all))) (take k (items all)))) ≡ length h.firsts =
    ap (λ (l : Content). length (content_records (map (cut_item (drop k (items all))) l))) h.taken
    ∙ cut_count (drop k (items all)) h.firsts h.kept_first in
    let y : length (content_records (map (cut_item (take k (items all))) (drop k (items all)))) ≡ length h.seconds =
    ap (λ (l : Content). length (content_records (map (cut_item (take k (items all))) l))) h.dropped
    ∙ cut_count (take k (items all)) h.seconds h.kept_second in
    ap₂ ◌+◌ x y ∙ h.count

module _ (k : ℕ) (c : List ℕ) (xs : Content) (p : Place) (o : Holds c xs) (q : Parted k (content_records xs) p) where
  content_count : length (content_records (first_items k xs)) + length (content_records (second_items k xs))
      ≡ length (content_records xs) + one_if p.into
  content_count =
      subst (λ (l : Content).
      length (content_records (first_items k l)) + length (content_records (second_items k l))
      ≡ length (content_records xs) + one_if p.into) (items_of xs)
      (halved_count k (content_records xs) (one_if p.into)
      (subst (λ (l : List Record). Halved k l (one_if p.into)) (sym q.parts)
      (halved_by k p.into p.left q.before q.after (subst (λ (l : List Record). Kept false l) q.parts o.0) q.inside)))

  content_long : (m : ℕ) → p.into ≡ m
      → length (content_bytes (first_items k xs)) + length (content_bytes (second_items k xs)) ≡ length c + 4 * one_if m
  content_long zero e =
      let s = sides k c xs p o q in
      omega (arith, first_size_0 k c xs p s e, second_size_0 k c xs p s e, s.fit)
  content_long (suc m) e =
      let s = sides k c xs p o q in
      let z : 1 ≤ p.into = omega arith in
      let i = s.inner z in
      omega (arith, first_size_1 k c xs p s z, second_size_1 k c xs p s z, i.fit, i.less)

  pub content_added : ContentAdded k xs (one_if p.into)
  unfolding content_bytes
  content_added =
      record {
        bytes = content_long p.into refl ∙ ap (λ (l : List ℕ). length l + 4 * one_if p.into) (sym o.1);
        records = content_count;
        few = few_one p.into;
      }

-- a target: TG, and what is added to its content
target_added : (k q : ℕ) (xs : Content) (n : ℕ) → ContentAdded k xs n → TargetAdded k (target q xs) (1 + n)
unfolding target_records first_target second_target spell gather record_bytes two
target_added k q xs n h = record { bytes = omega (arith, h.bytes); records = omega (arith, h.records); few = omega (arith, h.few) }

nothing_added : (k : ℕ) → TargetAdded k no_target 0
unfolding target_records first_target second_target spell gather
nothing_added k = record { bytes = refl; records = refl; few = omega arith }

module _ (t : List ℕ) (place : PartPlace) (k : ℕ) where
  pub grown_there : (g : Target) (n : ℕ) → TargetStands t place g → is_some place.order ≡ true → ContentAdded k (target_items g) n
      → TargetAdded k g (1 + n)
  unfolding target_items
  grown_there no_target n (o, e) z h = absurd (true≢false (sym z ∙ ap is_some o))
  grown_there (target q xs) n s z h = target_added k q xs n h

  pub nothing_grown : (g : Target) → TargetStands t place g → is_some place.order ≡ false → TargetAdded k g 0
  nothing_grown no_target s z = nothing_added k
  nothing_grown (target q xs) (o, hs, ts) z = absurd (true≢false (sym (ap is_some o) ∙ z))

-- a part
part_long : (p : Part)
    → length (spell (part_records p))
    ≡ length (head_bytes p.head) + length (content_bytes p.source) + length (spell (target_records p.target))
part_long p =
    ap length (part_bytes p) ∙ length-append (head_bytes p.head ++ content_bytes p.source) (spell (target_records p.target))
    ∙ ap (λ (n : ℕ). n + length (spell (target_records p.target))) (length-append (head_bytes p.head) (content_bytes p.source))

pub part_added : (k j : ℕ) (p : Part) (m n : ℕ) → ContentAdded k p.source m → TargetAdded j p.target n → PartAdded k j p (m + n)
unfolding content_bytes part_records first_half second_half
part_added k j p m n x y =
    record {
      bytes = λ id.
          let z : length (halves k j id p) ≡ length (spell (part_records (first_half k j p))) + length
          (spell (part_records (second_half k j id p))) =
          ap length (halves_are k j p id)
          ∙ length-append (spell (part_records (first_half k j p))) (spell (part_records (second_half k j id p))) in
          omega (
            arith,
            z,
            part_long (first_half k j p),
            part_long (second_half k j id p),
            part_long p,
            id_long id
                p.head,
            x.bytes,
            y.bytes,
          );
      records = λ id.
          omega (
            arith,
            x.records,
            y.records,
            length-append (content_records (first_items k p.source)) (target_records (first_target j p.target)),
            length-append (content_records (second_items k p.source)) (target_records (second_target j p.target)),
            length-append (content_records p.source) (target_records p.target),
          );
      few = omega (arith, x.few, y.few);
    }
