-- Laws of good units: the bytes of a unit of good contents, within the limits, pass 2, 3 and 4.
use Prim.Native.Nat.{ℕ, suc, ◌+◌, ◌-◌, ◌≤◌}
use mathlib.Core.Path.{◌≡◌, refl, sym, ap, ◌∙◌, subst}
use mathlib.Core.Bool.{Bool, true, false, ◌||◌, cond, true≢false}
use mathlib.Core.List.{List, [], ◌∷◌, ◌++◌, map, append_assoc}
use mathlib.Core.Option.{none}
use native.Mathlib.Omega.{arith}
use lib.ListN.{length}
use borrow.Author.Tests.{ne_eqb}
use Rattle.xliff.specs.Bytes.{gather, Bytes}
use Rattle.xliff.specs.Text.{xml_allows}
use Rattle.xliff.specs.Item.{Item, Content, text, character, standalone, isolated, pair, annotation_start, annotation_end}
use Rattle.xliff.specs.Unit.{Head, Target, no_target, target, Part, XliffUnit}
use Rattle.xliff.specs.Encode.{Record, opening, closing, part_head, target_head, text_run, inline, ill_text, broken, record_bytes, text_before, item_before, content_records, target_records, part_records, unit_records, spell, encode}
use Rattle.xliff.specs.Parse.{most_records, most_parts, bad_text, bad_item, entries, Stage, unit_due, part_due, in_source, in_target, complete, alone, on, fault, inline_step, unit_step, part_step, outer_step, step, is_part, may_end, first_bad, table_fault, content_fault, Reading, take_record, reading, records, unit, content}
use Rattle.xliff.specs.Good.{each_nil, each_cons, Allowed, no_text, one_point, GoodItem, GoodRecord, AllGood, part_heads, GoodIn, GoodContent, GoodTarget, GoodPart, GoodParts}
use Rattle.xliff.proofs.lists.Each.{each_append}
use Rattle.xliff.proofs.records.Parse.{placed, walk_spell}
use Rattle.xliff.proofs.unit.Table.{Runs, at_end, goes_on, fault_on, cond_on, starts_text, table_walked, content_walked}

-- records in sequence and few enough: none is bad
pub none_bad : (size left parts at : ℕ) (st : Stage) (rs : List Record) → Runs st rs → length rs ≤ left → part_heads rs ≤ parts → first_bad size left parts st (placed at rs) ≡ none
unfolding first_bad placed part_heads
none_bad size left parts at st [] (at_end e) l h = rw e
none_bad size left parts at st (r ∷ rs) (goes_on {st'} e run) l h =
    by (is_part r) refl h (λ p k. none_bad size (left - 1) p (at + length (record_bytes r)) st' rs run (omega arith) k)
  where
    IH : Type 0
    IH = (p : ℕ) → part_heads rs ≤ p → first_bad size (left - 1) p st' (placed (at + length (record_bytes r)) rs) ≡ none

    by : (b : Bool) → is_part r ≡ b → cond b 1 0 + part_heads rs ≤ parts → IH → first_bad size left parts st (placed at (r ∷ rs)) ≡ none
    by true q k ih = rw (ne_eqb left 0 (λ z. omega arith), e, q, ne_eqb parts 0 (λ z. omega arith)) (ih (parts - 1) (omega arith))
    by false q k ih = rw (ne_eqb left 0 (λ z. omega arith), e, q) (ih parts (omega arith))

-- a table whose records are good, in sequence and within the limits passes 2, 3 and 4
pub encode_passes : (u : XliffUnit) → AllGood (unit_records u) → Runs unit_due (unit_records u) → length (unit_records u) ≤ most_records → part_heads (unit_records u) ≤ most_parts
    → table_fault (encode u) ≡ none
unfolding table_fault entries encode
encode_passes u g run l h =
    ap (first_bad (length (spell (unit_records u))) most_records most_parts unit_due) (walk_spell (suc most_records) 0 (unit_records u) g (omega arith))
    ∙ none_bad (length (spell (unit_records u))) most_records most_parts 0 unit_due (unit_records u) run l h

-- A content that stands in a stage, and the records after it, which begin with no text
module _ (inside : Bool → Stage) (rs : List Record)
    (texts : (a : Bool) (cs : List ℕ) → step (inside a) (text_run cs) ≡ cond (bad_text a cs) (fault 3) (on (inside true)))
    (inlines : (a : Bool) (x : Item) → step (inside a) (inline x) ≡ cond (bad_item x) (fault 3) (on (inside false)))
    (good : AllGood rs) (runs : (a : Bool) → Runs (inside a) rs) where
  pub record Fine (ys : List Record) : Type 0 where
    pub all_good : AllGood (ys ++ rs)
    -- from anywhere but directly after a TX; and from there too if no text comes first
    pub from_start : Runs (inside false) (ys ++ rs)
    pub from_text : starts_text ys ≡ false → Runs (inside true) (ys ++ rs)

  fine_inline : (x : Item) (ys : List Record) → GoodItem x → bad_item x ≡ false → Fine ys → Fine (inline x ∷ ys)
  fine_inline x ys g b f =
      record {
        all_good = each_cons g f.all_good;
        from_start = goes_on (inlines false x ∙ ap (λ (z : Bool). cond z (fault 3) (on (inside false))) b) f.from_start;
        from_text = λ _. goes_on (inlines true x ∙ ap (λ (z : Bool). cond z (fault 3) (on (inside false))) b) f.from_start;
      }

  -- a text of at least one code point, not directly after another
  goes_into : (c : ℕ) (cs : List ℕ) → step (inside false) (text_run (c ∷ cs)) ≡ on (inside true)
  unfolding bad_text
  goes_into c cs = texts false (c ∷ cs) ∙ ap (λ (z : Bool). cond (z || false) (fault 3) (on (inside true))) (ne_eqb (suc (length cs)) 0 (λ z. omega arith))

  fine_new : (c : ℕ) (ys : List Record) → xml_allows c ≡ true → Fine ys → starts_text ys ≡ false → Fine (text_run (c ∷ []) ∷ ys)
  unfolding starts_text
  fine_new c ys g f e =
      record {
        all_good = each_cons (one_point g no_text) f.all_good;
        from_start = goes_on (goes_into c []) (f.from_text e);
        from_text = λ z. absurd (true≢false z);
      }

  fine_more : (c : ℕ) (cs : List ℕ) (ys : List Record) → xml_allows c ≡ true → AllGood (text_run cs ∷ (ys ++ rs)) → Runs (inside false) (text_run cs ∷ (ys ++ rs))
      → Fine (text_run (c ∷ cs) ∷ ys)
  unfolding starts_text
  fine_more c cs ys g (each_cons h a) (goes_on e run) =
      record {
        all_good = each_cons (one_point g h) a;
        from_start = goes_on (goes_into c cs) (subst (λ (z : Stage). Runs z (ys ++ rs)) (sym (cond_on (bad_text false cs) 3 (inside true) _ (sym (texts false cs) ∙ e)).1) run);
        from_text = λ z. absurd (true≢false z);
      }

  fine_text : (c : ℕ) (ys : List Record) → xml_allows c ≡ true → Fine ys → Fine (text_before c ys)
  unfolding text_before starts_text
  fine_text c [] g f = fine_new c [] g f refl
  fine_text c (opening d ∷ ys) g f = fine_new c _ g f refl
  fine_text c (closing ∷ ys) g f = fine_new c _ g f refl
  fine_text c (part_head h ∷ ys) g f = fine_new c _ g f refl
  fine_text c (target_head q ∷ ys) g f = fine_new c _ g f refl
  fine_text c (text_run cs ∷ ys) g f = fine_more c cs ys g f.all_good f.from_start
  fine_text c (inline x ∷ ys) g f = fine_new c _ g f refl
  fine_text c (ill_text ∷ ys) g f = fine_new c _ g f refl
  fine_text c (broken b ∷ ys) g f = fine_new c _ g f refl

  fine_item : (x : Item) (ys : List Record) → GoodIn x → Fine ys → Fine (item_before x ys)
  unfolding item_before bad_item
  fine_item (text c) ys g f = fine_text c ys g f
  fine_item (character c) ys g f = fine_inline (character c) ys tt g f
  fine_item (standalone h) ys g f = fine_inline (standalone h) ys g refl f
  fine_item (isolated h k) ys g f = fine_inline (isolated h k) ys g refl f
  fine_item (pair h w k) ys g f = fine_inline (pair h w k) ys g refl f
  fine_item (annotation_start w i t) ys g f = fine_inline (annotation_start w i t) ys g refl f
  fine_item (annotation_end w i) ys g f = fine_inline (annotation_end w i) ys g refl f

  pub fine_content : (xs : Content) → GoodContent xs → Fine (content_records xs)
  unfolding content_records
  fine_content [] each_nil = record { all_good = good; from_start = runs false; from_text = λ _. runs true }
  fine_content (x ∷ xs) (each_cons g a) = fine_item x (content_records xs) g (fine_content xs a)

-- the records from a part on
pub record Ready (rs : List Record) : Type 0 where
  pub all_good : AllGood rs
  pub in_sources : (a : Bool) → Runs (in_source a) rs
  pub in_targets : (a : Bool) → Runs (in_target a) rs

ready_end : Ready (closing ∷ [])
unfolding step inline_step outer_step may_end
ready_end =
    record {
      all_good = each_cons tt each_nil;
      in_sources = λ a. goes_on {st' = complete} refl (at_end refl);
      in_targets = λ a. goes_on {st' = complete} refl (at_end refl);
    }

ready_target : (g : Target) (rs : List Record) → GoodTarget g → Ready rs → AllGood (target_records g ++ rs) × ((a : Bool) → Runs (in_source a) (target_records g ++ rs))
unfolding target_records step inline_step outer_step
ready_target no_target rs h r = (r.all_good, r.in_sources)
ready_target (target q xs) rs h r =
    let f = fine_content in_target rs (λ a cs. refl) (λ a x. refl) r.all_good r.in_targets xs h in
    (each_cons tt f.all_good, λ a. goes_on {st' = in_target false} refl f.from_start)

ready_part : (p : Part) (rs : List Record) → GoodPart p → Ready rs → Ready (part_records p ++ rs)
unfolding part_records step inline_step outer_step
ready_part p rs h r =
    let (g, runs) = ready_target p.target rs h.target r in
    let f = fine_content in_source (target_records p.target ++ rs) (λ a cs. refl) (λ a x. refl) g runs p.source h.source in
    let e : content_records p.source ++ target_records p.target ++ rs ≡ content_records p.source ++ (target_records p.target ++ rs)
    = append_assoc (content_records p.source) (target_records p.target) rs in
    let run : Runs (in_source false) (content_records p.source ++ target_records p.target ++ rs) = subst (Runs (in_source false)) (sym e) f.from_start in
    record {
      all_good = each_cons h.head (subst AllGood (sym e) f.all_good);
      in_sources = λ a. goes_on {st' = in_source false} refl run;
      in_targets = λ a. goes_on {st' = in_source false} refl run;
    }

pub ready_parts : (ps : List Part) → GoodParts ps → Ready (gather part_records ps ++ (closing ∷ []))
unfolding gather
ready_parts [] each_nil = ready_end
ready_parts (p ∷ ps) (each_cons h g) = subst Ready (sym (append_assoc (part_records p) (gather part_records ps) (closing ∷ []))) (ready_part p _ h (ready_parts ps g))

-- a unit of good parts, at least one: its records are good and in sequence
first_part : (h : Head) (rs : List Record) → Runs (in_source false) (part_head h ∷ rs) → Runs part_due (part_head h ∷ rs)
unfolding step inline_step outer_step part_step
first_part h rs (goes_on e run) = goes_on e run

pub unit_runs : (u : XliffUnit) (p : Part) (ps : List Part) → u.parts ≡ p ∷ ps → GoodRecord (opening u.opening) → GoodParts u.parts
    → AllGood (unit_records u) × Runs unit_due (unit_records u)
unfolding unit_records step unit_step gather part_records
unit_runs u p ps e o g =
    let r = ready_parts u.parts g in
    (each_cons o r.all_good, goes_on {st' = part_due} refl (by u.parts e (r.in_sources false)))
  where
    by : (qs : List Part) → qs ≡ p ∷ ps → Runs (in_source false) (gather part_records qs ++ (closing ∷ [])) → Runs part_due (gather part_records qs ++ (closing ∷ []))
    by [] q run = let z : ◌≡◌ {A = ℕ} 0 1 = cc in absurd (let y : ⊥ = omega arith in y)
    by (r ∷ rs) q run = first_part r.head _ run

-- the parts of a unit are counted by their heads
pub heads_append : (rs qs : List Record) → part_heads (rs ++ qs) ≡ part_heads rs + part_heads qs
unfolding part_heads
heads_append [] qs = omega arith
heads_append (r ∷ rs) qs = omega (arith, heads_append rs qs)

pub heads_text : (c : ℕ) (rs : List Record) → part_heads (text_before c rs) ≡ part_heads rs
unfolding part_heads text_before is_part
heads_text c [] = omega arith
heads_text c (opening d ∷ rs) = omega arith
heads_text c (closing ∷ rs) = omega arith
heads_text c (part_head h ∷ rs) = omega arith
heads_text c (target_head q ∷ rs) = omega arith
heads_text c (text_run cs ∷ rs) = omega arith
heads_text c (inline x ∷ rs) = omega arith
heads_text c (ill_text ∷ rs) = omega arith
heads_text c (broken b ∷ rs) = omega arith

heads_content : (xs : Content) → part_heads (content_records xs) ≡ 0
unfolding part_heads content_records item_before is_part
heads_content [] = refl
heads_content (text c ∷ xs) = heads_text c (content_records xs) ∙ heads_content xs
heads_content (character c ∷ xs) = omega (arith, heads_content xs)
heads_content (standalone f ∷ xs) = omega (arith, heads_content xs)
heads_content (isolated h f ∷ xs) = omega (arith, heads_content xs)
heads_content (pair h w f ∷ xs) = omega (arith, heads_content xs)
heads_content (annotation_start w i t ∷ xs) = omega (arith, heads_content xs)
heads_content (annotation_end w i ∷ xs) = omega (arith, heads_content xs)

heads_target : (g : Target) → part_heads (target_records g) ≡ 0
unfolding part_heads target_records is_part
heads_target no_target = refl
heads_target (target q xs) = omega (arith, heads_content xs)

heads_part : (p : Part) → part_heads (part_records p) ≡ 1
unfolding part_heads part_records is_part
heads_part p = omega (arith, heads_append (content_records p.source) (target_records p.target), heads_content p.source, heads_target p.target)

heads_parts : (ps : List Part) → part_heads (gather part_records ps) ≡ length ps
unfolding gather part_heads
heads_parts [] = refl
heads_parts (p ∷ ps) = omega (arith, heads_append (part_records p) (gather part_records ps), heads_part p, heads_parts ps)

pub heads_unit : (u : XliffUnit) → part_heads (unit_records u) ≡ length u.parts
unfolding unit_records part_heads is_part
heads_unit u = omega (arith, heads_append (gather part_records u.parts) (closing ∷ []), heads_parts u.parts)

-- A unit of good parts within the limits, as bytes, passes 2, 3 and 4
pub good_unit_passes : (u : XliffUnit) (p : Part) (ps : List Part) → u.parts ≡ p ∷ ps → GoodRecord (opening u.opening) → GoodParts u.parts
    → length (unit_records u) ≤ most_records → length u.parts ≤ most_parts → table_fault (encode u) ≡ none
good_unit_passes u p ps e o g l h =
    let (a, r) = unit_runs u p ps e o g in
    encode_passes u a r l (omega (arith, heads_unit u))

-- The other way round: the contents of a table that passes are good
good_step : (st st' : Stage) (x : Item) → step st (inline x) ≡ on st' → bad_item x ≡ false
unfolding step inline_step unit_step part_step
good_step unit_due st' x e = absurd (fault_on e)
good_step part_due st' x e = absurd (fault_on e)
good_step (in_source a) st' x e = (cond_on (bad_item x) 3 (in_source false) st' e).0
good_step (in_target a) st' x e = (cond_on (bad_item x) 3 (in_target false) st' e).0
good_step complete st' x e = absurd (fault_on e)
good_step (alone a) st' x e = (cond_on (bad_item x) 3 (alone false) st' e).0

good_in : (x : Item) → GoodItem x → bad_item x ≡ false → GoodIn x
good_in (text c) g b = absurd g
good_in (character c) g b = b
good_in (standalone f) g b = g
good_in (isolated h f) g b = g
good_in (pair h w f) g b = g
good_in (annotation_start w i t) g b = g
good_in (annotation_end w i) g b = g

good_texts : (cs : List ℕ) → Allowed cs → GoodContent (map text cs)
good_texts [] no_text = each_nil
good_texts (c ∷ cs) (one_point p a) = each_cons p (good_texts cs a)

pub record GoodReading (g : Reading) : Type 0 where
  pub items : GoodContent g.items
  pub target : GoodTarget g.target
  pub parts : GoodParts g.parts

take_good : (st st' : Stage) (r : Record) (g : Reading) → step st r ≡ on st' → GoodRecord r → GoodReading g → GoodReading (take_record r g)
unfolding take_record
take_good st st' (opening c) g e h k = k
take_good st st' closing g e h k = record { items = each_nil; target = tt; parts = each_nil }
take_good st st' (part_head d) g e h k =
    record { items = each_nil; target = tt; parts = each_cons (record { head = h; source = k.items; target = k.target }) k.parts }
take_good st st' (target_head q) g e h k = record { items = each_nil; target = k.items; parts = k.parts }
take_good st st' (text_run cs) g e h k = record { items = each_append (map text cs) g.items (good_texts cs h) k.items; target = k.target; parts = k.parts }
take_good st st' (inline x) g e h k = record { items = each_cons (good_in x h (good_step st st' x e)) k.items; target = k.target; parts = k.parts }
take_good st st' ill_text g e h k = absurd h
take_good st st' (broken b) g e h k = absurd h

pub reading_good : (st : Stage) (rs : List Record) → Runs st rs → AllGood rs → GoodReading (reading rs)
unfolding reading
reading_good st [] run a = record { items = each_nil; target = tt; parts = each_nil }
reading_good st (r ∷ rs) (goes_on {st'} e run) (each_cons h a) = take_good st st' r (reading rs) e h (reading_good st' rs run a)

pub unit_good : (t : List ℕ) → Bytes t → table_fault t ≡ none → GoodParts (unit t).parts
unfolding unit records
unit_good t h k = let w = table_walked t h k in (reading_good unit_due (records t) w.runs w.good).parts

pub content_good : (t : List ℕ) → Bytes t → content_fault t ≡ none → GoodContent (content t)
unfolding content records
content_good t h k = let w = content_walked t h k in (reading_good (alone false) (records t) w.runs w.good).items
