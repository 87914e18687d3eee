-- The records that a text is read as, in the sequence in which they are met, are those of the table, the code points of
-- a run put together. So the table can be written, and its records, parts and bytes counted, while the text is read.
use Prim.Native.Nat.{ℕ}
use native.Mathlib.Omega.{arith}
use mathlib.Core.Path.{◌≡◌, refl, sym, ap, subst}
use mathlib.Core.Bool.{Bool, true, false, ◌&&◌, cond}
use mathlib.Core.List.{List, [], ◌∷◌, ◌++◌}
use mathlib.Core.Option.{Option, none, some}
use lib.ListN.{length}
use lib.Dec.{ltb}
use Rattle.xliff.specs.Bytes.{equal}
use Rattle.xliff.specs.Item.{Item}
use Rattle.xliff.specs.Encode.{Record, text_run, inline, unit_records, spell, encode}
use Rattle.xliff.specs.Parse.{take_record, reading}
use Rattle.xml.specs.Words.{'unit', 'source', 'target'}
use Rattle.xml.specs.Characters.{is_blank}
use Rattle.xml.specs.Attributes.{only}
use Rattle.xml.specs.Tokens.{Attribute, Token, start_tag, end_tag, char, reference, finish, fault, cut_tag, text_fault, tokens, outside_tags}
use Rattle.xml.specs.Elements.{most_depth, unit_opening, part_of_name, target_order, inline_of_name, Inline, single, nested, Due, unit_due, part_due, source_due, target_due, part_end_due, nothing_due, Side, Open, Where, outside, in_content, in_empty, Turn, on, blame, over, or_blame, opened, closed, finished, cut_short, inline_opened, inline_closed, turn, Read, read, bad, behind, elements, xml_records, unit_of_records}
use Rattle.xml.proofs.MergeLaws.{merged, Same, Between, Outside, InTarget, text_same, inline_same, part_same, target_same, end_same, unit_same}

-- What the records are from some place in the unit on
abbrev Inside : Due → List Record → Type 0
Inside unit_due rs = Unit {0}
Inside (part_due k) rs = Unit {0}
Inside (source_due k p) rs = Unit {0}
Inside (target_due k p) rs = Same rs
Inside (part_end_due k p) rs = InTarget rs
Inside nothing_due rs = Unit {0}

abbrev AtDue : Due → List Record → Type 0
AtDue unit_due rs = unit_records (unit_of_records rs) ≡ merged rs
AtDue (part_due k) rs = Outside rs
AtDue (source_due k p) rs = Same rs
AtDue (target_due k p) rs = Between rs
AtDue (part_end_due k p) rs = Outside rs
AtDue nothing_due rs = rs ≡ []

abbrev Facts : Where → List Record → Type 0
Facts (outside d) rs = AtDue d rs
Facts (in_content side opens) rs = Inside side.behind rs
Facts (in_empty side opens n) rs = Inside side.behind rs

inside_text : (d : Due) (c : ℕ) (rs : List Record) → Inside d rs → Inside d (text_run (c ∷ []) ∷ rs)
unfolding reading take_record
inside_text unit_due c rs k = tt
inside_text (part_due n) c rs k = tt
inside_text (source_due n p) c rs k = tt
inside_text (target_due n p) c rs k = text_same c rs k
inside_text (part_end_due n p) c rs k = record { same = text_same c rs k.same; none = k.none }
inside_text nothing_due c rs k = tt

inside_inline : (d : Due) (x : Item) (rs : List Record) → Inside d rs → Inside d (inline x ∷ rs)
unfolding reading take_record
inside_inline unit_due x rs k = tt
inside_inline (part_due n) x rs k = tt
inside_inline (source_due n p) x rs k = tt
inside_inline (target_due n p) x rs k = inline_same x rs k
inside_inline (part_end_due n p) x rs k = record { same = inline_same x rs k.same; none = k.none }
inside_inline nothing_due x rs k = tt

inside_ends : (d : Due) (rs : List Record) → AtDue d rs → Inside d rs
inside_ends unit_due rs k = tt
inside_ends (part_due n) rs k = tt
inside_ends (source_due n p) rs k = tt
inside_ends (target_due n p) rs k = k.same
inside_ends (part_end_due n p) rs k = record { same = k.same; none = k.none }
inside_ends nothing_due rs k = tt

-- a turn that goes on
no_blame : {p : ℕ} {w : Where} {rs : List Record} → blame p ≡ on w rs → ⊥
no_blame e = let z : ◌≡◌ {A = ℕ} 0 1 = cc in absurd (let y : ⊥ = omega arith in y)

no_over : {w : Where} {rs : List Record} → over ≡ on w rs → ⊥
no_over e = let z : ◌≡◌ {A = ℕ} 0 1 = cc in absurd (let y : ⊥ = omega arith in y)

blame_over : {p : ℕ} → blame p ≡ over → ⊥
blame_over e = let z : ◌≡◌ {A = ℕ} 0 1 = cc in absurd (let y : ⊥ = omega arith in y)

no_bad : {p : ℕ} {rs : List Record} → bad p ≡ read rs → ⊥
no_bad e = let z : ◌≡◌ {A = ℕ} 0 1 = cc in absurd (let y : ⊥ = omega arith in y)

-- it keeps what the records are
record Keeps (w : Where) (t : Turn) : Type 0 where
  keep : (w' : Where) (rs qs : List Record) → t ≡ on w' rs → Facts w' qs → Facts w (rs ++ qs)
  ends : t ≡ over → Facts w []

keeps_on : (w w₁ : Where) (rs₁ : List Record) → ((qs : List Record) → Facts w₁ qs → Facts w (rs₁ ++ qs)) → Keeps w (on w₁ rs₁)
keeps_on w w₁ rs₁ f =
    record {
      keep = λ w' rs qs e k.
          let a : w' ≡ w₁ = cc in
          let b : rs₁ ≡ rs = cc in
          subst (λ (l : List Record). Facts w (l ++ qs)) b (f qs (subst (λ (v : Where). Facts v qs) a k));
      ends = λ e. absurd (no_over (sym e));
    }

keeps_blame : {w : Where} {p : ℕ} → Keeps w (blame p)
keeps_blame = record { keep = λ w' rs qs e k. absurd (no_blame e); ends = λ e. absurd (blame_over e) }

keeps_over : {w : Where} → Facts w [] → Keeps w over
keeps_over f = record { keep = λ w' rs qs e k. absurd (no_over e); ends = λ e. f }

keeps_cond : {w : Where} (b : Bool) (p : ℕ) {t : Turn} → Keeps w t → Keeps w (cond b t (blame p))
keeps_cond true p f = f
keeps_cond false p f = keeps_blame

keeps_or : {A : Type 0} {w : Where} (o : Option A) (p : ℕ) (f : A → Turn) → ((a : A) → Keeps w (f a)) → Keeps w (or_blame o p f)
unfolding or_blame
keeps_or none p f k = keeps_blame
keeps_or (some a) p f k = k a

opened_keeps : (d : Due) (at : ℕ) (n : List ℕ) (ats : List Attribute) → Keeps (outside d) (opened d at n ats)
unfolding opened
opened_keeps unit_due at n ats =
    keeps_cond (equal n 'unit') at (keeps_or (unit_opening ats) at _ (λ o. keeps_on _ _ _ (λ qs k. unit_same o qs k)))
opened_keeps (part_due m) at n ats = keeps_or (part_of_name n ats) at _ (λ h. keeps_on _ _ _ (λ qs k. part_same h qs k))
opened_keeps (source_due m p) at n ats = keeps_cond (equal n 'source' && only [] ats) at (keeps_on _ _ _ (λ qs k. k))
opened_keeps (target_due m p) at n ats =
    keeps_cond (equal n 'target') at (keeps_or (target_order m ats) at _ (λ q. keeps_on _ _ _ (λ qs k. target_same q qs k)))
opened_keeps (part_end_due m p) at n ats = keeps_blame
opened_keeps nothing_due at n ats = keeps_blame

closed_keeps : (d : Due) (at : ℕ) (n : List ℕ) → Keeps (outside d) (closed d at n)
unfolding closed
closed_keeps unit_due at n = keeps_blame
closed_keeps (part_due m) at n = keeps_cond (equal n 'unit') at (keeps_on _ _ _ (λ qs k. end_same qs k))
closed_keeps (source_due m p) at n = keeps_blame
closed_keeps (target_due m p) at n =
    keeps_cond (equal n p) at (keeps_on _ _ _ (λ qs k. record { same = k.same; no_items = k.no_items }))
closed_keeps (part_end_due m p) at n = keeps_cond (equal n p) at (keeps_on _ _ _ (λ qs k. k))
closed_keeps nothing_due at n = keeps_blame

finished_keeps : (d : Due) (p : ℕ) → Keeps (outside d) (finished d p)
unfolding finished
finished_keeps unit_due p = keeps_blame
finished_keeps (part_due m) p = keeps_blame
finished_keeps (source_due m n) p = keeps_blame
finished_keeps (target_due m n) p = keeps_blame
finished_keeps (part_end_due m n) p = keeps_blame
finished_keeps nothing_due p = keeps_over {w = outside nothing_due} refl

cut_keeps : (d : Due) (at p : ℕ) → Keeps (outside d) (cut_short d at p)
unfolding cut_short
cut_keeps unit_due at p = keeps_blame
cut_keeps (part_due m) at p = keeps_blame
cut_keeps (source_due m n) at p = keeps_blame
cut_keeps (target_due m n) at p = keeps_blame
cut_keeps (part_end_due m n) at p = keeps_blame
cut_keeps nothing_due at p = keeps_blame

inline_keeps : (side : Side) (opens : List Open) (at : ℕ) (n : List ℕ) (x : Inline)
    → Keeps (in_content side opens) (inline_opened side opens at n x)
unfolding inline_opened
inline_keeps side opens at n (single x) = keeps_on _ _ _ (λ qs k. inside_inline side.behind x qs k)
inline_keeps side opens at n (nested x y) =
    keeps_cond (ltb (length opens) most_depth) at (keeps_on _ _ _ (λ qs k. inside_inline side.behind x qs k))

close_keeps : (side : Side) (opens : List Open) (at : ℕ) (n : List ℕ)
    → Keeps (in_content side opens) (inline_closed side opens at n)
unfolding inline_closed
close_keeps side [] at n = keeps_cond (equal n side.name) at (keeps_on _ _ _ (λ qs k. inside_ends side.behind qs k))
close_keeps side (o ∷ opens) at n =
    keeps_cond (equal n o.name) at (keeps_on _ _ _ (λ qs k. inside_inline side.behind o.end_item qs k))

turn_keeps : (w : Where) (t : Token) → Keeps w (turn w t)
unfolding turn
turn_keeps (outside d) (start_tag at n ats) = opened_keeps d at n ats
turn_keeps (outside d) (end_tag at n) = closed_keeps d at n
turn_keeps (outside d) (char at c) = keeps_cond (is_blank c) at (keeps_on _ _ _ (λ qs k. k))
turn_keeps (outside d) (reference at c) = keeps_blame
turn_keeps (outside d) (finish p) = finished_keeps d p
turn_keeps (outside d) (fault p) = keeps_blame
turn_keeps (outside d) (cut_tag at p) = cut_keeps d at p
turn_keeps (outside d) (text_fault at p) = keeps_blame
turn_keeps (in_content side opens) (start_tag at n ats) = keeps_or (inline_of_name n ats) at _ (inline_keeps side opens at n)
turn_keeps (in_content side opens) (end_tag at n) = close_keeps side opens at n
turn_keeps (in_content side opens) (char at c) = keeps_on _ _ _ (λ qs k. inside_text side.behind c qs k)
turn_keeps (in_content side opens) (reference at c) = keeps_on _ _ _ (λ qs k. inside_text side.behind c qs k)
turn_keeps (in_content side opens) (finish p) = keeps_blame
turn_keeps (in_content side opens) (fault p) = keeps_blame
turn_keeps (in_content side opens) (cut_tag at p) = keeps_blame
turn_keeps (in_content side opens) (text_fault at p) = keeps_blame
turn_keeps (in_empty side opens m) (start_tag at n ats) = keeps_blame
turn_keeps (in_empty side opens m) (end_tag at n) = keeps_cond (equal n m) at (keeps_on _ _ _ (λ qs k. k))
turn_keeps (in_empty side opens m) (char at c) = keeps_blame
turn_keeps (in_empty side opens m) (reference at c) = keeps_blame
turn_keeps (in_empty side opens m) (finish p) = keeps_blame
turn_keeps (in_empty side opens m) (fault p) = keeps_blame
turn_keeps (in_empty side opens m) (cut_tag at p) = keeps_blame
turn_keeps (in_empty side opens m) (text_fault at p) = keeps_blame

-- THE RECORDS READ, put together, are those of the unit
facts : (ts : List Token) (w : Where) (rs : List Record) → elements w ts ≡ read rs → Facts w rs
unfolding elements behind
facts [] w rs e = absurd (no_bad e)
facts (t ∷ ts) w rs e = by (turn w t) (turn_keeps w t) e (λ v qs h. facts ts v qs h)
  where
    IH : Type 0
    IH = (v : Where) (qs : List Record) → elements v ts ≡ read qs → Facts v qs

    met : (v : Where) (qs : List Record) (r : Read) → elements v ts ≡ r → behind qs r ≡ read rs → Keeps w (on v qs) → IH
        → Facts w rs
    met v qs (read ps) q h k ih =
        let z : qs ++ ps ≡ rs = cc in
        subst (λ (l : List Record). Facts w l) z (k.keep v qs ps refl (ih v ps q))
    met v qs (bad p) q h k ih = absurd (no_bad h)

    by : (m : Turn) → Keeps w m
        → elim m [ on v qs ↦ behind qs (elements v ts) | blame p ↦ bad p | over ↦ read [] ] ≡ read rs → IH → Facts w rs
    by (on v qs) k h ih = met v qs (elements v ts) refl h k ih
    by (blame p) k h ih = absurd (no_bad h)
    by over k h ih =
        let z : ◌≡◌ {A = List Record} [] rs = cc in
        subst (λ (l : List Record). Facts w l) z (k.ends refl)

pub records_read : (s : List ℕ) (rs : List Record) → xml_records s ≡ read rs → unit_records (unit_of_records rs) ≡ merged rs
unfolding xml_records
records_read s rs e = facts (tokens outside_tags 0 0 s) (outside unit_due) rs e

pub table_read_bytes : (s : List ℕ) (rs : List Record) → xml_records s ≡ read rs → encode (unit_of_records rs) ≡ spell (merged rs)
unfolding encode
table_read_bytes s rs e = ap spell (records_read s rs e)
