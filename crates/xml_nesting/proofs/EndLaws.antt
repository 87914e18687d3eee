-- The end of a pc, looked for record by record.
use Prim.Native.Nat.{ℕ, zero, suc, ◌+◌, ◌-◌, ◌<◌, ◌≤◌}
use mathlib.Core.Path.{◌≡◌, refl, sym, ap, ◌∙◌, subst}
use mathlib.Core.Bool.{Bool, true, false, cond}
use mathlib.Core.List.{List, [], ◌∷◌, ◌++◌, map}
use native.Mathlib.Numerals.{add-one}
use native.Mathlib.Omega.{arith}
use lib.ListN.{length, drop}
use lib.Dec.{eqb}
use borrow.Author.Tests.{ne_eqb}
use Rattle.xliff.specs.Item.{Item, Content, text, is_form_P, is_start_half, fields}
use Rattle.xliff.specs.Encode.{Record, opening, closing, part_head, target_head, text_run, inline, ill_text, broken}
use Rattle.xliff.specs.Parse.{read}
use Rattle.places.specs.Offsets.{At}
use Rattle.places.proofs.Places.{at_next, at_end, at_more}
use Rattle.walker.specs.Offsets.{After}
use Rattle.xml.proofs.EndLaws.{at_closing, end_data, end_data_written}
use Rattle.xml_nesting.specs.declared.Step.{Step}
use Rattle.xml_nesting.specs.declared.Step.TheVariants.{Opens, Closes, Stays, Ends}
use Rattle.xml_nesting.specs.Nesting.{Ending, Found, Open, step_of_item, step_of, closing_at, ending_behind, first_content, end_of}
use Rattle.xml_nesting.proofs.StepLaws.{passed}

-- what comes of an ending, where `go` looks on with so many unclosed
unfoldable follow : Ending → (ℕ → ℕ) → ℕ
follow (Found d) go = d
follow (Open n) go = go n

-- texts are passed over
texts_passed : (n : ℕ) (cs : List ℕ) (xs : Content) → end_data n (map text cs ++ xs) ≡ end_data n xs
unfolding end_data is_form_P
texts_passed n [] xs = refl
texts_passed n (c ∷ cs) xs = texts_passed n cs xs

closed : (n : ℕ) (x : Item) (go : ℕ → ℕ) → at_closing n x go ≡ follow (closing_at n (fields x).data_ref) go
unfolding at_closing follow
closed zero x go = refl
closed (suc n) x go = rw (ne_eqb (suc n) 0 (λ e. omega arith)) (ap go (let z : n ≡ suc n - 1 = omega arith in z))

item_ending : (n : ℕ) (x : Item) (xs : Content)
    → end_data n (x ∷ xs) ≡ follow (ending_behind n (step_of_item x)) (λ m. end_data m xs)
unfolding end_data step_of_item follow
item_ending n x xs = by (is_form_P x) (is_start_half x)
  where
    by : (a b : Bool)
        → cond a (cond b (end_data (suc n) xs) (at_closing n x (λ m. end_data m xs))) (end_data n xs)
        ≡ follow (ending_behind n (cond a (cond b Opens (Closes (fields x).data_ref)) Stays)) (λ m. end_data m xs)
    by true true = ap (λ (m : ℕ). end_data m xs) (sym (add-one n))
    by true false = closed n x (λ m. end_data m xs)
    by false b = refl

record_ending : (n : ℕ) (r : Record) (rs : List Record)
    → end_data n (first_content (r ∷ rs)) ≡ follow (ending_behind n (step_of r)) (λ m. end_data m (first_content rs))
unfolding end_data step_of follow first_content
record_ending n (opening c) rs = refl
record_ending n closing rs = refl
record_ending n (part_head h) rs = refl
record_ending n (target_head q) rs = refl
record_ending n (text_run cs) rs = texts_passed n cs (first_content rs)
record_ending n (inline x) rs = item_ending n x (first_content rs)
record_ending n ill_text rs = refl
record_ending n (broken b) rs = refl

-- at most one more is open
more_unclosed : (n : ℕ) (s : Step) (m : ℕ) → ending_behind n s ≡ Open m → m ≤ n + 1
more_unclosed n Opens m e = let z : n + 1 ≡ m = cc in omega arith
more_unclosed n (Closes d) m e = by (eqb n 0) e
  where
    by : (b : Bool) → cond b (Found d) (Open (n - 1)) ≡ Open m → m ≤ n + 1
    by true e = let z : ◌≡◌ {A = ℕ} 0 1 = cc in absurd (omega arith)
    by false e = let z : n - 1 ≡ m = cc in omega arith
more_unclosed n Stays m e = let z : n ≡ m = cc in omega arith
more_unclosed n Ends m e = let z : ◌≡◌ {A = ℕ} 0 1 = cc in absurd (omega arith)

-- what is left of the walk over the records behind a start
pub record Left (t : List ℕ) (at unclosed : ℕ) (all : List Record) : Type 0 where
  pub rest : List Record
  pub there : At t at rest
  pub same : end_data unclosed (first_content rest) ≡ end_of all

pub left_start : (t : List ℕ) (at : ℕ) (rs : List Record) → At t at rs → Left t at 0 rs
left_start t at rs a = record { rest = rs; there = a; same = sym (end_data_written (first_content rs)) }

module _ (t : List ℕ) (at unclosed : ℕ) (all : List Record) (l : Left t at unclosed all) where
  pub left_none : length t ≤ at → 0 ≡ end_of all
  unfolding end_data first_content
  left_none h = sym (ap (λ (rs : List Record). end_data unclosed (first_content rs)) (at_end t at l.rest l.there h))
      ∙ l.same

  module _ (h : at < length t) (s : Step) (e : s ≡ step_of (read (drop at t))) where
    one_on : (r : Record) (qs : List Record) → l.rest ≡ r ∷ qs → read (drop at t) ≡ r
        → follow (ending_behind unclosed s) (λ m. end_data m (first_content qs)) ≡ end_of all
    one_on r qs p q =
        ap (λ (z : Step). follow (ending_behind unclosed z) (λ m. end_data m (first_content qs))) (e ∙ ap step_of q)
        ∙ sym (record_ending unclosed r qs) ∙ sym (ap (λ (rs : List Record). end_data unclosed (first_content rs)) p) ∙ l.same

    pub left_found : (d : ℕ) → ending_behind unclosed s ≡ Found d → d ≡ end_of all
    unfolding follow
    left_found d g =
        let c = at_more t at l.rest l.there h in
        let n = at_next t at c.0 c.1 (subst (At t at) c.2 l.there) in
        sym (ap (λ (y : Ending). follow y (λ m. end_data m (first_content c.1))) g) ∙ one_on c.0 c.1 c.2 n.reads

    module _ (m next : ℕ) (g : ending_behind unclosed s ≡ Open m) (k : After t at next) where
      pub left_more : unclosed ≤ at → m ≤ next
      left_more b =
          let p = passed t at l.rest next l.there h k in
          omega (arith, p.moves, more_unclosed unclosed s m g)

      pub left_on : Left t next m all
      unfolding follow
      left_on =
          let p = passed t at l.rest next l.there h k in
          record {
            rest = p.others;
            there = p.rest;
            same = sym (ap (λ (y : Ending). follow y (λ n. end_data n (first_content p.others))) g)
                ∙ one_on p.first p.others p.split p.reads;
          }
