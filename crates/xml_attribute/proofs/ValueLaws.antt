-- Behind the = of an attribute: blanks, the quote, the value.
use Prim.Native.Nat.{ℕ, ◌+◌, ◌≤◌, ◌<◌}
use mathlib.Core.Path.{◌≡◌, refl, sym, ap, ◌∙◌}
use mathlib.Core.Bool.{true, false, ◌||◌}
use mathlib.Core.List.{List, [], ◌∷◌}
use native.Mathlib.Omega.{arith}
use lib.ListN.{length, drop, get_or}
use lib.Dec.{eqb}
use borrow.Author.Tests.{eq-eqb}
use Rattle.xml.specs.Characters.{quote, apostrophe}
use Rattle.xml.specs.Tokens.{Token, fault, cut_tag, Tag, in_tag, value_due, in_value, with_attribute, step, at_end}
use Rattle.xml.specs.Places.{tokens_at}
use Rattle.xml.proofs.PlaceLaws.{to_next, at_stop, text_ends}
use Rattle.xml_names.specs.Names.{bytes_between, NameIn}
use Rattle.xml_values.specs.Blanks.{BlanksEnd}
use Rattle.xml_values.specs.Values.{ValueEnds, ValueRead, value_codes}
use Rattle.xml_attribute.specs.declared.AttributeAt.{AttributeAt}
use Rattle.xml_attribute.specs.declared.Next.TheVariants.{One}
use Rattle.std.specs.Prelude.{Ok, Err}
use Rattle.xml_front.specs.declared.Flaw.{Flaw}
use Rattle.xml_front.specs.declared.Flaw.TheVariants.{Cut, Wrong}
use Rattle.xml_attribute.specs.Attribute.{attribute_of, tag_with, AttributeIn, OneRead, Reading}
use Rattle.xml_attribute.proofs.ReadingLaws.{carry}

-- the value, and its second quote
value_read : (s : List ℕ) (a : AttributeAt) (q j : ℕ) → AttributeIn s a → a.mark ≡ q → a.next ≡ j + 1
    → ValueEnds s a.value q j → OneRead s (λ t. in_value t (bytes_between s a.name.from a.name.upto) q []) a.value a
unfolding tag_with attribute_of
value_read s a q j place m e r =
    let low = r.low in
    let inside = r.inside in
    record {
      place = place;
      ahead = omega arith;
      inside = omega arith;
      same = λ t. r.same t name [] ∙ closed t ∙ renamed t;
    }
  where
    name : List ℕ
    name = bytes_between s a.name.from a.name.upto

    value : ℕ → List ℕ
    value k = value_codes k 0 (drop a.value s)

    closed : (t : Tag)
        → tokens_at s (in_value t name q (value q)) j ≡ tokens_at s (in_tag (with_attribute t name (value q)) false) (j + 1)
    closed t =
        to_next s (in_value t name q (value q)) j r.inside (in_tag (with_attribute t name (value q)) false)
        (unfold step in rw (eq-eqb (get_or s j 0) q r.quote))

    renamed : (t : Tag) → tokens_at s (in_tag (with_attribute t name (value q)) false) (j + 1)
        ≡ tokens_at s (in_tag (with_attribute t name (value a.mark)) false) a.next
    renamed t =
        ap (tokens_at s (in_tag (with_attribute t name (value q)) false)) (sym e)
        ∙ ap (λ (k : ℕ). tokens_at s (in_tag (with_attribute t name (value k)) false) a.next) (sym m)

-- from i to the quote at v
module _ (s : List ℕ) (i v : ℕ) (b : BlanksEnd s i v) where
  pub value_missing : length s ≤ v → (n : List ℕ) (t : Tag)
      → tokens_at s (value_due t n) i ≡ cut_tag t.place (length s) ∷ []
  unfolding at_end
  value_missing h n t = b.read.before_value t n ∙ text_ends s (value_due t n) v b.read.high h

  module _ (h : v < length s) where
    pub value_unquoted : eqb (get_or s v 0) quote || eqb (get_or s v 0) apostrophe ≡ false → (n : List ℕ) (t : Tag)
        → tokens_at s (value_due t n) i ≡ fault t.place ∷ []
    value_unquoted e n t =
        b.read.before_value t n
        ∙ at_stop s (value_due t n) v h (fault t.place) (unfold step in rw (b.stops h, e))

    module _ (is_quote : eqb (get_or s v 0) quote || eqb (get_or s v 0) apostrophe ≡ true) where
      value_quoted : (n : List ℕ) (t : Tag)
          → tokens_at s (value_due t n) i ≡ tokens_at s (in_value t n (get_or s v 0) []) (v + 1)
      value_quoted n t =
          b.read.before_value t n
          ∙ to_next s (value_due t n) v h (in_value t n (get_or s v 0) []) (unfold step in rw (b.stops h, is_quote))

      -- a value that does not end
      value_ill : (ill : Tag → List Token)
          → ((t : Tag) (n w : List ℕ) → tokens_at s (in_value t n (get_or s v 0) w) (v + 1) ≡ ill t)
          → (n : List ℕ) (t : Tag) → tokens_at s (value_due t n) i ≡ ill t
      value_ill ill r n t = value_quoted n t ∙ r t n []

      pub value_at_fault : (e : Flaw) → ValueRead s (v + 1) (get_or s v 0) (Err e) → (n : List ℕ)
          → Reading s (λ t. value_due t n) i (Err e)
      value_at_fault Cut r n = value_ill (λ t. cut_tag t.place (length s) ∷ []) r n
      value_at_fault Wrong r n = value_ill (λ t. fault t.place ∷ []) r n

      pub one_read : (from upto j : ℕ) → NameIn s from upto → ValueEnds s (v + 1) (get_or s v 0) j
          → OneRead s (λ t. value_due t (bytes_between s from upto)) i
          (record { name = record { from = from; upto = upto }; value = v + 1; mark = get_or s v 0; next = j + 1 })
      one_read from upto j n r =
          let low = b.read.low in
          let name : List ℕ = bytes_between s from upto in
          let a : AttributeAt = record { name = record { from = from; upto = upto }; value = v + 1; mark = get_or s v 0; next = j + 1 } in
          carry s (λ t. value_due t name) (λ t. in_value t name (get_or s v 0) []) i (v + 1) (Ok (One a)) (omega arith)
          (value_quoted name)
          (value_read s a (get_or s v 0) j (record { name = n; value_high = omega arith }) refl refl r)
