-- Between the attributes of a start tag: blanks, then what stands behind them.
use Prim.Native.Nat.{ℕ, ◌+◌, ◌≤◌, ◌<◌}
use mathlib.Core.Path.{◌≡◌, ap, ◌∙◌}
use mathlib.Core.Bool.{Bool, true, false, ◌&&◌, cond}
use mathlib.Core.List.{List}
use native.Mathlib.Omega.{arith}
use lib.ListN.{length, get_or}
use lib.Dec.{ltb}
use borrow.Author.Tests.{eq-eqb, ne_eqb, lt-ltb, le-ltb}
use Rattle.xliff.proofs.lists.Tests.{and_false}
use Rattle.xml.specs.Characters.{'>', '/', starts_name, continues_name}
use Rattle.xml.specs.Tokens.{fault, Tag, in_tag, in_short, in_tag_step, step, at_end}
use Rattle.xml.specs.Places.{tokens_at}
use Rattle.xml.proofs.PlaceLaws.{to_next, at_stop, text_ends}
use Rattle.xml_values.specs.Blanks.{BlanksEnd}
use Rattle.xml_attribute.specs.declared.Next.{Next}
use Rattle.xml_front.specs.declared.Flaw.{Flaw}
use Rattle.xml_front.specs.declared.Flaw.TheVariants.{Cut, Wrong}
use Rattle.std.specs.Prelude.{Result, Err}
use Rattle.xml_attribute.specs.Attribute.{short_form, EndRead, Reading}
use Rattle.xml_attribute.proofs.ReadingLaws.{carry, whole_is}

-- blanks from a place to i
module _ (s : List ℕ) (from i : ℕ) (b : BlanksEnd s from i) where
  abbrev spaced : Bool
  spaced = cond (ltb from i) true false

  abbrev byte : ℕ
  byte = get_or s i 0

  to_here : (t : Tag) → tokens_at s (in_tag t false) from ≡ tokens_at s (in_tag t spaced) i
  to_here t = b.read.in_start_tag t false

  pub tag_cut : length s ≤ i → Reading s (λ t. in_tag t false) from (Err Cut)
  unfolding at_end
  tag_cut h t = to_here t ∙ text_ends s (in_tag t spaced) i b.read.high h

  module _ (h : i < length s) where
    pub tag_closed : byte ≡ '>' → EndRead s (λ t. in_tag t false) from (i + 1) false
    tag_closed e =
        let low = b.read.low in
        record {
          ahead = omega arith;
          inside = omega arith;
          same = λ t.
              to_here t
              ∙ whole_is s (in_tag t spaced) i false t h
              (unfold step in_tag_step short_form in rw (b.stops h, eq-eqb byte '>' e));
        }

    module _ (no_end : byte ≡ '>' → ⊥) where
      pub slash_read : byte ≡ '/' → (x : Result Next Flaw) → Reading s in_short (i + 1) x → Reading s (λ t. in_tag t false) from x
      slash_read e x y =
          let low = b.read.low in
          carry s (λ t. in_tag t false) in_short from (i + 1) x (omega arith)
          (λ t.
          to_here t
          ∙ to_next s (in_tag t spaced) i h (in_short t)
          (unfold step in_tag_step in rw (b.stops h, ne_eqb byte '>' no_end, eq-eqb byte '/' e))) y

      module _ (no_slash : byte ≡ '/' → ⊥) where
        tag_wrong : spaced && starts_name byte ≡ false → Reading s (λ t. in_tag t false) from (Err Wrong)
        tag_wrong e t =
            to_here t
            ∙ at_stop s (in_tag t spaced) i h (fault t.place)
            (unfold step in_tag_step continues_name in
            rw (b.stops h, ne_eqb byte '>' no_end, ne_eqb byte '/' no_slash, e))

        pub no_name : starts_name byte ≡ false → Reading s (λ t. in_tag t false) from (Err Wrong)
        no_name e = tag_wrong (rw e (and_false spaced))

        pub no_space : i ≤ from → Reading s (λ t. in_tag t false) from (Err Wrong)
        no_space e = tag_wrong (rw (le-ltb from i e))

  pub attribute_read : from < i → (x : Result Next Flaw) → Reading s (λ t. in_tag t true) i x → Reading s (λ t. in_tag t false) from x
  attribute_read h x y =
      carry s (λ t. in_tag t false) (λ t. in_tag t true) from i x b.read.low
      (λ t. to_here t ∙ ap (λ (z : Bool). tokens_at s (in_tag t (cond z true false)) i) (lt-ltb from i h)) y
