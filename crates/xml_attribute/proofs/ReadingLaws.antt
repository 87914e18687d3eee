-- What is read further on is read from here; the end of a start tag.
use Prim.Native.Nat.{ℕ, suc, ◌+◌, ◌≤◌, ◌<◌}
use mathlib.Core.Path.{◌≡◌, ap, ◌∙◌}
use mathlib.Core.Bool.{Bool, true, false, cond}
use mathlib.Core.List.{List, [], ◌∷◌, ◌++◌}
use native.Mathlib.Omega.{arith}
use lib.ListN.{length, drop, get_or}
use borrow.Author.Tests.{eq-eqb, ne_eqb}
use Rattle.xml.specs.Characters.{'>'}
use Rattle.xml.specs.Tokens.{fault, Tag, State, outside_tags, in_short, give, stop, doubled, whole_tag, step, at_end}
use Rattle.xml.specs.Places.{tokens_at}
use Rattle.xml.proofs.PlaceLaws.{at_give, at_stop, text_ends}
use Rattle.xml_attribute.specs.declared.Next.{Next}
use Rattle.xml_attribute.specs.declared.Next.TheVariants.{One, End}
use Rattle.xml_front.specs.declared.Flaw.{Flaw}
use Rattle.xml_front.specs.declared.Flaw.TheVariants.{Cut, Wrong}
use Rattle.std.specs.Prelude.{Result, Ok, Err}
use Rattle.xml_attribute.specs.Attribute.{short_form, tag_tokens, whole_tokens, EndRead, Reading}

-- what is read from j on is read from i on, if the tokens are the same
pub carry : (s : List ℕ) (st st' : Tag → State) (i j : ℕ) (r : Result Next Flaw) → i ≤ j
    → ((t : Tag) → tokens_at s (st t) i ≡ tokens_at s (st' t) j) → Reading s st' j r → Reading s st i r
carry s st st' i j (Ok (One a)) l e r =
    record {
      place = r.place;
      ahead = let h = r.ahead in omega arith;
      inside = r.inside;
      same = λ t. e t ∙ r.same t;
    }
carry s st st' i j (Ok (End k short)) l e r =
    record { ahead = let h = r.ahead in omega arith; inside = r.inside; same = λ t. e t ∙ r.same t }
carry s st st' i j (Err Cut) l e r = λ t. e t ∙ r t
carry s st st' i j (Err Wrong) l e r = λ t. e t ∙ r t

-- a step that ends a tag
pub whole_is : (s : List ℕ) (st : State) (i : ℕ) (short : Bool) (t : Tag) → i < length s
    → step st i (get_or s i 0) (drop (suc i) s) ≡ whole_tag t (short_form short t)
    → tokens_at s st i ≡ whole_tokens s (i + 1) short t
unfolding whole_tag whole_tokens
whole_is s st i short t h e = by (doubled t.attributes) e
  where
    by : (x : Bool) → step st i (get_or s i 0) (drop (suc i) s) ≡ cond x (stop (fault t.place)) (give (tag_tokens short t) 0)
        → tokens_at s st i ≡ cond x (fault t.place ∷ []) (tag_tokens short t ++ tokens_at s outside_tags (i + 1))
    by true e = at_stop s st i h (fault t.place) e
    by false e =
        at_give s st i h (tag_tokens short t) 0 e (omega arith)
        ∙ ap (λ (k : ℕ). tag_tokens short t ++ tokens_at s outside_tags k) (let z : suc i + 0 ≡ i + 1 = omega arith in z)

-- behind the / of a short form
pub short_cut : (s : List ℕ) (i : ℕ) → i ≤ length s → length s ≤ i → Reading s in_short i (Err Cut)
unfolding at_end
short_cut s i h k t = text_ends s (in_short t) i h k

pub short_closed : (s : List ℕ) (i : ℕ) → i < length s → get_or s i 0 ≡ '>' → EndRead s in_short i (i + 1) true
short_closed s i h e =
    record {
      ahead = omega arith;
      inside = omega arith;
      same = λ t. whole_is s (in_short t) i true t h (unfold step short_form in rw (eq-eqb (get_or s i 0) '>' e));
    }

pub short_wrong : (s : List ℕ) (i : ℕ) → i < length s → (get_or s i 0 ≡ '>' → ⊥) → Reading s in_short i (Err Wrong)
short_wrong s i h e t = at_stop s (in_short t) i h (fault t.place) (unfold step in rw (ne_eqb (get_or s i 0) '>' e))
