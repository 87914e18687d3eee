-- The name of a tag and what stands behind it.
use Prim.Native.Nat.{ℕ, suc, ◌+◌, ◌≤◌, ◌<◌}
use mathlib.Core.Path.{◌≡◌, refl, ap, ◌∙◌}
use mathlib.Core.Bool.{Bool, true, false}
use mathlib.Core.List.{List, [], ◌∷◌}
use native.Mathlib.Omega.{arith}
use lib.ListN.{length, drop, get_or}
use borrow.Author.Tests.{eq-eqb, ne_eqb}
use Rattle.xml.specs.Characters.{'>', '/', starts_name, in_a_name, continues_name}
use Rattle.xml.specs.Tokens.{end_tag, fault, State, outside_tags, in_name, in_end, in_tag, in_end_step, behind_name, step, at_end}
use Rattle.xml.specs.Places.{tokens_at}
use Rattle.xml.proofs.PlaceLaws.{to_next, at_give, at_stop, text_ends, same_at}
use Rattle.xml_names.specs.Names.{bytes_between, NameEnds}
use Rattle.xml_names.proofs.NameLaws.{first_byte}
use Rattle.xml_values.specs.Blanks.{BlanksEnd}
use Rattle.xml_tag.specs.declared.Markup.{Markup}
use Rattle.xml_tag.specs.declared.Markup.TheVariants.{Short, Fault}
use Rattle.xml_tag.specs.Markups.{bare, StartRead, CloseRead, Marked}
use Rattle.xml_tag.proofs.MarkedLaws.{carry}

-- the state behind a name, of an end tag or a start tag
abbrev behind : ℕ → Bool → List ℕ → State
behind p true n = in_end p n
behind p false n = in_tag (bare p n) false

behind_end : (p : ℕ) (ends : Bool) (a : ℕ) (m : List ℕ) (at : ℕ)
    → at_end (in_name p ends (a ∷ m)) at ≡ at_end (behind p ends (a ∷ m)) at
unfolding at_end
behind_end p true a m at = refl
behind_end p false a m at = refl

behind_step : (p : ℕ) (ends : Bool) (a : ℕ) (m : List ℕ) (at b : ℕ) (s : List ℕ) → in_a_name b ≡ false
    → step (in_name p ends (a ∷ m)) at b s ≡ step (behind p ends (a ∷ m)) at b s
unfolding step continues_name behind_name
behind_step p true a m at b s e = rw e
behind_step p false a m at b s e = rw e

-- a whole name, from its first byte on
name_read : (s : List ℕ) (p i n : ℕ) (ends : Bool) → i < length s → starts_name (get_or s i 0) ≡ true → NameEnds s (i + 1) n
    → tokens_at s (in_name p ends []) i ≡ tokens_at s (behind p ends (bytes_between s i n)) n
name_read s p i n ends h e r =
    to_next s (in_name p ends []) i h (in_name p ends (get_or s i 0 ∷ [])) (unfold step continues_name in rw e)
    ∙ r.read.tag p ends (get_or s i 0) []
    ∙ same_at s (in_name p ends (get_or s i 0 ∷ others)) (behind p ends (get_or s i 0 ∷ others)) n r.read.high
    (behind_end p ends (get_or s i 0) others (length s))
    (λ k. behind_step p ends (get_or s i 0) others n (get_or s n 0) (drop (suc n) s) (r.stops k))
    ∙ ap (λ (l : List ℕ). tokens_at s (behind p ends l) n) (first_byte s i n h r.read.low)
  where
    others : List ℕ
    others = bytes_between s (i + 1) n

-- a start tag
pub start_read : (s : List ℕ) (p i n : ℕ) → i < length s → starts_name (get_or s i 0) ≡ true → NameEnds s (i + 1) n
    → StartRead s (in_name p false []) p i i n
start_read s p i n h e r =
    let low = r.read.low in
    record {
      name = record { ordered = omega arith; inside = r.read.high };
      ahead = omega arith;
      inside = r.read.high;
      same = name_read s p i n false h e r;
    }

module _ (s : List ℕ) (p i : ℕ) (h : i < length s) (no_name : starts_name (get_or s i 0) ≡ false) where
  pub slash_read : get_or s i 0 ≡ '/' → (r : Markup) → Marked s (in_name p true []) p (i + 1) r
      → Marked s (in_name p false []) p i r
  slash_read e r x =
      carry s (in_name p false []) (in_name p true []) p i (i + 1) r (omega arith)
      (to_next s (in_name p false []) i h (in_name p true [])
      (unfold step continues_name behind_name in rw (no_name, eq-eqb (get_or s i 0) '/' e))) x

  pub no_tag : (get_or s i 0 ≡ '/' → ⊥) → Marked s (in_name p false []) p i (Fault p)
  no_tag e =
      at_stop s (in_name p false []) i h (fault p)
      (unfold step continues_name behind_name in rw (no_name, ne_eqb (get_or s i 0) '/' e))

  pub no_end_name : Marked s (in_name p true []) p i (Fault p)
  no_end_name = at_stop s (in_name p true []) i h (fault p) (unfold step continues_name behind_name in rw no_name)

-- an end tag
pub name_cut : (s : List ℕ) (p i : ℕ) → i ≤ length s → length s ≤ i → Marked s (in_name p true []) p i Short
unfolding at_end
name_cut s p i h k = text_ends s (in_name p true []) i h k

-- its name from i to n, blanks from there to e
module _ (s : List ℕ) (p i n e : ℕ) (h : i < length s) (is_name : starts_name (get_or s i 0) ≡ true)
    (r : NameEnds s (i + 1) n) (b : BlanksEnd s n e) where
  to_end : tokens_at s (in_name p true []) i ≡ tokens_at s (in_end p (bytes_between s i n)) e
  to_end = name_read s p i n true h is_name r ∙ b.read.in_end_tag p (bytes_between s i n)

  pub end_cut : length s ≤ e → Marked s (in_name p true []) p i Short
  unfolding at_end
  end_cut k = to_end ∙ text_ends s (in_end p (bytes_between s i n)) e b.read.high k

  pub end_wrong : e < length s → (get_or s e 0 ≡ '>' → ⊥) → Marked s (in_name p true []) p i (Fault p)
  end_wrong k q =
      to_end
      ∙ at_stop s (in_end p (bytes_between s i n)) e k (fault p)
      (unfold step in_end_step in rw (b.stops k, ne_eqb (get_or s e 0) '>' q))

  pub end_read : e < length s → get_or s e 0 ≡ '>' → CloseRead s (in_name p true []) p i i n (e + 1)
  end_read k q =
      let low = r.read.low in
      let lower = b.read.low in
      let name : List ℕ = bytes_between s i n in
      record {
        name = record { ordered = omega arith; inside = r.read.high };
        ahead = omega arith;
        inside = omega arith;
        same = to_end
            ∙ at_give s (in_end p name) e k (end_tag p name ∷ []) 0
            (unfold step in_end_step in rw (b.stops k, eq-eqb (get_or s e 0) '>' q)) (omega arith)
            ∙ ap (λ (j : ℕ). end_tag p name ∷ tokens_at s outside_tags j) (let z : suc e + 0 ≡ e + 1 = omega arith in z);
      }
