-- The name of an attribute, and its =.
use Prim.Native.Nat.{ℕ, ◌+◌, ◌≤◌, ◌<◌}
use mathlib.Core.Path.{◌≡◌, refl, sym, ap, ◌∙◌}
use mathlib.Core.Bool.{Bool, true, false, true≢false}
use mathlib.Core.List.{List, [], ◌∷◌}
use native.Mathlib.Omega.{arith}
use lib.ListN.{length, get_or}
use lib.Dec.{eqb}
use borrow.Author.Tests.{eqb-true, eq-eqb, ne_eqb}
use Rattle.xml.specs.Characters.{'>', '/', '=', space, tab, line_feed, carriage_return, is_blank, starts_name, continues_name, Characters·all}
use Rattle.xml.specs.Tokens.{fault, Tag, in_tag, in_attribute, equals_due, value_due, in_tag_step, equals_step, step, at_end}
use Rattle.xml.specs.Places.{tokens_at}
use Rattle.xml.proofs.PlaceLaws.{to_next, at_stop, text_ends, same_at}
use Rattle.xml_names.specs.Names.{bytes_between, NameEnds}
use Rattle.xml_names.proofs.NameLaws.{first_byte}
use Rattle.xml_values.specs.Blanks.{BlanksEnd}
use Rattle.xml_attribute.specs.declared.Next.{Next}
use Rattle.xml_front.specs.declared.Flaw.{Flaw}
use Rattle.xml_front.specs.declared.Flaw.TheVariants.{Cut, Wrong}
use Rattle.std.specs.Prelude.{Result, Err}
use Rattle.xml_attribute.specs.Attribute.{Reading}
use Rattle.xml_attribute.proofs.ReadingLaws.{carry}

-- a byte that begins a name is none of the marks
apart : (b k : ℕ) → starts_name b ≡ true → starts_name k ≡ false → eqb b k ≡ false
apart b k h e = by (eqb b k) refl
  where
    by : (x : Bool) → eqb b k ≡ x → x ≡ false
    by true g = absurd (true≢false (sym h ∙ ap starts_name (eqb-true b k g) ∙ e))
    by false g = refl

no_mark : (b : ℕ) → starts_name b ≡ true → (is_blank b ≡ false) × (eqb b '>' ≡ false) × (eqb b '/' ≡ false)
unfolding Characters·all
no_mark b e = (
  rw (apart b space e refl, apart b tab e refl, apart b line_feed e refl, apart b carriage_return e refl),
  apart b '>' e refl,
  apart b '/' e refl,
)

name_begins : (s : List ℕ) (i : ℕ) → i < length s → starts_name (get_or s i 0) ≡ true → (t : Tag)
    → tokens_at s (in_tag t true) i ≡ tokens_at s (in_attribute t (get_or s i 0 ∷ [])) (i + 1)
unfolding step in_tag_step continues_name
name_begins s i h e t =
    let (no_blank, no_end, no_slash) = no_mark (get_or s i 0) e in
    to_next s (in_tag t true) i h (in_attribute t (get_or s i 0 ∷ []))
    (rw (no_blank, no_end, no_slash, e))

-- it ends, and = is due
equals_next : (s : List ℕ) (from n : ℕ) → NameEnds s from n → (t : Tag) (a : ℕ) (m : List ℕ)
    → tokens_at s (in_attribute t (a ∷ m)) n ≡ tokens_at s (equals_due t (a ∷ m)) n
equals_next s from n r t a m =
    same_at s (in_attribute t (a ∷ m)) (equals_due t (a ∷ m)) n r.read.high (unfold at_end in refl)
    (λ h. unfold step continues_name in rw (r.stops h))

-- a name from i to n, blanks from there to e
module _ (s : List ℕ) (i n e : ℕ) (h : i < length s) (is_name : starts_name (get_or s i 0) ≡ true)
    (r : NameEnds s (i + 1) n) (b : BlanksEnd s n e) where
  name : List ℕ
  name = bytes_between s i n

  name_read : (t : Tag) → tokens_at s (in_tag t true) i ≡ tokens_at s (equals_due t name) e
  unfolding name
  name_read t =
      name_begins s i h is_name t ∙ r.read.attribute t (get_or s i 0) []
      ∙ equals_next s (i + 1) n r t (get_or s i 0) (bytes_between s (i + 1) n)
      ∙ ap (λ (l : List ℕ). tokens_at s (equals_due t l) n) (first_byte s i n h r.read.low)
      ∙ b.read.before_equals t (bytes_between s i n)

  pub equals_missing : length s ≤ e → Reading s (λ t. in_tag t true) i (Err Cut)
  unfolding at_end
  equals_missing k t = name_read t ∙ text_ends s (equals_due t name) e b.read.high k

  pub equals_wrong : e < length s → (get_or s e 0 ≡ '=' → ⊥) → Reading s (λ t. in_tag t true) i (Err Wrong)
  equals_wrong k q t =
      name_read t
      ∙ at_stop s (equals_due t name) e k (fault t.place)
      (unfold step equals_step in rw (b.stops k, ne_eqb (get_or s e 0) '=' q))

  pub equals_read : e < length s → get_or s e 0 ≡ '=' → (x : Result Next Flaw)
      → Reading s (λ t. value_due t (bytes_between s i n)) (e + 1) x → Reading s (λ t. in_tag t true) i x
  unfolding name
  equals_read k q x y =
      let low = r.read.low in
      let lower = b.read.low in
      carry s (λ t. in_tag t true) (λ t. value_due t (bytes_between s i n)) i (e + 1) x (omega arith)
      (λ t.
      name_read t
      ∙ to_next s (equals_due t name) e k (value_due t name)
      (unfold step equals_step in rw (b.stops k, eq-eqb (get_or s e 0) '=' q))) y
