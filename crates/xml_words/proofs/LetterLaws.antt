-- A value compared with words, one by one.
use Prim.Native.Nat.{ℕ, ◌+◌, ◌≤◌, ◌<◌}
use mathlib.Core.Path.{◌≡◌, sym, ap, ◌∙◌}
use mathlib.Core.Bool.{true, false}
use mathlib.Core.List.{List}
use mathlib.Core.Option.{Option, none, some}
use native.Mathlib.Numerals.{add-one}
use lib.ListN.{length, get_or, drop, drop_of_length-le}
use lib.Seq.{drop-cons}
use Rattle.std.specs.Borrow.{Bor}
use Rattle.xliff.specs.Bytes.{equal}
use Rattle.xml.specs.Attributes.{letter_of}
use Rattle.xml_words.specs.Codes.{spelled_out}

abbrev Spelled : Type 0
Spelled = Bor (List ℕ) × ℕ

module _ (ws : List Spelled) (v : List ℕ) (i : ℕ) (so_far : letter_of (spelled_out ws) v ≡ letter_of (spelled_out (drop i ws)) v) where
  module _ (d : Spelled) (h : i < length ws) where
    pub this_word : equal v (get_or ws i d).0.now ≡ true → some (get_or ws i d).1 ≡ letter_of (spelled_out ws) v
    unfolding letter_of
    this_word e = sym (so_far ∙ ap (λ (l : List Spelled). letter_of (spelled_out l) v) (drop-cons ws i d h) ∙ rw e)

    pub another_word : equal v (get_or ws i d).0.now ≡ false
        → letter_of (spelled_out ws) v ≡ letter_of (spelled_out (drop (i + 1) ws)) v
    unfolding letter_of
    another_word e =
        so_far ∙ ap (λ (l : List Spelled). letter_of (spelled_out l) v) (drop-cons ws i d h) ∙ rw (e, add-one)

  pub no_word : length ws ≤ i → none ≡ letter_of (spelled_out ws) v
  unfolding letter_of
  no_word h = sym (so_far ∙ ap (λ (l : List Spelled). letter_of (spelled_out l) v) (drop_of_length-le ws {i = i} h))
