-- One more blank.
use Prim.Native.Nat.{ℕ, ◌+◌, ◌≤◌, ◌<◌}
use mathlib.Core.Path.{◌≡◌, refl, sym, ap, ◌∙◌}
use mathlib.Core.Bool.{Bool, true, cond}
use mathlib.Core.List.{List}
use native.Mathlib.Omega.{arith}
use lib.ListN.{length, get_or}
use lib.Dec.{ltb}
use borrow.Author.Tests.{le-ltb, lt-ltb}
use Rattle.xml.specs.Characters.{is_blank}
use Rattle.xml.specs.Tokens.{in_end, in_tag, equals_due, value_due, step, in_end_step, in_tag_step, equals_step}
use Rattle.xml.specs.Places.{tokens_at}
use Rattle.xml.proofs.PlaceLaws.{to_next}
use Rattle.xml_names.proofs.PrefixLaws.{behind, ends_behind}
use Rattle.xml_values.specs.Blanks.{BlanksRead, BlanksEnd}

no_blank : (s : List ℕ) (at : ℕ) → at ≤ length s → BlanksRead s at at
no_blank s at h =
    record {
      low = omega arith;
      high = h;
      in_end_tag = λ p n. refl;
      in_start_tag = λ t spaced. rw (le-ltb at at (omega arith));
      before_equals = λ t n. refl;
      before_value = λ t n. refl;
    }

blank_more : (s : List ℕ) (at i : ℕ) → BlanksRead s at i → i < length s → is_blank (get_or s i 0) ≡ true
    → BlanksRead s at (i + 1)
blank_more s at i r h c =
    let low = r.low in
    record {
      low = omega arith;
      high = omega arith;
      in_end_tag = λ p n. r.in_end_tag p n ∙ to_next s (in_end p n) i h (in_end p n) (unfold step in_end_step in rw c);
      in_start_tag = λ t spaced.
          r.in_start_tag t spaced
          ∙ to_next s (in_tag t (cond (ltb at i) true spaced)) i h (in_tag t true) (unfold step in_tag_step in rw c)
          ∙ ap (λ (x : Bool). tokens_at s (in_tag t (cond x true spaced)) (i + 1))
          (sym (lt-ltb at (i + 1) (omega arith)));
      before_equals =
          λ t n. r.before_equals t n ∙ to_next s (equals_due t n) i h (equals_due t n) (unfold step equals_step in rw c);
      before_value = λ t n. r.before_value t n ∙ to_next s (value_due t n) i h (value_due t n) (unfold step in rw c);
    }

-- behind all blanks
pub blanks_end : (s : List ℕ) (from : ℕ) → from ≤ length s → BlanksEnd s from (behind is_blank s from)
blanks_end s from h =
    let ends = ends_behind is_blank s (BlanksRead s from) (blank_more s from) from (no_blank s from h) in
    record { read = ends.holds; stops = ends.stops }
