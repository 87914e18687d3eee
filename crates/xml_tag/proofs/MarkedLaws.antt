-- What is read further on is read from here.
use Prim.Native.Nat.{ℕ, ◌≤◌}
use mathlib.Core.Path.{◌≡◌, ◌∙◌}
use mathlib.Core.List.{List}
use native.Mathlib.Omega.{arith}
use Rattle.xml.specs.Tokens.{State}
use Rattle.xml.specs.Places.{tokens_at}
use Rattle.xml_tag.specs.declared.Markup.{Markup}
use Rattle.xml_tag.specs.declared.Markup.TheVariants.{Start, Close, Comment, Short, Fault}
use Rattle.xml_tag.specs.Markups.{Marked}

pub carry : (s : List ℕ) (st st' : State) (p i j : ℕ) (r : Markup) → i ≤ j → tokens_at s st i ≡ tokens_at s st' j
    → Marked s st' p j r → Marked s st p i r
carry s st st' p i j (Start name) l e r =
    record { name = r.name; ahead = let h = r.ahead in omega arith; inside = r.inside; same = e ∙ r.same }
carry s st st' p i j (Close name next) l e r =
    record { name = r.name; ahead = let h = r.ahead in omega arith; inside = r.inside; same = e ∙ r.same }
carry s st st' p i j (Comment next) l e r =
    record { ahead = let h = r.ahead in omega arith; inside = r.inside; same = e ∙ r.same }
carry s st st' p i j Short l e r = e ∙ r
carry s st st' p i j (Fault q) l e r = e ∙ r
