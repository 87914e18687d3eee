-- Document 02, order 6: the view, and what is claimed of it.
use Rattle.std.specs.Prelude.{ℕ, suc, ◌≡◌, Bool, true, false, cond, List, [], ◌∷◌, length, ltb}
use Rattle.xliff.specs.Bytes.{'I', Bytes}
use Rattle.xliff.specs.Answer.{applies, Outcome, unless}
use Rattle.xliff.specs.Item.{Content}
use Rattle.xliff.specs.Unit.{Segment, Head, segment, ignorable, Target, no_target, Part, XliffUnit, with_state}
use Rattle.xliff.specs.Encode.{encode}
use Rattle.xliff.specs.Parse.{unit}
use Rattle.xliff.specs.Check.{Valid, operation}
use Rattle.xliff.specs.Focus.{with_parts}
use Rattle.grants.specs.Grant.{engineer, Grant, within, Grant·all}

-- "The view is the table without the targets of parts outside the grant, the state there shown as I, orders kept."
-- Every segment there, with or without target
abbrev pub hidden : Part → Part
hidden p = record { head = with_state 'I' p.head; source = p.source; target = no_target }

unfoldable pub shown : Bool → Part → Part
shown inside p = cond inside p (hidden p)

-- the parts from a position on
unfoldable pub view_parts : Grant → ℕ → List Part → List Part
view_parts g n [] = []
view_parts g n (p ∷ ps) = shown (within g n) p ∷ view_parts g (suc n) ps

unfoldable pub view_unit : Grant → XliffUnit → XliffUnit
view_unit g u = with_parts u (view_parts g 1 u.parts)

-- the table's check, then 15: an output too short for the view. "the view need not pass the check"
unfoldable pub view : List ℕ → Grant → ℕ → Outcome
view t g room =
    let v = view_unit g (unit t) in
    operation t (applies 15 (ltb room (length (encode v)))) v

-- What is claimed of it. (Statements, not their proofs.)
-- "Valid units that differ only in those targets and states have the same view in every byte." Two heads that differ at
-- most in the state
pub data SameButState : Head → Head → Type 0 where
  two_segments : (f k : Segment) → f.id ≡ k.id → f.can_resegment ≡ k.can_resegment
      → SameButState (segment f) (segment k)
  two_ignorables : (i : ℕ) → SameButState (ignorable i) (ignorable i)

-- Two lists of parts, from a position on, that differ at most in the targets and states of parts outside the grant
pub data DifferOutside (g : Grant) : ℕ → List Part → List Part → Type 0 where
  no_parts : (n : ℕ) → DifferOutside g n [] []
  inside : (n : ℕ) (p : Part) (ps qs : List Part) → within g n ≡ true → DifferOutside g (suc n) ps qs
      → DifferOutside g n (p ∷ ps) (p ∷ qs)
  outside : (n : ℕ) (h k : Head) (xs : Content) (a b : Target) (ps qs : List Part)
      → within g n ≡ false → SameButState h k → DifferOutside g (suc n) ps qs
      → DifferOutside g n
      (record { head = h; source = xs; target = a } ∷ ps) (record { head = k; source = xs; target = b } ∷ qs)

unfoldable pub SameView : Type 0
SameView =
    (s t : List ℕ) (g : Grant) (room : ℕ) → Valid s → Valid t → (unit s).opening ≡ (unit t).opening
    → DifferOutside g 1 (unit s).parts (unit t).parts → view s g room ≡ view t g room

-- "An engineer's grant counts as every part, so that view is the whole table."
unfoldable pub EngineersView : Type 0
EngineersView =
    (t : List ℕ) (g : Grant) (room : ℕ) → Bytes t → Valid t → g.role ≡ engineer
    → view t g room ≡ unless (applies 15 (ltb room (length t))) t

unfoldable pub View·all : Unit {0}
unfolding Grant·all shown view_parts view_unit view
View·all = tt
