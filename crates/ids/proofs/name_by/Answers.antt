use Rattle.ids.specs.Keys.{name_by}
use Rattle.ids.proofs.name_by.Goals as goal

-- no marker, or an end
pub returns-then-class_of-half_of : goal.returns-then-class_of-half_of
unfolding name_by
returns-then-class_of-half_of c = simp (← c.class_of.ensures, ← c.half_of.ensures, c.if-class_of-half_of.true)

-- the id and the owner
pub returns : goal.returns
unfolding name_by
returns c =
    simp (
      ← c.class_of.ensures,
      ← c.half_of.ensures,
      c.if-class_of-half_of.false,
      c.id_of.ensures,
    )
