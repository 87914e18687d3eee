use Rattle.nesting.proofs.is_apart.Goals as goal

-- a bar, or a half in form P that is turned away
pub returns : goal.returns
returns c =
    simp (
      c.half_of.ensures,
      c.half_of-2.ensures,
      c.is_other.ensures,
      c.class_of.ensures,
      c.is_form_p.ensures,
    )
