use Rattle.xml_words.proofs.CodeLaws.{code_of_reference, code_of_blank, code_of_other}
use mathlib.Core.Path.{sym, ◌∙◌}
use Rattle.xml_words.proofs.code_of.Goals as goal

-- if first == b'&' { return c; }
pub returns-then-first-eq38 : goal.returns-then-first-eq38
returns-then-first-eq38 c =
    let args = c.args in
    code_of_reference args.first args.c c.if-first-eq38.true

-- return b' ' as u32
pub returns-then-is_blank_point : goal.returns-then-is_blank_point
returns-then-is_blank_point c =
    let args = c.args in
    let is-blank-point = c.is_blank_point in
    code_of_blank args.first args.c c.if-first-eq38.false (sym is-blank-point.ensures ∙ c.if-is_blank_point.true)

-- c
pub returns : goal.returns
returns c =
    let args = c.args in
    let is-blank-point = c.is_blank_point in
    code_of_other args.first args.c c.if-first-eq38.false (sym is-blank-point.ensures ∙ c.if-is_blank_point.false)
