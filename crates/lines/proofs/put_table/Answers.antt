use lib.ListN.{length-append}
use mathlib.Core.List.{[], ◌∷◌}
use mathlib.Core.Path.{◌∙◌}
use native.Mathlib.Omega.{arith}
use Rattle.writer.proofs.PieceLaws.{over_lead}
use Rattle.lines.specs.Lines.{hex}
use Rattle.xliff.specs.Desk.{table_line}
use borrow.Author.Rules.{rules}
use Rattle.lines.proofs.put_table.Goals as goal

-- writer::put_byte(out, n, b'\n')
pub returns : goal.returns
unfolding table_line hex
returns c =
    let args = c.args in
    let t = args.t.now in
    let put-hex = c.put_hex-n in
    let put_byte = c.put_byte in (
      omega (arith, put_byte.ensures.0, put-hex.ensures.0, length-append (hex t) (10 ∷ [])),
      put_byte.ensures.1
          ∙ over_lead args.out.now (hex t) (10 ∷ []) put-hex.new.out put-hex.result put-hex.ensures.1
          put-hex.ensures.0,
    )
