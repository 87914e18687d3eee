use Rattle.xliff.specs.Answer.{refused}
use Rattle.xliff.specs.Desk.{line, table_line}
use lib.ListN.{length-append}
use native.Mathlib.Omega.{arith}
use Rattle.writer.proofs.PieceLaws.{two_back}
use Rattle.lines.proofs.LineLaws.{table_line_length}
use Rattle.job.proofs.put_unreadable.Goals as goal

-- k + lines::put_table(&mut out[k..], t)
pub overflow_add-result : goal.overflow_add-result
overflow_add-result c =
    let put-line = c.put_line-k in
    omega (
      arith,
      put-line.ensures.2,
      c.put_table.ensures.0,
      table_line_length c.args.t.now,
      c.requires.0,
    )

-- k + lines::put_table(&mut out[k..], t)
pub returns : goal.returns
returns c =
    let args = c.args in
    let at₀ = args.at in
    let t = args.t.now in
    let put-line = c.put_line-k in
    let put-table = c.put_table in (
      omega
          (arith, put-line.ensures.0, put-table.ensures.0, length-append (line (refused 2 at₀)) (table_line t)),
      two_back args.out.now (line (refused 2 at₀)) (table_line t) put-line.new.out put-table.new.out
          put-line.result put-line.ensures.0 put-line.ensures.1 put-table.ensures.1,
      omega (arith, put-line.ensures.2, put-table.ensures.0, table_line_length t, c.requires.0),
    )
