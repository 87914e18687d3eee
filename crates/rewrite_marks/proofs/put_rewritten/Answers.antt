use mathlib.Core.Path.{sym, ◌∙◌}
use native.Mathlib.Omega.{arith}
use Rattle.xliff.specs.Rewrite.{form_of}
use Rattle.rewrite_marks.proofs.LengthLaws.{length_kept}
use Rattle.rewrite_marks.proofs.ResultLaws.{copied, result_wrote}
use Rattle.rewrite_marks.proofs.put_rewritten.Goals as goal

-- put_forms(out, t, side == b'S', u32::from(id), form == b'P')
pub put_forms-requires : goal.put_forms-requires
put_forms-requires c =
    let pre = c.requires in
    let put = c.put-n in (
      pre.0,
      copied c.args.t.now c.args.out.now put.new.out put.ensures.1,
      omega (arith, pre.1, put.auto.out),
    )

-- n
pub returns : goal.returns
returns c =
    let args = c.args in
    let id = args.id in
    let form = args.form in
    let t = args.t.now in
    let side = args.side in
    let pre = c.requires in
    let put = c.put-n in
    let put-forms = c.put_forms in (
      put.ensures.0 ∙ sym (length_kept id (form_of form) t side pre.0),
      result_wrote t side id form pre.0 args.out.now put.new.out put-forms.new.out put.ensures.1
          (rw c.from.ensures at put-forms.ensures),
    )
