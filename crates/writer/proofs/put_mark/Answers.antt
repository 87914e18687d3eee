use Rattle.writer.proofs.PieceLaws.{two_copied, mark_bytes}
use Rattle.writer.specs.Pieces.{bytes_of_mark}
use mathlib.Core.Path.{refl, ◌∙◌}
use Rattle.writer.proofs.put_mark.Goals as goal

-- the two bytes copied
pub returns : goal.returns
returns c =
    let args = c.args in
    let m = args.m.now in
    let bytes = c.copy_from_slice.ensures.after ∙ mark_bytes m c.told-m in
    (refl, two_copied args.out.now _ (bytes_of_mark m) args.at bytes refl)
