use native.Mathlib.Omega.{arith}
use mathlib.Core.Path.{ap, ◌∙◌}
use Rattle.draft.proofs.DraftLaws.{wrote_as}
use Rattle.xml_text.specs.Escapes.{escaped_bytes}
use Rattle.xml_text.proofs.EscapeLaws.{escaped_text}
use Rattle.places.proofs.Texts.{text_fits, text_there}
use Rattle.xml_writer.proofs.put_text.Goals as goal

-- at + marks::TEXT_WIDTH
pub overflow_add-start : goal.overflow_add-start
overflow_add-start c =
    let pre = c.requires in
    let args = c.args in
    let (cs, rs, a, e) = pre in
    let f = text_fits args.t.now args.at args.w cs rs a e in
    omega (arith, f.0, f.1)

-- at + w
pub overflow_add-end : goal.overflow_add-end
overflow_add-end c =
    let pre = c.requires in
    let args = c.args in
    let (cs, rs, a, e) = pre in
    let f = text_fits args.t.now args.at args.w cs rs a e in
    omega (arith, f.0, f.1)

-- &t[start..end]
pub slice_bounds-put_text-count : goal.slice_bounds-put_text-count
slice_bounds-put_text-count c =
    let pre = c.requires in
    let args = c.args in
    let (cs, rs, a, e) = pre in
    let f = text_fits args.t.now args.at args.w cs rs a e in
    omega (arith, f.0, f.1)

-- &t[start..]
pub slice_bounds-put_text-start : goal.slice_bounds-put_text-start
slice_bounds-put_text-start c =
    let pre = c.requires in
    let args = c.args in
    let (cs, rs, a, e) = pre in
    let f = text_fits args.t.now args.at args.w cs rs a e in
    omega (arith, f.0, f.1)

-- ..end
pub slice_bounds-put_text-end : goal.slice_bounds-put_text-end
slice_bounds-put_text-end c =
    let pre = c.requires in
    let args = c.args in
    let (cs, rs, a, e) = pre in
    let f = text_fits args.t.now args.at args.w cs rs a e in
    omega (arith, f.0, f.1)

-- the bytes there are those of the text
pub returns : goal.returns
returns c =
    let put-text = c.put_text in
    let args = c.args in
    λ cs rs a e.
    wrote_as (ap escaped_bytes (text_there args.t.now args.at args.w cs rs a e) ∙ escaped_text cs)
    put-text.ensures
