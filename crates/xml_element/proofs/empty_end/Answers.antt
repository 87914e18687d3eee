use mathlib.Core.Path.{sym, ◌∙◌}
use Rattle.xml_element.specs.Opens.{spelled}
use Rattle.xml_element.proofs.EmptyLaws.{tag_blamed, end_closes, other_closes, cut_at_end, at_fault, text_blamed}
use Rattle.xml_element.proofs.empty_end.Goals as goal

-- return Err(blamed_tag(..))
pub returns-in-Start : goal.returns-in-Start
returns-in-Start c =
    let args = c.args in
    let text = args.text.now in
    let loop = c.loop-inner in
    let piece = c.piece_at in
    tag_blamed text (spelled text args.name) args.start loop.at loop.invariant piece.result piece.ensures _ _
    c.in-Start.is c.blamed_tag.ensures

-- return Ok(next)
pub returns-then-ends_name : goal.returns-then-ends_name
returns-then-ends_name c =
    let args = c.args in
    let text = args.text.now in
    let loop = c.loop-inner in
    let piece = c.piece_at in
    end_closes text (spelled text args.name) args.start loop.at loop.invariant piece.result piece.ensures _ _
    c.in-Close.is (sym c.ends_name.ensures ∙ c.if-ends_name.true)

-- return Err(Blamed { place: at }): another end tag
pub returns-in-Close : goal.returns-in-Close
returns-in-Close c =
    let args = c.args in
    let text = args.text.now in
    let loop = c.loop-inner in
    let piece = c.piece_at in
    other_closes text (spelled text args.name) args.start loop.at loop.invariant piece.result piece.ensures _ _
    c.in-Close.is (sym c.ends_name.ensures ∙ c.if-ends_name.false)

-- return Err(Blamed { place: text.len() })
pub returns-in-CutTag : goal.returns-in-CutTag
returns-in-CutTag c =
    let args = c.args in
    let text = args.text.now in
    let loop = c.loop-inner in
    let piece = c.piece_at in
    cut_at_end text (spelled text args.name) args.start loop.at loop.invariant piece.result piece.ensures c.in-CutTag.is

-- return Err(Blamed { place })
pub returns-in-Fault : goal.returns-in-Fault
returns-in-Fault c =
    let args = c.args in
    let text = args.text.now in
    let loop = c.loop-inner in
    let piece = c.piece_at in
    at_fault text (spelled text args.name) args.start loop.at loop.invariant piece.result piece.ensures _ c.in-Fault.is

-- text, of any kind, or the text's end: return Err(Blamed { place: at })
pub returns-in-Character : goal.returns-in-Character
returns-in-Character c =
    let args = c.args in
    let text = args.text.now in
    let loop = c.loop-inner in
    let piece = c.piece_at in
    text_blamed text (spelled text args.name) args.start loop.at loop.invariant piece.result piece.ensures
    c.in-Character.is
