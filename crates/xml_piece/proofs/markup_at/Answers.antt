use Rattle.xml_piece.proofs.PieceLaws.{markup_read}
use Rattle.xml_piece.proofs.markup_at.Goals as goal

-- Markup::Start(name) => Piece::Start(name)
pub returns-in-Start : goal.returns-in-Start
returns-in-Start c =
    let args = c.args in
    let tag_at = c.tag_at in
    markup_read args.text.now args.at tag_at.result _ tag_at.ensures c.in-Start.is

-- Markup::Close(name, next) => Piece::Close(name, next)
pub returns-in-Close : goal.returns-in-Close
returns-in-Close c =
    let args = c.args in
    let tag_at = c.tag_at in
    markup_read args.text.now args.at tag_at.result _ tag_at.ensures c.in-Close.is

-- Markup::Comment(next) => Piece::Comment(next)
pub returns-in-Comment : goal.returns-in-Comment
returns-in-Comment c =
    let args = c.args in
    let tag_at = c.tag_at in
    markup_read args.text.now args.at tag_at.result _ tag_at.ensures c.in-Comment.is

-- Markup::Short => Piece::CutTag
pub returns-in-Short : goal.returns-in-Short
returns-in-Short c =
    let args = c.args in
    let tag_at = c.tag_at in
    markup_read args.text.now args.at tag_at.result _ tag_at.ensures c.in-Short.is

-- Markup::Fault(place) => Piece::Fault(place)
pub returns-in-Fault : goal.returns-in-Fault
returns-in-Fault c =
    let args = c.args in
    let tag_at = c.tag_at in
    markup_read args.text.now args.at tag_at.result _ tag_at.ensures c.in-Fault.is
