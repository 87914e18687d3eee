use Rattle.xml_content.proofs.StepLaws.{start_step, close_step, comment_step, character_step, character_bound, cut_step, fault_step, end_step}
use Rattle.xml_content.proofs.plain_piece.Goals as goal

-- put_code_point(builder, c)
pub put_code_point-requires : goal.put_code_point-requires
put_code_point-requires c =
    character_bound c.args.text.now c.args.at c.piece_at.result c.piece_at.ensures c.in-Character.is

-- Piece::Start(name) => Ok(Stepped::Tag(..))
pub returns-in-Start : goal.returns-in-Start
returns-in-Start c = start_step c.args.text.now c.args.at c.piece_at.result c.piece_at.ensures c.in-Start.is

-- Piece::Close(name, next) => Ok(Stepped::End(..))
pub returns-in-Close : goal.returns-in-Close
returns-in-Close c = close_step c.args.text.now c.args.at c.piece_at.result c.piece_at.ensures c.in-Close.is

-- Piece::Comment(next) => Ok(Stepped::On(next))
pub returns-in-Comment : goal.returns-in-Comment
returns-in-Comment c = comment_step c.args.text.now c.args.at c.piece_at.result c.piece_at.ensures c.in-Comment.is

-- Piece::Character(c, next) | Piece::Reference(c, next): Ok(Stepped::On(next))
pub returns-in-Character : goal.returns-in-Character
returns-in-Character c =
    character_step c.args.text.now c.args.at c.piece_at.result c.piece_at.ensures c.in-Character.is
    c.put_code_point.ensures

-- Piece::CutTag => Err(Blamed { place: text.len() })
pub returns-in-CutTag : goal.returns-in-CutTag
returns-in-CutTag c = cut_step c.args.text.now c.args.at c.piece_at.result c.piece_at.ensures c.in-CutTag.is

-- Piece::Fault(place) | Piece::TextFault(place) => Err(Blamed { place })
pub returns-in-Fault : goal.returns-in-Fault
returns-in-Fault c = fault_step c.args.text.now c.args.at c.piece_at.result c.piece_at.ensures c.in-Fault.is

-- Piece::End => Err(Blamed { place: at })
pub returns-in-End : goal.returns-in-End
returns-in-End c = end_step c.args.text.now c.args.at c.piece_at.result c.piece_at.ensures c.in-End.is

pub returns-in-Fault-2 : goal.returns-in-Fault-2
returns-in-Fault-2 c = fault_step c.args.text.now c.args.at c.piece_at.result c.piece_at.ensures c.in-Fault.is
