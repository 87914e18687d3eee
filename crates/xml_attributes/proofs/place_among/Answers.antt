use Rattle.std.proofs.Common.{rules, tests}
use Rattle.std.proofs.lemmas.Iterator.{YieldsList-from_slice}
use Rattle.std.proofs.lemmas.Iterator.Search.{position_from_yields_List}
use Rattle.xml_attributes.proofs.PositionLaws.{is_name, place_told}
use Rattle.xml_attributes.proofs.place_among.Goals as goal

-- words.iter().position(|word| is_word(name, word))
pub returns : goal.returns
returns c =
    let name = c.args.name.now in
    let words = c.args.words.now in
    place_told name words _
    (position_from_yields_List (is_name name) _ _ _ c.position.ensures.ran (YieldsList-from_slice words cc)
    (λ x b q k. search (rules, tests)))
