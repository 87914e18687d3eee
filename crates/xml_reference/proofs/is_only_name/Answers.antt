use Rattle.xml_reference.proofs.NameLaws.{only_is}
use Rattle.xliff.proofs.lists.Slices.{tail_is}
use borrow.Author.Rules.{rules}
use Rattle.xml_reference.proofs.is_only_name.Goals as goal

-- name_starts(text[0]) & goes_to_end(&text[1..])
pub returns : goal.returns
returns c =
    let text = c.args.text.now in
    simp (
      c.name_starts.ensures,
      simp tail_is at c.goes_to_end.ensures,
      only_is text (search rules),
    )
