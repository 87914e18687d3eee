use mathlib.Core.Path.{◌∙◌, ap}
use Rattle.xliff.specs.Desk.{decimal}
use Rattle.xml.specs.Write.{number_attribute}
use Rattle.writer.proofs.PieceLaws.{at_head, head_long}
use Rattle.xml_tags.proofs.TagLaws.{value_as}
use Rattle.xml_tags.proofs.put_number.Goals as goal

-- &digits[..k]
pub slice_bounds-put_attribute-end : goal.slice_bounds-put_attribute-end
slice_bounds-put_attribute-end c =
    let put-decimal = c.put_decimal-k in
    let wide = c.wide in
    head_long (decimal wide.result) _ put-decimal.new.out put-decimal.result put-decimal.ensures.0
    put-decimal.ensures.1

-- put_attribute(draft, name, &digits[..k])
pub returns : goal.returns
unfolding number_attribute
returns c =
    let put-attribute = c.put_attribute in
    let put-decimal = c.put_decimal-k in
    let wide = c.wide in
    let args = c.args in
    let digits = at_head (decimal wide.result) _ put-decimal.new.out put-decimal.result
    put-decimal.ensures.0 put-decimal.ensures.1 in
    value_as args.name.now (digits ∙ ap decimal wide.ensures.0) put-attribute.ensures
