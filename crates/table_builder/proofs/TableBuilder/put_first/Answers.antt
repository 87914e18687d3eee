use mathlib.Core.Path.{refl, sym, ◌∙◌}
use mathlib.Core.List.{List, [], ◌∷◌}
use Prim.Native.Nat.{ℕ}
use lib.ListN.{replicate}
use Rattle.xliff.specs.Encode.{text_run}
use Rattle.xliff.specs.Parse.{is_part}
use Rattle.table_builder.specs.Building.{RecordPut, CodePointPut}
use Rattle.table_builder.proofs.TextLaws.{first_wrote, first_passed, first_held}
use Rattle.table_builder.proofs.TableBuilder.put_first.Goals as goal

-- self.text = wide
pub returns-then-not-self-clause-put : goal.returns-then-not-self-clause-put
unfolding RecordPut CodePointPut is_part
returns-then-not-self-clause-put c =
    let point = c.args.c in
    let width = c.width-wide in
    let mark = c.put_mark-length_at in
    let number = c.put_number-text_at in
    let text = c.put_code_point-end in
    let (at_most, free, no_text) = c.requires in
    let spelled =
    first_wrote point width.result (replicate 8 0) mark.new.out number.new.out text.new.out mark.result number.result
    text.result width.ensures.0 mark.ensures.0 mark.ensures.1 number.ensures.0 number.ensures.1 text.ensures.0
    text.ensures.1 in
    λ done run held.
    first_held done run point (sym (held.within free).text ∙ no_text)
    (c.put_record.ensures.put done run (text_run (point ∷ [])) held spelled refl) c.if-not-self.true refl refl refl refl
    refl width.ensures.0

-- a limit is passed
pub returns-else-not-self-clause-put : goal.returns-else-not-self-clause-put
unfolding RecordPut CodePointPut is_part
returns-else-not-self-clause-put c =
    let point = c.args.c in
    let width = c.width-wide in
    let mark = c.put_mark-length_at in
    let number = c.put_number-text_at in
    let text = c.put_code_point-end in
    let (at_most, free, no_text) = c.requires in
    let spelled =
    first_wrote point width.result (replicate 8 0) mark.new.out number.new.out text.new.out mark.result number.result
    text.result width.ensures.0 mark.ensures.0 mark.ensures.1 number.ensures.0 number.ensures.1 text.ensures.0
    text.ensures.1 in
    λ done run held.
    first_passed done run point (sym (held.within free).text ∙ no_text)
    (c.put_record.ensures.put done run (text_run (point ∷ [])) held spelled refl) c.if-not-self.false
