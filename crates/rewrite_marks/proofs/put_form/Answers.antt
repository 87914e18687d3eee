use Rattle.places.specs.Markers.{item_at}
use Rattle.rewrite_marks.proofs.FormLaws.{formed_outside, formed_half, formed_none}
use Rattle.rewrite_marks.proofs.put_form.Goals as goal

-- the mark of a half of the id
pub returns-then-half-id_of : goal.returns-then-half-id_of
returns-then-half-id_of c =
    let id = c.id_of in
    let half = c.half_of-half in
    let key = c.key_at-k in
    let args = c.args in
    let x = item_at args.t.now args.at in
    formed_half args.inside args.id args.p x args.out.now args.at key.result half.result key.ensures half.ensures
    c.class_of.result c.put_half-e.new.out c.class_of.ensures c.if-inside.true (rw id.ensures at c.if-half-id_of.true) c.put_half-e.ensures.1

-- an item that is no half of the id
pub returns-else-half-id_of : goal.returns-else-half-id_of
returns-else-half-id_of c =
    let id = c.id_of in
    let half = c.half_of-half in
    let key = c.key_at-k in
    let args = c.args in
    let x = item_at args.t.now args.at in
    formed_none args.inside args.id args.p x args.out.now args.at key.result half.result key.ensures half.ensures
    (rw id.ensures at c.if-half-id_of.false)

-- an item outside the contents of the side
pub returns-else-inside : goal.returns-else-inside
returns-else-inside c =
    let args = c.args in
    formed_outside args.inside args.id args.p (item_at args.t.now args.at) args.out.now args.at c.if-inside.false
