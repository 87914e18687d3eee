use mathlib.Core.Path.{◌∙◌, refl, ap, sym}
use lib.ListN.{get_or}
use borrow.Author.Tests.{eq-eqb, ne_eqb}
use Rattle.places.specs.Markers.{item_at}
use Rattle.halves.proofs.Others.{key_there, view_there}
use Rattle.views.specs.declared.View.{View}
use Rattle.source_match.specs.declared.Matches.{Matches}
use Rattle.source_match.specs.Ten.{joined, matches_of}
use Rattle.source_match.proofs.MatchLaws.{matches_other_id, matches_same_id}
use Rattle.source_match.proofs.LinkedItems.one_more.Goals as goal

-- return found
pub returns-then-not-id_of-from : goal.returns-then-not-id_of-from
returns-then-not-id_of-from c =
    let s = c.args.self in
    let i = c.args.i in
    let at = get_or s.sequence.markers.now i 0 in
    matches_other_id c.args.id c.args.x (item_at s.t.now at) (get_or s.sequence.keys.now i 0) c.args.found
    (key_there s.t.now s.sequence.markers.now _ s.linked.0 i at c.requires refl)
    (ne_eqb _ _ (λ z. c.if-not-id_of-from.true (c.id_of.ensures ∙ z ∙ sym c.from.ensures)))

-- keys::view_at(self.t, at, k)
pub view_at-requires : goal.view_at-requires
view_at-requires c =
    let s = c.args.self in
    key_there s.t.now s.sequence.markers.now _ s.linked.0 c.args.i c.wide-at.result c.requires c.wide-at.ensures.0

-- found.join(Matches::of(x, keys::view_at(self.t, at, k)))
pub returns : goal.returns
returns c =
    let s = c.args.self in
    let i = c.args.i in
    let x = c.args.x in
    let at = get_or s.sequence.markers.now i 0 in
    c.join.ensures
    ∙ ap (joined c.args.found)
    (c.of.ensures
    ∙ ap (λ (v : View). matches_of x v)
    (view_there s.t.now s.sequence.markers.now i c.wide-at.result c.view_at.result c.wide-at.ensures.0 c.view_at.ensures)
    ∙ matches_same_id c.args.id x (item_at s.t.now at) (get_or s.sequence.keys.now i 0)
    (key_there s.t.now s.sequence.markers.now _ s.linked.0 i at c.requires refl)
    (eq-eqb _ _ (sym c.id_of.ensures ∙ c.if-not-id_of-from.false ∙ c.from.ensures)))
