-- Rule 9 on markers: texts and characters do not bear on it.
use mathlib.Core.Path.{◌≡◌, refl, ap, ◌∙◌}
use mathlib.Core.Bool.{Bool, true, false, cond, not, ◌&&◌, ◌||◌}
use mathlib.Core.List.{[], ◌∷◌}
use mathlib.Core.Option.{Option, none, some}
use Rattle.xliff.specs.Bytes.{any, keep}
use Rattle.xliff.specs.Item.{Item, Content, is_pair, is_isolated, other_half}
use Rattle.xliff.specs.Rules.{behind_item, enclosed, stray, any_stray, bad_9}
use Rattle.places.specs.Markers.{is_marked, only_markers, OnMarks}
use Rattle.places.proofs.Tests.{any_marked}
use Rattle.places.proofs.Ten.{no_class}
use Rattle.halves.proofs.Others.{other_unmarked}

marked_in : Option Content → Option Content
marked_in none = none
marked_in (some zs) = some (only_markers zs)

-- an item behind which more is enclosed
behind_marked : (y : Item) (o : Option Content) → is_marked y ≡ true → behind_item y (marked_in o) ≡ marked_in (behind_item y o)
unfolding behind_item marked_in only_markers keep
behind_marked y none e = refl
behind_marked y (some zs) e = rw e

behind_unmarked : (y : Item) (o : Option Content) → is_marked y ≡ false → marked_in o ≡ marked_in (behind_item y o)
unfolding behind_item marked_in only_markers keep
behind_unmarked y none e = refl
behind_unmarked y (some zs) e = rw e

enclosed_marked : (x : Item) (ys : Content) → enclosed x (only_markers ys) ≡ marked_in (enclosed x ys)
unfolding enclosed only_markers keep marked_in
enclosed_marked x [] = refl
enclosed_marked x (y ∷ ys) = by (is_marked y) refl (enclosed_marked x ys)
  where
    met : (b : Bool) → is_marked y ≡ true → enclosed x (keep is_marked ys) ≡ marked_in (enclosed x ys)
        → cond b (some []) (behind_item y (enclosed x (keep is_marked ys))) ≡ marked_in (cond b (some []) (behind_item y (enclosed x ys)))
    met true e ih = refl
    met false e ih = ap (behind_item y) ih ∙ behind_marked y (enclosed x ys) e

    by : (b : Bool) → is_marked y ≡ b → enclosed x (keep is_marked ys) ≡ marked_in (enclosed x ys)
        → enclosed x (cond b (y ∷ keep is_marked ys) (keep is_marked ys)) ≡ marked_in (cond (other_half x y) (some []) (behind_item y (enclosed x ys)))
    by true e ih = met (other_half x y) e ih
    by false e ih = rw (other_unmarked x y e) (ih ∙ behind_unmarked y (enclosed x ys) e)

stray_unmarked : (inside : Content) (y : Item) → is_marked y ≡ false → stray inside y ≡ false
unfolding stray
stray_unmarked inside y e = rw (no_class y e)

stray_marked : (inside : Content) (y : Item) → stray inside y ≡ stray (only_markers inside) y
unfolding stray
stray_marked inside y = ap (λ (b : Bool). is_isolated y || is_pair y && not b) (any_marked (other_half y) (other_unmarked y) inside)

any_stray_marked : (o : Option Content) → any_stray o ≡ any_stray (marked_in o)
unfolding any_stray marked_in
any_stray_marked none = refl
any_stray_marked (some zs) =
    any_marked (stray zs) (stray_unmarked zs) zs ∙ ap (λ (p : Item → Bool). any p (only_markers zs)) (λ i y. stray_marked zs y i)

pub on_9 : OnMarks bad_9 bad_9
unfolding bad_9
on_9 =
    record {
      unmarked = λ before x after e. rw (no_class x e);
      alone = λ before x after e. rw (any_stray_marked (enclosed x after), ← enclosed_marked x after);
    }
