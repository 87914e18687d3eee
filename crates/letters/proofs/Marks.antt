-- Rule 8 on markers: texts and characters do not bear on it.
use mathlib.Core.Path.{◌≡◌}
use mathlib.Core.Bool.{false}
use Rattle.xliff.specs.Bytes.{among}
use Rattle.xliff.specs.Item.{Item, other_half, is_fixed}
use Rattle.xliff.specs.Rules.{bad_8_target, bad_8_source, fixed_but_free, is_F, unled}
use Rattle.places.specs.Markers.{is_marked, OnMarks}
use Rattle.places.proofs.Tests.{any_marked}
use Rattle.places.proofs.Ten.{no_class}
use Rattle.halves.proofs.Others.{other_unmarked, nearest_marked}

led_unmarked : (x : Item) → is_marked x ≡ false → is_F x ≡ false
unfolding is_F among
led_unmarked x e = rw (no_class x e)

pub on_8_target : OnMarks bad_8_target bad_8_target
unfolding bad_8_target fixed_but_free is_fixed among
on_8_target =
    record {
      unmarked = λ before x after e. rw (no_class x e);
      alone = λ before x after e. rw (nearest_marked (other_half x) (other_unmarked x) before);
    }

pub on_8_source : OnMarks bad_8_source bad_8_source
unfolding bad_8_source bad_8_target fixed_but_free is_fixed among unled
on_8_source =
    record {
      unmarked = λ before x after e. rw (no_class x e);
      alone = λ before x after e. rw (nearest_marked (other_half x) (other_unmarked x) before, any_marked is_F led_unmarked before);
    }
