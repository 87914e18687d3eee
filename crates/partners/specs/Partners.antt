-- Rule 7 for the marks of start and end (SC EC SM EM), on keys: the specification's definitions with keys in place of
-- items.
use Rattle.std.specs.Prelude.{ℕ, Bool, false, not, ◌&&◌, ◌||◌, cond, List, [], ◌∷◌, ◌++◌, map, eqb}
use Rattle.xliff.specs.Bytes.{any}
use Rattle.xliff.specs.Unit.{Target, no_target, target, Part}
use Rattle.keys.specs.Keys.{key, id_key, half_key, form_key, alike_keys, is_other_key}
use Rattle.places.specs.Markers.{only_markers}
use Rattle.contents.specs.Contents.{run, targeted}
use Rattle.contents.specs.Nesting.{lone_p_Key}

-- a mark of a start or an end of its class and id
abbrev pub is_mark_alike : ℕ → ℕ → Bool
is_mark_alike k y = alike_keys k y && not (form_key y)

-- of the marks of start and end of its class and id, the nearest is the other half
unfoldable pub partner_s_Key : ℕ → List ℕ → Bool
partner_s_Key k [] = false
partner_s_Key k (y ∷ ys) = cond (is_mark_alike k y) (is_other_key k y) (partner_s_Key k ys)

-- a half with the mark of a start or an end without partner; what stands before it in its sequence, the nearest first,
-- and after it
unfoldable pub lone_s_Key : List ℕ → ℕ → List ℕ → Bool
lone_s_Key before k after = not (eqb (half_key k) 0) && (not (form_key k) && not (partner_s_Key k (cond (eqb (half_key k) 1) after before)))

-- the only half of its id in its sequence
unfoldable pub is_half_of_id : ℕ → ℕ → Bool
is_half_of_id i k = not (eqb (half_key k) 0) && eqb (id_key k) i

unfoldable pub only_half : List ℕ → ℕ → List ℕ → Bool
only_half before k after = not (any (is_half_of_id (id_key k)) before) && not (any (is_half_of_id (id_key k)) after)

-- Of the keys of the source contents with bars between them: k is the other half of x, has its partner, and is in a
-- part without target
unfoldable pub waits_key : ℕ → List ℕ → ℕ → List ℕ → Bool
waits_key x before k after =
    is_other_key x k && (not (lone_p_Key (run before) k (run after)) && (not (lone_s_Key before k after) && not (targeted after)))

-- some key passes a test of it and of what stands before it, the nearest first, and after it
unfoldable pub some_key : (List ℕ → ℕ → List ℕ → Bool) → List ℕ → List ℕ → Bool
some_key p before [] = false
some_key p before (k ∷ keys) = p before k keys || some_key p (k ∷ before) keys

abbrev pub waits_for_key : ℕ → List ℕ → List ℕ → Bool
waits_for_key x = some_key (waits_key x)

-- a half of the target sequence at fault; `bars` are the keys of the source contents with bars between them
unfoldable pub lone_among_keys : List ℕ → List ℕ → ℕ → List ℕ → Bool
lone_among_keys bars before k after = lone_s_Key before k after && not (only_half before k after && waits_for_key k [] bars)

-- the offsets at which a test of keys fails
unfoldable pub blamed_keys : (List ℕ → ℕ → List ℕ → Bool) → List ℕ → List ℕ → List ℕ → List ℕ
blamed_keys bad before [] keys = []
blamed_keys bad before (o ∷ markers) [] = []
blamed_keys bad before (o ∷ markers) (k ∷ keys) =
    let rest = blamed_keys bad (k ∷ before) markers keys in
    cond (bad before k keys) (o ∷ rest) rest

-- The keys of a part's contents with their bars: its source and, where `targets`, its target
unfoldable pub target_bars : Bool → Target → List ℕ
target_bars targets no_target = []
target_bars targets (target q xs) = 1 ∷ cond targets (map key (only_markers xs)) []

unfoldable pub part_bars : Bool → Part → List ℕ
part_bars targets p = 0 ∷ (map key (only_markers p.source) ++ target_bars targets p.target)
