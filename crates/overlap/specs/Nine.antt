-- Rule 9 on keys.
use Rattle.std.specs.Prelude.{ℕ, ◌<◌, ◌≡◌, Bool, true, not, ◌&&◌, ◌||◌, List, [], eqb, ltb, length, get_or, Option}
use Rattle.views.specs.declared.View.{View}
use Rattle.keys.specs.Keys.{class_key, half_key}
use Rattle.halves.specs.Nearest.{half_before, half_after}
use Rattle.answers.specs.Answers.{refusal_at, toward}
use Rattle.xliff.specs.Sequences.{blamed}
use Rattle.xliff.specs.Rules.{bad_9}
use Rattle.places.specs.Markers.{placed_at}

-- the first n elements of an array are those of a function
abbrev pub Filled : (ℕ → ℕ) → ℕ → List ℕ → Type 0
Filled f n l = (k : ℕ) → k < n → get_or l k 0 ≡ f k

-- arrays that hold the nearest other halves of the markers
abbrev pub Halves : List ℕ → List ℕ → List ℕ → Type 0
Halves keys starts ends = Filled (half_before keys) (length keys) starts × Filled (half_after keys) (length keys) ends

-- a marker between the indices `first` and `end`, by its nearest other halves: isolated, or of a pair whose other half
-- is not there too
abbrev pub stray_key : ℕ → ℕ → ℕ → ℕ → ℕ → Bool
stray_key key first end before after =
    eqb (class_key key) 3 || eqb (class_key key) 4 || eqb (class_key key) 2 && not (ltb first before || ltb after end)

abbrev pub stray_at : List ℕ → ℕ → ℕ → ℕ → Bool
stray_at keys first end k = stray_key (get_or keys k 0) first end (half_before keys k) (half_after keys k)

-- the start of a pair
abbrev pub is_pair_start : ℕ → Bool
is_pair_start key = eqb (class_key key) 2 && eqb (half_key key) 1

-- the start of a pair with canOverlap N
abbrev pub closed_start : View → Bool
closed_start x = eqb x.class 2 && (eqb x.half 1 && eqb x.overlap 78)

-- where no marker is the start of such a pair, rule 9 leaves any place as it is
abbrev pub AllOpen : List ℕ → List ℕ → Bool → Type 0
AllOpen t markers r = (p : Option ℕ) → r ≡ true → refusal_at 9 p ≡ toward 9 p (blamed bad_9 [] (placed_at t markers))
