-- The keys of the heads and markers of a table, part by part.
use Prim.Native.Nat.{ℕ, ◌+◌}
use mathlib.Core.Path.{◌≡◌, refl, ap, ap₂, ◌∙◌}
use mathlib.Core.Bool.{Bool, true, false, not, ◌&&◌, cond}
use mathlib.Core.List.{List, [], ◌∷◌, ◌++◌, map, reverse}
use lib.ListN.{length, drop}
use lib.Dec.{eqb}
use Rattle.xliff.specs.Bytes.{gather, keep}
use Rattle.xliff.specs.Item.{Content, text, class}
use Rattle.xliff.specs.Unit.{Target, no_target, target, Part}
use Rattle.xliff.specs.Encode.{Record, opening, closing, part_head, target_head, text_run, inline, ill_text, broken, record_bytes, unit_records, content_bytes}
use Rattle.xliff.specs.Parse.{read, unit}
use Rattle.xliff.specs.Sequences.{Placed, placed_from, placed_source, Located, located, located_from, part_size, order_at, source_at}
use Rattle.xliff.proofs.lists.Tests.{map-append}
use Rattle.places.specs.Passes.{Passes}
use Rattle.places.specs.Found.{found, found_at, state_after, marker}
use Rattle.places.specs.Markers.{is_marked, only_markers}
use Rattle.places.specs.Offsets.{At}
use Rattle.places.proofs.Places.{at_start, at_next}
use Rattle.places.proofs.Found.{found_unit, from_part, target_gathered, gather_same}
use Rattle.keys.specs.Keys.{key}
use Rattle.contents.specs.Contents.{marker_offset, no_offset, barred_found, barred, bar_key, bar_keys}
use Rattle.partners.specs.Partners.{target_bars, part_bars}

-- the key of a marker, where the walk stands in a content that is asked for
unfoldable placed_key : Bool → Placed → List ℕ
placed_key inside p = map (λ (q : Placed). key q.item) (marker inside p)

no_key : (inside : Bool) (c at : ℕ) → placed_key inside (record { item = text c; at = at }) ≡ []
unfolding placed_key marker class
no_key true c at = refl
no_key false c at = refl

abbrev keys_found : Bool → Bool → ℕ → List Record → List ℕ
keys_found targets inside at rs = found true (λ q. targets) (λ h at. 0 ∷ []) (λ q at. 1 ∷ []) placed_key no_key inside at rs

module _ (t : List ℕ) (targets : Bool) where
  one_key : (at : ℕ) (inside : Bool) (r : Record) → read (drop at t) ≡ r
      → bar_keys t (found_at true (λ q. targets) (λ h at. at ∷ []) (λ q at. at ∷ []) marker_offset no_offset inside at r)
      ≡ found_at true (λ q. targets) (λ h at. 0 ∷ []) (λ q at. 1 ∷ []) placed_key no_key inside at r
  unfolding bar_keys found_at marker_offset placed_key marker bar_key
  one_key at inside (opening c) e = refl
  one_key at inside closing e = refl
  one_key at inside (part_head h) e = ap (λ (r : Record). bar_key r ∷ []) e
  one_key at inside (target_head q) e = ap (λ (r : Record). bar_key r ∷ []) e
  one_key at inside (text_run cs) e = refl
  one_key at inside (inline x) e = by (inside && not (eqb (class x) 0))
    where
      by : (b : Bool) → bar_keys t (map (λ (q : Placed). q.at) (cond b (record { item = x; at = at } ∷ []) [])) ≡ map (λ (q : Placed). key q.item) (cond b (record { item = x; at = at } ∷ []) [])
      by true = ap (λ (r : Record). bar_key r ∷ []) e
      by false = refl
  one_key at inside ill_text e = refl
  one_key at inside (broken b) e = refl

  -- the keys found are what is read at the offsets found
  keys_back : (at : ℕ) (inside : Bool) (rs : List Record) → At t at rs → bar_keys t (barred_found targets inside at rs) ≡ keys_found targets inside at rs
  unfolding found bar_keys state_after
  keys_back at inside [] a = refl
  keys_back at inside (r ∷ rs) a =
      let n = at_next t at r rs a in
      map-append (λ (o : ℕ). bar_key (read (drop o t))) (found_at true (λ q. targets) (λ h at. at ∷ []) (λ q at. at ∷ []) marker_offset no_offset inside at r) _
      ∙ ap₂ ◌++◌ (one_key at inside r n.reads) (keys_back (at + length (record_bytes r)) _ rs n.then)

-- over a content
content_keys : (inside : Bool) (at : ℕ) (seen xs : Content) → gather (placed_key inside) (placed_from at seen xs) ≡ cond inside (map key (only_markers xs)) []
unfolding gather placed_from only_markers keep placed_key marker is_marked
content_keys true at seen [] = refl
content_keys true at seen (x ∷ xs) = by (not (eqb (class x) 0)) (at + length (content_bytes (reverse seen))) (content_keys true at (x ∷ seen) xs)
  where
    by : (b : Bool) (o : ℕ) → gather (placed_key true) (placed_from at (x ∷ seen) xs) ≡ map key (keep is_marked xs)
        → map (λ (q : Placed). key q.item) (cond b (record { item = x; at = o } ∷ []) []) ++ gather (placed_key true) (placed_from at (x ∷ seen) xs)
        ≡ map key (cond b (x ∷ keep is_marked xs) (keep is_marked xs))
    by true o ih = ap (λ (l : List ℕ). key x ∷ l) ih
    by false o ih = ih
content_keys false at seen [] = refl
content_keys false at seen (x ∷ xs) = content_keys false at (x ∷ seen) xs

-- over a part
keys_of_target : (targets : Bool) (at : ℕ) (g : Target) → target_gathered true (λ q. targets) (λ h at. 0 ∷ []) (λ q at. 1 ∷ []) placed_key no_key at g ≡ target_bars targets g
unfolding target_gathered target_bars
keys_of_target targets at no_target = refl
keys_of_target targets at (target q xs) = ap (λ (l : List ℕ). 1 ∷ l) (content_keys targets (at + 4) [] xs)

part_keys : (targets : Bool) (l : Located) → from_part true (λ q. targets) (λ h at. 0 ∷ []) (λ q at. 1 ∷ []) placed_key no_key l ≡ part_bars targets l.part
unfolding from_part part_bars placed_source
part_keys targets l =
    ap₂ (λ (a b : List ℕ). 0 ∷ (a ++ b)) (content_keys true (source_at l) [] l.part.source) (keys_of_target targets (order_at l) l.part.target)

-- over the parts
located_bars : (targets : Bool) (at : ℕ) (ps : List Part) → gather (λ l. part_bars targets l.part) (located_from at ps) ≡ gather (part_bars targets) ps
unfolding gather located_from
located_bars targets at [] = refl
located_bars targets at (p ∷ ps) = ap (λ (l : List ℕ). part_bars targets p ++ l) (located_bars targets (at + part_size p) ps)

pub bars_are : (t : List ℕ) (targets : Bool) → Passes t → bar_keys t (barred targets t) ≡ gather (part_bars targets) (unit t).parts
unfolding barred located
bars_are t targets p =
    keys_back t targets 0 false (unit_records (unit t)) (at_start t p)
    ∙ found_unit true (λ q. targets) (λ h at. 0 ∷ []) (λ q at. 1 ∷ []) placed_key no_key false (unit t)
    ∙ gather_same _ _ (part_keys targets) (located (unit t).parts)
    ∙ located_bars targets 3 (unit t).parts
