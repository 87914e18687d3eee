-- Keys with bars are those of items with bars; the rule at an index of the list.
use Prim.Native.Nat.{ℕ, zero, suc, ◌+◌, ◌≤◌, ◌<◌}
use mathlib.Core.Path.{◌≡◌, refl, sym, ap, ap₂, ◌∙◌}
use mathlib.Core.Bool.{Bool, true, false, not, cond}
use mathlib.Core.List.{List, [], ◌∷◌, map, reverse, reverse_aux, reverse-append}
use native.Mathlib.Omega.{arith}
use lib.ListN.{length, take, drop, get_or, length-map}
use lib.Seq.{take-suc}
use lib.Dec.{eqb}
use Rattle.xliff.specs.Bytes.{gather}
use Rattle.xliff.specs.Item.{Content, class, id_of, half, is_form_P}
use Rattle.xliff.specs.Encode.{Record, opening, closing, part_head, target_head, text_run, inline, ill_text, broken}
use Rattle.xliff.specs.Parse.{read, unit}
use Rattle.xliff.specs.Sequences.{located, placed_contents, items, blamed, first_of}
use Rattle.xliff.specs.Rules.{lone_P}
use Rattle.places.specs.Passes.{Passes}
use Rattle.places.specs.Markers.{is_marked, item_in, item_at, placed_at}
use Rattle.views.specs.Views.{items_of_markers}
use Rattle.keys.specs.Keys.{key}
use Rattle.keys.proofs.KeyLaws.{class_key_lem}
use Rattle.answers.specs.Answers.{refusal_at, lower, toward}
use Rattle.std.specs.Prelude.{Option, None}
use Rattle.answers.proofs.Places.{blamed_on, blamed_end, toward_none}
use Rattle.contents.specs.Contents.{bar_key, bar_keys, barred, is_bar, run}
use Rattle.contents.specs.Nesting.{lone_p_Key}
use Rattle.nesting.specs.Bars.{run_items, lone_bar}
use Rattle.nesting.proofs.NestingLaws.{lone_keys}
use Rattle.nesting.proofs.ContentLaws.{contents_blamed}
use Rattle.views.proofs.ViewLaws.{items_at}

-- one key further
run_key : (r : Record) (keys : List ℕ) (xs : Content) → keys ≡ map key xs
    → cond (is_bar (bar_key r)) [] (bar_key r ∷ keys) ≡ map key (cond (is_marked (item_in r)) (item_in r ∷ xs) [])
unfolding bar_key item_in is_marked class
run_key (opening c) keys xs e = refl
run_key closing keys xs e = refl
run_key (part_head h) keys xs e = refl
run_key (target_head q) keys xs e = refl
run_key (text_run cs) keys xs e = refl
run_key (inline x) keys xs e = rw (class_key_lem x) (by (eqb (class x) 0))
  where
    by : (b : Bool) → cond b [] (key x ∷ keys) ≡ map key (cond (not b) (x ∷ xs) [])
    by true = refl
    by false = ap (λ (l : List ℕ). key x ∷ l) e
run_key ill_text keys xs e = refl
run_key (broken b) keys xs e = refl

pub run_keys : (t markers : List ℕ) → run (bar_keys t markers) ≡ map key (run_items (items_of_markers t markers))
unfolding run run_items bar_keys items_of_markers item_at
run_keys t [] = refl
run_keys t (o ∷ markers) = run_key (read (drop o t)) (run (bar_keys t markers)) (run_items (items_of_markers t markers)) (run_keys t markers)

-- a bar is no half, as a text is none
bar_lone : (r : Record) (before after : List ℕ) → lone_p_Key before (bar_key r) after ≡ lone_p_Key before (key (item_in r)) after
unfolding lone_p_Key bar_key item_in key id_of class half is_form_P
bar_lone (opening c) before after = refl
bar_lone closing before after = refl
bar_lone (part_head h) before after = refl
bar_lone (target_head q) before after = refl
bar_lone (text_run cs) before after = refl
bar_lone (inline x) before after = refl
bar_lone ill_text before after = refl
bar_lone (broken b) before after = refl

map_reverse : (f : ℕ → ℕ) (xs ys : List ℕ) → map f (reverse_aux xs ys) ≡ reverse_aux (map f xs) (map f ys)
map_reverse f [] ys = refl
map_reverse f (x ∷ xs) ys = map_reverse f xs (x ∷ ys)

map_take : (f : ℕ → ℕ) (i : ℕ) (xs : List ℕ) → map f (take i xs) ≡ take i (map f xs)
map_take f zero xs = refl
map_take f (suc i) [] = refl
map_take f (suc i) (x ∷ xs) = ap (λ (l : List ℕ). f x ∷ l) (map_take f i xs)

map_drop : (f : ℕ → ℕ) (i : ℕ) (xs : List ℕ) → map f (drop i xs) ≡ drop i (map f xs)
map_drop f zero xs = refl
map_drop f (suc i) [] = refl
map_drop f (suc i) (x ∷ xs) = map_drop f i xs

map_getD : (f : ℕ → ℕ) (i : ℕ) (xs : List ℕ) → i < length xs → get_or (map f xs) i 0 ≡ f (get_or xs i 0)
map_getD f i [] h = absurd (omega arith)
map_getD f zero (x ∷ xs) h = refl
map_getD f (suc i) (x ∷ xs) h = map_getD f i xs (omega arith)

module _ (t markers : List ℕ) (i : ℕ) where
  abbrev key_there : ℕ → ℕ
  key_there o = bar_key (read (drop o t))

  keys_before : reverse (take i (bar_keys t markers)) ≡ bar_keys t (reverse (take i markers))
  unfolding bar_keys
  keys_before = ap reverse (sym (map_take key_there i markers)) ∙ sym (map_reverse key_there (take i markers) [])

  keys_after : drop (i + 1) (bar_keys t markers) ≡ bar_keys t (drop (suc i) markers)
  unfolding bar_keys
  keys_after =
      sym (map_drop key_there (i + 1) markers) ∙ ap (λ (n : ℕ). map key_there (drop n markers)) (let z : i + 1 ≡ suc i = omega arith in z)

  key_at_index : i < length markers → get_or (bar_keys t markers) i 0 ≡ key_there (get_or markers i 0)
  unfolding bar_keys
  key_at_index h = map_getD key_there i markers h

  lone_there : i < length markers → lone_p_Key (run (reverse (take i (bar_keys t markers)))) (get_or (bar_keys t markers) i 0) (run (drop (i + 1) (bar_keys t markers)))
      ≡ lone_bar (items_of_markers t (reverse (take i markers))) (item_at t (get_or markers i 0)) (items (placed_at t (drop (suc i) markers)))
  unfolding lone_bar item_at
  lone_there h =
      let o = get_or markers i 0 in
      let b = reverse (take i markers) in
      let a = drop (suc i) markers in
      ap₂ (λ (k l : List ℕ). lone_p_Key (run k) (get_or (bar_keys t markers) i 0) (run l)) keys_before keys_after
      ∙ ap (λ (k : ℕ). lone_p_Key (run (bar_keys t b)) k (run (bar_keys t a))) (key_at_index h)
      ∙ bar_lone (read (drop o t)) (run (bar_keys t b)) (run (bar_keys t a))
      ∙ ap₂ (λ (k l : List ℕ). lone_p_Key k (key (item_in (read (drop o t)))) l) (run_keys t b) (run_keys t a)
      ∙ lone_keys (run_items (items_of_markers t b)) (item_in (read (drop o t))) (run_items (items_of_markers t a))
      ∙ ap (λ (l : Content). lone_P (run_items (items_of_markers t b)) (item_in (read (drop o t))) (run_items l)) (sym (items_at t a))

  before_next : i < length markers → item_at t (get_or markers i 0) ∷ items_of_markers t (reverse (take i markers)) ≡ items_of_markers t (reverse (take (i + 1) markers))
  unfolding items_of_markers
  before_next h =
      ap (map (item_at t)) (sym (reverse-append (take i markers) (get_or markers i 0 ∷ [])))
      ∙ ap (λ (l : List ℕ). map (item_at t) (reverse l)) (sym (take-suc markers i 0 h))
      ∙ ap (λ (n : ℕ). map (item_at t) (reverse (take n markers))) (let z : suc i ≡ i + 1 = omega arith in z)

-- The least place blamed, by that found up to an index and by what is left
unfoldable pub lone_left : List ℕ → List ℕ → ℕ → List ℕ
lone_left t markers i = blamed lone_bar (items_of_markers t (reverse (take i markers))) (placed_at t (drop i markers))

module _ (t markers keys : List ℕ) (same : keys ≡ bar_keys t markers) (i : ℕ) (best : Option ℕ) where
  pub lone_on : (b : Bool) (at : ℕ) → i < length markers → b ≡ lone_p_Key (run (reverse (take i keys))) (get_or keys i 0) (run (drop (i + 1) keys)) → at ≡ get_or markers i 0
      → toward 7 best (lone_left t markers i) ≡ toward 7 (cond b (lower best at) best) (lone_left t markers (i + 1))
  unfolding lone_left
  lone_on b at h e f =
      blamed_on lone_bar t markers (items_of_markers t (reverse (take i markers))) i best 7 b h
      (e ∙ ap (λ (k : List ℕ). lone_p_Key (run (reverse (take i k))) (get_or k i 0) (run (drop (i + 1) k))) same ∙ lone_there t markers i h)
      ∙ ap₂ (λ (n : ℕ) (c : Content). toward 7 (cond b (lower best n) best) (blamed lone_bar c (placed_at t (drop (i + 1) markers)))) (sym f) (before_next t markers i h)

  pub lone_end : length markers ≤ i → first_of 7 (gather (blamed lone_P []) (placed_contents (located (unit t).parts))) ≡ toward 7 best (lone_left t markers i)
      → refusal_at 7 best ≡ first_of 7 (gather (blamed lone_P []) (placed_contents (located (unit t).parts)))
  unfolding lone_left
  lone_end h e = sym (e ∙ blamed_end lone_bar t markers (items_of_markers t (reverse (take i markers))) i best 7 h)

pub lone_start : (t markers : List ℕ) → Passes t → markers ≡ barred true t → first_of 7 (gather (blamed lone_P []) (placed_contents (located (unit t).parts)))
    ≡ toward 7 None (lone_left t markers 0)
unfolding lone_left items_of_markers
lone_start t markers p e =
    ap (first_of 7) (sym (contents_blamed t p) ∙ ap (λ (l : List ℕ). blamed lone_bar [] (placed_at t l)) (sym e)) ∙ toward_none 7 (blamed lone_bar [] (placed_at t markers))

pub as_many : (t markers keys : List ℕ) → keys ≡ bar_keys t markers → length keys ≡ length markers
unfolding bar_keys
as_many t markers keys e = ap length e ∙ length-map markers (λ (o : ℕ). bar_key (read (drop o t)))
