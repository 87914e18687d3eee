-- The scan with the open halves on a stack, one key further.
use Prim.Native.Nat.{ℕ, suc, ◌+◌, ◌-◌, ◌≤◌, ◌<◌}
use mathlib.Core.Path.{◌≡◌, refl, sym, ap, ◌∙◌}
use mathlib.Core.Bool.{Bool, true, false, not, ◌&&◌, cond, true≢false}
use mathlib.Core.List.{List, [], ◌∷◌, reverse, reverse-append}
use mathlib.Core.Option.{none, some}
use native.Mathlib.Omega.{arith}
use lib.ListN.{length, take, drop, get_or, set, length-set, drop_of_length-le}
use lib.Seq.{take-suc, take-suc-set, take-set-le, drop-cons}
use lib.Dec.{eqb}
use Rattle.keys.specs.Keys.{half_key, form_key, is_other_key}
use Rattle.contents.specs.Contents.{is_bar, run}
use Rattle.contents.specs.Nesting.{meet_key, meet_keys, all_met_keys, lone_p_Key}
use Rattle.nesting.specs.Scan.{steps_away, index_away, away, is_apart, depth_after_half, is_halfP, opened}
use Rattle.xliff.specs.Parse.{most_records}

-- the next key, away from index i
pub away_next : (back : Bool) (i j : ℕ) (keys : List ℕ) → i < length keys → j < steps_away back i (length keys)
    → away back i j keys ≡ get_or keys (index_away back i j) 0 ∷ away back i (j + 1) keys
unfolding away
away_next true i j keys h k =
    ap (λ (n : ℕ). reverse (take n keys)) (let z : i - j ≡ suc (i - (j + 1)) = omega arith in z)
    ∙ ap reverse (take-suc keys (i - (j + 1)) 0 (omega arith))
    ∙ reverse-append (take (i - (j + 1)) keys) (get_or keys (i - (j + 1)) 0 ∷ [])
away_next false i j keys h k =
    drop-cons keys (i + 1 + j) 0 (omega arith)
    ∙ ap (λ (n : ℕ). get_or keys (i + 1 + j) 0 ∷ drop n keys) (let z : suc (i + 1 + j) ≡ i + 1 + (j + 1) = omega arith in z)

pub away_end : (back : Bool) (i j : ℕ) (keys : List ℕ) → i < length keys → steps_away back i (length keys) ≤ j → away back i j keys ≡ []
unfolding away
away_end true i j keys h k = ap (λ (n : ℕ). reverse (take n keys)) (let z : i - j ≡ 0 = omega arith in z)
away_end false i j keys h k = drop_of_length-le keys {i = i + 1 + j} (omega arith)

-- the stack
opened_top : (depth : ℕ) (stack : List ℕ) → 1 ≤ depth → depth ≤ length stack → opened depth stack ≡ get_or stack (depth - 1) 0 ∷ opened (depth - 1) stack
unfolding opened
opened_top depth stack h k =
    ap (λ (n : ℕ). reverse (take n stack)) (let z : depth ≡ suc (depth - 1) = omega arith in z)
    ∙ ap reverse (take-suc stack (depth - 1) 0 (omega arith))
    ∙ reverse-append (take (depth - 1) stack) (get_or stack (depth - 1) 0 ∷ [])

opened_push : (depth : ℕ) (stack : List ℕ) (k : ℕ) → depth < length stack → opened (depth + 1) (set stack depth k) ≡ k ∷ opened depth stack
unfolding opened
opened_push depth stack k h =
    ap (λ (n : ℕ). reverse (take n (set stack depth k))) (let z : depth + 1 ≡ suc depth = omega arith in z)
    ∙ ap reverse (take-suc-set stack depth k h)
    ∙ reverse-append (take depth stack) (k ∷ [])

opened_below : (n depth : ℕ) (stack : List ℕ) (k : ℕ) → n ≤ depth → opened n (set stack depth k) ≡ opened n stack
unfolding opened
opened_below n depth stack k h = ap reverse (take-set-le n stack depth k h)

-- whether all halves are met, from some open ones on
abbrev pub met_from : List ℕ → List ℕ → Bool
met_from halves keys = all_met_keys (meet_keys (some halves) (run keys))

none_met : (keys : List ℕ) → all_met_keys (meet_keys none keys) ≡ false
unfolding meet_keys meet_key all_met_keys
none_met [] = refl
none_met (k ∷ keys) = none_met keys

all_met : (keys : List ℕ) → all_met_keys (meet_keys (some []) keys) ≡ true
unfolding meet_keys meet_key all_met_keys
all_met [] = refl
all_met (k ∷ keys) = all_met keys

apart_from : (x : ℕ) (xs : List ℕ) (k : ℕ) (keys : List ℕ) → is_apart x k ≡ true → met_from (x ∷ xs) (k ∷ keys) ≡ false
unfolding run meet_keys meet_key all_met_keys
apart_from x xs k keys e = by (is_bar k) refl
  where
    inner : (a b c : Bool) → a && (not b && not c) ≡ true → all_met_keys (meet_keys (cond a (cond b (some (k ∷ x ∷ xs)) (cond c (some xs) none)) (some (x ∷ xs))) (run keys)) ≡ false
    inner true true c h = absurd (true≢false (sym h))
    inner true false true h = absurd (true≢false (sym h))
    inner true false false h = none_met (run keys)
    inner false b c h = absurd (true≢false (sym h))

    by : (b : Bool) → is_bar k ≡ b → all_met_keys (meet_keys (some (x ∷ xs)) (cond b [] (k ∷ run keys))) ≡ false
    by true f = refl
    by false f = inner (form_key k) (eqb (half_key x) (half_key k)) (is_other_key x k) (rw f at e)

met_on : (x : ℕ) (xs : List ℕ) (k : ℕ) (keys : List ℕ) (halves : List ℕ) → is_apart x k ≡ false
    → halves ≡ cond (form_key k) (cond (eqb (half_key x) (half_key k)) (k ∷ x ∷ xs) xs) (x ∷ xs) → met_from (x ∷ xs) (k ∷ keys) ≡ met_from halves keys
unfolding run meet_keys meet_key
met_on x xs k keys halves e f = rw f (by (is_bar k) refl)
  where
    inner : (a b c : Bool) → a && (not b && not c) ≡ false
        → all_met_keys (meet_keys (cond a (cond b (some (k ∷ x ∷ xs)) (cond c (some xs) none)) (some (x ∷ xs))) (run keys))
        ≡ all_met_keys (meet_keys (some (cond a (cond b (k ∷ x ∷ xs) xs) (x ∷ xs))) (run keys))
    inner true true c h = refl
    inner true false true h = refl
    inner true false false h = absurd (true≢false h)
    inner false b c h = refl

    by : (b : Bool) → is_bar k ≡ b
        → all_met_keys (meet_keys (some (x ∷ xs)) (cond b [] (k ∷ run keys)))
        ≡ all_met_keys (meet_keys (some (cond (form_key k) (cond (eqb (half_key x) (half_key k)) (k ∷ x ∷ xs) xs) (x ∷ xs))) (run keys))
    by true g = absurd (true≢false (rw g at e))
    by false g = inner (form_key k) (eqb (half_key x) (half_key k)) (is_other_key x k) (rw g at e)

module _ (depth : ℕ) (stack : List ℕ) (x k : ℕ) (h : 1 ≤ depth) (l : depth < length stack) (e : x ≡ get_or stack (depth - 1) 0) where
  top_is : opened depth stack ≡ x ∷ opened (depth - 1) stack
  top_is = opened_top depth stack h (omega arith) ∙ ap (λ (y : ℕ). y ∷ opened (depth - 1) stack) (sym e)

  after_is : opened (depth_after_half x k depth) (set stack depth k)
      ≡ cond (form_key k) (cond (eqb (half_key x) (half_key k)) (k ∷ x ∷ opened (depth - 1) stack) (opened (depth - 1) stack)) (x ∷ opened (depth - 1) stack)
  after_is = by (form_key k) (eqb (half_key x) (half_key k))
    where
      by : (a b : Bool)
          → opened (cond a (cond b (depth + 1) (depth - 1)) depth) (set stack depth k)
          ≡ cond a (cond b (k ∷ x ∷ opened (depth - 1) stack) (opened (depth - 1) stack)) (x ∷ opened (depth - 1) stack)
      by true true = opened_push depth stack k l ∙ ap (λ (l : List ℕ). k ∷ l) top_is
      by true false = opened_below (depth - 1) depth stack k (omega arith)
      by false b = opened_below depth depth stack k (omega arith) ∙ top_is

  -- the next key ends the scan, or is one step on
  pub scan_apart : (keys : List ℕ) → is_apart x k ≡ true → met_from (opened depth stack) (k ∷ keys) ≡ false
  scan_apart keys f = rw top_is (apart_from x (opened (depth - 1) stack) k keys f)

  pub scan_on : (keys : List ℕ) → is_apart x k ≡ false → met_from (opened depth stack) (k ∷ keys) ≡ met_from (opened (depth_after_half x k depth) (set stack depth k)) keys
  scan_on keys f = rw top_is (met_on x (opened (depth - 1) stack) k keys _ f after_is)

pub scan_end : (depth : ℕ) (stack : List ℕ) → 1 ≤ depth → depth ≤ length stack → met_from (opened depth stack) [] ≡ false
unfolding run meet_keys all_met_keys
scan_end depth stack h l = rw (opened_top depth stack h l)

pub scan_all : (stack keys : List ℕ) → met_from (opened 0 stack) keys ≡ true
unfolding opened
scan_all stack keys = all_met (run keys)

depth_small : (x k depth : ℕ) → depth_after_half x k depth ≤ depth + 1
depth_small x k depth = by (form_key k) (eqb (half_key x) (half_key k))
  where
    by : (a b : Bool) → cond a (cond b (depth + 1) (depth - 1)) depth ≤ depth + 1
    by true true = omega arith
    by true false = omega arith
    by false b = omega arith

one_more : (d : ℕ) → (d ≡ 0 → ⊥) → 1 ≤ d
one_more d z = omega arith

-- The half at index i has its partner, by what is open after j steps away from it
pub record Scan (keys : List ℕ) (back : Bool) (i : ℕ) (stack : List ℕ) (depth j : ℕ) : Type 0 where
  pub within : j ≤ steps_away back i (length keys)
  pub some_open : 1 ≤ depth
  pub few_open : depth ≤ j + 1
  pub sized : length stack ≡ most_records
  pub same : met_from (get_or keys i 0 ∷ []) (away back i 0 keys) ≡ met_from (opened depth stack) (away back i j keys)

steps_few : (back : Bool) (i n : ℕ) → i < n → steps_away back i n ≤ n - 1
steps_few true i n h = omega arith
steps_few false i n h = omega arith

pub scan_start : (keys : List ℕ) (back : Bool) (i : ℕ) (stack : List ℕ) → length stack ≡ most_records → Scan keys back i (set stack 0 (get_or keys i 0)) 1 0
unfolding opened
scan_start keys back i stack e =
    record {
      within = omega arith;
      some_open = omega arith;
      few_open = omega arith;
      sized = length-set stack 0 (get_or keys i 0) ∙ e;
      same = ap (λ (l : List ℕ). met_from l (away back i 0 keys)) (sym (opened_push 0 stack (get_or keys i 0) (omega arith)));
    }

module _ {keys : List ℕ} {back : Bool} {i : ℕ} {stack : List ℕ} {depth j : ℕ} (s : Scan keys back i stack depth j) (h : i < length keys) (few : length keys ≤ most_records) where
  -- whether the half has its partner
  abbrev Met : Bool
  Met = met_from (get_or keys i 0 ∷ []) (away back i 0 keys)

  pub scan_stop : steps_away back i (length keys) ≤ j → false ≡ Met
  scan_stop k =
      let left = steps_few back i (length keys) h in
      sym (s.same ∙ ap (met_from (opened depth stack)) (away_end back i j keys h k) ∙ scan_end depth stack s.some_open (omega (arith, s.few_open, s.within, s.sized, left)))

  module _ (k : j < steps_away back i (length keys)) where
    pub scan_room : depth < length stack
    scan_room = let left = steps_few back i (length keys) h in omega (arith, s.few_open, s.sized, left)

    -- the nearest open half, and the next key
    abbrev top : ℕ
    top = get_or stack (depth - 1) 0

    module _ {y : ℕ} (f : y ≡ get_or keys (index_away back i j) 0) where
      next_is : Met ≡ met_from (opened depth stack) (y ∷ away back i (j + 1) keys)
      next_is = s.same ∙ ap (met_from (opened depth stack)) (away_next back i j keys h k ∙ ap (λ (z : ℕ). z ∷ away back i (j + 1) keys) (sym f))

      pub scan_none : is_apart top y ≡ true → false ≡ Met
      scan_none g = sym (next_is ∙ scan_apart depth stack top y s.some_open scan_room refl (away back i (j + 1) keys) g)

      module _ (g : is_apart top y ≡ false) {d : ℕ} (q : d ≡ depth_after_half top y depth) where
        scan_next : Met ≡ met_from (opened d (set stack depth y)) (away back i (j + 1) keys)
        scan_next =
            next_is ∙ scan_on depth stack top y s.some_open scan_room refl (away back i (j + 1) keys) g
            ∙ ap (λ (n : ℕ). met_from (opened n (set stack depth y)) (away back i (j + 1) keys)) (sym q)

        pub scan_met : d ≡ 0 → true ≡ Met
        scan_met z =
            sym (scan_next ∙ ap (λ (n : ℕ). met_from (opened n (set stack depth y)) (away back i (j + 1) keys)) z ∙ scan_all (set stack depth y) (away back i (j + 1) keys))

        pub scan_further : (d ≡ 0 → ⊥) → Scan keys back i (set stack depth y) d (j + 1)
        scan_further z =
            record {
              within = omega arith;
              some_open = omega (arith, one_more d z);
              few_open = omega (arith, q, depth_small top y depth, s.few_open);
              sized = length-set stack depth y ∙ s.sized;
              same = scan_next;
            }

-- a half of pc or mrk has no partner, by the scan from it
pub lone_not : (before : List ℕ) (k : ℕ) (after : List ℕ) → is_halfP k ≡ false → false ≡ lone_p_Key before k after
unfolding lone_p_Key
lone_not before k after e = by (not (eqb (half_key k) 0)) (form_key k) _ e
  where
    by : (a b c : Bool) → a && b ≡ false → false ≡ a && (b && c)
    by true true c h = absurd (true≢false h)
    by true false c h = refl
    by false b c h = refl

pub lone_scan : (keys : List ℕ) (i k half : ℕ) (met : Bool)
    → is_halfP k ≡ true → half ≡ half_key k → met ≡ met_from (k ∷ []) (away (not (eqb half 1)) i 0 keys)
    → not met ≡ lone_p_Key (run (reverse (take i keys))) k (run (drop (i + 1) keys))
unfolding lone_p_Key away
lone_scan keys i k half met e h f = rw (f, h) (by (not (eqb (half_key k) 0)) (form_key k) (eqb (half_key k) 1) e)
  where
    by : (a b c : Bool) → a && b ≡ true
        → not (met_from (k ∷ []) (cond (not c) (reverse (take (i - 0) keys)) (drop (i + 1 + 0) keys)))
        ≡ a && (b && not (all_met_keys (meet_keys (some (k ∷ [])) (cond c (run (drop (i + 1) keys)) (run (reverse (take i keys)))))))
    by true true true h = ap (λ (n : ℕ). not (met_from (k ∷ []) (drop n keys))) (let z : i + 1 + 0 ≡ i + 1 = omega arith in z)
    by true true false h = ap (λ (n : ℕ). not (met_from (k ∷ []) (reverse (take n keys)))) (let z : i - 0 ≡ i = omega arith in z)
    by true false c h = absurd (true≢false (sym h))
    by false b c h = absurd (true≢false (sym h))
