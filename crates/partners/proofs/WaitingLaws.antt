-- The halves that wait in the source, by the keys of the source contents with bars between them.
use Prim.Native.Nat.{ℕ, ◌/◌, ◌%◌}
use mathlib.Core.Path.{◌≡◌, refl, sym, ap, ap₂, ◌∙◌}
use mathlib.Core.Bool.{Bool, true, false, not, ◌&&◌, ◌||◌, cond, false≢true}
use mathlib.Core.List.{List, [], ◌∷◌, ◌++◌, map, reverse_aux, append_assoc, append-nil}
use native.Mathlib.Omega.{arith}
use lib.Dec.{eqb}
use borrow.Author.Tests.{eqb-true, eqb-false, ne_eqb, not-true, not-false}
use Rattle.xliff.specs.Bytes.{any, keep, gather}
use Rattle.xliff.specs.Item.{Item, Content, half, alike, is_half, is_start_half, is_end_half, other_half}
use Rattle.xliff.specs.Unit.{Target, no_target, target, Part, has_target, source_sequence}
use Rattle.xliff.specs.Rules.{lone_P, lone_S, with_partner, waiting}
use Rattle.xliff.proofs.lists.Tests.{any_append, keep_append, map-append, rev_append, and_false, or_assoc}
use Rattle.places.specs.Markers.{is_marked, only_markers}
use Rattle.keys.specs.Keys.{key, alike_keys, is_other_key, form_key, half_key}
use Rattle.keys.proofs.KeyLaws.{class_key_lem, other_key}
use Rattle.contents.specs.Contents.{is_bar, run, targeted}
use Rattle.contents.specs.Nesting.{lone_p_Key}
use Rattle.nesting.proofs.NestingLaws as nesting
use Rattle.partners.specs.Partners.{partner_s_Key, lone_s_Key, some_key, waits_key, waits_for_key, target_bars, part_bars}
use Rattle.partners.proofs.KeyTests.{lone_keys, lone_marked, no_half}

-- keys without their bars
clean : List ℕ → List ℕ
clean keys = keep (λ k. not (is_bar k)) keys

no_bar : (y : Item) → is_marked y ≡ true → is_bar (key y) ≡ false
unfolding is_marked
no_bar y m = ap (λ (c : ℕ). eqb c 0) (class_key_lem y) ∙ not-true _ m

-- a bar is alike to no marker
bar_unlike : (k b : ℕ) → is_bar k ≡ false → is_bar b ≡ true → alike_keys k b ≡ false
bar_unlike k b e f = ne_eqb (k / 8) (b / 8) (λ z. eqb-false (k % 64 / 8) 0 e (let g = eqb-true (b % 64 / 8) 0 f in omega arith))

partner_clean : (k : ℕ) → is_bar k ≡ false → (keys : List ℕ) → partner_s_Key k keys ≡ partner_s_Key k (clean keys)
unfolding partner_s_Key clean keep
partner_clean k n [] = refl
partner_clean k n (b ∷ keys) = by (is_bar b) refl (partner_clean k n keys)
  where
    by : (c : Bool) → is_bar b ≡ c → partner_s_Key k keys ≡ partner_s_Key k (keep (λ k. not (is_bar k)) keys)
        → cond (alike_keys k b && not (form_key b)) (is_other_key k b) (partner_s_Key k keys)
        ≡ partner_s_Key k (cond (not c) (b ∷ keep (λ k. not (is_bar k)) keys) (keep (λ k. not (is_bar k)) keys))
    by true e ih = rw (bar_unlike k b n e) ih
    by false e ih = ap (cond (alike_keys k b && not (form_key b)) (is_other_key k b)) ih

cond_clean : (b : Bool) (keys ls : List ℕ) → clean (cond b keys ls) ≡ cond b (clean keys) (clean ls)
cond_clean true keys ls = refl
cond_clean false keys ls = refl

lone_clean : (before : List ℕ) (k : ℕ) (after : List ℕ) → is_bar k ≡ false → lone_s_Key before k after ≡ lone_s_Key (clean before) k (clean after)
unfolding lone_s_Key
lone_clean before k after n =
    ap (λ (b : Bool). not (eqb (half_key k) 0) && (not (form_key k) && not b))
    (partner_clean k n (cond (eqb (half_key k) 1) after before) ∙ ap (partner_s_Key k) (cond_clean (eqb (half_key k) 1) after before))

-- markers in front of other keys
module _ (keys : List ℕ) where
  run_markers : (ys : Content) → run (map key (only_markers ys) ++ keys) ≡ map key (only_markers ys) ++ run keys
  unfolding run only_markers keep
  run_markers [] = refl
  run_markers (y ∷ ys) = by (is_marked y) refl (run_markers ys)
    where
      by : (b : Bool) → is_marked y ≡ b → run (map key (keep is_marked ys) ++ keys) ≡ map key (keep is_marked ys) ++ run keys
          → run (map key (cond b (y ∷ keep is_marked ys) (keep is_marked ys)) ++ keys) ≡ map key (cond b (y ∷ keep is_marked ys) (keep is_marked ys)) ++ run keys
      by true e ih = rw (no_bar y e) (ap (λ (l : List ℕ). key y ∷ l) ih)
      by false e ih = ih

  targeted_markers : (ys : Content) → targeted (map key (only_markers ys) ++ keys) ≡ targeted keys
  unfolding targeted only_markers keep
  targeted_markers [] = refl
  targeted_markers (y ∷ ys) = by (is_marked y) refl (targeted_markers ys)
    where
      by : (b : Bool) → is_marked y ≡ b → targeted (map key (keep is_marked ys) ++ keys) ≡ targeted keys
          → targeted (map key (cond b (y ∷ keep is_marked ys) (keep is_marked ys)) ++ keys) ≡ targeted keys
      by true e ih = rw (no_bar y e) ih
      by false e ih = ih

  clean_markers : (ys : Content) → clean (map key (only_markers ys) ++ keys) ≡ map key (only_markers ys) ++ clean keys
  unfolding clean only_markers keep
  clean_markers [] = refl
  clean_markers (y ∷ ys) = by (is_marked y) refl (clean_markers ys)
    where
      by : (b : Bool) → is_marked y ≡ b → keep (λ k. not (is_bar k)) (map key (keep is_marked ys) ++ keys) ≡ map key (keep is_marked ys) ++ keep (λ k. not (is_bar k)) keys
          → keep (λ k. not (is_bar k)) (map key (cond b (y ∷ keep is_marked ys) (keep is_marked ys)) ++ keys)
          ≡ map key (cond b (y ∷ keep is_marked ys) (keep is_marked ys)) ++ keep (λ k. not (is_bar k)) keys
      by true e ih = rw (no_bar y e) (ap (λ (l : List ℕ). key y ∷ l) ih)
      by false e ih = ih

-- a list of keys that has, but for its bars, the markers of a content
abbrev Holds : List ℕ → Content → Type 0
Holds keys xs = clean keys ≡ map key (only_markers xs)

holds_more : (ys xs : Content) (keys : List ℕ) → Holds keys xs → Holds (map key (only_markers ys) ++ keys) (ys ++ xs)
unfolding only_markers
holds_more ys xs keys e =
    clean_markers keys ys
    ∙ ap (λ (l : List ℕ). map key (only_markers ys) ++ l) e
    ∙ sym (ap (map key) (keep_append is_marked ys xs) ∙ map-append key (keep is_marked ys) (keep is_marked xs))

lone_holds : (before : List ℕ) (y : Item) (after : List ℕ) (bs zs : Content) → is_marked y ≡ true → Holds before bs → Holds after zs
    → lone_s_Key before (key y) after ≡ lone_S bs y zs
lone_holds before y after bs zs m e f =
    lone_clean before (key y) after (no_bar y m)
    ∙ ap₂ (λ (b a : List ℕ). lone_s_Key b (key y) a) e f
    ∙ sym (lone_keys (only_markers bs) y (only_markers zs))
    ∙ sym (lone_marked bs y zs m)

-- one half, by what is known of it: it is the other half, has no partner in its content (p) or in its sequence (s), is
-- in a part with target
one_waits : (o h p s t : Bool) → h && o ≡ o → o && (not p && (not s && not t)) ≡ cond t false (h && not (p || s) && o)
one_waits false h p s true e = refl
one_waits false h p s false e = sym (and_false (h && not (p || s)))
one_waits true h true s true e = refl
one_waits true h false true true e = refl
one_waits true h false false true e = refl
one_waits true true true s false e = refl
one_waits true true false true false e = refl
one_waits true true false false false e = refl
one_waits true false p s false e = absurd (false≢true e)

neither : (a s e : Bool) → a && (s && false || e && false) ≡ false
neither false s e = refl
neither true true true = refl
neither true true false = refl
neither true false true = refl
neither true false false = refl

other_half_half : (x y : Item) → is_half y && other_half x y ≡ other_half x y
unfolding other_half
other_half_half x y = by (is_half y) refl
  where
    by : (b : Bool) → is_half y ≡ b → b && other_half x y ≡ other_half x y
    by true e = refl
    by false e =
        sym
        (ap (λ (h : ℕ). alike x y && (is_start_half x && eqb h 2 || is_end_half x && eqb h 1)) (eqb-true (half y) 0 (not-false _ e))
        ∙ neither (alike x y) (is_start_half x) (is_end_half x))

module _ {A : Type 0} (q : A → Bool) (y : A) (ys : List A) where
  any_first : (b : Bool) → any q (cond b (y ∷ []) [] ++ ys) ≡ b && q y || any q ys
  unfolding any
  any_first true = refl
  any_first false = refl

split_or : (t a b : Bool) → cond t false (a || b) ≡ cond t false a || cond t false b
split_or true a b = refl
split_or false a b = refl

cond_none : (t b : Bool) → b ≡ cond t false false || b
cond_none true b = refl
cond_none false b = refl

any_cond : (q : Item → Bool) (t : Bool) (xs : Content) → any q (cond t [] xs) ≡ cond t false (any q xs)
unfolding any
any_cond q true xs = refl
any_cond q false xs = refl

module _ (y : Item) (ys : Content) where
  marked_on : is_marked y ≡ true → only_markers (y ∷ ys) ≡ y ∷ only_markers ys
  unfolding only_markers keep
  marked_on e = rw e

  marked_off : is_marked y ≡ false → only_markers (y ∷ ys) ≡ only_markers ys
  unfolding only_markers keep
  marked_off e = rw e

waits_first : (x : ℕ) (before : List ℕ) (k : ℕ) (keys : List ℕ) → waits_for_key x before (k ∷ keys) ≡ waits_key x before k keys || waits_for_key x (k ∷ before) keys
unfolding some_key
waits_first x before k keys = refl

lone_P_keys : (before : Content) (y : Item) (after : Content) → is_marked y ≡ true → lone_p_Key (map key (only_markers before)) (key y) (map key (only_markers after)) ≡ lone_P before y after
lone_P_keys before y after m = nesting.lone_keys (only_markers before) y (only_markers after) ∙ sym ((nesting.on_lone).alone before y after m)

-- Over a content: `seen` is what is before in it, `before` and `after` the keys around it, bars next to it
module _ (x : Item) where
  module _ (earlier later : Content) (before after : List ℕ) (e : Holds before earlier) (f : Holds after later) (n : run before ≡ []) (m : run after ≡ []) where
    run_alone : (ys : Content) (keys : List ℕ) → run keys ≡ [] → run (map key (only_markers ys) ++ keys) ≡ map key (only_markers ys)
    run_alone ys keys r = run_markers keys ys ∙ ap (λ (l : List ℕ). map key (only_markers ys) ++ l) r ∙ append-nil (map key (only_markers ys))

    half_waits : (seen : Content) (y : Item) (ys : Content) → is_marked y ≡ true
        → waits_key (key x) (map key (only_markers seen) ++ before) (key y) (map key (only_markers ys) ++ after)
        ≡ cond (targeted after) false (is_half y && not (lone_P seen y ys || lone_S (seen ++ earlier) y (ys ++ later)) && other_half x y)
    unfolding waits_key
    half_waits seen y ys k =
        ap₂ (λ (o p : Bool). o && (not p && (not (lone_s_Key (map key (only_markers seen) ++ before) (key y) (map key (only_markers ys) ++ after)) && not
        (targeted (map key (only_markers ys) ++ after)))))
        (other_key x y)
        (ap₂ (λ (b a : List ℕ). lone_p_Key b (key y) a) (run_alone seen before n) (run_alone ys after m) ∙ lone_P_keys seen y ys k)
        ∙ ap₂ (λ (s t : Bool). other_half x y && (not (lone_P seen y ys) && (not s && not t)))
        (lone_holds (map key (only_markers seen) ++ before) y (map key (only_markers ys) ++ after) (seen ++ earlier) (ys ++ later) k (holds_more seen earlier before e) (holds_more ys later after f))
        (targeted_markers after ys)
        ∙ one_waits (other_half x y) (is_half y) (lone_P seen y ys) (lone_S (seen ++ earlier) y (ys ++ later)) (targeted after) (other_half_half x y)

    abbrev Rest : Content → Content → Bool
    Rest seen xs = waits_for_key (key x) (map key (only_markers (reverse_aux xs seen)) ++ before) after

    abbrev Waits : Content → Content → Type 0
    Waits seen xs =
        waits_for_key (key x) (map key (only_markers seen) ++ before) (map key (only_markers xs) ++ after)
        ≡ cond (targeted after) false (any (other_half x) (with_partner earlier later seen xs)) || Rest seen xs

    waits_marked : (seen : Content) (y : Item) (ys : Content) → is_marked y ≡ true → Waits (y ∷ seen) ys → Waits seen (y ∷ ys)
    unfolding with_partner
    waits_marked seen y ys k ih =
        let b : Bool = is_half y && not (lone_P seen y ys || lone_S (seen ++ earlier) y (ys ++ later)) in
        let w : List Item = with_partner earlier later (y ∷ seen) ys in
        ap (λ (l : Content). waits_for_key (key x) (map key (only_markers seen) ++ before) (map key l ++ after)) (marked_on y ys k)
        ∙ waits_first (key x) (map key (only_markers seen) ++ before) (key y) (map key (only_markers ys) ++ after)
        ∙ ap₂ ◌||◌ (half_waits seen y ys k)
        (ap (λ (l : Content). waits_for_key (key x) (map key l ++ before) (map key (only_markers ys) ++ after)) (sym (marked_on y seen k)) ∙ ih)
        ∙ sym (or_assoc (cond (targeted after) false (b && other_half x y)) (cond (targeted after) false (any (other_half x) w)) (Rest (y ∷ seen) ys))
        ∙ ap (λ (c : Bool). c || Rest (y ∷ seen) ys)
        (sym (split_or (targeted after) (b && other_half x y) (any (other_half x) w)) ∙ ap (cond (targeted after) false) (sym (any_first (other_half x) y w b)))

    waits_unmarked : (seen : Content) (y : Item) (ys : Content) → is_marked y ≡ false → Waits (y ∷ seen) ys → Waits seen (y ∷ ys)
    unfolding with_partner
    waits_unmarked seen y ys k ih =
        ap₂ (λ (b a : Content). waits_for_key (key x) (map key b ++ before) (map key a ++ after)) (sym (marked_off y seen k)) (marked_off y ys k)
        ∙ ih
        ∙ ap (λ (h : ℕ). cond (targeted after) false
        (any (other_half x)
        (cond (not (eqb h 0) && not (lone_P seen y ys || lone_S (seen ++ earlier) y (ys ++ later))) (y ∷ []) []
        ++ with_partner earlier later (y ∷ seen) ys))
        || Rest (y ∷ seen) ys)
        (sym (no_half y k))

    content_waits : (seen xs : Content) → Waits seen xs
    unfolding with_partner any only_markers keep
    content_waits seen [] = cond_none (targeted after) (Rest seen [])
    content_waits seen (y ∷ ys) = by (is_marked y) refl (content_waits (y ∷ seen) ys)
      where
        by : (b : Bool) → is_marked y ≡ b → Waits (y ∷ seen) ys → Waits seen (y ∷ ys)
        by true k ih = waits_marked seen y ys k ih
        by false k ih = waits_unmarked seen y ys k ih

  -- Over the parts
  no_wait : (before : List ℕ) (b : ℕ) (after : List ℕ) → half_key b ≡ 0 → waits_key (key x) before b after ≡ false
  unfolding waits_key
  no_wait before b after h =
      ap (λ (c : Bool). c && (not (lone_p_Key (run before) b (run after)) && (not (lone_s_Key before b after) && not (targeted after))))
      (ap (λ (h : ℕ). alike_keys (key x) b && (eqb (half_key (key x)) 1 && eqb h 2 || eqb (half_key (key x)) 2 && eqb h 1)) h
      ∙ neither (alike_keys (key x) b) (eqb (half_key (key x)) 1) (eqb (half_key (key x)) 2))

  bar_passed : (before : List ℕ) (b : ℕ) (after : List ℕ) → half_key b ≡ 0 → waits_for_key (key x) before (b ∷ after) ≡ waits_for_key (key x) (b ∷ before) after
  bar_passed before b after h = waits_first (key x) before b after ∙ ap (λ (c : Bool). c || waits_for_key (key x) (b ∷ before) after) (no_wait before b after h)

  abbrev bars : List Part → List ℕ
  bars ps = gather (part_bars false) ps

  abbrev behind : Target → List Part → List ℕ
  behind g ps = target_bars false g ++ bars ps

  part_behind : (p : Part) (ps : List Part) → bars (p ∷ ps) ≡ 0 ∷ (map key (only_markers p.source) ++ behind p.target ps)
  unfolding gather part_bars
  part_behind p ps = ap (λ (l : List ℕ). 0 ∷ l) (append_assoc (map key (only_markers p.source)) (target_bars false p.target) (bars ps))

  holds_behind : (g : Target) (ps : List Part) → Holds (bars ps) (source_sequence ps) → Holds (behind g ps) (source_sequence ps)
  unfolding target_bars clean keep
  holds_behind no_target ps e = e
  holds_behind (target q xs) ps e = e

  holds_bars : (ps : List Part) → Holds (bars ps) (source_sequence ps)
  unfolding clean keep gather source_sequence only_markers
  holds_bars [] = refl
  holds_bars (p ∷ ps) = ap clean (part_behind p ps) ∙ holds_more p.source (source_sequence ps) (behind p.target ps) (holds_behind p.target ps (holds_bars ps))

  run_behind : (g : Target) (ps : List Part) → run (behind g ps) ≡ []
  unfolding target_bars part_bars gather run
  run_behind no_target [] = refl
  run_behind no_target (p ∷ ps) = refl
  run_behind (target q xs) ps = refl

  targeted_behind : (g : Target) (ps : List Part) → targeted (behind g ps) ≡ has_target g
  unfolding target_bars part_bars gather targeted has_target
  targeted_behind no_target [] = refl
  targeted_behind no_target (p ∷ ps) = refl
  targeted_behind (target q xs) ps = refl

  target_passed : (g : Target) (before : List ℕ) (ps : List Part) (xs : Content) → Holds before xs
      → ((keys : List ℕ) → Holds keys xs → any (other_half x) (waiting xs ps) ≡ waits_for_key (key x) keys (bars ps))
      → any (other_half x) (waiting xs ps) ≡ waits_for_key (key x) before (behind g ps)
  unfolding target_bars clean keep
  target_passed no_target before ps xs e ih = ih before e
  target_passed (target q ys) before ps xs e ih = ih (1 ∷ before) e ∙ sym (bar_passed before 1 (bars ps) refl)

  holds_turned : (ys xs : Content) (keys : List ℕ) → Holds keys xs → Holds (map key (only_markers (reverse_aux ys [])) ++ (0 ∷ keys)) (reverse_aux ys xs)
  unfolding clean keep
  holds_turned ys xs keys e = holds_more (reverse_aux ys []) xs (0 ∷ keys) e ∙ ap (λ (l : Content). map key (only_markers l)) (sym (rev_append ys xs))

  parts_wait : (ps : List Part) (earlier : Content) (before : List ℕ) → Holds before earlier → any (other_half x) (waiting earlier ps) ≡ waits_for_key (key x) before (bars ps)
  unfolding waiting any some_key gather clean keep run only_markers
  parts_wait [] earlier before e = refl
  parts_wait (p ∷ ps) earlier before e =
      let w : List Item = with_partner earlier (source_sequence ps) [] p.source in
      let d : List ℕ = map key (only_markers (reverse_aux p.source [])) ++ (0 ∷ before) in
      any_append (other_half x) (cond (has_target p.target) [] w) (waiting (reverse_aux p.source earlier) ps)
      ∙ ap₂ ◌||◌ (any_cond (other_half x) (has_target p.target) w ∙ ap (λ (t : Bool). cond t false (any (other_half x) w)) (sym (targeted_behind p.target ps)))
      (target_passed p.target d ps (reverse_aux p.source earlier) (holds_turned p.source earlier before e) (λ keys h. parts_wait ps (reverse_aux p.source earlier) keys h))
      ∙ sym
      (ap (waits_for_key (key x) before) (part_behind p ps)
      ∙ bar_passed before 0 (map key (only_markers p.source) ++ behind p.target ps) refl
      ∙ content_waits earlier (source_sequence ps) (0 ∷ before) (behind p.target ps) e (holds_behind p.target ps (holds_bars ps)) refl (run_behind p.target ps) [] p.source)

  -- the other half of x waits in the source
  pub waiting_keys : (ps : List Part) → any (other_half x) (waiting [] ps) ≡ waits_for_key (key x) [] (gather (part_bars false) ps)
  unfolding clean keep only_markers
  waiting_keys ps = parts_wait ps [] [] refl
