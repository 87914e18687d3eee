-- Split keeps rule 7: the halves that are open at a cut turn, both of each pair, and nothing else.
use Prim.Native.Nat.{ℕ}
use mathlib.Core.Path.{◌≡◌, refl, sym, ap, ap₂, ◌∙◌, subst}
use mathlib.Core.Bool.{Bool, true, false, ◌&&◌, ◌||◌, cond, true≢false, false≢true}
use mathlib.Core.List.{List, [], ◌∷◌, ◌++◌, map, append_assoc}
use mathlib.Core.Option.{none}
use lib.ListN.{take, drop, take-append-drop}
use Rattle.xliff.specs.Bytes.{any, gather}
use Rattle.xliff.specs.Item.{Item, Content, Half, start, end, flat, is_form_P, is_start_half, other_half, class, id_of}
use Rattle.xliff.specs.Unit.{Target, no_target, target, Part, has_target, target_items, source_sequence, target_sequence}
use Rattle.xliff.specs.Rules.{fault_5}
use Rattle.xliff.specs.Focus.{here, order_part, order_parts}
use Rattle.xliff.specs.Split.{raise_above, cut_item, first_items, second_items, first_target, second_target, split_order, first_half, second_half, split_focus}
use Rattle.xliff.specs.Good.{each_nil, each_cons}
use Rattle.xliff.proofs.lists.Each.{each_append, each_apart}
use Rattle.xliff.proofs.lists.Tests.{gather_append, map-append, and_false, and-true, or-true}
use Rattle.xliff.proofs.rules.Sequences.{append_nil_left, append_nil_right}
use Rattle.xliff.proofs.operations.Sources.{source_append, source_orders, has_order, items_order}
use Rattle.xliff.proofs.rules.Orders.{unused_order, split_targets}
use Rattle.xliff.proofs.operations.SplitTarget.{fault_5_fits, without_target}
use Rattle.xliff.proofs.rules.Place.{place}
use Rattle.xliff.proofs.rules.Stack.{Key, r_nil}
use Rattle.xliff.proofs.rules.Balance.{key_of, Balanced}
use Rattle.xliff.proofs.rules.Marks.{a_pair, Mk, mk, side, mark_of, marks, marks_cons, marks_append, Shape, Shape-mono, sh_pair, sh_lone, waits, opposite, any_mk, any_other, pm_half}
use Rattle.xliff.proofs.rules.Turn.{turn, same_form, any_mk_append, own_mark, seen_here, is_cut, cut_balances, Shape-turn, waits_turn}
use Rattle.xliff.proofs.rules.Seven.{bare, bare_sequence, BalancedPart, AllBalanced, Good7}

-- in a shape nothing comes before a start and nothing after an end
not_nil : (u : List Mk) (m : Mk) (v : List Mk) → u ++ (m ∷ v) ≡ [] → ⊥
not_nil [] m v e = let z : true ≡ false = cc in false≢true (sym z)
not_nil (n ∷ u) m v e = let z : true ≡ false = cc in false≢true (sym z)

pub after_end : {e : ℕ → Half → Bool} (u : List Mk) (c : ℕ) (w : Bool) (v : List Mk) → Shape e (u ++ (mk c w end ∷ v)) → v ≡ []
after_end [] c w v (sh_lone d s h) = refl
after_end (a ∷ []) c w v (sh_pair d x) = refl
after_end (a ∷ b ∷ u) c w v h = absurd (not_nil u (mk c w end) v (a_pair h).4)

no_second : {e : ℕ → Half → Bool} {m : Mk} {c : ℕ} {w : Bool} {v : List Mk} → Shape e (m ∷ mk c w start ∷ v) → ⊥
no_second h = true≢false (ap open_side (a_pair h).3)
  where
    open_side : Mk → Bool
    open_side (mk c w start) = true
    open_side (mk c w end) = false

pub before_start : {e : ℕ → Half → Bool} (u : List Mk) (c : ℕ) (w : Bool) (v : List Mk) → Shape e (u ++ (mk c w start ∷ v)) → u ≡ []
before_start [] c w v h = refl
before_start (a ∷ []) c w v h = absurd (no_second h)
before_start (a ∷ b ∷ u) c w v h = absurd (not_nil u (mk c w start) v (a_pair h).4)

-- functions that agree at each place of a list
map_from : (f g : Item → Item) (l pre rest : Content) → l ≡ pre ++ rest
    → ((pre : Content) (x : Item) (rest : Content) → l ≡ pre ++ (x ∷ rest) → f x ≡ g x) → map f rest ≡ map g rest
map_from f g l pre [] e h = refl
map_from f g l pre (x ∷ rest) e h =
    ap₂ {C = Content} ◌∷◌ (h pre x rest e) (map_from f g l (pre ++ (x ∷ [])) rest (e ∙ sym (append_assoc pre (x ∷ []) rest)) h)

-- a mark of pc or mrk is seen among the marks of its content
seen_in : (t : Half) (pre : Content) (x : Item) (rest : Content) → is_form_P x ≡ true → opposite t (side x) ≡ true
    → any_mk (class x) t (marks (id_of x) (pre ++ (x ∷ rest))) ≡ true
seen_in t pre x rest p o =
    ap (any_mk (class x) t) (marks_append (id_of x) pre (x ∷ rest)) ∙ any_mk_append (class x) t (marks (id_of x) pre) (marks (id_of x) (x ∷ rest))
    ∙ ap (λ (b : Bool). any_mk (class x) t (marks (id_of x) pre) || b)
    (ap (any_mk (class x) t) (marks_cons (id_of x) x rest) ∙ seen_here x t (marks (id_of x) rest) p o)
    ∙ or-true (any_mk (class x) t (marks (id_of x) pre))

-- a content that stands in a sequence, in two pieces
module _ (e : ℕ → ℕ → Half → Bool) (X a d Z : Content) (shapes : (i : ℕ) → Shape (e i) (marks i (X ++ ((a ++ d) ++ Z)))) where
  -- an item by whether its other half is beyond, or by its key
  same_turn : (beyond : Content) (x : Item) → (is_form_P x ≡ true → any (other_half x) beyond ≡ is_cut a d (key_of x))
      → cut_item beyond x ≡ turn (is_cut a d) x
  unfolding cut_item turn flat
  same_turn beyond x h = same_form x (any (other_half x) beyond) (is_cut a d (key_of x)) h

  around : (before : Content) (x : Item) (behind : Content) → is_form_P x ≡ true → X ++ ((a ++ d) ++ Z) ≡ before ++ (x ∷ behind)
      → Shape (e (id_of x)) (marks (id_of x) before ++ (mark_of x ∷ marks (id_of x) behind))
  around before x behind p q =
      subst (Shape (e (id_of x)))
      (ap (marks (id_of x)) q ∙ marks_append (id_of x) before (x ∷ behind)
      ∙ ap (λ (l : List Mk). marks (id_of x) before ++ l)
      (marks_cons (id_of x) x behind ∙ ap (λ (l : List Mk). l ++ marks (id_of x) behind) (own_mark x p)))
      (shapes (id_of x))

  at_left : (pre : Content) (x : Item) (rest : Content) → a ≡ pre ++ (x ∷ rest) → cut_item d x ≡ turn (is_cut a d) x
  unfolding is_cut
  at_left pre x rest q = same_turn d x (λ p. any_other x (pm_half x p) d ∙ by (is_start_half x) refl p)
    where
      i : ℕ
      i = id_of x

      place : X ++ ((a ++ d) ++ Z) ≡ (X ++ pre) ++ (x ∷ (rest ++ (d ++ Z)))
      place =
          ap (λ (l : Content). X ++ l) (append_assoc a d Z ∙ ap (λ (l : Content). l ++ (d ++ Z)) q ∙ append_assoc pre (x ∷ rest) (d ++ Z))
          ∙ sym (append_assoc X pre (x ∷ (rest ++ (d ++ Z))))

      by : (s : Bool) → is_start_half x ≡ s → is_form_P x ≡ true
          → any_mk (class x) (cond s start end) (marks i d) ≡ any_mk (class x) end (marks i a) && any_mk (class x) start (marks i d)
      by true s p =
          let seen : any_mk (class x) end (marks i a) ≡ true = ap (λ (l : Content). any_mk (class x) end (marks i l)) q
          ∙ seen_in end pre x rest p (rw s) in
          rw seen
      by false s p =
          let sh : Shape (e i) (marks i (X ++ pre) ++ (mk (class x) (is_form_P x) end ∷ marks i (rest ++ (d ++ Z)))) = rw s at
          (around (X ++ pre) x (rest ++ (d ++ Z)) p place) in
          let none_after = after_end (marks i (X ++ pre)) (class x) (is_form_P x) (marks i (rest ++ (d ++ Z))) sh in
          let gone : marks i d ≡ []
          = append_nil_left (marks i d) (marks i Z)
          (sym (marks_append i d Z) ∙ append_nil_right (marks i rest) (marks i (d ++ Z)) (sym (marks_append i rest (d ++ Z)) ∙ none_after)) in
          rw gone (sym (and_false (any_mk (class x) end (marks i a))))

  at_right : (pre : Content) (x : Item) (rest : Content) → d ≡ pre ++ (x ∷ rest) → cut_item a x ≡ turn (is_cut a d) x
  unfolding is_cut
  at_right pre x rest q = same_turn a x (λ p. any_other x (pm_half x p) a ∙ by (is_start_half x) refl p)
    where
      i : ℕ
      i = id_of x

      place : X ++ ((a ++ d) ++ Z) ≡ (X ++ (a ++ pre)) ++ (x ∷ (rest ++ Z))
      place =
          ap (λ (l : Content). X ++ l)
          (append_assoc a d Z ∙ ap (λ (l : Content). a ++ (l ++ Z)) q ∙ ap (λ (l : Content). a ++ l) (append_assoc pre (x ∷ rest) Z)
          ∙ sym (append_assoc a pre (x ∷ (rest ++ Z))))
          ∙ sym (append_assoc X (a ++ pre) (x ∷ (rest ++ Z)))

      by : (s : Bool) → is_start_half x ≡ s → is_form_P x ≡ true
          → any_mk (class x) (cond s start end) (marks i a) ≡ any_mk (class x) end (marks i a) && any_mk (class x) start (marks i d)
      by false s p =
          let seen : any_mk (class x) start (marks i d) ≡ true = ap (λ (l : Content). any_mk (class x) start (marks i l)) q
          ∙ seen_in start pre x rest p (rw s) in
          rw seen (sym (and-true (any_mk (class x) end (marks i a))))
      by true s p =
          let sh : Shape (e i) (marks i (X ++ (a ++ pre)) ++ (mk (class x) (is_form_P x) start ∷ marks i (rest ++ Z))) = rw s at
          (around (X ++ (a ++ pre)) x (rest ++ Z) p place) in
          let none_before = before_start (marks i (X ++ (a ++ pre))) (class x) (is_form_P x) (marks i (rest ++ Z)) sh in
          let gone : marks i a ≡ []
          = append_nil_left (marks i a) (marks i pre)
          (sym (marks_append i a pre) ∙ append_nil_right (marks i X) (marks i (a ++ pre)) (sym (marks_append i X (a ++ pre)) ∙ none_before)) in
          rw gone

  pub left_turned : map (cut_item d) a ≡ map (turn (is_cut a d)) a
  left_turned = map_from (cut_item d) (turn (is_cut a d)) a [] a refl at_left

  pub right_turned : map (cut_item a) d ≡ map (turn (is_cut a d)) d
  right_turned = map_from (cut_item a) (turn (is_cut a d)) d [] d refl at_right

-- A content, cut: the shapes around its two pieces, and together its two halves are the content with what is cut turned
in_pieces : (n : ℕ) (xs : Content) (e : ℕ → ℕ → Half → Bool) (X Z : Content) → ((i : ℕ) → Shape (e i) (marks i (X ++ (xs ++ Z))))
    → (i : ℕ) → Shape (e i) (marks i (X ++ ((take n xs ++ drop n xs) ++ Z)))
in_pieces n xs e X Z shapes i = subst (λ (l : Content). Shape (e i) (marks i (X ++ (l ++ Z)))) (sym (take-append-drop n xs)) (shapes i)

pub cut_together : (n : ℕ) (xs : Content) (e : ℕ → ℕ → Half → Bool) (X Z : Content) → ((i : ℕ) → Shape (e i) (marks i (X ++ (xs ++ Z))))
    → first_items n xs ++ second_items n xs ≡ map (turn (is_cut (take n xs) (drop n xs))) xs
unfolding first_items second_items
cut_together n xs e X Z shapes =
    let a : Content = take n xs in
    let d : Content = drop n xs in
    let around = in_pieces n xs e X Z shapes in
    ap₂ ◌++◌ (left_turned e X a d Z around) (right_turned e X a d Z around)
    ∙ sym (map-append (turn (is_cut a d)) a d) ∙ ap (map (turn (is_cut a d))) (take-append-drop n xs)

-- A balanced content, cut: its two halves are balanced, and together they are the content with some keys turned
pub record Cut (n : ℕ) (xs : Content) : Type 0 where
  pub keys : Key → Bool
  pub together : first_items n xs ++ second_items n xs ≡ map (turn keys) xs
  pub first : Balanced (first_items n xs)
  pub second : Balanced (second_items n xs)

pub cut_content : (n : ℕ) (xs : Content) (e : ℕ → ℕ → Half → Bool) (X Z : Content) → ((i : ℕ) → Shape (e i) (marks i (X ++ (xs ++ Z))))
    → Balanced xs → Cut n xs
unfolding first_items second_items
cut_content n xs e X Z shapes b =
    let a : Content = take n xs in
    let d : Content = drop n xs in
    let around = in_pieces n xs e X Z shapes in
    let l = left_turned e X a d Z around in
    let r = right_turned e X a d Z around in
    let q = cut_balances a d (subst Balanced (sym (take-append-drop n xs)) b) in
    record {
      keys = is_cut a d;
      together = cut_together n xs e X Z shapes;
      first = subst Balanced (sym l) q.0;
      second = subst Balanced (sym r) q.1;
    }

-- Sequences in which a stretch is turned
pub record Turned (old new : Content) : Type 0 where
  pub keys : Key → Bool
  pub before : Content
  pub mid : Content
  pub behind : Content
  pub was : old ≡ before ++ (mid ++ behind)
  pub is : new ≡ before ++ (map (turn keys) mid ++ behind)

pub not_turned : (old new : Content) → new ≡ old → Turned old new
not_turned old new e = record { keys = λ k. false; before = []; mid = []; behind = old; was = refl; is = e }

-- parts whose orders change
pub bare_append : (ps qs : List Part) → bare_sequence (ps ++ qs) ≡ bare_sequence ps ++ bare_sequence qs
unfolding bare_sequence
bare_append ps qs = gather_append bare ps qs

pub bare_orders : (f : ℕ → ℕ) (ps : List Part) → bare_sequence (order_parts f ps) ≡ bare_sequence ps
unfolding bare_sequence gather bare order_parts order_part
bare_orders f [] = refl
bare_orders f (p ∷ ps) = ap₂ ◌++◌ (ap (λ (b : Bool). cond b [] p.source) (has_order f p.target)) (bare_orders f ps)

pub balanced_orders : (f : ℕ → ℕ) (ps : List Part) → AllBalanced ps → AllBalanced (order_parts f ps)
unfolding order_parts order_part
balanced_orders f [] each_nil = each_nil
balanced_orders f (p ∷ ps) (each_cons b h) =
    each_cons (record { source = b.source; target = subst Balanced (sym (items_order f p.target)) b.target }) (balanced_orders f ps h)

-- SPLIT
abbrev pub after_split : ℕ → ℕ → ℕ → List Part → Part → List Part → List Part
after_split source_cut target_cut new b p a = order_parts (split_order p.target) b ++
    (first_half source_cut target_cut p ∷ second_half source_cut target_cut new p ∷ order_parts (split_order p.target) a)

pub record SplitKeeps (old new : List Part) : Type 0 where
  pub source : Turned (source_sequence old) (source_sequence new)
  pub target : Turned (target_sequence old) (target_sequence new)
  pub seven : Good7 new

two_in : (X f s Z m : Content) → f ++ s ≡ m → X ++ (f ++ (s ++ Z)) ≡ X ++ (m ++ Z)
two_in X f s Z m e = ap (λ (l : Content). X ++ l) (sym (append_assoc f s Z) ∙ ap (λ (l : Content). l ++ Z) e)

module _ (source_cut target_cut new : ℕ) (b : List Part) (p : Part) (a : List Part) (five : fault_5 (b ++ (p ∷ a)) ≡ none)
    (g : Good7 (b ++ (p ∷ a))) where
  abbrev old : List Part
  old = b ++ (p ∷ a)

  abbrev now : List Part
  now = after_split source_cut target_cut new b p a

  source_was : source_sequence old ≡ source_sequence b ++ (p.source ++ source_sequence a)
  unfolding source_sequence gather
  source_was = source_append b (p ∷ a)

  own : BalancedPart p
  own = (each_apart b p a g.bal).1

  source_is_cut : Cut source_cut p.source
  source_is_cut =
      cut_content source_cut p.source (λ i. waits [] i) (source_sequence b) (source_sequence a)
      (λ i. subst (λ (l : Content). Shape (waits [] i) (marks i l)) source_was (g.source_side i)) own.source

  source_turned : Turned (source_sequence old) (source_sequence now)
  unfolding first_half second_half source_sequence gather
  source_turned =
      let f : ℕ → ℕ = split_order p.target in
      let c = source_is_cut in
      record {
        keys = c.keys;
        before = source_sequence b;
        mid = p.source;
        behind = source_sequence a;
        was = source_was;
        is = source_append (order_parts f b) (first_half source_cut target_cut p ∷ second_half source_cut target_cut new p ∷ order_parts f a)
            ∙ ap₂ (λ (l m : Content). l ++ (first_items source_cut p.source ++ (second_items source_cut p.source ++ m)))
            (source_orders f b) (source_orders f a)
            ∙ two_in (source_sequence b) (first_items source_cut p.source) (second_items source_cut p.source) (source_sequence a)
            (map (turn c.keys) p.source) c.together;
      }

  source_shape : (i : ℕ) → Shape (waits [] i) (marks i (source_sequence now))
  unfolding source_turned
  source_shape i =
      let t = source_turned in
      subst (λ (l : Content). Shape (waits [] i) (marks i l)) (sym t.is)
      (Shape-turn t.keys i t.before t.mid t.behind own.source
      (subst (λ (l : Content). Shape (waits [] i) (marks i l)) t.was (g.source_side i)))

  all_balanced : Balanced (target_items (first_target target_cut p.target))
      → Balanced (target_items (second_target target_cut p.target)) → AllBalanced now
  unfolding first_half second_half
  all_balanced u v =
      let (hb, hp, ha) = each_apart b p a g.bal in
      let c = source_is_cut in
      let f : ℕ → ℕ = split_order p.target in
      each_append (order_parts f b) _ (balanced_orders f b hb)
      (each_cons (record { source = c.first; target = u }) (each_cons (record { source = c.second; target = v }) (balanced_orders f a ha)))

  bare_now : bare_sequence now
      ≡ bare_sequence b ++ (bare (first_half source_cut target_cut p) ++ (bare (second_half source_cut target_cut new p) ++ bare_sequence a))
  unfolding bare_sequence gather
  bare_now =
      let f : ℕ → ℕ = split_order p.target in
      bare_append (order_parts f b) (first_half source_cut target_cut p ∷ second_half source_cut target_cut new p ∷ order_parts f a)
      ∙ ap₂ (λ (l m : Content). l ++ (bare (first_half source_cut target_cut p) ++ (bare (second_half source_cut target_cut new p) ++ m)))
      (bare_orders f b) (bare_orders f a)

  bare_was : bare_sequence old ≡ bare_sequence b ++ (bare p ++ bare_sequence a)
  unfolding bare_sequence gather
  bare_was = bare_append b (p ∷ a)

  -- with a target
  module _ (q : ℕ) (xs : Content) (target_equals : p.target ≡ target q xs) where
    raised : (u v : Content) × (target_sequence old ≡ u ++ (xs ++ v))
        × (target_sequence
        (order_parts (raise_above q) b ++
        (first_half source_cut target_cut p ∷ second_half source_cut target_cut new p ∷ order_parts (raise_above q) a))
        ≡ u ++ ((first_items target_cut xs ++ second_items target_cut xs) ++ v))
    unfolding first_half second_half first_target second_target
    raised =
        let (l, h, nb, na) = place b p a q xs target_equals five in
        split_targets b a p (first_half source_cut target_cut p) (second_half source_cut target_cut new p) q xs (first_items target_cut xs)
        (second_items target_cut xs) target_equals
        (ap (first_target target_cut) target_equals) (ap (second_target target_cut) target_equals) l h (unused_order q b nb) (unused_order q a na)

    seqs : (u v : Content) × (target_sequence old ≡ u ++ (xs ++ v)) ×
        (target_sequence now ≡ u ++ ((first_items target_cut xs ++ second_items target_cut xs) ++ v))
    unfolding split_order
    seqs = (
      raised.0,
      raised.1,
      raised.2,
      ap (λ (t : Target). target_sequence (order_parts (split_order t) b ++
          (first_half source_cut target_cut p ∷ second_half source_cut target_cut new p ∷ order_parts (split_order t) a))) target_equals
          ∙ raised.3,
    )

    own_balanced : Balanced xs
    unfolding target_items
    own_balanced = subst (λ (t : Target). Balanced (target_items t)) target_equals own.target

    target_is_cut : Cut target_cut xs
    target_is_cut =
        let (u, v, x, y) = seqs in
        cut_content target_cut xs (λ i. waits (bare_sequence old) i) u v
        (λ i. subst (λ (l : Content). Shape (waits (bare_sequence old) i) (marks i l)) x (g.target_side i)) own_balanced

    target_turned : Turned (target_sequence old) (target_sequence now)
    target_turned =
        let (u, v, x, y) = seqs in
        let c = target_is_cut in
        record {
          keys = c.keys;
          before = u;
          mid = xs;
          behind = v;
          was = x;
          is = y ∙ ap (λ (l : Content). u ++ (l ++ v)) c.together;
        }

    bare_same : bare_sequence now ≡ bare_sequence old
    unfolding bare first_half second_half first_target second_target has_target
    bare_same = bare_now
        ∙ ap (λ (t : Target). bare_sequence b ++ (cond (has_target (first_target target_cut t)) [] (first_items source_cut p.source)
        ++ (cond (has_target (second_target target_cut t)) [] (second_items source_cut p.source) ++ bare_sequence a))) target_equals
        ∙ sym (bare_was ∙ ap (λ (t : Target). bare_sequence b ++ (cond (has_target t) [] p.source ++ bare_sequence a)) target_equals)

    pub split_with : SplitKeeps old now
    unfolding first_target second_target target_items target_turned
    split_with =
        let c = target_is_cut in
        let t = target_turned in
        record {
          source = source_turned;
          target = t;
          seven = record {
            source_side = source_shape;
            target_side = λ i.
                subst (λ (l : Content). Shape (waits l i) (marks i (target_sequence now))) (sym bare_same)
                (subst (λ (l : Content). Shape (waits (bare_sequence old) i) (marks i l)) (sym t.is)
                (Shape-turn t.keys i t.before xs t.behind own_balanced
                (subst (λ (l : Content). Shape (waits (bare_sequence old) i) (marks i l)) t.was (g.target_side i))));
            bal = all_balanced (subst (λ (t : Target). Balanced (target_items (first_target target_cut t))) (sym target_equals) c.first)
                (subst (λ (t : Target). Balanced (target_items (second_target target_cut t))) (sym target_equals) c.second);
          };
        }

  -- without
  module _ (target_equals : p.target ≡ no_target) where
    same_target_sequence : target_sequence now ≡ target_sequence old
    unfolding first_half second_half first_target second_target
    same_target_sequence =
        ap (λ (t : Target). target_sequence (order_parts (split_order t) b ++
        (first_half source_cut target_cut p ∷ second_half source_cut target_cut new p ∷ order_parts (split_order t) a))) target_equals
        ∙ without_target b p (first_half source_cut target_cut p) (second_half source_cut target_cut new p) a target_equals
        (ap (first_target target_cut) target_equals) (ap (second_target target_cut) target_equals) (fault_5_fits old five)

    bare_turned : bare_sequence now ≡ bare_sequence b ++ (map (turn source_is_cut.keys) p.source ++ bare_sequence a)
    unfolding bare first_half second_half first_target second_target has_target
    bare_turned = bare_now
        ∙ ap (λ (t : Target). bare_sequence b ++ (cond (has_target (first_target target_cut t)) [] (first_items source_cut p.source)
        ++ (cond (has_target (second_target target_cut t)) [] (second_items source_cut p.source) ++ bare_sequence a))) target_equals
        ∙ two_in (bare_sequence b) (first_items source_cut p.source) (second_items source_cut p.source) (bare_sequence a)
        (map (turn source_is_cut.keys) p.source) source_is_cut.together

    bare_old : bare_sequence old ≡ bare_sequence b ++ (p.source ++ bare_sequence a)
    unfolding bare has_target
    bare_old = bare_was ∙ ap (λ (t : Target). bare_sequence b ++ (cond (has_target t) [] p.source ++ bare_sequence a)) target_equals

    pub split_without : SplitKeeps old now
    unfolding first_target second_target target_items
    split_without =
        record {
          source = source_turned;
          target = not_turned (target_sequence old) (target_sequence now) same_target_sequence;
          seven = record {
            source_side = source_shape;
            target_side = λ i.
                Shape-mono (λ c s h. ap (λ (l : Content). any_mk c s (marks i l)) bare_turned
                ∙ waits_turn source_is_cut.keys i (bare_sequence b) p.source (bare_sequence a) c s
                ∙ ap (λ (l : Content). any_mk c s (marks i l)) (sym bare_old) ∙ h)
                (subst (λ (l : Content). Shape (waits (bare_sequence old) i) (marks i l)) (sym same_target_sequence) (g.target_side i));
            bal = all_balanced (subst (λ (t : Target). Balanced (target_items (first_target target_cut t))) (sym target_equals) r_nil)
                (subst (λ (t : Target). Balanced (target_items (second_target target_cut t))) (sym target_equals) r_nil);
          };
        }

pub split_keeps : (source_cut target_cut new : ℕ) (ps b : List Part) (p : Part) (a : List Part) → fault_5 (b ++ (p ∷ a)) ≡ none → Good7 (b ++ (p ∷ a))
    → SplitKeeps (b ++ (p ∷ a)) (split_focus source_cut target_cut new ps (here b p a))
unfolding split_focus
split_keeps source_cut target_cut new ps b p a five g = by p.target refl
  where
    by : (t : Target) → p.target ≡ t → SplitKeeps (b ++ (p ∷ a)) (after_split source_cut target_cut new b p a)
    by no_target e = split_without source_cut target_cut new b p a five g e
    by (target q xs) e = split_with source_cut target_cut new b p a five g q xs e
