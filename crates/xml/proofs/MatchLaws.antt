-- In a valid unit the starts and ends of pc and mrk in a content belong together as the writer and the reader take
-- them.
use Prim.Native.Nat.{ℕ, ◌≤◌}
use mathlib.Core.Path.{◌≡◌, refl, sym, ap, ◌∙◌, subst}
use mathlib.Core.Bool.{Bool, true, false, not, false≢true, true≢false}
use mathlib.Core.List.{List, [], ◌∷◌, ◌++◌, map, reverse_aux}
use mathlib.Core.Option.{some}
use native.Mathlib.Omega.{arith}
use lib.Dec.{eqb}
use borrow.Author.Tests.{eqb-true, eq-eqb, not-true, not-false}
use Rattle.xliff.specs.Bytes.{'F'}
use Rattle.xliff.specs.Item.{Item, Content, Fields, start, end, form_P, form_S, text, character, standalone, isolated, pair, annotation_start, annotation_end, is_form_P, class, id_of, half, is_start_half, is_half, fields, alike, other_half}
use Rattle.xliff.specs.Rules.{half_of_id, nearest, end_letter, ill_matched, ill_ended, bad_8_target, fixed_but_free}
use Rattle.xliff.specs.Good.{Each, each_nil, each_cons}
use Rattle.xliff.proofs.lists.Tests.{and_left, and_right, or_left, or_right, or-true}
use Rattle.xliff.proofs.rules.Stack.{Key, key, PM, cls, Run, r_cls}
use Rattle.xliff.proofs.rules.Balance.{key_of, pm, Balanced}
use Rattle.xliff.proofs.rules.Marks.{inv_skip, inv_opn, no_cls, no_end}
use Rattle.xliff.proofs.rules.Sequences.{clear, clear_drop}
use Rattle.xliff.proofs.rules.Partner.{Beside, alone, opens, closes}
use Rattle.xliff.proofs.operations.Rewrite.{halves, nearest_skip}
use Rattle.xml.specs.Elements.{end_of_pc}
use Rattle.xml.specs.Write.{behind_first, pending, first_data}
use Rattle.xml.proofs.ContentLaws.{ClosedAt, Closed, closed_nil, closed_cons}

-- an item of a list
data Has (s : Item) : Content → Type 0 where
  has_here : {b : Content} → Has s (s ∷ b)
  has_later : {x : Item} {b : Content} → Has s b → Has s (x ∷ b)

has_count : (i : ℕ) (s : Item) (b : Content) → Has s b → half_of_id i s ≡ true → 1 ≤ halves i b
has_count i s b (has_here {b = c}) h = rw h (omega arith)
has_count i s b (has_later {x = x} {b = c} k) h = let z = has_count i s c k h in omega arith

-- the only half of an id in a list is the nearest other half
nearest_only : (i : ℕ) (y s : Item) (b : Content) → Has s b → half_of_id i y ≡ true → half_of_id i s ≡ true
    → other_half y s ≡ true → halves i b ≡ 1 → nearest (other_half y) b ≡ some s
unfolding nearest
nearest_only i y s b has_here p q o n = rw o
nearest_only i y s b (has_later {x = x} {b = c} k) p q o n =
    let z = has_count i s c k q in
    nearest_skip i y (x ∷ []) c p (omega arith) ∙ nearest_only i y s c k p q o (omega arith)

-- the start of a pc and its end
same_number : (a b : ℕ) → not (eqb a b) ≡ false → a ≡ b
same_number a b p = eqb-true a b (not-false _ p)

fields_match : (f g : Fields) → f.id ≡ g.id → ill_matched f true g ≡ false → g ≡ end_of_pc f g.data_ref
unfolding ill_matched end_of_pc
fields_match f g e h =
    let h₁ = or_right (not (eqb f.copy_of g.copy_of)) _ h in
    let h₂ = or_right (not (eqb f.can_copy g.can_copy)) _ h₁ in
    let h₃ = or_right (not (eqb f.can_delete g.can_delete)) _ h₂ in
    let h₄ = or_right (not (eqb f.can_overlap g.can_overlap)) _ h₃ in
    let h₅ : not (eqb g.can_reorder (end_letter f.can_reorder)) ≡ false = rw (or-true (eqb f.can_reorder 'F')) at h₄ in
    λ k. record {
      id = sym e k;
      copy_of = sym (same_number f.copy_of g.copy_of (or_left _ _ h)) k;
      data_ref = g.data_ref;
      can_copy = sym (same_number f.can_copy g.can_copy (or_left _ _ h₁)) k;
      can_delete = sym (same_number f.can_delete g.can_delete (or_left _ _ h₂)) k;
      can_overlap = sym (same_number f.can_overlap g.can_overlap (or_left _ _ h₃)) k;
      can_reorder = same_number g.can_reorder (end_letter f.can_reorder) h₅ k;
    }

-- a start and an end that belong together
abbrev Match : Item → Item → Type 0
Match (text c) y = ⊥
Match (character c) y = ⊥
Match (standalone f) y = ⊥
Match (isolated h f) y = ⊥
Match (pair start form_P f) y = y ≡ pair end form_P (end_of_pc f (fields y).data_ref)
Match (pair start form_S f) y = ⊥
Match (pair end w f) y = ⊥
Match (annotation_start form_P i t) y = y ≡ annotation_end form_P i
Match (annotation_start form_S i t) y = ⊥
Match (annotation_end w i) y = ⊥

data Matches : List Item → List Item → Type 0 where
  no_match : Matches [] []
  one_match : {s y : Item} {ss ys : List Item} → Match s y → Matches ss ys → Matches (s ∷ ss) (y ∷ ys)

-- starts of pc and mrk
record Starter (b : Content) (s : Item) : Type 0 where
  form : is_form_P s ≡ true
  starts : is_start_half s ≡ true
  has : Has s b

later : (x : Item) (b : Content) (ss : List Item) → Each (Starter b) ss → Each (Starter (x ∷ b)) ss
later x b [] each_nil = each_nil
later x b (s ∷ ss) (each_cons p ps) =
    each_cons (record { form = p.form; starts = p.starts; has = has_later p.has }) (later x b ss ps)

closes_last : {k j : Key} {l : List PM} {s t : List Key} → Run (cls k ∷ l) (j ∷ s) t → (j ≡ k) × Run l s t
closes_last (r_cls r) = (refl, r)

-- a start whose end is the first that is left
opened_pair : (f : Fields) (ss p : List Item) → Matches (pair start form_P f ∷ ss) p
    → Matches ss (behind_first p) × ((os : List Item) × (p ≡ pair end form_P (end_of_pc f (first_data p)) ∷ os))
unfolding behind_first first_data
opened_pair f ss p (one_match {y = y} {ys = ys} q qs) = (qs, (ys, ap {B = List Item} (λ z. z ∷ ys) q))

opened_mark : (i t : ℕ) (ss p : List Item) → Matches (annotation_start form_P i t ∷ ss) p
    → Matches ss (behind_first p) × ((os : List Item) × (p ≡ annotation_end form_P i ∷ os))
unfolding behind_first first_data
opened_mark i t ss p (one_match {y = y} {ys = ys} q qs) = (qs, (ys, ap {B = List Item} (λ z. z ∷ ys) q))

rev_twice : (a b c : Content) → reverse_aux (reverse_aux a b) c ≡ reverse_aux b (a ++ c)
rev_twice [] b c = refl
rev_twice (x ∷ a) b c = rev_twice a (x ∷ b) c

rev_back : (pre l : Content) → pre ++ l ≡ reverse_aux (reverse_aux pre []) l
rev_back pre l = sym (rev_twice pre [] l)

-- a content within a sequence that meets 7 and 8
module _ (seq : Content) (bad : Content → Item → Content → Bool)
    (partner : (b : Content) (x : Item) (a : Content) → seq ≡ reverse_aux b (x ∷ a) → is_half x ≡ true → Beside (id_of x) b x a)
    (eight : (b : Content) (x : Item) (a : Content) → bad b x a ≡ false → bad_8_target b x a ≡ false) where
  pair_match : (f g : Fields) (b a : Content) → seq ≡ reverse_aux b (pair end form_P g ∷ a)
      → bad b (pair end form_P g) a ≡ false → Has (pair start form_P f) b → f.id ≡ g.id
      → Match (pair start form_P f) (pair end form_P g)
  unfolding bad_8_target ill_ended class half id_of is_form_P fields half_of_id other_half alike
  pair_match f g b a e h k q =
      let p : half_of_id g.id (pair end form_P g) ≡ true = rw (eq-eqb g.id g.id refl) in
      let s : half_of_id g.id (pair start form_P f) ≡ true = rw (eq-eqb f.id g.id q) in
      let o : other_half (pair end form_P g) (pair start form_P f) ≡ true = rw (eq-eqb g.id f.id (sym q)) in
      by p s o (partner b (pair end form_P g) a e refl)
    where
      by : half_of_id g.id (pair end form_P g) ≡ true → half_of_id g.id (pair start form_P f) ≡ true
          → other_half (pair end form_P g) (pair start form_P f) ≡ true → Beside g.id b (pair end form_P g) a
          → pair end form_P g ≡ pair end form_P (end_of_pc f g.data_ref)
      by p s o (alone n m) = absurd (let z = has_count g.id (pair start form_P f) b k s in let y : ⊥ = omega arith in y)
      by p s o (opens n m) = absurd (let z = has_count g.id (pair start form_P f) b k s in let y : ⊥ = omega arith in y)
      by p s o (closes only n) =
          let near = nearest_only g.id (pair end form_P g) (pair start form_P f) b k p s o only.count in
          let clean : ill_ended (pair end form_P g) (nearest (other_half (pair end form_P g)) b) ≡ false =
          or_left _ (fixed_but_free (pair end form_P g)) (eight b (pair end form_P g) a h) in
          ap (pair end form_P) (fields_match f g q (rw near at clean))

  -- the end of what was opened last
  end_match : (s y : Item) (b a : Content) → seq ≡ reverse_aux b (y ∷ a) → bad b y a ≡ false → Starter b s
      → is_form_P y ≡ true → is_start_half y ≡ false → key_of s ≡ key_of y → Match s y
  unfolding class id_of is_form_P half
  end_match (text c) y b a e h k p q m = absurd (false≢true k.form)
  end_match (character c) y b a e h k p q m = absurd (false≢true k.form)
  end_match (standalone f) y b a e h k p q m = absurd (false≢true k.form)
  end_match (isolated w f) y b a e h k p q m = absurd (false≢true k.form)
  end_match (pair start form_P f) y b a e h k p q m = by y e h p q m
    where
      by : (y : Item) → seq ≡ reverse_aux b (y ∷ a) → bad b y a ≡ false → is_form_P y ≡ true → is_start_half y ≡ false
          → key 2 f.id ≡ key_of y → Match (pair start form_P f) y
      by (text c) e h p q m = absurd (false≢true p)
      by (character c) e h p q m = absurd (false≢true p)
      by (standalone g) e h p q m = absurd (false≢true p)
      by (isolated w g) e h p q m = absurd (false≢true p)
      by (pair start w g) e h p q m = absurd (true≢false q)
      by (pair end form_P g) e h p q m = pair_match f g b a e h k.has (let z : f.id ≡ g.id = cc in z)
      by (pair end form_S g) e h p q m = absurd (false≢true p)
      by (annotation_start w i t) e h p q m = absurd (true≢false q)
      by (annotation_end w i) e h p q m = absurd (let z : ◌≡◌ {A = ℕ} 2 5 = cc in let y : ⊥ = omega arith in y)
  end_match (pair start form_S f) y b a e h k p q m = absurd (false≢true k.form)
  end_match (pair end w f) y b a e h k p q m = absurd (false≢true k.starts)
  end_match (annotation_start form_P i t) y b a e h k p q m = by y p q m
    where
      by : (y : Item) → is_form_P y ≡ true → is_start_half y ≡ false → key 5 i ≡ key_of y → Match (annotation_start form_P i t) y
      by (text c) p q m = absurd (false≢true p)
      by (character c) p q m = absurd (false≢true p)
      by (standalone g) p q m = absurd (false≢true p)
      by (isolated w g) p q m = absurd (false≢true p)
      by (pair w v g) p q m = absurd (let z : ◌≡◌ {A = ℕ} 5 2 = cc in let y : ⊥ = omega arith in y)
      by (annotation_start w j u) p q m = absurd (true≢false q)
      by (annotation_end form_P j) p q m = ap (annotation_end form_P) (let z : j ≡ i = cc in z)
      by (annotation_end form_S j) p q m = absurd (false≢true p)
  end_match (annotation_start form_S i t) y b a e h k p q m = absurd (false≢true k.form)
  end_match (annotation_end w i) y b a e h k p q m = absurd (false≢true k.starts)

  -- What a content, read from some open starts on, leaves: ends that belong to those starts; and each start in it has
  -- its end
  abbrev Left : List Item → Content → Type 0
  Left ss xs = Matches ss (pending xs) × Closed xs

  ended : (y : Item) (xs post b : Content) (ss : List Item) → is_form_P y ≡ true → is_start_half y ≡ false → ClosedAt y xs
      → seq ≡ reverse_aux b (y ∷ (xs ++ post)) → bad b y (xs ++ post) ≡ false
      → Run (cls (key_of y) ∷ map pm xs) (map key_of ss) [] → Each (Starter b) ss
      → ((ts : List Item) → Run (map pm xs) (map key_of ts) [] → Each (Starter (y ∷ b)) ts → Left ts xs)
      → Matches ss (y ∷ pending xs) × Closed (y ∷ xs)
  ended y xs post b [] p q c e h r each_nil ih = absurd (no_cls r)
  ended y xs post b (s ∷ ss) p q c e h r (each_cons k ks) ih =
      let (m, r') = closes_last r in
      let (ms, cs) = ih ss r' (later y b ss ks) in
      (one_match (end_match s y b (xs ++ post) e h k p q m) ms, closed_cons c cs)

  left : (xs post b : Content) (ss : List Item) → seq ≡ reverse_aux b (xs ++ post) → clear bad b (xs ++ post) ≡ true
      → Run (map pm xs) (map key_of ss) [] → Each (Starter b) ss → Left ss xs
  unfolding pending is_form_P half clear class id_of
  left [] post b [] e h r k = (no_match, closed_nil)
  left [] post b (s ∷ ss) e h r k = absurd (no_end r)
  left (text c ∷ xs) post b ss e h r k =
      let (m, cs) =
      left xs post (text c ∷ b) ss e (and_right (not (bad b (text c) (xs ++ post))) _ h) (inv_skip r) (later _ b ss k) in
      (m, closed_cons tt cs)
  left (character c ∷ xs) post b ss e h r k =
      let (m, cs) =
      left xs post (character c ∷ b) ss e (and_right (not (bad b (character c) (xs ++ post))) _ h) (inv_skip r)
      (later _ b ss k) in
      (m, closed_cons tt cs)
  left (standalone f ∷ xs) post b ss e h r k =
      let (m, cs) =
      left xs post (standalone f ∷ b) ss e (and_right (not (bad b (standalone f) (xs ++ post))) _ h) (inv_skip r)
      (later _ b ss k) in
      (m, closed_cons tt cs)
  left (isolated w f ∷ xs) post b ss e h r k =
      let (m, cs) =
      left xs post (isolated w f ∷ b) ss e (and_right (not (bad b (isolated w f) (xs ++ post))) _ h) (inv_skip r)
      (later _ b ss k) in
      (m, closed_cons tt cs)
  left (pair start form_S f ∷ xs) post b ss e h r k =
      let (m, cs) =
      left xs post (pair start form_S f ∷ b) ss e (and_right (not (bad b (pair start form_S f) (xs ++ post))) _ h)
      (inv_skip r) (later _ b ss k) in
      (m, closed_cons tt cs)
  left (pair end form_S f ∷ xs) post b ss e h r k =
      let (m, cs) =
      left xs post (pair end form_S f ∷ b) ss e (and_right (not (bad b (pair end form_S f) (xs ++ post))) _ h) (inv_skip r)
      (later _ b ss k) in
      (m, closed_cons tt cs)
  left (annotation_start form_S i t ∷ xs) post b ss e h r k =
      let (m, cs) =
      left xs post (annotation_start form_S i t ∷ b) ss e
      (and_right (not (bad b (annotation_start form_S i t) (xs ++ post))) _ h) (inv_skip r) (later _ b ss k) in
      (m, closed_cons tt cs)
  left (annotation_end form_S i ∷ xs) post b ss e h r k =
      let (m, cs) =
      left xs post (annotation_end form_S i ∷ b) ss e (and_right (not (bad b (annotation_end form_S i) (xs ++ post))) _ h)
      (inv_skip r) (later _ b ss k) in
      (m, closed_cons tt cs)
  left (pair start form_P f ∷ xs) post b ss e h r k =
      let x : Item = pair start form_P f in
      let (m, cs) =
      left xs post (x ∷ b) (x ∷ ss) e (and_right (not (bad b x (xs ++ post))) _ h) (inv_opn r)
      (each_cons (record { form = refl; starts = refl; has = has_here }) (later x b ss k)) in
      let (ms, c) = opened_pair f ss (pending xs) m in
      (ms, closed_cons c cs)
  left (annotation_start form_P i t ∷ xs) post b ss e h r k =
      let x : Item = annotation_start form_P i t in
      let (m, cs) =
      left xs post (x ∷ b) (x ∷ ss) e (and_right (not (bad b x (xs ++ post))) _ h) (inv_opn r)
      (each_cons (record { form = refl; starts = refl; has = has_here }) (later x b ss k)) in
      let (ms, c) = opened_mark i t ss (pending xs) m in
      (ms, closed_cons c cs)
  left (pair end form_P f ∷ xs) post b ss e h r k =
      let x : Item = pair end form_P f in
      ended x xs post b ss refl refl tt e (not-true _ (and_left _ _ h)) r k
      (λ ts r' k'. left xs post (x ∷ b) ts e (and_right (not (bad b x (xs ++ post))) _ h) r' k')
  left (annotation_end form_P i ∷ xs) post b ss e h r k =
      let x : Item = annotation_end form_P i in
      ended x xs post b ss refl refl tt e (not-true _ (and_left _ _ h)) r k
      (λ ts r' k'. left xs post (x ∷ b) ts e (and_right (not (bad b x (xs ++ post))) _ h) r' k')

  -- A BALANCED CONTENT of the sequence leaves nothing
  pub content_closed : (pre xs post : Content) → seq ≡ pre ++ (xs ++ post) → clear bad [] seq ≡ true → Balanced xs
      → (pending xs ≡ []) × Closed xs
  content_closed pre xs post e h r =
      let (m, cs) =
      left xs post (reverse_aux pre []) [] (e ∙ rev_back pre (xs ++ post))
      (clear_drop bad [] pre (xs ++ post) (subst (λ (l : Content). clear bad [] l ≡ true) e h)) r each_nil in
      (nothing (pending xs) m, cs)
    where
      nothing : (p : List Item) → Matches [] p → p ≡ []
      nothing p no_match = refl
