-- What keeps rule 8: sequences whose forms change, where each end that takes the mark of pc has the PC letter; and
-- sequences from which a stretch is taken out.
use borrow.Author.Tests.{not-true}
use Prim.Native.Nat.{ℕ}
use mathlib.Core.Path.{◌≡◌, refl, sym, ap, ap₂, ◌∙◌, subst}
use mathlib.Core.Bool.{Bool, true, false, not, ◌&&◌, ◌||◌, cond, true≢false, false≢true}
use mathlib.Core.List.{List, [], ◌∷◌, ◌++◌, map, reverse_aux}
use mathlib.Core.Logic.{◌⊎◌, inl, inr}
use mathlib.Core.Option.{Option, none, some}
use lib.Dec.{eqb}
use Rattle.xliff.specs.Bytes.{'F', 'N', any}
use Rattle.xliff.specs.Item.{Item, Content, Fields, flat, flattened, fields, is_pair, is_inline_code, is_end_half, is_form_P, is_fixed, other_half, form_S}
use Rattle.xliff.specs.Unit.{Part, source_sequence, target_sequence}
use Rattle.xliff.specs.Rules.{nearest, end_letter, ill_matched, ill_ended, fixed_but_free, is_F, unled, bad_8_target, bad_8_source, fault_8}
use Rattle.xliff.proofs.lists.Tests.{and_left, and_right, or_left, or_right, and_both, and_false, or_both, or_none}
use Rattle.xliff.proofs.rules.Sequences.{clear, rule_8, rule_8_back, clear_cong}
use Rattle.xliff.proofs.operations.Sources.{flat_if}
use Rattle.xliff.proofs.rules.Flat.{class_flat, id_flat, half_flat, fields_flat, other_half_flat, any_flat, class_alike, half_alike, fields_alike}
use Rattle.xliff.proofs.rules.Stack.{Key}
use Rattle.xliff.proofs.rules.Balance.{key_of}
use Rattle.xliff.proofs.rules.Turn.{turn, form_flat}
use Rattle.xliff.proofs.operations.Cut.{Turned}

ruleset views = (class_flat, id_flat, half_flat, fields_flat)

-- the fields of the partner of an end, if it has one
abbrev fields_of : Option Item → Option Fields
fields_of none = none
fields_of (some y) = some (fields y)

unfoldable pub near : Item → Content → Option Fields
near x before = fields_of (nearest (other_half x) before)

near_flat : (x : Item) (before : Content) → near (flat x) (flattened before) ≡ near x before
unfolding near nearest flattened
near_flat x [] = refl
near_flat x (y ∷ before) = rw (other_half_flat x y) (by (other_half x y) (near_flat x before))
  where
    by : (b : Bool) → fields_of (nearest (other_half (flat x)) (flattened before)) ≡ fields_of (nearest (other_half x) before)
        → fields_of (cond b (some (flat y)) (nearest (other_half (flat x)) (flattened before))) ≡ fields_of (cond b (some y) (nearest (other_half x) before))
    by true e = ap some (fields_flat y)
    by false e = e

abbrev ill : Option Fields → Bool → Fields → Bool
ill none b e = false
ill (some s) b e = ill_matched s b e

-- rule 8 at an item, with all that does not see its form as arguments
abbrev at_8 : Bool → Option Fields → Bool → Fields → Bool → Bool
at_8 pair_end o b e rest = pair_end && ill o b e || rest

bad_8_at : (before : Content) (x : Item) (after : Content) → bad_8_target before x after ≡ at_8 (is_pair x && is_end_half x) (near x before) (is_form_P x) (fields x) (fixed_but_free x)
unfolding bad_8_target ill_ended near
bad_8_at before x after = by (nearest (other_half x) before)
  where
    by : (o : Option Item) → is_pair x && is_end_half x && ill_ended x o || fixed_but_free x ≡ at_8 (is_pair x && is_end_half x) (fields_of o) (is_form_P x) (fields x) (fixed_but_free x)
    by none = refl
    by (some y) = refl

-- the PC letter of an end's partner is its own
abbrev pub letter_fits : Option Fields → Fields → Bool
letter_fits none e = true
letter_fits (some s) e = eqb e.can_reorder (end_letter s.can_reorder)

-- Forms change; but an end gets the mark of pc only where the letter fits
pub data Eased : Content → Content → Content → Type 0 where
  eased_nil : {b : Content} → Eased b [] []
  eased_cons : {b xs ys : Content} {x y : Item} → flat y ≡ flat x → (is_form_P y ≡ true → (is_form_P x ≡ true) ⊎ (letter_fits (near x b) (fields x) ≡ true))
      → Eased (x ∷ b) xs ys → Eased b (x ∷ xs) (y ∷ ys)

eased_at : (pe : Bool) (o : Option Fields) (e : Fields) (rest p q : Bool) → (q ≡ true → (p ≡ true) ⊎ (letter_fits o e ≡ true)) → at_8 pe o p e rest ≡ false → at_8 pe o q e rest ≡ false
unfolding ill_matched
eased_at false o e rest p q h k = k
eased_at true none e rest p q h k = k
eased_at true (some s) e rest p q h k = by q p h k
  where
    ends : Bool → Bool
    ends b = not (eqb s.copy_of e.copy_of) || (not (eqb s.can_copy e.can_copy) || (not (eqb s.can_delete e.can_delete)
        || (not (eqb s.can_overlap e.can_overlap) || b)))

    lower : (a c d f g t : Bool) → (a || (c || (d || (f || true)))) || rest ≡ false → (a || (c || (d || (f || t)))) || rest ≡ false
    lower true c d f g t m = absurd (true≢false m)
    lower false true d f g t m = absurd (true≢false m)
    lower false false true f g t m = absurd (true≢false m)
    lower false false false true g t m = absurd (true≢false m)
    lower false false false false g t m = absurd (true≢false m)

    letter : Bool
    letter = eqb e.can_reorder (end_letter s.can_reorder)

    down : (f l : Bool) → ends ((f || true) && not l) || rest ≡ false → ends ((f || false) && not l) || rest ≡ false
    down f true m = subst (λ (z : Bool). ends z || rest ≡ false) (sym (and_false (f || false))) (subst (λ (z : Bool). ends z || rest ≡ false) (and_false (f || true)) m)
    down true false m = m
    down false false m =
        lower (not (eqb s.copy_of e.copy_of)) (not (eqb s.can_copy e.can_copy))
        (not (eqb s.can_delete e.can_delete)) (not (eqb s.can_overlap e.can_overlap)) true false m

    up : (f l : Bool) → l ≡ true → ends ((f || false) && not l) || rest ≡ false → ends ((f || true) && not l) || rest ≡ false
    up f true z m = subst (λ (z : Bool). ends z || rest ≡ false) (sym (and_false (f || true))) (subst (λ (z : Bool). ends z || rest ≡ false) (and_false (f || false)) m)
    up f false z m = absurd (false≢true z)

    by : (q p : Bool) → (q ≡ true → (p ≡ true) ⊎ (letter ≡ true)) → ends ((eqb s.can_reorder 'F' || p) && not letter) || rest ≡ false
        → ends ((eqb s.can_reorder 'F' || q) && not letter) || rest ≡ false
    by true true h m = m
    by false false h m = m
    by false true h m = down (eqb s.can_reorder 'F') letter m
    by true false h m = pick (h refl)
      where
        pick : (false ≡ true) ⊎ (letter ≡ true) → ends ((eqb s.can_reorder 'F' || true) && not letter) || rest ≡ false
        pick (inl z) = absurd (false≢true z)
        pick (inr z) = up (eqb s.can_reorder 'F') letter z m

-- what is the same for items that are flattened alike
module _ (x y : Item) (e : flat y ≡ flat x) where
  same_near : (b b' : Content) → flattened b' ≡ flattened b → near y b' ≡ near x b
  same_near b b' f = sym (near_flat y b') ∙ ap₂ near e f ∙ near_flat x b

  same_free : fixed_but_free y ≡ fixed_but_free x
  unfolding fixed_but_free is_fixed
  same_free = rw (class_alike x y e, fields_alike x y e)

  same_unled : (b b' : Content) → flattened b' ≡ flattened b → unled b' y ≡ unled b x
  unfolding unled is_F
  same_unled b b' f =
      rw (class_alike x y e, fields_alike x y e)
      (ap (λ (z : Bool). is_inline_code x && (eqb (fields x).can_reorder 'N' && not z))
      (sym (any_flat is_F is_F F-flat b') ∙ ap (any is_F) f ∙ any_flat is_F is_F F-flat b))
    where
      F-flat : (z : Item) → is_F (flat z) ≡ is_F z
      F-flat z = simp views

-- a further test that sees and-false forms: unled for the source, none for the target
module _ (extra : Content → Item → Bool) (blind : (x y : Item) → flat y ≡ flat x → (b b' : Content) → flattened b' ≡ flattened b → extra b' y ≡ extra b x) where
  abbrev bad : Content → Item → Content → Bool
  bad before x after = bad_8_target before x after || extra before x

  eased_clear : (b b' xs ys : Content) → flattened b' ≡ flattened b → Eased b xs ys → clear bad b xs ≡ true → clear bad b' ys ≡ true
  unfolding clear flattened
  eased_clear b b' [] (y ∷ ys) f x6 k = elim x6 [ ]
  eased_clear b b' (x ∷ xs) [] f x6 k = elim x6 [ ]
  eased_clear b b' [] [] f eased_nil k = refl
  eased_clear b b' (x ∷ xs) (y ∷ ys) f (eased_cons e w r) k =
      let was : bad_8_target b x xs || extra b x ≡ false = not-true _ (and_left _ _ k) in
      let here : bad_8_target b' y ys ≡ false
      = bad_8_at b' y ys
      ∙ ap₂ (λ (pe : Bool) (o : Option Fields). at_8 pe o (is_form_P y) (fields y) (fixed_but_free y))
      (ap₂ (λ (c h : ℕ). eqb c 2 && eqb h 2) (class_alike x y e) (half_alike x y e)) (same_near x y e b b' f)
      ∙ ap₂ (λ (g : Fields) (z : Bool). at_8 (is_pair x && is_end_half x) (near x b) (is_form_P y) g z) (fields_alike x y e) (same_free x y e)
      ∙ eased_at (is_pair x && is_end_half x) (near x b) (fields x) (fixed_but_free x) (is_form_P x) (is_form_P y) w (sym (bad_8_at b x xs) ∙ or_left _ _ was) in
      and_both _ _ (ap not (or_both _ _ here (blind x y e b b' f ∙ or_right (bad_8_target b x xs) _ was)))
      (eased_clear (x ∷ b) (y ∷ b') xs ys (ap₂ {C = Content} ◌∷◌ e f) r (and_right (not (bad b x xs)) _ k))

pub eased_target : (xs ys : Content) → Eased [] xs ys → clear bad_8_target [] xs ≡ true → clear bad_8_target [] ys ≡ true
eased_target xs ys r k =
    sym (clear_cong (λ b x a. bad_8_target b x a || false) bad_8_target (λ b x a. or_none (bad_8_target b x a)) [] ys)
    ∙ eased_clear (λ b x. false) (λ x y e b b' f. refl) [] [] xs ys refl r
    (clear_cong (λ b x a. bad_8_target b x a || false) bad_8_target (λ b x a. or_none (bad_8_target b x a)) [] xs ∙ k)

pub eased_source : (xs ys : Content) → Eased [] xs ys → clear bad_8_source [] xs ≡ true → clear bad_8_source [] ys ≡ true
unfolding bad_8_source
eased_source xs ys r k = eased_clear unled (λ x y e b b' f. same_unled x y e b b' f) [] [] xs ys refl r k

-- turning eases
pub eased_refl : (b xs : Content) → Eased b xs xs
eased_refl b [] = eased_nil
eased_refl b (x ∷ xs) = eased_cons refl (λ p. inl p) (eased_refl (x ∷ b) xs)

pub eased_append : {b xs xs' ys ys' : Content} → Eased b xs xs' → Eased (reverse_aux xs b) ys ys' → Eased b (xs ++ ys) (xs' ++ ys')
eased_append eased_nil r = r
eased_append (eased_cons e w q) r = eased_cons e w (eased_append q r)

pub flat_turn : (h : Key → Bool) (x : Item) → flat (turn h x) ≡ flat x
unfolding turn flat
flat_turn h x = flat_if form_S (h (key_of x)) x

form_turn : (h : Key → Bool) (x : Item) → is_form_P (turn h x) ≡ true → is_form_P x ≡ true
unfolding turn
form_turn h x e = by (h (key_of x)) e
  where
    by : (b : Bool) → is_form_P (cond b (flat x) x) ≡ true → is_form_P x ≡ true
    by true k = absurd (false≢true (sym (form_flat x) ∙ k))
    by false k = k

pub eased_turn : (h : Key → Bool) (b xs : Content) → Eased b xs (map (turn h) xs)
eased_turn h b [] = eased_nil
eased_turn h b (x ∷ xs) = eased_cons (flat_turn h x) (λ p. inl (form_turn h x p)) (eased_turn h (x ∷ b) xs)

pub turned_eased : (old new : Content) → Turned old new → Eased [] old new
turned_eased old new t =
    subst (λ (l : Content). Eased [] l new) (sym t.was)
    (subst (λ (l : Content). Eased [] (t.before ++ (t.mid ++ t.behind)) l) (sym t.is)
    (eased_append (eased_refl [] t.before) (eased_append (eased_turn t.keys (reverse_aux t.before []) t.mid) (eased_refl _ t.behind))))

-- RULE 8 of sequences that are eased
pub eased_8 : (ps qs : List Part) → Eased [] (source_sequence ps) (source_sequence qs) → Eased [] (target_sequence ps) (target_sequence qs) → fault_8 ps ≡ none → fault_8 qs ≡ none
eased_8 ps qs s t e =
    let (k, l) = rule_8 ps e in
    rule_8_back qs (eased_source (source_sequence ps) (source_sequence qs) s k) (eased_target (target_sequence ps) (target_sequence qs) t l)
