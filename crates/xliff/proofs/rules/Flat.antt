-- Laws of flattened sequences: the rules 9 and 10 see no forms, so that two units with equal flattened sequences meet
-- them alike.
use Prim.Native.Nat.{ℕ}
use mathlib.Core.Path.{◌≡◌, refl, sym, ap, ap₂, ◌∙◌}
use mathlib.Core.Bool.{Bool, true, false, not, ◌&&◌, ◌||◌, cond}
use mathlib.Core.List.{List, [], ◌∷◌}
use mathlib.Core.Option.{Option, none, some}
use Rattle.xliff.specs.Bytes.{any}
use Rattle.xliff.specs.Item.{Item, Content, text, character, standalone, isolated, pair, annotation_start, annotation_end, start, end, in_form, flat, flattened, class, id_of, half, fields, alike, other_half}
use Rattle.xliff.specs.Unit.{Part, source_sequence, target_sequence}
use Rattle.xliff.specs.Rules.{same_half, behind_item, enclosed, stray, any_stray, bad_9, fault_9, starts_id, agrees, may_copy, of_other_class, unlike_source, bad_copy, bad_10_source, bad_10_target, fault_10}
use Rattle.xliff.proofs.rules.Sequences.{clear, rule_9, rule_9_back, rule_10, rule_10_back}

-- what a form does not touch
pub class_flat : (x : Item) → class (flat x) ≡ class x
unfolding class flat in_form
class_flat (text c) = refl
class_flat (character c) = refl
class_flat (standalone f) = refl
class_flat (isolated start f) = refl
class_flat (isolated end f) = refl
class_flat (pair h w f) = refl
class_flat (annotation_start w i t) = refl
class_flat (annotation_end w i) = refl

pub id_flat : (x : Item) → id_of (flat x) ≡ id_of x
unfolding id_of flat in_form
id_flat (text c) = refl
id_flat (character c) = refl
id_flat (standalone f) = refl
id_flat (isolated h f) = refl
id_flat (pair h w f) = refl
id_flat (annotation_start w i t) = refl
id_flat (annotation_end w i) = refl

pub half_flat : (x : Item) → half (flat x) ≡ half x
unfolding half flat in_form
half_flat (text c) = refl
half_flat (character c) = refl
half_flat (standalone f) = refl
half_flat (isolated h f) = refl
half_flat (pair start w f) = refl
half_flat (pair end w f) = refl
half_flat (annotation_start w i t) = refl
half_flat (annotation_end w i) = refl

pub fields_flat : (x : Item) → fields (flat x) ≡ fields x
unfolding fields flat in_form
fields_flat (text c) = refl
fields_flat (character c) = refl
fields_flat (standalone f) = refl
fields_flat (isolated h f) = refl
fields_flat (pair h w f) = refl
fields_flat (annotation_start w i t) = refl
fields_flat (annotation_end w i) = refl

ruleset flats = (class_flat, id_flat, half_flat, fields_flat)

pub other_half_flat : (x y : Item) → other_half (flat x) (flat y) ≡ other_half x y
unfolding other_half alike
other_half_flat x y = simp flats

-- what is the same for items that are flattened alike
module _ (x y : Item) (e : flat y ≡ flat x) where
  pub class_alike : class y ≡ class x
  class_alike = sym (class_flat y) ∙ ap class e ∙ class_flat x

  pub id_alike : id_of y ≡ id_of x
  id_alike = sym (id_flat y) ∙ ap id_of e ∙ id_flat x

  pub half_alike : half y ≡ half x
  half_alike = sym (half_flat y) ∙ ap half e ∙ half_flat x

  pub fields_alike : fields y ≡ fields x
  fields_alike = sym (fields_flat y) ∙ ap fields e ∙ fields_flat x

-- tests that a form does not touch, on flattened lists
pub any_flat : (p q : Item → Bool) → ((x : Item) → p (flat x) ≡ q x) → (xs : Content) → any p (flattened xs) ≡ any q xs
unfolding any flattened
any_flat p q h [] = refl
any_flat p q h (x ∷ xs) = ap₂ ◌||◌ (h x) (any_flat p q h xs)

pub clear_flat : (bad bad' : Content → Item → Content → Bool) → ((b : Content) (x : Item) (a : Content) → bad (flattened b) (flat x) (flattened a) ≡ bad' b x a)
    → (b xs : Content) → clear bad (flattened b) (flattened xs) ≡ clear bad' b xs
unfolding clear flattened
clear_flat bad bad' h b [] = refl
clear_flat bad bad' h b (x ∷ xs) = ap₂ (λ (s t : Bool). not s && t) (h b x xs) (clear_flat bad bad' h (x ∷ b) xs)

-- 9
unfoldable pub flat_option : Option Content → Option Content
flat_option none = none
flat_option (some xs) = some (flattened xs)

behind_flat : (y : Item) (o : Option Content) → behind_item (flat y) (flat_option o) ≡ flat_option (behind_item y o)
unfolding behind_item flat_option flattened
behind_flat y none = refl
behind_flat y (some zs) = refl

enclosed_flat : (x : Item) (ys : Content) → enclosed (flat x) (flattened ys) ≡ flat_option (enclosed x ys)
unfolding enclosed flattened flat_option
enclosed_flat x [] = refl
enclosed_flat x (y ∷ ys) = rw (other_half_flat x y) (by (other_half x y) (enclosed_flat x ys))
  where
    by : (b : Bool) → enclosed (flat x) (flattened ys) ≡ flat_option (enclosed x ys)
        → cond b (some []) (behind_item (flat y) (enclosed (flat x) (flattened ys))) ≡ flat_option (cond b (some []) (behind_item y (enclosed x ys)))
    by true ih = refl
    by false ih = ap (behind_item (flat y)) ih ∙ behind_flat y (enclosed x ys)

stray_flat : (inside : Content) (y : Item) → stray (flattened inside) (flat y) ≡ stray inside y
unfolding stray
stray_flat inside y = simp (flats, any_flat (other_half (flat y)) (other_half y) (λ z. other_half_flat y z) inside)

any_stray_flat : (o : Option Content) → any_stray (flat_option o) ≡ any_stray o
unfolding any_stray flat_option
any_stray_flat none = refl
any_stray_flat (some inside) = any_flat (stray (flattened inside)) (stray inside) (stray_flat inside) inside

bad_9_flat : (b : Content) (x : Item) (a : Content) → bad_9 (flattened b) (flat x) (flattened a) ≡ bad_9 b x a
unfolding bad_9
bad_9_flat b x a = simp (flats, enclosed_flat x a, any_stray_flat (enclosed x a))

-- two units with equal flattened sequences
module _ (ps qs : List Part) (s : flattened (source_sequence qs) ≡ flattened (source_sequence ps)) (t : flattened (target_sequence qs) ≡ flattened (target_sequence ps)) where
  across : (bad bad' : Content → Item → Content → Bool) (xs ys : Content) → ((b : Content) (x : Item) (a : Content) → bad (flattened b) (flat x) (flattened a) ≡ bad' b x a)
      → flattened ys ≡ flattened xs → clear bad' [] xs ≡ true → clear bad' [] ys ≡ true
  unfolding flattened
  across bad bad' xs ys h e k = sym (clear_flat bad bad' h [] ys) ∙ ap (clear bad []) e ∙ clear_flat bad bad' h [] xs ∙ k

  pub rule_9_kept : fault_9 ps ≡ none → fault_9 qs ≡ none
  rule_9_kept e =
      let (k, l) = rule_9 ps e in
      rule_9_back qs (across bad_9 bad_9 (source_sequence ps) (source_sequence qs) bad_9_flat s k) (across bad_9 bad_9 (target_sequence ps) (target_sequence qs) bad_9_flat t l)

  -- 10
  bad_10_source_flat : (b : Content) (x : Item) (a : Content) → bad_10_source (flattened b) (flat x) (flattened a) ≡ bad_10_source b x a
  unfolding bad_10_source
  bad_10_source_flat b x a = simp flats

  starts_flat : (i : ℕ) (y : Item) → starts_id i (flat y) ≡ starts_id i y
  unfolding starts_id
  starts_flat i y = simp flats

  other_class_flat : (x y : Item) → of_other_class (flat x) (flat y) ≡ of_other_class x y
  unfolding of_other_class starts_id
  other_class_flat x y = simp flats

  agrees_flat : (x y : Item) → agrees (flat x) (flat y) ≡ agrees x y
  unfolding agrees same_half alike
  agrees_flat x y = simp flats

  may_copy_flat : (x y : Item) → may_copy (flat x) (flat y) ≡ may_copy x y
  unfolding may_copy
  may_copy_flat x y = simp flats

  bad_10_flat : (sources b : Content) (x : Item) (a : Content) → bad_10_target (flattened sources) (flattened b) (flat x) (flattened a) ≡ bad_10_target sources b x a
  unfolding bad_10_target unlike_source bad_copy
  bad_10_flat sources b x a =
      simp (
        any_flat (of_other_class (flat x)) (of_other_class x) (other_class_flat x) sources,
        any_flat (agrees (flat x)) (agrees x) (agrees_flat x) sources,
        any_flat (may_copy (flat x)) (may_copy x) (may_copy_flat x) sources,
        flats,
        any_flat (starts_id (id_of x)) (starts_id (id_of x)) (starts_flat (id_of x)) sources,
      )

  pub rule_10_kept : fault_10 ps ≡ none → fault_10 qs ≡ none
  rule_10_kept e =
      let (k, l) = rule_10 ps e in
      rule_10_back qs
      (across bad_10_source bad_10_source (source_sequence ps) (source_sequence qs) bad_10_source_flat s k)
      (sym (clear_flat (bad_10_target (flattened (source_sequence qs))) (bad_10_target (source_sequence qs)) (bad_10_flat (source_sequence qs)) [] (target_sequence qs))
      ∙ ap₂ (λ (u v : Content). clear (bad_10_target u) (flattened []) v) s t
      ∙ clear_flat (bad_10_target (flattened (source_sequence ps))) (bad_10_target (source_sequence ps)) (bad_10_flat (source_sequence ps)) [] (target_sequence ps) ∙ l)
