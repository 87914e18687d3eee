-- One attribute more: whether a tag's attributes are sound, and what their slots hold.
use Prim.Native.Nat.{ℕ, suc, ◌+◌, ◌≤◌, ◌<◌}
use mathlib.Core.Path.{◌≡◌, refl, sym, ap, ap₂, ◌∙◌}
use mathlib.Core.Bool.{Bool, true, false, not, ◌&&◌, ◌||◌, cond, false≢true}
use mathlib.Core.List.{List, [], ◌∷◌, ◌++◌}
use mathlib.Core.Option.{Option, none, some}
use native.Mathlib.Omega.{arith}
use lib.ListN.{length, get_or, set, replicate, length-set}
use Rattle.xliff.specs.Bytes.{equal, any}
use Rattle.xliff.proofs.lists.Tests.{and_left, and_right, and-true, and_false, or_left, or_right, or-true, any_append, equal_true, equal_refl}
use Rattle.xml.specs.Words.{Words·all}
use Rattle.xml.specs.Tokens.{Attribute, doubled}
use Rattle.xml.specs.Attributes.{named, only, value_of}
use borrow.Author.Tests.{not-true}
use Rattle.xml_slots.specs.Slots.{slot_names, value_read, absent, or_bad, in_slot, slots_of, sound, index_of}
use Rattle.xml_attributes.specs.Tags.{Known, Placed}
use Rattle.xml_slots.proofs.NameLaws.{none_twice, equal_swap, stands_in, not_there, absent_there, named_below, unnamed}
use Rattle.xml_slots.proofs.ValueLaws.{slot_absent}

-- whether the attributes are sound
module _ (x : Attribute) where
  apart : (a b c d : Bool) → a || (b || false) || (c || d) ≡ a || c || (b || d)
  apart true b c d = refl
  apart false true c d = sym (or-true c)
  apart false false c d = refl

  doubled_more : (ats : List Attribute) → doubled (ats ++ (x ∷ [])) ≡ doubled ats || stands_in x.name ats
  unfolding doubled any
  doubled_more [] = refl
  doubled_more (a ∷ ats) =
      ap₂ ◌||◌ (any_append (λ (b : Attribute). equal a.name b.name) ats (x ∷ [])) (doubled_more ats)
      ∙ apart (stands_in a.name ats) (equal a.name x.name) (doubled ats) (stands_in x.name ats)
      ∙ ap (λ (e : Bool). stands_in a.name ats || doubled ats || (e || stands_in x.name ats))
      (equal_swap a.name x.name)

  only_more : (ns : List (List ℕ)) (ats : List Attribute) → only ns (ats ++ (x ∷ [])) ≡ only ns ats && named ns x.name
  unfolding only
  only_more ns [] = and-true (named ns x.name)
  only_more ns (a ∷ ats) = by (named ns a.name) (only_more ns ats)
    where
      by : (b : Bool) → only ns (ats ++ (x ∷ [])) ≡ only ns ats && named ns x.name
          → b && only ns (ats ++ (x ∷ [])) ≡ b && only ns ats && named ns x.name
      by true e = e
      by false e = refl

  pub sound_more : (ats : List Attribute)
      → sound (ats ++ (x ∷ [])) ≡ sound ats && (named slot_names x.name && not (stands_in x.name ats))
  unfolding sound
  sound_more ats =
      ap₂ (λ (d o : Bool). not d && o) (doubled_more ats) (only_more slot_names ats)
      ∙ by (doubled ats) (stands_in x.name ats) (only slot_names ats) (named slot_names x.name)
    where
      by : (d s o n : Bool) → not (d || s) && (o && n) ≡ not d && o && (n && not s)
      by true s o n = refl
      by false true o n = rw (and_false n, and_false o)
      by false false o n = rw (and-true n)

  -- what is not sound stays so
  pub unsound_more : (ats : List Attribute) → sound ats ≡ false → sound (ats ++ (x ∷ [])) ≡ false
  unsound_more ats e =
      sound_more ats ∙ ap (λ (b : Bool). b && (named slot_names x.name && not (stands_in x.name ats))) e

-- the value of a name
module _ (n : List ℕ) (x : Attribute) where
  value_fresh : (ats : List Attribute) → value_of n ats ≡ none → value_of n (ats ++ (x ∷ [])) ≡ value_of n (x ∷ [])
  unfolding value_of
  value_fresh [] h = refl
  value_fresh (a ∷ ats) h = by (equal n a.name) h (λ k. value_fresh ats k)
    where
      by : (b : Bool) → cond b (some a.value) (value_of n ats) ≡ none
          → (value_of n ats ≡ none → value_of n (ats ++ (x ∷ [])) ≡ value_of n (x ∷ []))
          → cond b (some a.value) (value_of n (ats ++ (x ∷ []))) ≡ value_of n (x ∷ [])
      by true h ih = absurd (let z : ◌≡◌ {A = ℕ} 0 1 = cc in omega arith)
      by false h ih = ih h

  value_kept : (ats : List Attribute) → equal n x.name ≡ false → value_of n (ats ++ (x ∷ [])) ≡ value_of n ats
  unfolding value_of
  value_kept [] h = rw h
  value_kept (a ∷ ats) h =
      ap (λ (o : Option (List ℕ)). cond (equal n a.name) (some a.value) o) (value_kept ats h)

-- the slots of names, from the slot k on
unfoldable pub slots_from : ℕ → List (List ℕ) → List Attribute → List ℕ
slots_from k [] ats = []
slots_from k (n ∷ ns) ats = in_slot k (value_of n ats) ∷ slots_from (suc k) ns ats

pub all_slots : (ats : List Attribute) → slots_of ats ≡ slots_from 0 slot_names ats
unfolding slots_of slots_from
all_slots ats = refl

-- the slots of a tag without attributes
pub all_absent : replicate 16 absent ≡ slots_of []
unfolding slots_of value_of in_slot
all_absent = refl

-- no name stands twice
names_differ : none_twice slot_names ≡ true
unfolding none_twice named any equal Words·all
names_differ = refl

-- the slot of a name
slot_there : (k : ℕ) (ns : List (List ℕ)) (n : List ℕ) (ats : List Attribute) → index_of ns n < length ns
    → get_or (slots_from k ns ats) (index_of ns n) 0 ≡ in_slot (k + index_of ns n) (value_of n ats)
unfolding slots_from index_of
slot_there k [] n ats h = absurd (let z : ⊥ = omega arith in z)
slot_there k (m ∷ ns) n ats h = by (equal n m) refl h (λ g. slot_there (suc k) ns n ats g)
  where
    by : (b : Bool) → equal n m ≡ b → cond b 0 (suc (index_of ns n)) < suc (length ns)
        → (index_of ns n < length ns
        → get_or (slots_from (suc k) ns ats) (index_of ns n) 0 ≡ in_slot (suc k + index_of ns n) (value_of n ats))
        → get_or (in_slot k (value_of m ats) ∷ slots_from (suc k) ns ats) (cond b 0 (suc (index_of ns n))) 0
        ≡ in_slot (k + cond b 0 (suc (index_of ns n))) (value_of n ats)
    by true e h ih =
        ap₂ (λ (j : ℕ) (l : List ℕ). in_slot j (value_of l ats)) (let z : k ≡ k + 0 = omega arith in z) (sym (equal_true n m e))
    by false e h ih =
        ih (omega arith)
        ∙ ap (λ (j : ℕ). in_slot j (value_of n ats))
        (let z : suc k + index_of ns n ≡ k + suc (index_of ns n) = omega arith in z)

-- the slots of other names are kept
slots_kept : (k : ℕ) (ns : List (List ℕ)) (x : Attribute) (ats : List Attribute) → named ns x.name ≡ false
    → slots_from k ns (ats ++ (x ∷ [])) ≡ slots_from k ns ats
unfolding slots_from named any
slots_kept k [] x ats h = refl
slots_kept k (m ∷ ns) x ats h =
    ap₂ (λ (o : Option (List ℕ)) (l : List ℕ). in_slot k o ∷ l)
    (value_kept m x ats (equal_swap m x.name ∙ or_left (equal x.name m) _ h))
    (slots_kept (suc k) ns x ats (or_right (equal x.name m) _ h))

-- the slot of its own name takes the value
slot_set : (k : ℕ) (ns : List (List ℕ)) (x : Attribute) (ats : List Attribute) → none_twice ns ≡ true
    → value_of x.name ats ≡ none → index_of ns x.name < length ns
    → slots_from k ns (ats ++ (x ∷ []))
    ≡ set (slots_from k ns ats) (index_of ns x.name) (or_bad (value_read (k + index_of ns x.name) x.value))
unfolding slots_from index_of none_twice
slot_set k [] x ats d f h = absurd (let z : ⊥ = omega arith in z)
slot_set k (m ∷ ns) x ats d f h =
    by (equal x.name m) refl h (λ g. slot_set (suc k) ns x ats (and_right (not (named ns m)) _ d) f g)
  where
    j : ℕ
    j = index_of ns x.name

    new : ℕ → ℕ
    new i = or_bad (value_read i x.value)

    by : (b : Bool) → equal x.name m ≡ b → cond b 0 (suc j) < suc (length ns)
        → (j < length ns → slots_from (suc k) ns (ats ++ (x ∷ [])) ≡ set (slots_from (suc k) ns ats) j (new (suc k + j)))
        → in_slot k (value_of m (ats ++ (x ∷ []))) ∷ slots_from (suc k) ns (ats ++ (x ∷ []))
        ≡ set (in_slot k (value_of m ats) ∷ slots_from (suc k) ns ats) (cond b 0 (suc j)) (new (k + cond b 0 (suc j)))
    by true e h ih =
        let same : x.name ≡ m = equal_true x.name m e in
        let others : named ns x.name ≡ false = ap (named ns) same ∙ not-true _ (and_left (not (named ns m)) _ d) in
        ap₂ ◌∷◌ (here same ∙ ap new (let z : k ≡ k + 0 = omega arith in z)) (slots_kept (suc k) ns x ats others)
      where
        own : value_of x.name (x ∷ []) ≡ some x.value
        own = unfold value_of in rw (equal_refl x.name)

        here : x.name ≡ m → in_slot k (value_of m (ats ++ (x ∷ []))) ≡ new k
        here same =
            ap (λ (l : List ℕ). in_slot k (value_of l (ats ++ (x ∷ [])))) (sym same)
            ∙ ap (in_slot k) (value_fresh x.name x ats f ∙ own) ∙ (unfold in_slot in refl)
    by false e h ih =
        ap₂ ◌∷◌ (ap (in_slot k) (value_kept m x ats (equal_swap m x.name ∙ e)))
        (ih (omega arith)
        ∙ ap (λ (i : ℕ). set (slots_from (suc k) ns ats) j (new i)) (let z : suc k + j ≡ k + suc j = omega arith in z))

-- An attribute x behind sound attributes, whose slots are these
module _ (x : Attribute) (slots : List ℕ) (ats : List Attribute) (told : slots ≡ slots_of ats) (fine : sound ats ≡ true) where
  abbrev k : ℕ
  k = index_of slot_names x.name

  by_name : sound (ats ++ (x ∷ [])) ≡ named slot_names x.name && not (stands_in x.name ats)
  by_name = sound_more x ats ∙ ap (λ (b : Bool). b && (named slot_names x.name && not (stands_in x.name ats))) fine

  slot_is : k < 16 → get_or slots k 0 ≡ in_slot k (value_of x.name ats)
  slot_is h =
      ap (λ (l : List ℕ). get_or l k 0) (told ∙ all_slots ats) ∙ slot_there 0 slot_names x.name ats h
      ∙ ap (λ (i : ℕ). in_slot i (value_of x.name ats)) (let z : 0 + k ≡ k = omega arith in z)

  -- its name is none of the subset; it stands there already; it is new
  other_name : 16 ≤ k → sound (ats ++ (x ∷ [])) ≡ false
  other_name h = by_name ∙ ap (λ (b : Bool). b && not (stands_in x.name ats)) (unnamed slot_names x.name h)

  again : k < 16 → (get_or slots k 0 ≡ absent → ⊥) → sound (ats ++ (x ∷ [])) ≡ false
  again h e = by_name ∙ by (stands_in x.name ats) refl
    where
      by : (b : Bool) → stands_in x.name ats ≡ b → named slot_names x.name && not b ≡ false
      by true s = and_false (named slot_names x.name)
      by false s = absurd (e (slot_is h ∙ ap (in_slot k) (not_there x.name ats s) ∙ (unfold in_slot in refl)))

  module _ (h : k < 16) (e : get_or slots k 0 ≡ absent) where
    fresh : value_of x.name ats ≡ none
    fresh = slot_absent k (value_of x.name ats) (sym (slot_is h) ∙ e)

    still_sound : sound (ats ++ (x ∷ [])) ≡ true
    still_sound =
        by_name
        ∙ ap₂ (λ (n s : Bool). n && not s) (named_below slot_names x.name h) (absent_there x.name ats fresh)

    slots_more : set slots k (or_bad (value_read k x.value)) ≡ slots_of (ats ++ (x ∷ []))
    slots_more =
        ap₂ (λ (l : List ℕ) (i : ℕ). set l k (or_bad (value_read i x.value))) (told ∙ all_slots ats)
        (let z : k ≡ 0 + k = omega arith in z)
        ∙ sym (slot_set 0 slot_names x ats names_differ fresh h) ∙ sym (all_slots (ats ++ (x ∷ [])))

-- Whether the attribute x is placed, of attributes of which this is known
module _ (x : Attribute) (slots : List ℕ) where
  refused : (fine : Bool) → ((ats : List Attribute) → Known slots fine ats → sound (ats ++ (x ∷ [])) ≡ false)
      → Placed slots fine x slots false
  refused fine h =
      record {
        known = λ ats r. record { are_sound = sym (h ats r); told = λ e. absurd (false≢true e) };
        size = refl;
      }

  pub spoilt_before : (fine : Bool) → fine ≡ false → Placed slots fine x slots false
  spoilt_before fine e = refused fine (λ ats r. unsound_more x ats (sym r.are_sound ∙ e))

  -- k is its slot
  module _ (fine : Bool) (e : fine ≡ true) (k : ℕ) (is_slot : k ≡ index_of slot_names x.name) where
    pub strange_name : 16 ≤ k → Placed slots fine x slots false
    strange_name h =
        refused fine (λ ats r. other_name x slots ats (r.told e) (sym r.are_sound ∙ e) (rw is_slot at h))

    pub twice : k < 16 → (get_or slots k 0 ≡ absent → ⊥) → Placed slots fine x slots false
    twice h g =
        refused fine (λ ats r. again x slots ats (r.told e) (sym r.are_sound ∙ e) (rw is_slot at h) (rw is_slot at g))

    pub placed : (v : ℕ) → v ≡ or_bad (value_read k x.value) → k < 16 → get_or slots k 0 ≡ absent
        → Placed slots fine x (set slots k v) true
    placed v w h g =
        record {
          known = λ ats r.
              record {
                are_sound = sym
                    (still_sound x slots ats (r.told e) (sym r.are_sound ∙ e) (rw is_slot at h) (rw is_slot at g));
                told = λ t.
                    rw (w, is_slot)
                    (slots_more x slots ats (r.told e) (sym r.are_sound ∙ e) (rw is_slot at h) (rw is_slot at g));
              };
          size = length-set slots k v;
        }
