-- The mark that the code finds is the specification's.
use Prim.Native.Nat.{ℕ, zero, suc, ◌+◌, ◌*◌, ◌<◌, ◌≤◌}
use mathlib.Core.Path.{◌≡◌, refl, sym, ap, ap₂, ◌∙◌, subst}
use mathlib.Core.Bool.{Bool, true, false, not, ◌&&◌, ◌||◌, cond, true≢false}
use mathlib.Core.List.{List, [], ◌∷◌, map}
use mathlib.Core.Logic.{inl, inr}
use native.Mathlib.Omega.{arith}
use lib.ListN.{length, get_or, drop}
use lib.Dec.{eqb}
use borrow.Table.Steps.{cases}
use borrow.Author.Tests.{eqb-true, eq-eqb, ne_eqb, not-false}
use types.Run.{OneOf, miss}
use denote.Enum.Declared.{tag_of}
use Rattle.xliff.specs.Parse as parse
use Rattle.xliff.specs.Parse.{unknown, mark_of, mark_at, size_of}
use Rattle.xliff.proofs.lists.Tests.{and_left, and_right, and_both, or_left, or_right, or_both}
use Rattle.xliff.proofs.records.Marks.{mark_bytes, Both, Spells, spells_at}
use Rattle.marks.specs.Marks.{marked, mark_number, same_mark, one_of, meaning, fixed_width}
use Rattle.marks.specs.declared.Mark.{Mark}
use Rattle.marks.specs.declared.Mark.TheVariants.{UN, UE, SG, IG, TG, TX, CP, PH, PO, PC, SC, EC, IS, IE, MO, SM, MC, EM, Unknown}
use Rattle.marks.specs.contracts.Mark.{the_type}

-- Two strings of two bytes are equal if their numbers are
pub two_equal : (a b x y : ℕ) → b < 256 → y < 256 → eqb (a * 256 + b) (x * 256 + y) ≡ (eqb a x && eqb b y)
two_equal a b x y p q = cases (eqb a x && eqb b y) same other
  where
    same : (eqb a x && eqb b y) ≡ true → eqb (a * 256 + b) (x * 256 + y) ≡ (eqb a x && eqb b y)
    same e =
        let first = eqb-true a x (and_left (eqb a x) (eqb b y) e) in
        let second = eqb-true b y (and_right (eqb a x) (eqb b y) e) in
        eq-eqb _ _ (ap₂ (λ (u v : ℕ). u * 256 + v) first second) ∙ sym e

    other : (eqb a x && eqb b y) ≡ false → eqb (a * 256 + b) (x * 256 + y) ≡ (eqb a x && eqb b y)
    other n =
        let differ : a * 256 + b ≡ x * 256 + y → ⊥ = λ e.
        true≢false (sym (ap₂ (◌&&◌) (eq-eqb a x (omega (arith, e))) (eq-eqb b y (omega (arith, e)))) ∙ n) in
        ne_eqb _ _ differ ∙ sym n

-- What is so of the mark that a test finds
pub mark_found : {A : Type 0} (f : parse.Mark → A) (x y : ℕ) (t : List ℕ)
    → 2 ≤ length t → marked t (x ∷ y ∷ []) ≡ true → f (mark_of x y) ≡ f (mark_at t)
unfolding mark_at
mark_found f x y [] h e = absurd (omega arith)
mark_found f x y (a ∷ []) h e = absurd (omega arith)
mark_found f x y (a ∷ b ∷ s) h e =
    let first : a ≡ x = eqb-true a x (and_left (eqb a x) (eqb b y) e) in
    let second : b ≡ y = eqb-true b y (and_right (eqb a x) (eqb b y) e) in
    sym (ap₂ (λ (u v : ℕ). f (mark_of u v)) first second)

-- Bytes that have a mark begin with it, if it is a known one
abbrev known : parse.Mark → Bool
known m = eqb (length (mark_bytes m)) 2

both_marked : (t l : List ℕ) → eqb (length l) 2 ≡ true → Both l (get_or t 0 0) (get_or t 1 0) → marked t l ≡ true
both_marked t [] e h = absurd (true≢false (sym e))
both_marked t (x ∷ []) e h = absurd (true≢false (sym e))
both_marked t (x ∷ y ∷ l) e h = and_both _ _ (eq-eqb _ _ h.0) (eq-eqb _ _ h.1)

abbrev all_marks : List parse.Mark
all_marks =
    parse.UN ∷ parse.UE ∷ parse.SG ∷ parse.IG ∷ parse.TG ∷ parse.TX ∷ parse.CP ∷ parse.PH ∷ parse.PO ∷ parse.PC ∷ parse.SC
    ∷ parse.EC ∷ parse.IS ∷ parse.IE ∷ parse.MO ∷ parse.SM ∷ parse.MC ∷ parse.EM ∷ parse.unknown ∷ []

of_each : {A : Type 0} (f : parse.Mark → A) (m : parse.Mark) (x : A) → get_or (map f all_marks) (mark_number m) x ≡ f m
of_each f parse.UN x = refl
of_each f parse.UE x = refl
of_each f parse.SG x = refl
of_each f parse.IG x = refl
of_each f parse.TG x = refl
of_each f parse.TX x = refl
of_each f parse.CP x = refl
of_each f parse.PH x = refl
of_each f parse.PO x = refl
of_each f parse.PC x = refl
of_each f parse.SC x = refl
of_each f parse.EC x = refl
of_each f parse.IS x = refl
of_each f parse.IE x = refl
of_each f parse.MO x = refl
of_each f parse.SM x = refl
of_each f parse.MC x = refl
of_each f parse.EM x = refl
of_each f parse.unknown x = refl

-- one number, one mark
same_number : (m n : parse.Mark) → mark_number m ≡ mark_number n → m ≡ n
same_number m n e =
    let at : ℕ → parse.Mark = λ k. get_or (map (λ (x : parse.Mark). x) all_marks) k parse.unknown in
    sym (of_each (λ (x : parse.Mark). x) m parse.unknown) ∙ ap at e ∙ of_each (λ (x : parse.Mark). x) n parse.unknown

-- whether one of some tests finds its mark
abbrev pub any_found : List parse.Mark → List ℕ → Bool
any_found [] t = false
any_found (m ∷ ms) t = not (known m) || (marked t (mark_bytes m) || any_found ms t)

-- where none does, the mark is none of them
not_one : (ms : List parse.Mark) (t : List ℕ) → any_found ms t ≡ false → one_of ms (mark_at t) ≡ false
not_one [] t e = refl
not_one (m ∷ ms) t e =
    cases (same_mark m (mark_at t)) clash (λ n. or_both _ _ n (not_one ms t (or_right (marked t (mark_bytes m)) _ missed)))
  where
    missed : (marked t (mark_bytes m) || any_found ms t) ≡ false
    missed = or_right (not (known m)) _ e

    clash : same_mark m (mark_at t) ≡ true → one_of (m ∷ ms) (mark_at t) ≡ false
    clash f =
        let spelled : Spells (get_or t 0 0) (get_or t 1 0) m = rw (same_number m (mark_at t) (eqb-true _ _ f)) (spells_at t) in
        let is_known : known m ≡ true = not-false (known m) (or_left (not (known m)) _ e) in
        let there = both_marked t (mark_bytes m) is_known spelled in
        absurd (true≢false (sym there ∙ or_left (marked t (mark_bytes m)) _ missed))

-- Where none of some tests finds its mark, what is so of all other marks is so of the mark
pub mark_missed : {A : Type 0} (f g : parse.Mark → A) (ms : List parse.Mark) (t : List ℕ)
    → any_found ms t ≡ false → map (λ m. cond (one_of ms m) (g m) (f m)) all_marks ≡ map g all_marks
    → f (mark_at t) ≡ g (mark_at t)
mark_missed {A} f g ms t e same =
    let m = mark_at t in
    let there : A → List A → A = λ x l. get_or l (mark_number m) x in
    let beside : parse.Mark → A = λ n. cond (one_of ms n) (g n) (f n) in
    sym (ap (λ (b : Bool). cond b (g m) (f m)) (not_one ms t e))
    ∙ sym (of_each beside m (g m)) ∙ ap (there (g m)) same ∙ of_each g m (g m)

pub no_mark : (t : List ℕ) → length t ≤ 1 → mark_at t ≡ unknown
unfolding mark_at
no_mark [] h = refl
no_mark (a ∷ []) h = refl
no_mark (a ∷ b ∷ s) h = absurd (omega arith)

-- A mark is that of a text, or all its records have one width: the specification's
pub fixed_or_text : {A : Type 0} (m : Mark) (s : List ℕ) → (fixed_width m ≡ size_of (meaning m) s → A) → (m ≡ TX → A) → A
fixed_or_text UN s fixed text = fixed refl
fixed_or_text UE s fixed text = fixed refl
fixed_or_text SG s fixed text = fixed refl
fixed_or_text IG s fixed text = fixed refl
fixed_or_text TG s fixed text = fixed refl
fixed_or_text TX s fixed text = text refl
fixed_or_text CP s fixed text = fixed refl
fixed_or_text PH s fixed text = fixed refl
fixed_or_text PO s fixed text = fixed refl
fixed_or_text PC s fixed text = fixed refl
fixed_or_text SC s fixed text = fixed refl
fixed_or_text EC s fixed text = fixed refl
fixed_or_text IS s fixed text = fixed refl
fixed_or_text IE s fixed text = fixed refl
fixed_or_text MO s fixed text = fixed refl
fixed_or_text SM s fixed text = fixed refl
fixed_or_text MC s fixed text = fixed refl
fixed_or_text EM s fixed text = fixed refl
fixed_or_text Unknown s fixed text = fixed refl

-- What an arm of a `match` on a mark knows: its tag is that of one of the arm's marks
abbrev tag : Mark → ℕ
tag m = tag_of the_type m

abbrev tagged : List Mark → ℕ → Mark
tagged [] k = Unknown
tagged (m ∷ ms) zero = m
tagged (m ∷ ms) (suc k) = tagged ms k

abbrev by_tag : ℕ → Mark
by_tag k = tagged (UN ∷ UE ∷ SG ∷ IG ∷ TG ∷ TX ∷ CP ∷ PH ∷ PO ∷ PC ∷ SC ∷ EC ∷ IS ∷ IE ∷ MO ∷ SM ∷ MC ∷ EM ∷ Unknown ∷ []) k

tag_back : (m : Mark) → by_tag (tag m) ≡ m
tag_back UN = refl
tag_back UE = refl
tag_back SG = refl
tag_back IG = refl
tag_back TG = refl
tag_back TX = refl
tag_back CP = refl
tag_back PH = refl
tag_back PO = refl
tag_back PC = refl
tag_back SC = refl
tag_back EC = refl
tag_back IS = refl
tag_back IE = refl
tag_back MO = refl
tag_back SM = refl
tag_back MC = refl
tag_back EM = refl
tag_back Unknown = refl

same_tag : (m n : Mark) → tag m ≡ tag n → m ≡ n
same_tag m n e = sym (tag_back m) ∙ ap by_tag e ∙ tag_back n

abbrev pub Arm : List Mark → Mark → Type 0
Arm ms m = OneOf (map tag ms) (tag m)

-- an arm for all of whose marks f and g say the same
pub same_in_arm : {A : Type 0} (f g : Mark → A) (ms : List Mark) (m : Mark) → Arm ms m → map f ms ≡ map g ms → f m ≡ g m
same_in_arm f g [] m a h = absurd a
same_in_arm {A} f g (n ∷ []) m a h =
    ap f (same_tag m n a) ∙ ap (λ (l : List A). get_or l 0 (f m)) h ∙ ap g (sym (same_tag m n a))
same_in_arm {A} f g (n ∷ o ∷ ms) m (inl a) h =
    ap f (same_tag m n a) ∙ ap (λ (l : List A). get_or l 0 (f m)) h ∙ ap g (sym (same_tag m n a))
same_in_arm f g (n ∷ o ∷ ms) m (inr a) h = same_in_arm f g (o ∷ ms) m a (ap (drop 1) h)

-- an arm for all of whose marks f says k
pub in_arm : {A : Type 0} (f : Mark → A) (k : A) (ms : List Mark) (m : Mark) → Arm ms m → map f ms ≡ map (λ (n : Mark). k) ms → k ≡ f m
in_arm f k ms m a h = same_in_arm (λ n. k) f ms m a (sym h)

-- all but that of a text
abbrev others : List Mark
others = UN ∷ UE ∷ SG ∷ IG ∷ TG ∷ CP ∷ PH ∷ PO ∷ PC ∷ SC ∷ EC ∷ IS ∷ IE ∷ MO ∷ SM ∷ MC ∷ EM ∷ Unknown ∷ []

pub fixed_size : (m : Mark) (s : List ℕ) → Arm others m → fixed_width m ≡ size_of (meaning m) s
fixed_size m s a = fixed_or_text m s (λ e. e) (λ e. absurd (miss (map tag others) (tag TX) tt (subst (Arm others) e a)))
