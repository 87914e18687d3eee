-- Code points of a text passed over: counted by their first bytes, read by the decoder.
use Prim.Native.Nat.{ℕ, zero, suc, ◌+◌, ◌-◌, ◌/◌, ◌%◌, ◌<◌, ◌≤◌}
use mathlib.Core.Path.{◌≡◌, refl, sym, ap, ap₂, ◌∙◌, subst}
use mathlib.Core.Bool.{Bool, true, false, cond}
use mathlib.Core.List.{List, [], ◌∷◌, ◌++◌}
use native.Mathlib.Omega.{arith}
use lib.ListN.{length, get_or, take, drop, length-append, length-drop, drop_of_length-le}
use lib.Seq.{drop-append_seam, drop-append-add, get_or-append-add, drop-drop}
use lib.Dec.{ltb}
use borrow.Table.Steps.{cases}
use borrow.Author.Tests.{ltb-true, ltb-false, lt-ltb, le-ltb, le-leb, lt-leb}
use Rattle.xliff.specs.Bytes.{gather}
use Rattle.xliff.specs.Text.{six, utf8_1, utf8_2, utf8_3, utf8_4, utf8, utf8s}
use Rattle.xliff.specs.Good.{Allowed, one_point}
use Rattle.xliff.proofs.text.Utf8.{utf8_nonempty}
use Rattle.text.specs.Utf8.{character, char_of}
use Rattle.std.specs.Prelude.{None}
use Rattle.text.proofs.Utf8Laws.{width_at}
use Rattle.text.proofs.BlockLaws.{head_is}
use Rattle.text.proofs.TextLaws.{decoded_allowed, char_is}
use Rattle.text.specs.Points.{lead, leads, further, sought, TextBytes, PassedOver}
use Rattle.text.specs.declared.points.Points.{Points}

-- a byte below 80 or from C0 on begins a code point, one that goes on with it does not
lead_low : (b : ℕ) → b < 0x80 → lead b ≡ 1
lead_low b h = rw (lt-leb 0x80 b h)

lead_high : (b : ℕ) → 0xC0 ≤ b → lead b ≡ 1
lead_high b h = rw (le-leb 0x80 b (omega arith), lt-leb b 0xBF (omega arith))

lead_six : (n : ℕ) → lead (six n) ≡ 0
lead_six n = rw (le-leb 0x80 (0x80 + n % 64) (omega arith), le-leb (0x80 + n % 64) 0xBF (omega arith))

-- one code point begins in the bytes of one, with the first of them
record Single (p t : List ℕ) : Type 0 where
  pub once : leads (length p) (p ++ t) ≡ 1
  pub first : lead (get_or (p ++ t) 0 0) ≡ 1

single_1 : (c : ℕ) (t : List ℕ) → c < 0x80 → Single (utf8_1 c) t
unfolding leads
single_1 c t h = record { once = ap (λ (n : ℕ). n + 0) (lead_low c h); first = lead_low c h }

module _ (c : ℕ) (t : List ℕ) where
  single_2 : Single (utf8_2 c) t
  unfolding leads
  single_2 =
      let f = lead_high (0xC0 + c / 64) (omega arith) in
      record { once = ap₂ (λ (n m : ℕ). n + (m + 0)) f (lead_six c); first = f }

  single_3 : Single (utf8_3 c) t
  unfolding leads
  single_3 =
      let f = lead_high (0xE0 + c / 4096) (omega arith) in
      record { once = rw (f, lead_six (c / 64), lead_six c) refl; first = f }

  single_4 : Single (utf8_4 c) t
  unfolding leads
  single_4 =
      let f = lead_high (0xF0 + c / 262144) (omega arith) in
      record { once = rw (f, lead_six (c / 4096), lead_six (c / 64), lead_six c) refl; first = f }

single : (c : ℕ) (t : List ℕ) → Single (utf8 c) t
unfolding utf8
single c t = by (ltb c 0x80) refl (ltb c 0x800) (ltb c 0x10000)
  where
    by : (a : Bool) → ltb c 0x80 ≡ a → (b d : Bool)
        → Single (cond a (utf8_1 c) (cond b (utf8_2 c) (cond d (utf8_3 c) (utf8_4 c)))) t
    by true e b d = single_1 c t (ltb-true c 0x80 e)
    by false e true d = single_2 c t
    by false e false true = single_3 c t
    by false e false false = single_4 c t

pub further_zero : (p : Points) → p ≡ further 0 p
further_zero p =
    ap (λ (n : ℕ). record { bytes = n; left = p.left }) (let z : p.bytes ≡ 0 + p.bytes = omega arith in z)

further_twice : (m n : ℕ) (p : Points) → further m (further n p) ≡ further (m + n) p
further_twice m n p =
    ap (λ (k : ℕ). record { bytes = k; left = p.left })
    (let z : m + (n + p.bytes) ≡ m + n + p.bytes = omega arith in z)

-- n bytes further, where all code points that begin in them are to be passed over
sought_past : (n : ℕ) (t : List ℕ) (k : ℕ) → n ≤ length t → leads n t ≤ k
    → sought t k ≡ further n (sought (drop n t) (k - leads n t))
unfolding leads sought
sought_past zero t k h l = ap (sought t) (let z : k ≡ k - 0 = omega arith in z) ∙ further_zero (sought t (k - 0))
sought_past (suc n) [] k h l = absurd (omega arith)
sought_past (suc n) (b ∷ t) k h l =
    rw (le-ltb k (lead b) (omega arith))
    (ap (further 1) (sought_past n t (k - lead b) (omega arith) (omega arith))
    ∙ further_twice 1 n (sought (drop n t) (k - lead b - leads n t))
    ∙ ap₂ (λ (m j : ℕ). further m (sought (drop n t) j)) (let z : 1 + n ≡ suc n = omega arith in z)
    (let z : k - lead b - leads n t ≡ k - (lead b + leads n t) = omega arith in z))

-- what is sought stands at the head
sought_here : (t : List ℕ) (k : ℕ) → 0 < length t → k < lead (get_or t 0 0) → sought t k ≡ record { bytes = 0; left = k }
unfolding sought
sought_here [] k n h = absurd (omega arith)
sought_here (b ∷ t) k n h = rw (lt-ltb k (lead b) h)

-- in a text: the bytes of the first k code points
pub sought_is : (cs : List ℕ) (k : ℕ)
    → sought (utf8s cs) k ≡ record { bytes = length (utf8s (take k cs)); left = k - length cs }
unfolding utf8s gather sought
sought_is [] zero = refl
sought_is [] (suc k) = ap (λ (n : ℕ). record { bytes = 0; left = n }) (let z : suc k ≡ suc k - 0 = omega arith in z)
sought_is (c ∷ cs) zero =
    let s = single c (utf8s cs) in
    sought_here (utf8 c ++ utf8s cs) 0 (omega (arith, length-append (utf8 c) (utf8s cs), utf8_nonempty c))
    (omega (arith, s.first))
    ∙ ap (λ (n : ℕ). record { bytes = 0; left = n }) (let z : 0 ≡ 0 - suc (length cs) = omega arith in z)
sought_is (c ∷ cs) (suc k) =
    let s = single c (utf8s cs) in
    sought_past (length (utf8 c)) (utf8 c ++ utf8s cs) (suc k) (omega (arith, length-append (utf8 c) (utf8s cs)))
    (omega (arith, s.once))
    ∙ ap₂ (λ (l : List ℕ) (n : ℕ). further (length (utf8 c)) (sought l (suc k - n)))
    (drop-append_seam (utf8 c) (utf8s cs)) s.once
    ∙ ap (λ (n : ℕ). further (length (utf8 c)) (sought (utf8s cs) n)) (let z : suc k - 1 ≡ k = omega arith in z)
    ∙ ap (further (length (utf8 c))) (sought_is cs k)
    ∙ ap₂ (λ (n m : ℕ). record { bytes = n; left = m }) (sym (length-append (utf8 c) (utf8s (take k cs))))
    (let z : k - length cs ≡ suc k - suc (length cs) = omega arith in z)

-- For the code: from an offset on.
pub sought_on : (t : List ℕ) (at left n : ℕ) (whole : Points) → at + n ≤ length t → leads n (drop at t) ≤ left
    → whole ≡ further at (sought (drop at t) left)
    → whole ≡ further (at + n) (sought (drop (at + n) t) (left - leads n (drop at t)))
sought_on t at left n whole h l e =
    e
    ∙ ap (further at) (sought_past n (drop at t) left (omega (arith, length-drop at t)) l)
    ∙ further_twice at n (sought (drop n (drop at t)) (left - leads n (drop at t)))
    ∙ ap (λ (s : List ℕ). further (at + n) (sought s (left - leads n (drop at t)))) (drop-drop n at t)

further_none : (at left : ℕ) → further at (record { bytes = 0; left = left }) ≡ record { bytes = at; left = left }
further_none at left = ap (λ (n : ℕ). record { bytes = n; left = left }) (let z : at + 0 ≡ at = omega arith in z)

sought_stop : (t : List ℕ) (at left : ℕ) (whole : Points) → at < length t → left < lead (get_or t at 0)
    → whole ≡ further at (sought (drop at t) left)
    → record { bytes = at; left = left } ≡ whole
sought_stop t at left whole h l e =
    sym (e ∙ ap (further at)
    (sought_here (drop at t) left (omega (arith, length-drop at t)) (omega (arith, ap lead (head_is at t))))
    ∙ further_none at left)

pub sought_end : (t : List ℕ) (at left : ℕ) (whole : Points) → length t ≤ at
    → whole ≡ further at (sought (drop at t) left)
    → record { bytes = at; left = left } ≡ whole
unfolding sought
sought_end t at left whole h e =
    sym (e ∙ ap (λ (s : List ℕ). further at (sought s left)) (drop_of_length-le t {i = at} h) ∙ further_none at left)

-- a block counted: nothing yet
pub leads_start : (t : List ℕ) (at : ℕ) → leads 64 (drop at t) ≡ 0 + leads 64 (drop (at + 0) t)
leads_start t at =
    let e = ap (λ (k : ℕ). leads 64 (drop k t)) (let z : at ≡ at + 0 = omega arith in z) in omega (arith, e)

-- one byte further
pub leads_on : (t : List ℕ) (at i n whole : ℕ) → i < 64 → whole ≡ n + leads (64 - i) (drop (at + i) t)
    → whole ≡ n + lead (get_or t (at + i) 0) + leads (64 - (i + 1)) (drop (at + (i + 1)) t)
unfolding leads
leads_on t at i n whole l e =
    let size : 64 - i ≡ suc (64 - (i + 1)) = omega arith in
    let rest : drop 1 (drop (at + i) t) ≡ drop (at + (i + 1)) t = drop-drop 1 (at + i) t
    ∙ ap (λ (k : ℕ). drop k t) (let z : at + i + 1 ≡ at + (i + 1) = omega arith in z) in
    let one : leads (64 - i) (drop (at + i) t)
    ≡ lead (get_or t (at + i) 0) + leads (64 - (i + 1)) (drop (at + (i + 1)) t) =
    ap (λ (k : ℕ). leads k (drop (at + i) t)) size
    ∙ ap₂ (λ (b : ℕ) (s : List ℕ). lead b + leads (64 - (i + 1)) s) (head_is (at + i) t) rest in
    omega (arith, e, one)

pub leads_end : (t : List ℕ) (at i n whole : ℕ) → 64 ≤ i → whole ≡ n + leads (64 - i) (drop (at + i) t) → n ≡ whole
unfolding leads
leads_end t at i n whole l e =
    let none : leads (64 - i) (drop (at + i) t) ≡ 0 = ap (λ (k : ℕ). leads k (drop (at + i) t))
    (let z : 64 - i ≡ 0 = omega arith in z) in
    omega (arith, e, none)

-- a block of one byte
leads_one : (t : List ℕ) (at : ℕ) → leads 1 (drop at t) ≡ lead (get_or t at 0)
unfolding leads
leads_one t at =
    ap (λ (b : ℕ). lead b + 0) (head_is at t) ∙ (let z : lead (get_or t at 0) + 0 ≡ lead (get_or t at 0) = omega arith in z)

pub passed_over : (t : List ℕ) (k : ℕ) (p : Points) → p ≡ sought t k → PassedOver t k p
passed_over t k p e cs a u =
    let i : p ≡ record { bytes = length (utf8s (take k cs)); left = k - length cs } = e
    ∙ ap (λ (s : List ℕ). sought s k) (sym u)
    ∙ sought_is cs k in
    (ap (λ (q : Points). q.bytes) i, ap (λ (q : Points). q.left) i)

next_byte : (t : List ℕ) (i : ℕ) → get_or t (suc i) 0 ≡ get_or (drop 1 t) i 0
next_byte [] i = refl
next_byte (b ∷ t) i = refl

-- a character that the decoder reads at an offset: one code point begins in its bytes, with the first of them
one_there : (t : List ℕ) (at c w : ℕ) {a : Bool} → char_of (drop at t) ≡ character c w a
    → (leads w (drop at t) ≡ 1) × (lead (get_or t at 0) ≡ 1)
one_there t at c w e =
    let d = char_is (drop at t) c w e in
    let s = single c (drop w (drop at t)) in (
      ap₂ leads d.width d.bytes ∙ s.once,
      ap lead (sym (head_is at t) ∙ ap (λ (l : List ℕ). get_or l 0 0) d.bytes) ∙ s.first,
    )

-- where no code point begins in the first n bytes, none of them is a first byte
none_first : (n : ℕ) (t : List ℕ) (i : ℕ) → leads n t ≡ 0 → i < n → lead (get_or t i 0) ≡ 0
unfolding leads
none_first zero t i e h = absurd (omega arith)
none_first (suc n) t zero e h = omega arith
none_first (suc n) t (suc i) e h = ap lead (next_byte t i) ∙ none_first n (drop 1 t) i (omega arith) (omega arith)

-- where one begins, with the first of them, none of the others is
only_first : (n : ℕ) (t : List ℕ) (i : ℕ) → leads n t ≡ 1 → lead (get_or t 0 0) ≡ 1 → suc i < n
    → lead (get_or t (suc i) 0) ≡ 0
unfolding leads
only_first zero t i e f h = absurd (omega arith)
only_first (suc n) t i e f h = ap lead (next_byte t i) ∙ none_first n (drop 1 t) i (omega arith) (omega arith)

-- where the decoder reads no character in a text, no code point begins
no_character : (cs : List ℕ) (at : ℕ) → Allowed cs → at < length (utf8s cs) → char_of (drop at (utf8s cs)) ≡ None
    → lead (get_or (utf8s cs) at 0) ≡ 0
unfolding utf8s gather
no_character [] at a h e = absurd (omega arith)
no_character (c ∷ cs) zero (one_point p a) h e = let clash = sym (decoded_allowed c (utf8s cs) p) ∙ e in cc
no_character (c ∷ cs) (suc i) (one_point p a) h e =
    let s = single c (utf8s cs) in
    cases (ltb (suc i) (length (utf8 c)))
    (λ l. only_first (length (utf8 c)) (utf8 c ++ utf8s cs) i s.once s.first (ltb-true _ _ l))
    (λ l.
    let j = suc i - length (utf8 c) in
    let at : suc i ≡ length (utf8 c) + j = omega (arith, ltb-false (suc i) (length (utf8 c)) l) in
    let same = ap (λ (k : ℕ). drop k (utf8 c ++ utf8s cs)) at ∙ drop-append-add (utf8 c) (utf8s cs) j in
    ap (λ (k : ℕ). lead (get_or (utf8 c ++ utf8s cs) k 0)) at ∙ ap lead (get_or-append-add (utf8 c) (utf8s cs) j 0)
    ∙ no_character cs j a (omega (arith, length-append (utf8 c) (utf8s cs))) (sym (ap char_of same) ∙ e))

-- For the loop by characters: the one sought stands here
pub character_here : (t : List ℕ) (at left c w : ℕ) {a : Bool} (whole : Points) → char_of (drop at t) ≡ character c w a
    → left ≡ 0
    → whole ≡ further at (sought (drop at t) left) → record { bytes = at; left = 0 } ≡ whole
character_here t at left c w whole e z h =
    sought_stop t at 0 whole (omega (arith, width_at t at c w e)) (omega (arith, (one_there t at c w e).1))
    (h ∙ ap (λ (n : ℕ). further at (sought (drop at t) n)) z)

-- behind a character that is passed over
pub character_on : (t : List ℕ) (at left c w : ℕ) {a : Bool} (whole : Points) → char_of (drop at t) ≡ character c w a
    → 1 ≤ left
    → whole ≡ further at (sought (drop at t) left) → whole ≡ further (at + w) (sought (drop (at + w) t) (left - 1))
character_on t at left c w whole e l h =
    let one = (one_there t at c w e).0 in
    sought_on t at left w whole (width_at t at c w e).1 (omega (arith, one)) h
    ∙ ap (λ (n : ℕ). further (at + w) (sought (drop (at + w) t) (left - n))) one

-- behind a byte with which no character begins
pub character_rest : (t : List ℕ) (at left : ℕ) (whole : Points) → TextBytes t → at < length t
    → char_of (drop at t) ≡ None
    → whole ≡ further at (sought (drop at t) left) → whole ≡ further (at + 1) (sought (drop (at + 1) t) left)
character_rest t at left whole (cs, a, u) l e h =
    let none : leads 1 (drop at t) ≡ 0 =
    leads_one t at
    ∙ subst (λ (s : List ℕ). at < length s → char_of (drop at s) ≡ None → lead (get_or s at 0) ≡ 0) u
    (no_character cs at a) l e in
    sought_on t at left 1 whole (omega arith) (omega (arith, none)) h
    ∙ ap (λ (n : ℕ). further (at + 1) (sought (drop (at + 1) t) n))
    (let z : left - leads 1 (drop at t) ≡ left = omega (arith, none) in z)
