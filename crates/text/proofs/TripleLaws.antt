-- Bytes that fit, each with the next two, are of characters of one byte, two and three.
use Prim.Native.Nat.{ℕ, zero, suc, ◌+◌, ◌*◌, ◌%◌, ◌≤◌, ◌<◌}
use mathlib.Core.Path.{◌≡◌, sym, ◌∙◌, ap}
use mathlib.Core.Bool.{Bool, true, false, ◌&&◌, ◌||◌, not, cond, true≢false, or-true, or-false}
use mathlib.Core.List.{List, [], ◌∷◌}
use native.Mathlib.Omega.{arith}
use borrow.Author.Tests.{ltb-false, leb-true, leb-false, eqb-true, eqb-false, le-ltb, le-leb, lt-leb, ne_eqb, eq-eqb, not-true}
use lib.ListN.{length, drop, get_or}
use lib.Seq.{get_or-drop}
use lib.Dec.{eqb, leb, ltb}
use Rattle.xliff.specs.Text.{is_accent}
use Rattle.text.specs.Utf8.{xml_char, within, trail, three_of, char_of, text_ok}
use Rattle.text.specs.Blocks.{nowhere, barred, triple_fits, triple_at, opens_block, all_fit}
use Rattle.xliff.proofs.lists.Tests.{and_left, and_right, or_left, or_right}
use borrow.Table.Steps.{cases}
use Rattle.text.proofs.Laws.{second_false}
use Rattle.text.proofs.Utf8Laws.{text_step}
use Rattle.text.proofs.BlockLaws.{Passes, block_on, head_is, alike_is, behind_low, behind_high, plain_byte, one_more, two_more}

-- what the second byte of three may be
record Second (c d : ℕ) : Type 0 where
  not_long : c ≡ 0xE0 → 0xA0 ≤ d
  no_surrogate : c ≡ 0xED → d ≤ 0x9F
  not_last : c ≡ 0xEF → d ≡ 0xBF → ⊥

second : (c d : ℕ) → barred c d ≡ false → Second c d
second c d e =
    let long = or_left (eqb c 0xE0 && ltb d 0xA0) _ (or_left _ (eqb c 0xEF && eqb d 0xBF) e) in
    let surrogate = or_right (eqb c 0xE0 && ltb d 0xA0) _ (or_left _ (eqb c 0xEF && eqb d 0xBF) e) in
    let last = or_right (eqb c 0xE0 && ltb d 0xA0 || eqb c 0xED && ltb 0x9F d) _ e in
    record {
      not_long = λ q. ltb-false d 0xA0 (second_false (eqb c 0xE0) _ (eq-eqb c 0xE0 q) long);
      no_surrogate = λ q. ltb-false 0x9F d (second_false (eqb c 0xED) _ (eq-eqb c 0xED q) surrogate);
      not_last = λ q. eqb-false d 0xBF (second_false (eqb c 0xEF) _ (eq-eqb c 0xEF q) last);
    }

-- what three bytes that fit say
record Fitting (c d e : ℕ) : Type 0 where
  low : 32 ≤ c
  high : c ≤ 239
  somewhere : nowhere c ≡ false
  allowed : Second c d
  leads : trail e ≡ (leb 194 d || leb 224 c)

fitting : (c d e : ℕ) → triple_fits c d e ≡ true → Fitting c d e
unfolding triple_fits
fitting c d e h =
    let w = and_left (within 32 239 c) _ h in
    let r = and_right (within 32 239 c) _ h in
    let s = and_right (not (nowhere c)) _ r in
    record {
      low = leb-true 32 c (and_left (leb 32 c) _ w);
      high = leb-true c 239 (and_right (leb 32 c) _ w);
      somewhere = not-true _ (and_left (not (nowhere c)) _ r);
      allowed = second c d (not-true _ (and_left (not (barred c d)) _ s));
      leads = alike_is (leb 194 d || leb 224 c) (trail e) (and_right (not (barred c d)) _ s);
    }

-- code points of three bytes that XML allows
data Allowed (v : ℕ) : Type 0 where
  under : 0x800 ≤ v → v ≤ 0xD7FF → Allowed v
  above : 0xE000 ≤ v → v ≤ 0xFFFD → Allowed v

-- the code point of three such bytes is one of them
code_allowed : (c d e : ℕ) → 224 ≤ c → c ≤ 239 → trail d ≡ true → trail e ≡ true → Second c d
    → Allowed (c % 16 * 4096 + d % 64 * 64 + e % 64)
code_allowed c d e a b h k s =
    let d_low = behind_low d h in
    let d_high = behind_high d h in
    let e_low = behind_low e k in
    let e_high = behind_high e k in
    cases (eqb c 0xE0) (λ p. let q = eqb-true c 0xE0 p in let m = s.not_long q in under (omega arith) (omega arith))
    (λ not_E0.
    cases (eqb c 0xED) (λ p. let q = eqb-true c 0xED p in let m = s.no_surrogate q in under (omega arith) (omega arith))
    (λ not_ED.
    cases (eqb c 0xEF) (λ p. let q = eqb-true c 0xEF p in let m = s.not_last q in above (omega arith) (omega arith))
    (λ not_EF.
    let n0 = eqb-false c 0xE0 not_E0 in
    let n1 = eqb-false c 0xED not_ED in
    let n2 = eqb-false c 0xEF not_EF in
    cases (leb c 0xEC) (λ p. let q = leb-true c 0xEC p in under (omega arith) (omega arith))
    (λ p. let q = leb-false c 0xEC p in above (omega arith) (omega arith)))))

-- and such a code point passes what is asked of three bytes, and of a character
code_good_lem : (v : ℕ) → Allowed v → (leb 0x800 v && not (within 0xD800 0xDFFF v) ≡ true) × (xml_char v ≡ true)
code_good_lem v (under low high) = (
  simp (le-leb 0x800 v low, lt-leb 0xD800 v (omega arith)),
  simp (ne_eqb v 9 (omega arith), ne_eqb v 10 (omega arith), ne_eqb v 13 (omega arith), le-leb 0x20 v (omega arith), le-leb v 0xD7FF high),
)
code_good_lem v (above low high) = (
  simp (le-leb 0x800 v (omega arith), le-leb 0xD800 v (omega arith), lt-leb v 0xDFFF (omega arith)),
  simp (
    ne_eqb v 9 (omega arith),
    ne_eqb v 10 (omega arith),
    ne_eqb v 13 (omega arith),
    le-leb 0x20 v (omega arith),
    lt-leb v 0xD7FF (omega arith),
    le-leb 0xE000 v low,
    le-leb v 0xFFFD high,
  ),
)

-- one character of three bytes
three_more : (c : ℕ) (l : List ℕ) → 224 ≤ c → c ≤ 239 → trail (get_or l 0 0) ≡ true → trail (get_or l 1 0) ≡ true → Second c (get_or l 0 0)
    → text_ok (c ∷ l) ≡ text_ok (drop 2 l)
unfolding char_of three_of
three_more c [] a b h k s = absurd (true≢false (sym h))
three_more c (d ∷ []) a b h k s = absurd (true≢false (sym k))
three_more c (d ∷ e ∷ l) a b h k s =
    let good = code_good_lem (c % 16 * 4096 + d % 64 * 64 + e % 64) (code_allowed c d e a b h k s) in
    text_step (c ∷ d ∷ e ∷ l) (c % 16 * 4096 + d % 64 * 64 + e % 64) 3 {a = is_accent (c % 16 * 4096 + d % 64 * 64 + e % 64)}
    (simp (
      le-ltb c 128 (omega arith),
      le-leb 194 c (omega arith),
      lt-leb c 223 (omega arith),
      le-leb 224 c a,
      le-leb c 239 b,
      le-leb 1 (suc (suc (suc (length l)))) (omega arith),
      le-leb 3 (suc (suc (suc (length l)))) (omega arith),
      h,
      k,
      good.0,
    ))
    ∙ rw good.1

-- a list that begins with the last two bytes of a character, with the last, or with none; and what is known of its second byte
abbrev TripleOwed : ℕ → List ℕ → Type 0
TripleOwed zero l = (trail (get_or l 0 0) ≡ false) × (trail (get_or l 1 0) ≡ leb 194 (get_or l 0 0))
TripleOwed (suc zero) l = (trail (get_or l 0 0) ≡ true) × (trail (get_or l 1 0) ≡ false)
TripleOwed (suc (suc zero)) l = (trail (get_or l 0 0) ≡ true) × (trail (get_or l 1 0) ≡ true)
TripleOwed (suc (suc (suc j))) l = ⊥

-- how many bytes that is
abbrev triple_ahead : List ℕ → ℕ
triple_ahead l = cond (trail (get_or l 0 0)) (cond (trail (get_or l 1 0)) 2 1) 0

-- what leads a byte, if the last but one before it is not the first of three
after : (c d : ℕ) (b : Bool) → b ≡ (leb 194 d || leb 224 c) → c < 224 → b ≡ leb 194 d
after c d b e l = e ∙ ap (λ (x : Bool). leb 194 d || x) (lt-leb 224 c l) ∙ or-false (leb 194 d)

-- a byte behind a first leads none
behind_leads_none : (d : ℕ) → trail d ≡ true → leb 194 d ≡ false
behind_leads_none d h = let high = behind_high d h in lt-leb 194 d (omega arith)

triple_begins : (c : ℕ) (l : List ℕ) → TripleOwed 0 (c ∷ l) → triple_at (c ∷ l) ≡ true
    → (j : ℕ) × TripleOwed j l × (text_ok (c ∷ l) ≡ text_ok (drop j l))
triple_begins c l o h =
    let f = fitting c (get_or l 0 0) (get_or l 1 0) h in
    cases (leb 224 c)
    (λ p.
    let from = leb-true 224 c p in
    let behind = o.1 ∙ le-leb 194 c (omega arith) in
    let third = f.leads ∙ ap (λ (x : Bool). leb 194 (get_or l 0 0) || x) p ∙ or-true (leb 194 (get_or l 0 0)) in
    (2, (behind, third), three_more c l from f.high behind third f.allowed))
    (λ p.
    let under = leb-false 224 c p in
    let next = after c (get_or l 0 0) (trail (get_or l 1 0)) f.leads under in
    cases (leb 194 c)
    (λ q. let behind = o.1 ∙ q in
    (1, (behind, next ∙ behind_leads_none (get_or l 0 0) behind), two_more c l (leb-true 194 c q) (omega arith) behind))
    (λ q. (0, (o.1 ∙ q, next), one_more c l f.low (plain_byte c f.somewhere o.0 (leb-false 194 c q)))))

triple_goes_on : (j c : ℕ) (l : List ℕ) → TripleOwed (suc j) (c ∷ l) → triple_at (c ∷ l) ≡ true → TripleOwed j l
triple_goes_on zero c l o h =
    let f = fitting c (get_or l 0 0) (get_or l 1 0) h in
    let high = behind_high c o.0 in
    (o.1, after c (get_or l 0 0) (trail (get_or l 1 0)) f.leads (omega arith))
triple_goes_on (suc zero) c l o h =
    let f = fitting c (get_or l 0 0) (get_or l 1 0) h in
    let high = behind_high c o.0 in
    (o.1, after c (get_or l 0 0) (trail (get_or l 1 0)) f.leads (omega arith) ∙ behind_leads_none (get_or l 0 0) o.1)
triple_goes_on (suc (suc j)) c l o h = absurd o

triple_counted : (j : ℕ) (l : List ℕ) → TripleOwed j l → j ≡ triple_ahead l
triple_counted zero l o = rw o.0
triple_counted (suc zero) l o = rw (o.0, o.1)
triple_counted (suc (suc zero)) l o = rw (o.0, o.1)
triple_counted (suc (suc (suc j))) l o = absurd o

triple_passes : Passes triple_at TripleOwed triple_ahead
triple_passes = record { begins = triple_begins; goes_on = triple_goes_on; counted = triple_counted }

-- the first two bytes of a block
opened : (t : List ℕ) (at : ℕ) → opens_block (get_or t at 0) (get_or t (at + 1) 0) ≡ true → TripleOwed 0 (drop at t)
unfolding opens_block
opened t at h = (
  ap trail (head_is at t) ∙ not-true _ (and_left (not (trail (get_or t at 0))) _ h),
  ap trail (get_or-drop at t 1 0) ∙ alike_is (leb 194 (get_or t at 0)) _ (and_right (not (trail (get_or t at 0))) _ h)
      ∙ ap (leb 194) (sym (head_is at t)),
)

-- a block of sixteen bytes that the test passes, and the two bytes behind it
pub triple_past : (t : List ℕ) (at : ℕ) (o r b d : Bool) → at + 16 ≤ length t → o ≡ opens_block (get_or t at 0) (get_or t (at + 1) 0)
    → r ≡ all_fit triple_at 16 (drop at t)
    → (o && r) ≡ true → trail (get_or t (at + 16) 0) ≡ b → trail (get_or t (at + 17) 0) ≡ d
    → text_ok (drop at t) ≡ text_ok (drop (at + cond b (cond d 18 17) 16) t)
triple_past t at o r b d n p e h f g =
    let next : get_or (drop (at + 16) t) 1 0 ≡ get_or t (at + 17) 0 =
    get_or-drop (at + 16) t 1 0 ∙ ap (λ (k : ℕ). get_or t k 0) (let z : at + 16 + 1 ≡ at + 17 = omega arith in z) in
    block_on triple_passes t at 16 n (sym e ∙ and_right o r h) (opened t at (sym p ∙ and_left o r h))
    ∙ ap (λ (x : Bool). text_ok (drop (at + 16 + cond x (cond (trail (get_or (drop (at + 16) t) 1 0)) 2 1) 0) t))
    (ap trail (head_is (at + 16) t) ∙ f)
    ∙ ap (λ (x : Bool). text_ok (drop (at + 16 + cond b (cond x 2 1) 0) t)) (ap trail next ∙ g)
    ∙ ap (λ (k : ℕ). text_ok (drop k t)) (sum b d)
  where
    sum : (b d : Bool) → at + 16 + cond b (cond d 2 1) 0 ≡ at + cond b (cond d 18 17) 16
    sum true true = omega arith
    sum true false = omega arith
    sum false d = omega arith

-- the test at an offset
pub triple_at_lem : (n : ℕ) (t : List ℕ) → triple_fits (get_or t n 0) (get_or t (n + 1) 0) (get_or t (n + 2) 0) ≡ triple_at (drop n t)
triple_at_lem n t = rw (head_is n t, get_or-drop n t 1 0, get_or-drop n t 2 0)
