-- A join adds no bytes, no records and no parts.
use Prim.Native.Nat.{ℕ, ◌+◌, ◌≤◌}
use mathlib.Core.Path.{◌≡◌, refl, ap, ◌∙◌}
use mathlib.Core.List.{List, [], ◌∷◌, ◌++◌}
use native.Mathlib.Omega.{arith}
use lib.ListN.{length, length-append}
use Rattle.xliff.specs.Bytes.{two, gather}
use Rattle.xliff.specs.Text.{utf8s}
use Rattle.xliff.specs.Item.{Item, Content, text, character, standalone, isolated, pair, annotation_start, annotation_end}
use Rattle.xliff.specs.Unit.{Head, segment, ignorable, Target, no_target, target, Part, XliffUnit}
use Rattle.xliff.specs.Encode.{Record, opening, closing, part_head, target_head, text_run, inline, ill_text, broken, head_bytes, record_bytes, text_before, item_before, content_records, target_records, part_records, unit_records, spell, encode}
use Rattle.xliff.specs.Focus.{here, order_target, order_part, order_parts, with_parts}
use Rattle.xliff.specs.Join.{join_heads, join_targets, join_parts, join_order, join_focus}
use Rattle.xliff.proofs.lists.Sum.{sum, sum_append, sum_gather}
use Rattle.xliff.proofs.operations.Sources.{join_count}
use Rattle.xliff.proofs.text.Utf8.{utf8s_append}
use Rattle.join_result.specs.Result.{joined_unit}

-- two contents as records, one behind the other: two texts that touch are one
data Joined : List Record → List Record → List Record → Type 0 where
  behind : {rs : List Record} → Joined [] rs rs
  touching : {cs ds : List ℕ} {rs : List Record} → Joined (text_run cs ∷ []) (text_run ds ∷ rs) (text_run (cs ++ ds) ∷ rs)
  under : {r : Record} {rs qs zs : List Record} → Joined rs qs zs → Joined (r ∷ rs) qs (r ∷ zs)

text_behind : (c : ℕ) (rs : List Record) → Joined (text_run (c ∷ []) ∷ []) rs (text_before c rs)
unfolding text_before
text_behind c [] = under behind
text_behind c (opening d ∷ rs) = under behind
text_behind c (closing ∷ rs) = under behind
text_behind c (part_head h ∷ rs) = under behind
text_behind c (target_head q ∷ rs) = under behind
text_behind c (text_run cs ∷ rs) = touching
text_behind c (inline x ∷ rs) = under behind
text_behind c (ill_text ∷ rs) = under behind
text_behind c (broken b ∷ rs) = under behind

text_under : (c : ℕ) (r : Record) {rs qs zs : List Record} → Joined rs qs zs → Joined (text_before c (r ∷ rs)) qs (text_before c (r ∷ zs))
unfolding text_before
text_under c (opening d) j = under (under j)
text_under c closing j = under (under j)
text_under c (part_head h) j = under (under j)
text_under c (target_head q) j = under (under j)
text_under c (text_run cs) j = under j
text_under c (inline x) j = under (under j)
text_under c ill_text j = under (under j)
text_under c (broken b) j = under (under j)

text_joined : (c : ℕ) {rs qs zs : List Record} → Joined rs qs zs → Joined (text_before c rs) qs (text_before c zs)
unfolding text_before
text_joined c (behind {rs}) = text_behind c rs
text_joined c touching = touching
text_joined c (under {r} j) = text_under c r j

item_joined : (x : Item) (rs qs zs : List Record) → Joined rs qs zs → Joined (item_before x rs) qs (item_before x zs)
unfolding item_before
item_joined (text c) rs qs zs j = text_joined c j
item_joined (character c) rs qs zs j = under j
item_joined (standalone f) rs qs zs j = under j
item_joined (isolated h f) rs qs zs j = under j
item_joined (pair h w f) rs qs zs j = under j
item_joined (annotation_start w i t) rs qs zs j = under j
item_joined (annotation_end w i) rs qs zs j = under j

contents_joined : (xs ys : Content) → Joined (content_records xs) (content_records ys) (content_records (xs ++ ys))
unfolding content_records
contents_joined [] ys = behind
contents_joined (x ∷ xs) ys = item_joined x _ _ _ (contents_joined xs ys)

-- a measure of records that grows neither by joined heads, nor by another order, nor by joined texts
module _ (m : Record → ℕ)
    (heads : (g h : Head) → m (part_head (join_heads g h)) ≤ m (part_head g) + m (part_head h))
    (order : (q r : ℕ) → m (target_head q) ≡ m (target_head r))
    (texts : (cs ds : List ℕ) → m (text_run (cs ++ ds)) ≤ m (text_run cs) + m (text_run ds)) where
  joined_most : {rs qs zs : List Record} → Joined rs qs zs → sum m zs ≤ sum m rs + sum m qs
  joined_most behind = omega arith
  joined_most (touching {cs} {ds}) = omega (arith, texts cs ds)
  joined_most (under j) = omega (arith, joined_most j)

  contents_most : (xs ys : Content) → sum m (content_records (xs ++ ys)) ≤ sum m (content_records xs) + sum m (content_records ys)
  contents_most xs ys = joined_most (contents_joined xs ys)

  targets_most : (g h : Target) → sum m (target_records (join_targets g h)) ≤ sum m (target_records g) + sum m (target_records h)
  unfolding join_targets target_records
  targets_most no_target no_target = omega arith
  targets_most no_target (target r ys) = omega arith
  targets_most (target q xs) no_target = omega arith
  targets_most (target q xs) (target r ys) = omega (arith, contents_most xs ys)

  abbrev of_part : Part → ℕ
  of_part p = sum m (part_records p)

  part_pieces : (p : Part) → of_part p ≡ m (part_head p.head) + sum m (content_records p.source) + sum m (target_records p.target)
  unfolding part_records
  part_pieces p = omega (arith, sum_append m (content_records p.source) (target_records p.target))

  parts_most : (p q : Part) → of_part (join_parts p q) ≤ of_part p + of_part q
  unfolding join_parts
  parts_most p q =
      omega (
        arith,
        part_pieces (join_parts p q),
        part_pieces p,
        part_pieces q,
        heads p.head q.head,
        contents_most p.source q.source,
        targets_most p.target q.target,
      )

  target_kept : (f : ℕ → ℕ) (g : Target) → sum m (target_records (order_target f g)) ≡ sum m (target_records g)
  unfolding order_target target_records
  target_kept f no_target = refl
  target_kept f (target q xs) = omega (arith, order (f q) q)

  part_kept : (f : ℕ → ℕ) (p : Part) → of_part (order_part f p) ≡ of_part p
  unfolding order_part
  part_kept f p = omega (arith, part_pieces (order_part f p), part_pieces p, target_kept f p.target)

  parts_kept : (f : ℕ → ℕ) (ps : List Part) → sum of_part (order_parts f ps) ≡ sum of_part ps
  unfolding order_parts
  parts_kept f [] = refl
  parts_kept f (p ∷ ps) = omega (arith, part_kept f p, parts_kept f ps)

  focus_most : (ps b : List Part) (p q : Part) (a : List Part) → ps ≡ b ++ (p ∷ q ∷ a)
      → sum of_part (join_focus ps (here b p (q ∷ a))) ≤ sum of_part ps
  unfolding join_focus
  focus_most ps b p q a e =
      let z : sum of_part ps ≡ sum of_part (b ++ (p ∷ q ∷ a)) = ap (sum of_part) e in
      omega (
        arith,
        z,
        parts_kept (join_order ps p.target q.target) (b ++ (join_parts p q ∷ a)),
        sum_append of_part b (join_parts p q ∷ a),
        sum_append of_part b (p ∷ q ∷ a),
        parts_most p q,
      )

  unit_pieces : (u : XliffUnit) → sum m (unit_records u) ≡ m (opening u.opening) + sum of_part u.parts + m closing
  unfolding unit_records
  unit_pieces u = omega (arith, sum_append m (gather part_records u.parts) (closing ∷ []), sum_gather m part_records u.parts)

  pub unit_most : (u : XliffUnit) (b : List Part) (p q : Part) (a : List Part) → u.parts ≡ b ++ (p ∷ q ∷ a)
      → sum m (unit_records (joined_unit u b p q a)) ≤ sum m (unit_records u)
  unfolding joined_unit with_parts
  unit_most u b p q a e = omega (arith, unit_pieces (joined_unit u b p q a), unit_pieces u, focus_most u.parts b p q a e)

-- the bytes
bytes_sum : (rs : List Record) → length (spell rs) ≡ sum (λ r. length (record_bytes r)) rs
unfolding spell gather
bytes_sum [] = refl
bytes_sum (r ∷ rs) = omega (arith, length-append (record_bytes r) (spell rs), bytes_sum rs)

-- the number of records
count_sum : (rs : List Record) → length rs ≡ sum (λ r. 1) rs
count_sum [] = refl
count_sum (r ∷ rs) = omega (arith, count_sum rs)

head_sizes : (g h : Head) → length (head_bytes (join_heads g h)) ≤ length (head_bytes g) + length (head_bytes h)
unfolding head_bytes join_heads two
head_sizes (ignorable i) (ignorable j) = omega arith
head_sizes (ignorable i) (segment g) = omega arith
head_sizes (segment f) (ignorable j) = omega arith
head_sizes (segment f) (segment g) = omega arith

text_sizes : (cs ds : List ℕ)
    → length (record_bytes (text_run (cs ++ ds))) ≤ length (record_bytes (text_run cs)) + length (record_bytes (text_run ds))
unfolding record_bytes two
text_sizes cs ds =
    let z : length (utf8s (cs ++ ds)) ≡ length (utf8s cs) + length (utf8s ds) = ap length (utf8s_append cs ds)
    ∙ length-append (utf8s cs) (utf8s ds) in
    omega arith

module _ (u : XliffUnit) (b : List Part) (p q : Part) (a : List Part) (e : u.parts ≡ b ++ (p ∷ q ∷ a)) where
  pub fewer_bytes : length (encode (joined_unit u b p q a)) ≤ length (encode u)
  unfolding encode record_bytes two
  fewer_bytes =
      omega (
        arith,
        bytes_sum (unit_records (joined_unit u b p q a)),
        bytes_sum (unit_records u),
        unit_most (λ r. length (record_bytes r)) head_sizes (λ q r. refl) text_sizes u b p q a e,
      )

  pub fewer_records : length (unit_records (joined_unit u b p q a)) ≤ length (unit_records u)
  fewer_records =
      omega (
        arith,
        count_sum (unit_records (joined_unit u b p q a)),
        count_sum (unit_records u),
        unit_most (λ r. 1) (λ g h. omega arith) (λ q r. refl) (λ cs ds. omega arith) u b p q a e,
      )

  pub fewer_parts : length (joined_unit u b p q a).parts ≤ length u.parts
  unfolding joined_unit with_parts
  fewer_parts = omega (arith, join_count u.parts b p q a e)
