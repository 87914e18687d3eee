use Rattle.joined_content.proofs.JoinLaws.{seam_none, seam_last, seam_apart, seam_touching, last_least, first_least}
use mathlib.Core.Bool.{Bool, ◌&&◌}
use Rattle.xliff.proofs.lists.Slices.{tail_is}
use mathlib.Core.Path.{sym, ◌∙◌, ap₂}
use native.Mathlib.Omega.{arith}
use Rattle.joined_content.proofs.seam.Goals as goal

-- return None
pub returns-then-a-eq0 : goal.returns-then-a-eq0
returns-then-a-eq0 c =
    let a = c.args.a.now in
    λ rs qs o q. seam_none a rs qs c.if-a-eq0.true o q.0

-- return None
pub returns-then-b-eq0 : goal.returns-then-b-eq0
returns-then-b-eq0 c =
    let args = c.args in
    λ rs qs o q. seam_last args.a.now args.b.now rs qs c.if-b-eq0.true q o.0

-- last_of(a)
pub last_of-p-requires : goal.last_of-p-requires
last_of-p-requires c =
    let pre = c.requires in
    let (f, g) = pre in
    let (rs, o) = f in
    let (qs, q) = g in
    (f, omega arith)

-- &a[p..]
pub slice_bounds-is_text-count : goal.slice_bounds-is_text-count
slice_bounds-is_text-count c =
    let (f, g) = c.requires in
    let (rs, o) = f in
    let (qs, q) = g in
    let m = c.last_of-p.ensures rs o in
    omega (arith, (last_least c.args.a.now rs c.last_of-p.result o m).1)

-- &a[p..]
pub slice_bounds-is_text-start : goal.slice_bounds-is_text-start
slice_bounds-is_text-start c =
    let (f, g) = c.requires in
    let (rs, o) = f in
    let (qs, q) = g in
    let m = c.last_of-p.ensures rs o in
    omega (arith, (last_least c.args.a.now rs c.last_of-p.result o m).1)

-- is_text(&a[p..])
pub is_text-x-requires : goal.is_text-x-requires
is_text-x-requires c =
    let last_of = c.last_of-p in
    let (f, g) = c.requires in
    let (rs, o) = f in
    let (qs, q) = g in
    let m = last_of.ensures rs o in
    simp tail_is (last_least c.args.a.now rs last_of.result o m).0

-- is_text(b)
pub is_text-y-requires : goal.is_text-y-requires
is_text-y-requires c =
    let (f, g) = c.requires in
    let (rs, o) = f in
    let (qs, q) = g in
    first_least c.args.b.now qs q (omega arith)

-- return Some(p)
pub returns-then-x-y : goal.returns-then-x-y
returns-then-x-y c =
    let a = c.args.a.now in
    let last_of = c.last_of-p in
    let ((rs, o), g) = c.requires in (
      λ rs qs o q.
          seam_touching a c.args.b.now rs qs last_of.result o q (omega arith) (last_of.ensures rs o)
          (ap₂ (λ (u v : Bool). u && v) (sym (simp tail_is at c.is_text-x.ensures)) (sym c.is_text-y.ensures)
          ∙ c.if-x-y.true),
      omega (arith, (last_least a rs last_of.result o (last_of.ensures rs o)).1),
    )

-- None
pub returns : goal.returns
returns c =
    let args = c.args in
    let last_of = c.last_of-p in
    λ rs qs o q.
    seam_apart args.a.now args.b.now rs qs last_of.result o q (last_of.ensures rs o)
    (ap₂ (λ (u v : Bool). u && v) (sym (simp tail_is at c.is_text-x.ensures))
    (sym c.is_text-y.ensures)
    ∙ c.if-x-y.false)
