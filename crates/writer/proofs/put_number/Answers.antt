use Rattle.writer.proofs.PieceLaws.{two_copied}
use Rattle.writer.specs.Pieces.{number_bytes}
use mathlib.Core.List.{◌∷◌, []}
use mathlib.Core.Path.{◌≡◌, refl, ap, ◌∙◌}
use native.Mathlib.Omega.{arith}
use Prim.Native.Nat.{ℕ, ◌/◌, ◌%◌}
use Rattle.writer.proofs.put_number.Goals as goal

-- the two bytes copied, the high one first
pub returns : goal.returns
returns c =
    let args = c.args in
    let n = args.n in
    let high : n / 256 % 256 ≡ n / 256 = omega (arith, c.ranges.n.fits) in
    let bytes = c.copy_from_slice.ensures.after ∙ c.to_be_bytes.ensures
    ∙ ap (λ (b : ℕ). b ∷ (n % 256) ∷ []) high in
    (refl, two_copied args.out.now _ (number_bytes n) args.at bytes refl)
