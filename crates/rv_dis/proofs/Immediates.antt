-- The texts of immediates, by shape.
use Rattle.std.proofs.Common.{◌≡◌, ℤ, refl}
use Rattle.std.specs.Fmt.{signed_decimal}
use Rattle.rv_ops.specs.declared.op.Shape.{Shape}
use Rattle.rv_ops.specs.declared.op.Shape.TheVariants.{Upper, CUpper}
use Rattle.rv_dis.specs.Text.{immediate_text}

-- an immediate that is not the upper 20 bits is in decimal
pub decimal_immediate : (s : Shape) (v : ℤ) → (s ≡ Upper → ⊥) → (s ≡ CUpper → ⊥) → immediate_text s v ≡ signed_decimal v
decimal_immediate Upper v a b = absurd (a refl)
decimal_immediate CUpper v a b = absurd (b refl)
decimal_immediate _ v a b = refl
