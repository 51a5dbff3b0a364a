-- Zeros among data.
use Rattle.std.proofs.Common.{◌≡◌, ℕ, zero, suc, ◌+◌, pos, List, ◌∷◌, ◌++◌, append_assoc, arith, refl, ap, ◌∙◌}
use Rattle.std.specs.Prelude.{replicate}
use Rattle.rv_stmt.specs.declared.operand.DataWidth.TheVariants.{Byte, Half, Word}
use Rattle.rv_stmt.specs.declared.operand.Role.{Role}
use Rattle.rv_stmt.specs.declared.operand.Role.TheVariants as role
use Rattle.rv_stmt.specs.Data.{data_width}
use Rattle.rv_fix.specs.Data.{low_bytes}

pub low_bytes_of_zero : (r : Role) → low_bytes (data_width r) (pos 0) ≡ replicate (data_width r) 0
low_bytes_of_zero (role.Data Byte) = refl
low_bytes_of_zero (role.Data Half) = refl
low_bytes_of_zero (role.Data Word) = refl
low_bytes_of_zero role.Immediate = refl
low_bytes_of_zero role.SourceImmediate = refl
low_bytes_of_zero role.Target = refl
low_bytes_of_zero role.PairTarget = refl
low_bytes_of_zero role.Constant = refl
low_bytes_of_zero role.Size = refl
low_bytes_of_zero role.FillByte = refl
low_bytes_of_zero (role.Alignment u) = refl
low_bytes_of_zero role.Definition = refl

join_zeros : (m n : ℕ) → replicate {A = ℕ} m 0 ++ replicate n 0 ≡ replicate (m + n) 0
join_zeros zero n = let e : n ≡ 0 + n = omega arith in ap (λ k. replicate k 0) e
join_zeros (suc m) n =
    let e : suc (m + n) ≡ suc m + n = omega arith in
    ap (λ zs. 0 ∷ zs) (join_zeros m n) ∙ ap (λ k. replicate k 0) e

-- the zeros of one value more
pub more_zeros : (bs : List ℕ) (m n : ℕ) → (bs ++ replicate m 0) ++ replicate n 0 ≡ bs ++ replicate (m + n) 0
more_zeros bs m n = append_assoc bs (replicate m 0) (replicate n 0) ∙ ap (λ zs. bs ++ zs) (join_zeros m n)
