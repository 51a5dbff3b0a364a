-- The word of each shape is read back: its slices give the fields, and its mask gives the fixed bits.
use Rattle.std.proofs.Common.{◌≡◌, ℕ, ◌+◌, ◌*◌, ◌/◌, ◌%◌, ◌^◌, ◌<◌, refl, [], ◌∷◌, arith, bit_and, sym, ap, ◌∙◌}
use Rattle.rv_ops.specs.declared.op.Shape.{Shape}
use Rattle.rv_ops.specs.declared.op.Shape.TheVariants.{Upper, Jump, JumpRegister, Branch, Load, Store, Immediate, Shift, Register, Csr, CsrImmediate, Fence, Whole, LoadReserved, Atomic, CStackAddress, CLoad, CStore, CWhole, CImmediate, CJump, CLoadImmediate, CStackAdjust, CUpper, CShiftRight, CAndImmediate, CRegisters, CBranch, CShiftLeft, CLoadStack, CJumpRegister, CTwoRegisters, CStoreStack}
use Rattle.rv_ops.specs.declared.layouts.Field.TheVariants.{Rd, Rs1, Rs2, Value}
use Rattle.rv_ops.specs.Table.{classes_of, layout_of, limits_of, slices_of, sign_of}
use Rattle.rv_code.specs.declared.instruction.Fields.{Fields}
use Rattle.rv_code.specs.Encoding.{bits_of_field, bits_of_slices}
use Rattle.rv_code.specs.Decoding.{fields_at, first_of, gathered, value_of}
use Rattle.rv_code.proofs.Runs.{Runs, and_runs, bits_of_runs, mask_of_runs}
use Rattle.rv_code.proofs.Shapes.{FitsShape, IsRead, mask_of_shape, same_fields, width_of_value}
use Rattle.rv_code.proofs.Values.{multiple_back, value_back}

-- the runs of ones of a shape's mask
abbrev pub runs_of : Shape → Runs
runs_of Upper = (0, 7) ∷ []
runs_of Jump = (0, 7) ∷ []
runs_of JumpRegister = (0, 7) ∷ (5, 3) ∷ []
runs_of Branch = (0, 7) ∷ (5, 3) ∷ []
runs_of Load = (0, 7) ∷ (5, 3) ∷ []
runs_of Store = (0, 7) ∷ (5, 3) ∷ []
runs_of Immediate = (0, 7) ∷ (5, 3) ∷ []
runs_of Shift = (0, 7) ∷ (5, 3) ∷ (10, 7) ∷ []
runs_of Register = (0, 7) ∷ (5, 3) ∷ (10, 7) ∷ []
runs_of Csr = (0, 7) ∷ (5, 3) ∷ []
runs_of CsrImmediate = (0, 7) ∷ (5, 3) ∷ []
runs_of Fence = (0, 20) ∷ (8, 4) ∷ []
runs_of Whole = (0, 32) ∷ []
runs_of LoadReserved = (0, 7) ∷ (5, 3) ∷ (5, 12) ∷ []
runs_of Atomic = (0, 7) ∷ (5, 3) ∷ (10, 7) ∷ []
runs_of CStackAddress = (0, 2) ∷ (11, 3) ∷ []
runs_of CLoad = (0, 2) ∷ (11, 3) ∷ []
runs_of CStore = (0, 2) ∷ (11, 3) ∷ []
runs_of CWhole = (0, 16) ∷ []
runs_of CImmediate = (0, 2) ∷ (11, 3) ∷ []
runs_of CJump = (0, 2) ∷ (11, 3) ∷ []
runs_of CLoadImmediate = (0, 2) ∷ (11, 3) ∷ []
runs_of CStackAdjust = (0, 2) ∷ (5, 5) ∷ (1, 3) ∷ []
runs_of CUpper = (0, 2) ∷ (11, 3) ∷ []
runs_of CShiftRight = (0, 2) ∷ (8, 6) ∷ []
runs_of CAndImmediate = (0, 2) ∷ (8, 2) ∷ (1, 3) ∷ []
runs_of CRegisters = (0, 2) ∷ (3, 2) ∷ (3, 6) ∷ []
runs_of CBranch = (0, 2) ∷ (11, 3) ∷ []
runs_of CShiftLeft = (0, 2) ∷ (10, 4) ∷ []
runs_of CLoadStack = (0, 2) ∷ (11, 3) ∷ []
runs_of CJumpRegister = (0, 7) ∷ (5, 4) ∷ []
runs_of CTwoRegisters = (0, 2) ∷ (10, 4) ∷ []
runs_of CStoreStack = (0, 2) ∷ (11, 3) ∷ []

pub runs-mask : (s : Shape) → mask_of_runs (runs_of s) ≡ mask_of_shape s
unfolding mask_of_shape layout_of
runs-mask Upper = refl
runs-mask _ = refl

-- the number has no bit that a field fills
abbrev IsFixed : Shape → ℕ → Type 0
IsFixed s n = bits_of_runs (runs_of s) 0 n ≡ n

rd_back : (s : Shape) (f : Fields) (n : ℕ) → IsFixed s n → FitsShape s f → first_of (classes_of s).rd + gathered Rd (n + bits_of_slices f (slices_of s)) (slices_of s) ≡ f.rd
unfolding mask_of_shape layout_of
rd_back Upper f n e h = omega (arith, e)
rd_back _ f n e h = omega (arith, e)

rs1_back : (s : Shape) (f : Fields) (n : ℕ) → IsFixed s n → FitsShape s f → first_of (classes_of s).rs1 + gathered Rs1 (n + bits_of_slices f (slices_of s)) (slices_of s) ≡ f.rs1
unfolding mask_of_shape layout_of
rs1_back Upper f n e h = omega (arith, e)
rs1_back _ f n e h = omega (arith, e)

rs2_back : (s : Shape) (f : Fields) (n : ℕ) → IsFixed s n → FitsShape s f → first_of (classes_of s).rs2 + gathered Rs2 (n + bits_of_slices f (slices_of s)) (slices_of s) ≡ f.rs2
unfolding mask_of_shape layout_of
rs2_back Upper f n e h = omega (arith, e)
rs2_back _ f n e h = omega (arith, e)

fixed_back : (s : Shape) (f : Fields) (n : ℕ) → IsFixed s n → FitsShape s f → bits_of_runs (runs_of s) 0 (n + bits_of_slices f (slices_of s)) ≡ n
unfolding mask_of_shape layout_of
fixed_back Upper f n e h = omega (arith, e)
fixed_back _ f n e h = omega (arith, e)

-- the eight slices of a jump's displacement, as numbers
jump_digits : (a b u v w x y z s t : ℕ) → a < 2 ^ 2 → b < 2 ^ 3 → u < 2 ^ 1 → v < 2 ^ 3 → w < 2 ^ 1 → x < 2 ^ 1 → y < 2 ^ 1 → z < 2 ^ 2 → s < 2 ^ 1 → t < 2 ^ 1 →
    gathered Value (a + b * 2 ^ 13 + (u * 2 ^ 2 + (v * 2 ^ 3 + (w * 2 ^ 6 + (x * 2 ^ 7 + (y * 2 ^ 8 + (z * 2 ^ 9 + (s * 2 ^ 11 + (t * 2 ^ 12 + 0))))))))) (slices_of CJump) ≡ u * 2 ^ 5 + (v * 2 ^ 1 + (w * 2 ^ 7 + (x * 2 ^ 6 + (y * 2 ^ 10 + (z * 2 ^ 8 + (s * 2 ^ 4 + (t * 2 ^ 11 + 0)))))))
unfolding layout_of
jump_digits a b u v w x y z s t ha hb hu hv hw hx hy hz hs ht = omega arith

jump_slices : (n : ℕ) → n % 2 ≡ 0 → (n / 2 ^ 5 % 2 ^ 1) * 2 ^ 5 + ((n / 2 ^ 1 % 2 ^ 3) * 2 ^ 1 + ((n / 2 ^ 7 % 2 ^ 1) * 2 ^ 7 + ((n / 2 ^ 6 % 2 ^ 1) * 2 ^ 6 + ((n / 2 ^ 10 % 2 ^ 1) * 2 ^ 10 + ((n / 2 ^ 8 % 2 ^ 2) * 2 ^ 8 + ((n / 2 ^ 4 % 2 ^ 1) * 2 ^ 4 + ((n / 2 ^ 11 % 2 ^ 1) * 2 ^ 11 + 0))))))) ≡ n % 2 ^ 12
jump_slices n h = omega arith

number_back : (s : Shape) (f : Fields) (n : ℕ) → IsFixed s n → bits_of_field Value f % (limits_of s).multiple ≡ 0 → gathered Value (n + bits_of_slices f (slices_of s)) (slices_of s) ≡ bits_of_field Value f % 2 ^ width_of_value (slices_of s)
unfolding mask_of_shape layout_of
number_back CJump f n e m =
    let v = bits_of_field Value f in
    let two : n ≡ n % 2 ^ 2 + (n / 2 ^ 13 % 2 ^ 3) * 2 ^ 13 = omega (arith, e) in
    ap (λ k. gathered Value (k + bits_of_slices f (slices_of CJump)) (slices_of CJump)) two
    ∙ jump_digits (n % 2 ^ 2) (n / 2 ^ 13 % 2 ^ 3) (v / 2 ^ 5 % 2 ^ 1) (v / 2 ^ 1 % 2 ^ 3) (v / 2 ^ 7 % 2 ^ 1) (v / 2 ^ 6 % 2 ^ 1) (v / 2 ^ 10 % 2 ^ 1) (v / 2 ^ 8 % 2 ^ 2) (v / 2 ^ 4 % 2 ^ 1) (v / 2 ^ 11 % 2 ^ 1) (omega arith) (omega arith) (omega arith) (omega arith) (omega arith) (omega arith) (omega arith) (omega arith) (omega arith) (omega arith)
    ∙ jump_slices v m
number_back Upper f n e m = omega (arith, e, m)
number_back _ f n e m = omega (arith, e, m)

-- a word of fixed bits and fields is read back
pub read_back : (s : Shape) (n : ℕ) (f : Fields) → bit_and n (mask_of_shape s) ≡ n → FitsShape s f → IsRead s n f
unfolding fields_at
read_back s n f e h =
    let word = n + bits_of_slices f (slices_of s) in
    let fixed : IsFixed s n = sym (and_runs (runs_of s) n) ∙ ap (λ m. bit_and n m) (runs-mask s) ∙ e in
    let number = number_back s f n fixed (multiple_back s f.value h.value.multiple) in
    let value = ap (λ k. value_of (sign_of s) k) number ∙ value_back s f.value h.value in
    record {
      fields = same_fields f _ _ _ _ (rd_back s f n fixed h) (rs1_back s f n fixed h) (rs2_back s f n fixed h) value;
      fixed = ap (λ m. bit_and word m) (sym (runs-mask s)) ∙ and_runs (runs_of s) word ∙ fixed_back s f n fixed h;
    }
