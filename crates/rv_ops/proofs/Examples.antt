-- Worked rows, computed from the definitions.
use Rattle.std.proofs.Common.{◌≡◌, ◌+◌, ◌-◌, ◌*◌, ◌^◌, ◌&&◌, refl, ℕ, List, [], ◌∷◌, Bool, true, Some, None, pos, negsuc, nat_eq}
use Rattle.std.specs.Prelude.{codes, bit_and, if◌then◌else◌}
use Rattle.rv_ops.specs.declared.op.Op.{Op}
use Rattle.rv_ops.specs.declared.op.Op.TheVariants.{Lui}
use Rattle.rv_ops.specs.declared.op.Op.TheVariants as op
use Rattle.rv_ops.specs.declared.layouts.FieldSlice.{FieldSlice}
use Rattle.rv_ops.specs.declared.value_limits.LimitFault.TheVariants.{Range, Multiple}
use Rattle.rv_ops.specs.Limits.{limit_fault}
use Rattle.rv_ops.specs.Csrs.{csr_name, csr_named, csr_names}
use Rattle.rv_ops.specs.Registers.{register_named, register_names, register_name}
use Rattle.rv_ops.specs.Table.{operation_named, operation_names, row_of, layout_of, fixed_of, mask_of, is_full, limits_of, slices_of, shape_of}

-- names are read in either letter case
named_addi : operation_named (codes "ADDI") ≡ Some op.Addi
unfolding operation_named operation_names
named_addi = refl

named_fence_tso : operation_named (codes "fence.TSO") ≡ Some op.FenceTso
unfolding operation_named operation_names
named_fence_tso = refl

named_c_addi4spn : operation_named (codes "c.addi4spn") ≡ Some op.CAddi4spn
unfolding operation_named operation_names
named_c_addi4spn = refl

named_c_swsp : operation_named (codes "C.SWSP") ≡ Some op.CSwsp
unfolding operation_named operation_names
named_c_swsp = refl

-- a pseudo-instruction is no operation
named_nop : operation_named (codes "nop") ≡ None
unfolding operation_named operation_names
named_nop = refl

named_addi_and_more : operation_named (codes "addii") ≡ None
unfolding operation_named operation_names
named_addi_and_more = refl

named_fp : register_named (codes "fP") ≡ Some 8
unfolding register_named register_names
named_fp = refl

named_s11 : register_named (codes "s11") ≡ Some 27
unfolding register_named register_names
named_s11 = refl

named_x31 : register_named (codes "X31") ≡ Some 31
unfolding register_named register_names
named_x31 = refl

named_x32 : register_named (codes "x32") ≡ None
unfolding register_named register_names
named_x32 = refl

name_of_x8 : register_name 8 ≡ codes "s0"
unfolding register_name
name_of_x8 = refl

named_cycle : csr_named (codes "cycle") ≡ Some 0xc00
unfolding csr_named csr_names
named_cycle = refl

named_cycleh : csr_named (codes "cycleh") ≡ Some 0xc80
unfolding csr_named csr_names
named_cycleh = refl

named_hpmcounter3 : csr_named (codes "hpmcounter3") ≡ Some 0xc03
unfolding csr_named csr_names
named_hpmcounter3 = refl

named_hpmcounter31h : csr_named (codes "HPMCounter31h") ≡ Some 0xc9f
unfolding csr_named csr_names
named_hpmcounter31h = refl

named_mtval : csr_named (codes "mtval") ≡ Some 0x343
unfolding csr_named csr_names
named_mtval = refl

named_mhartid : csr_named (codes "mhartid") ≡ Some 0xf14
unfolding csr_named csr_names
named_mhartid = refl

named_satp : csr_named (codes "satp") ≡ None
unfolding csr_named csr_names
named_satp = refl

name_of_mstatus : csr_name 0x300 ≡ Some (codes "mstatus")
unfolding csr_name csr_names
name_of_mstatus = refl

name_of_hpmcounter3h : csr_name 0xc83 ≡ Some (codes "hpmcounter3h")
unfolding csr_name csr_names
name_of_hpmcounter3h = refl

name_of_instret : csr_name 0xc02 ≡ Some (codes "instret")
unfolding csr_name csr_names
name_of_instret = refl

-- a number that the standard leaves to custom use
no_name_of_0x7c0 : csr_name 0x7c0 ≡ None
unfolding csr_name csr_names
no_name_of_0x7c0 = refl

-- the fixed bits of sub: RISC-V Unprivileged ISA 20191213, chapter 24
sub_fixed : fixed_of op.Sub ≡ 0x40000033
unfolding row_of
sub_fixed = refl

remu_fixed : fixed_of op.Remu ≡ 0x02007033
unfolding row_of
remu_fixed = refl

fence_mask : mask_of op.Fence ≡ 0xf00fffff
unfolding row_of
fence_mask = refl

-- what c.lui takes: 1 to 31 and 0xfffe0 to 0xfffff
c_lui_limits : limits_of (shape_of op.CLui) ≡ record { least = pos 1; greatest = pos 0xfffff; multiple = 1; gap_first = pos 32; gap_last = pos 0xfffdf }
unfolding row_of layout_of
c_lui_limits = refl

-- a branch reaches from -4096 to 4094, by 2
beq_limits : limits_of (shape_of op.Beq) ≡ record { least = negsuc 4095; greatest = pos 4094; multiple = 2; gap_first = pos 1; gap_last = pos 0 }
unfolding row_of layout_of
beq_limits = refl

-- worked values against the limits
beq_fault_of_2 : limit_fault (limits_of (shape_of op.Beq)) (pos 2) ≡ None
unfolding limit_fault row_of layout_of
beq_fault_of_2 = refl

beq_fault_of_3 : limit_fault (limits_of (shape_of op.Beq)) (pos 3) ≡ Some Multiple
unfolding limit_fault row_of layout_of
beq_fault_of_3 = refl

-- the range comes first
beq_fault_of_4095 : limit_fault (limits_of (shape_of op.Beq)) (pos 4095) ≡ Some Range
unfolding limit_fault row_of layout_of
beq_fault_of_4095 = refl

c_lui_fault_of_32 : limit_fault (limits_of (shape_of op.CLui)) (pos 32) ≡ Some Range
unfolding limit_fault row_of layout_of
c_lui_fault_of_32 = refl

c_lui_fault_of_0xfffe0 : limit_fault (limits_of (shape_of op.CLui)) (pos 0xfffe0) ≡ None
unfolding limit_fault row_of layout_of
c_lui_fault_of_0xfffe0 = refl

-- a number of bits that is the greatest of its number of bits at a place
bits_at : FieldSlice → ℕ
bits_at s = (2 ^ s.width - 1) * 2 ^ s.word_bit

-- whether the slices of the fields, one after another, take bits of the encoding that are still free, and in the end all
fills : List FieldSlice → ℕ → ℕ → Bool
fills [] taken whole = nat_eq taken whole
fills (s ∷ ss) taken whole = nat_eq (bit_and (bits_at s) taken) 0 && fills ss (taken + bits_at s) whole

-- the fixed bits and the slices of the fields part the encoding
words_are_parted : (o : Op) → fills (slices_of (shape_of o)) (mask_of o) (2 ^ (if is_full o then 32 else 16) - 1) ≡ true
unfolding row_of layout_of fills bits_at
words_are_parted Lui = refl
words_are_parted _ = refl
