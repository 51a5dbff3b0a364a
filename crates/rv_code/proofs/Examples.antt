-- Worked rows, computed from the definitions. The words are those of the assembler of LLVM 14.0.6.
use Rattle.std.proofs.Common.{◌≡◌, ℕ, ℤ, refl, [], ◌∷◌, Some, None, pos, negsuc}
use Rattle.rv_ops.specs.declared.op.Op.TheVariants as op
use Rattle.rv_ops.specs.Table.{row_of, layout_of}
use Rattle.rv_code.specs.declared.instruction.Fields.{Fields}
use Rattle.rv_code.specs.declared.word.Word.TheVariants.{Half, Full}
use Rattle.rv_code.specs.Encoding.{encoding_of, word_of, bytes_of_word, register_fields, immediate_fields, immediate_instruction}

fields : ℕ → ℕ → ℕ → ℤ → Fields
fields rd rs1 rs2 v = record { rd = rd; rs1 = rs1; rs2 = rs2; value = v }

-- mul a0, a1, a2
mul_word : word_of op.Mul (fields 10 11 12 (pos 0)) ≡ Full 0x02c58533
unfolding word_of encoding_of row_of layout_of fields
mul_word = refl

-- sub a0, s5, t1
sub_word : word_of op.Sub (fields 10 21 6 (pos 0)) ≡ Full 0x406a8533
unfolding word_of encoding_of row_of layout_of fields
sub_word = refl

-- addi a0, s5, 1
addi_word : word_of op.Addi (fields 10 21 0 (pos 1)) ≡ Full 0x001a8513
unfolding word_of encoding_of row_of layout_of fields
addi_word = refl

-- addi zero, zero, -2048
addi_least_word : word_of op.Addi (fields 0 0 0 (negsuc 2047)) ≡ Full 0x80000013
unfolding word_of encoding_of row_of layout_of fields
addi_least_word = refl

-- addi t6, zero, 2047
addi_greatest_word : word_of op.Addi (fields 31 0 0 (pos 2047)) ≡ Full 0x7ff00f93
unfolding word_of encoding_of row_of layout_of fields
addi_greatest_word = refl

-- srai a0, a1, 31
srai_word : word_of op.Srai (fields 10 11 0 (pos 31)) ≡ Full 0x41f5d513
unfolding word_of encoding_of row_of layout_of fields
srai_word = refl

-- lui a0, 0xfffff
lui_word : word_of op.Lui (fields 10 0 0 (pos 1048575)) ≡ Full 0xfffff537
unfolding word_of encoding_of row_of layout_of fields
lui_word = refl

-- jal ra, -1048576
jal_least_word : word_of op.Jal (fields 1 0 0 (negsuc 1048575)) ≡ Full 0x800000ef
unfolding word_of encoding_of row_of layout_of fields
jal_least_word = refl

-- jal ra, 1048574
jal_greatest_word : word_of op.Jal (fields 1 0 0 (pos 1048574)) ≡ Full 0x7ffff0ef
unfolding word_of encoding_of row_of layout_of fields
jal_greatest_word = refl

-- jalr ra, -4(a0)
jalr_word : word_of op.Jalr (fields 1 10 0 (negsuc 3)) ≡ Full 0xffc500e7
unfolding word_of encoding_of row_of layout_of fields
jalr_word = refl

-- lw a0, -2048(s5)
lw_word : word_of op.Lw (fields 10 21 0 (negsuc 2047)) ≡ Full 0x800aa503
unfolding word_of encoding_of row_of layout_of fields
lw_word = refl

-- sw a0, -2048(s5)
sw_word : word_of op.Sw (fields 0 21 10 (negsuc 2047)) ≡ Full 0x80aaa023
unfolding word_of encoding_of row_of layout_of fields
sw_word = refl

-- beq a0, a1, 4094
beq_greatest_word : word_of op.Beq (fields 0 10 11 (pos 4094)) ≡ Full 0x7eb50fe3
unfolding word_of encoding_of row_of layout_of fields
beq_greatest_word = refl

-- beq a0, a1, -4096
beq_least_word : word_of op.Beq (fields 0 10 11 (negsuc 4095)) ≡ Full 0x80b50063
unfolding word_of encoding_of row_of layout_of fields
beq_least_word = refl

-- csrrs a0, mhartid, zero
csrrs_word : word_of op.Csrrs (fields 10 0 0 (pos 3860)) ≡ Full 0xf1402573
unfolding word_of encoding_of row_of layout_of fields
csrrs_word = refl

-- csrrwi zero, mtvec, 31
csrrwi_word : word_of op.Csrrwi (fields 0 31 0 (pos 773)) ≡ Full 0x305fd073
unfolding word_of encoding_of row_of layout_of fields
csrrwi_word = refl

-- fence iorw, iorw
fence_word : word_of op.Fence (fields 0 15 15 (pos 0)) ≡ Full 0x0ff0000f
unfolding word_of encoding_of row_of layout_of fields
fence_word = refl

-- fence.tso
fence_tso_word : word_of op.FenceTso (fields 0 0 0 (pos 0)) ≡ Full 0x8330000f
unfolding word_of encoding_of row_of layout_of fields
fence_tso_word = refl

-- ebreak
ebreak_word : word_of op.Ebreak (fields 0 0 0 (pos 0)) ≡ Full 0x00100073
unfolding word_of encoding_of row_of layout_of fields
ebreak_word = refl

-- c.addi4spn a0, sp, 16
c_addi4spn_word : word_of op.CAddi4spn (fields 10 0 0 (pos 16)) ≡ Half 0x0808
unfolding word_of encoding_of row_of layout_of fields
c_addi4spn_word = refl

-- c.lw a0, 4(a1)
c_lw_word : word_of op.CLw (fields 10 11 0 (pos 4)) ≡ Half 0x41c8
unfolding word_of encoding_of row_of layout_of fields
c_lw_word = refl

-- c.sw a0, 4(a1)
c_sw_word : word_of op.CSw (fields 0 11 10 (pos 4)) ≡ Half 0xc1c8
unfolding word_of encoding_of row_of layout_of fields
c_sw_word = refl

-- c.nop
c_nop_word : word_of op.CNop (fields 0 0 0 (pos 0)) ≡ Half 0x0001
unfolding word_of encoding_of row_of layout_of fields
c_nop_word = refl

-- c.addi a0, 1
c_addi_word : word_of op.CAddi (fields 10 0 0 (pos 1)) ≡ Half 0x0505
unfolding word_of encoding_of row_of layout_of fields
c_addi_word = refl

-- c.li a0, -32
c_li_word : word_of op.CLi (fields 10 0 0 (negsuc 31)) ≡ Half 0x5501
unfolding word_of encoding_of row_of layout_of fields
c_li_word = refl

-- c.addi16sp sp, 496
c_addi16sp_word : word_of op.CAddi16sp (fields 0 0 0 (pos 496)) ≡ Half 0x617d
unfolding word_of encoding_of row_of layout_of fields
c_addi16sp_word = refl

-- c.lui a0, 0xfffe0
c_lui_word : word_of op.CLui (fields 10 0 0 (pos 1048544)) ≡ Half 0x7501
unfolding word_of encoding_of row_of layout_of fields
c_lui_word = refl

-- c.srai a0, 31
c_srai_word : word_of op.CSrai (fields 10 0 0 (pos 31)) ≡ Half 0x857d
unfolding word_of encoding_of row_of layout_of fields
c_srai_word = refl

-- c.andi a0, -1
c_andi_word : word_of op.CAndi (fields 10 0 0 (negsuc 0)) ≡ Half 0x997d
unfolding word_of encoding_of row_of layout_of fields
c_andi_word = refl

-- c.sub a0, a1
c_sub_word : word_of op.CSub (fields 10 0 11 (pos 0)) ≡ Half 0x8d0d
unfolding word_of encoding_of row_of layout_of fields
c_sub_word = refl

-- c.j -2048
c_j_word : word_of op.CJ (fields 0 0 0 (negsuc 2047)) ≡ Half 0xb001
unfolding word_of encoding_of row_of layout_of fields
c_j_word = refl

-- c.beqz a0, -256
c_beqz_word : word_of op.CBeqz (fields 0 10 0 (negsuc 255)) ≡ Half 0xd101
unfolding word_of encoding_of row_of layout_of fields
c_beqz_word = refl

-- c.slli a0, 31
c_slli_word : word_of op.CSlli (fields 10 0 0 (pos 31)) ≡ Half 0x057e
unfolding word_of encoding_of row_of layout_of fields
c_slli_word = refl

-- c.lwsp a0, 4(sp)
c_lwsp_word : word_of op.CLwsp (fields 10 0 0 (pos 4)) ≡ Half 0x4512
unfolding word_of encoding_of row_of layout_of fields
c_lwsp_word = refl

-- c.jr ra
c_jr_word : word_of op.CJr (fields 0 1 0 (pos 0)) ≡ Half 0x8082
unfolding word_of encoding_of row_of layout_of fields
c_jr_word = refl

-- c.mv a0, a1
c_mv_word : word_of op.CMv (fields 10 0 11 (pos 0)) ≡ Half 0x852e
unfolding word_of encoding_of row_of layout_of fields
c_mv_word = refl

-- c.ebreak
c_ebreak_word : word_of op.CEbreak (fields 0 0 0 (pos 0)) ≡ Half 0x9002
unfolding word_of encoding_of row_of layout_of fields
c_ebreak_word = refl

-- c.swsp a0, 252(sp)
c_swsp_word : word_of op.CSwsp (fields 0 0 10 (pos 252)) ≡ Half 0xdfaa
unfolding word_of encoding_of row_of layout_of fields
c_swsp_word = refl

-- amoadd.w a0, a1, (a2)
amoadd_word : word_of op.AmoaddW (fields 10 12 11 (pos 0)) ≡ Full 0x00b6252f
unfolding word_of encoding_of row_of layout_of fields
amoadd_word = refl

-- lr.w.aq a0, (a1)
lr_word : word_of op.LrWAq (fields 10 11 0 (pos 0)) ≡ Full 0x1405a52f
unfolding word_of encoding_of row_of layout_of fields
lr_word = refl

-- sc.w.rl a0, a1, (a2)
sc_word : word_of op.ScWRl (fields 10 12 11 (pos 0)) ≡ Full 0x1ab6252f
unfolding word_of encoding_of row_of layout_of fields
sc_word = refl

-- amoswap.w.aqrl zero, a1, (a2)
amoswap_word : word_of op.AmoswapWAqrl (fields 0 12 11 (pos 0)) ≡ Full 0x0eb6202f
unfolding word_of encoding_of row_of layout_of fields
amoswap_word = refl

-- mret
mret_word : word_of op.Mret (fields 0 0 0 (pos 0)) ≡ Full 0x30200073
unfolding word_of encoding_of row_of layout_of fields
mret_word = refl

-- sub a0, a1, a2, as its bytes stand in memory
sub_bytes : bytes_of_word (word_of op.Sub (register_fields 10 11 12)) ≡ 0x33 ∷ 0x85 ∷ 0xc5 ∷ 0x40 ∷ []
unfolding word_of encoding_of row_of layout_of
sub_bytes = refl

-- c.li a0, 0
half_bytes : bytes_of_word (Half 0x4501) ≡ 0x01 ∷ 0x45 ∷ []
half_bytes = refl

-- 2047 is an immediate, and 2048 is none
greatest_immediate : immediate_instruction op.Addi 10 10 (pos 2047) ≡ Some (op.Addi, immediate_fields 10 10 (pos 2047))
greatest_immediate = refl

beyond_immediate : immediate_instruction op.Addi 10 10 (pos 2048) ≡ None
beyond_immediate = refl

-- -2048 is an immediate, and -2049 is none
least_immediate : immediate_instruction op.Addi 10 10 (negsuc 2047) ≡ Some (op.Addi, immediate_fields 10 10 (negsuc 2047))
least_immediate = refl

below_immediate : immediate_instruction op.Addi 10 10 (negsuc 2048) ≡ None
below_immediate = refl
