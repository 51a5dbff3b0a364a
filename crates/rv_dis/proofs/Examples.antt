-- Worked texts, computed from the definition.
use Rattle.std.proofs.Common.{◌≡◌, refl, ℕ, pos, negsuc, List, [], ◌∷◌, map}
use Rattle.std.specs.Prelude.{codes}
use Rattle.std.specs.Fmt.{digits}
use Rattle.rv_text.specs.Rows.{hex}
use Rattle.rv_ops.specs.Csrs.{csr_name, csr_names}
use Rattle.rv_ops.specs.Registers.{register_name}
use Rattle.rv_ops.specs.Table.{operation_name, row_of}
use Rattle.rv_ops.specs.declared.op.Op.TheVariants as op
use Rattle.rv_stmt.specs.Draft.{fields}
use Rattle.rv_stmt.specs.Forms.{slots_of}
use Rattle.rv_stmt.specs.Registers.{set_name, set_names}
use Rattle.rv_dis.specs.Text.{instruction_text}

-- the texts in the second column are those of the first
abbrev are_texts : List (List ℕ × List ℕ) → Type 0
are_texts rows = map (λ r. r.0) rows ≡ map (λ r. r.1) rows

texts : are_texts ((instruction_text 0 op.Addi (fields 10 10 0 (pos 1)), codes "addi a0, a0, 1")
    ∷ (instruction_text 0 op.Addi (fields 8 8 0 (negsuc 2047)), codes "addi s0, s0, -2048")
    ∷ (instruction_text 0 op.Beq (fields 0 10 11 (negsuc 3)), codes "beq a0, a1, 0xfffffffc")
    ∷ (instruction_text 0xfffffffc op.Beq (fields 0 10 11 (pos 8)), codes "beq a0, a1, 0x00000004")
    ∷ (instruction_text 0 op.CAddi4spn (fields 10 0 0 (pos 16)), codes "c.addi4spn a0, sp, 16")
    ∷ (instruction_text 0 op.CLwsp (fields 10 0 0 (pos 4)), codes "c.lwsp a0, 4(sp)")
    ∷ (instruction_text 0 op.Fence (fields 0 15 15 (pos 0)), codes "fence iorw, iorw")
    ∷ (instruction_text 0 op.Fence (fields 0 1 8 (pos 0)), codes "fence w, i")
    ∷ (instruction_text 0 op.Csrrs (fields 10 0 0 (pos 0xf14)), codes "csrrs a0, mhartid, zero")
    ∷ (instruction_text 0 op.Csrrs (fields 10 0 0 (pos 0x7c0)), codes "csrrs a0, 0x7c0, zero")
    ∷ (instruction_text 0 op.Csrrs (fields 10 0 0 (pos 4)), codes "csrrs a0, 0x004, zero")
    ∷ (instruction_text 0 op.Csrrwi (fields 10 5 0 (pos 0x300)), codes "csrrwi a0, mstatus, 5")
    ∷ (instruction_text 0 op.Lui (fields 10 0 0 (pos 0x12345)), codes "lui a0, 0x12345")
    ∷ (instruction_text 0 op.Lui (fields 10 0 0 (pos 0)), codes "lui a0, 0x0")
    ∷ (instruction_text 0 op.CLui (fields 11 0 0 (pos 0xfffe1)), codes "c.lui a1, 0xfffe1")
    ∷ (instruction_text 0 op.FenceTso (fields 0 0 0 (pos 0)), codes "fence.tso")
    ∷ (instruction_text 0 op.CJr (fields 0 1 0 (pos 0)), codes "c.jr ra")
    ∷ (instruction_text 0 op.Jalr (fields 10 11 0 (negsuc 3)), codes "jalr a0, -4(a1)")
    ∷ (instruction_text 0 op.Sw (fields 0 2 10 (pos 0)), codes "sw a0, 0(sp)")
    ∷ (instruction_text 0 op.AmoaddW (fields 10 12 11 (pos 0)), codes "amoadd.w a0, a1, (a2)")
    ∷ (instruction_text 0 op.LrWAqrl (fields 31 0 0 (pos 0)), codes "lr.w.aqrl t6, (zero)")
    ∷ [])
unfolding instruction_text operation_name row_of slots_of register_name digits hex csr_name csr_names set_name set_names
texts = refl
