-- What lines use, computed on the definitions.
use Rattle.std.proofs.Common.{◌≡◌, refl}
use Rattle.std.specs.Prelude.{ℕ, Bool, true, false, List, [], ◌∷◌, map, codes}
use Rattle.rv_ops.specs.Csrs.{csr_named, csr_names}
use Rattle.rv_ops.specs.Registers.{register_named, register_names}
use Rattle.rv_ops.specs.Table.{operation_named, operation_names, row_of, layout_of}
use Rattle.rv_stmt.specs.Directives.{directive_named, directive_names}
use Rattle.rv_stmt.specs.Forms.{other_forms, slots_of}
use Rattle.rv_stmt.specs.Registers.{set_named, set_names}
use Rattle.rv_stmt.specs.Sections.{section_named, section_names}
use Rattle.rv_stmt.specs.Statement.{statement_of}
use Rattle.rv_stmt.specs.Values.{modifier_named, modifier_names}
use Rattle.rv_program.specs.Uses.{names_used, uses_address, uses_local_label, uses_paired_high, is_equ}

-- what a line uses
record Uses : Type 0 where
  names : List (List ℕ)
  address : Bool
  local_label : Bool
  paired_high : Bool
  equ : Bool

abbrev uses_of : List ℕ → Uses
uses_of line = record {
  names = names_used (statement_of line).body;
  address = uses_address (statement_of line).body;
  local_label = uses_local_label (statement_of line).body;
  paired_high = uses_paired_high (statement_of line).body;
  equ = is_equ (statement_of line).body;
}

-- names and whether the address, a local label and `%pcrel_lo` are used, on a line that is no `.equ`
abbrev uses : List (List ℕ) → (address local_label paired_high : Bool) → Uses
uses names address local_label paired_high =
    record { names = names; address = address; local_label = local_label; paired_high = paired_high; equ = false }

abbrev nothing : Uses
nothing = uses [] false false false

-- the address of its own line alone
abbrev address_alone : Uses
address_alone = uses [] true false false

abbrev use_rows : List (List ℕ × Uses)
use_rows =
    (codes "addi a0, a0, 1", nothing)
    ∷ (codes "x: li a0, N + M * N", uses (codes "N" ∷ codes "M" ∷ codes "N" ∷ []) false false false)
    ∷ (codes "lui a0, %hi(x)", uses (codes "x" ∷ []) false false false)
    ∷ (codes "beq a0, a1, t", uses (codes "t" ∷ []) true false false)
    ∷ (codes "j 0x100", address_alone)
    ∷ (codes "la a0, 0x100", address_alone)
    ∷ (codes "auipc a0, %pcrel_hi(0x100)", address_alone)
    ∷ (codes ".word -.", address_alone)
    ∷ (codes ".balign 4", address_alone)
    ∷ (codes ".word 1f, x", uses (codes "x" ∷ []) false true false)
    ∷ (codes "addi a0, a0, %pcrel_lo(L)", uses (codes "L" ∷ []) false false true)
    ∷ (codes "addi a0, a0, %pcrel_lo(1b)", uses [] false true true)
    ∷ (codes ".equ N, x", record { names = codes "x" ∷ []; address = false; local_label = false; paired_high = false; equ = true })
    ∷ (codes "j t, t", nothing)
    ∷ []

line_uses : map (λ r. uses_of r.0) use_rows ≡ map (λ r. r.1) use_rows
unfolding operation_named operation_names register_named register_names csr_named csr_names row_of layout_of other_forms slots_of set_named set_names modifier_named modifier_names directive_named directive_names section_named section_names
line_uses = refl
