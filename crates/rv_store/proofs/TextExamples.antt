-- Worked texts, computed on the definitions.
use Rattle.std.proofs.Common.{◌≡◌, refl}
use Rattle.std.specs.Prelude.{ℕ, pos, List, [], ◌∷◌, ◌++◌, Option, Some, None, length, map, replicate, codes}
use Rattle.rv_text.specs.declared.faults.FaultNumber.{FaultNumber}
use Rattle.rv_text.specs.declared.faults.FaultNumber.TheVariants as fault
use Rattle.rv_ops.specs.Csrs.{csr_named, csr_names}
use Rattle.rv_ops.specs.Limits.{limit_fault}
use Rattle.rv_ops.specs.Registers.{register_named, register_names}
use Rattle.rv_ops.specs.Table.{operation_named, operation_names, row_of, layout_of}
use Rattle.rv_code.specs.declared.word.Word.TheVariants.{Full}
use Rattle.rv_code.specs.Encoding.{word_of, encoding_of, bytes_of_word}
use Rattle.rv_stmt.specs.declared.section.Sect.{Sect}
use Rattle.rv_stmt.specs.declared.section.Sect.TheVariants as section
use Rattle.rv_stmt.specs.Directives.{directive_named, directive_names}
use Rattle.rv_stmt.specs.Forms.{other_forms, slots_of}
use Rattle.rv_stmt.specs.Registers.{set_named, set_names}
use Rattle.rv_stmt.specs.Sections.{section_named, section_names}
use Rattle.rv_stmt.specs.Values.{modifier_named, modifier_names}
use Rattle.rv_fix.specs.declared.coded.Coded.{Coded}
use Rattle.rv_fix.specs.Code.{code}
use Rattle.rv_store.specs.declared.symbols.SymValue.{SymValue}
use Rattle.rv_store.specs.declared.symbols.SymValue.TheVariants.{Label, Equ}
use Rattle.rv_program.specs.Codes.{code_at}
use Rattle.rv_program.specs.Layout.{section_at}
use Rattle.rv_program.specs.Program.{program_of, for_lines}
use Rattle.rv_store.specs.Symbols.{symbol_of}

abbrev pub wrong : List ℕ → FaultNumber → ℕ → ℕ → Coded
wrong bs number from to =
    record { payload = bs; fault = Some (record { number = number; span = record { from = from; to = to } }) }

-- one instruction of 32 bits
abbrev pub instruction : (word : ℕ) → Coded
instruction word = code (bytes_of_word (Full word))

-- two of them
abbrev pub instructions : (first second : ℕ) → Coded
instructions first second = code (bytes_of_word (Full first) ++ bytes_of_word (Full second))

abbrev pub nop : Coded
nop = instruction 0x00000013

abbrev pub no_bytes : Coded
no_bytes = code []

-- so many zeros for a line of four bytes with a fault
abbrev pub wrong_word : FaultNumber → ℕ → ℕ → Coded
wrong_word = wrong (replicate 4 0)

-- the codes of all lines of a text from base 0
abbrev pub codes_of : List (List ℕ) → List Coded
codes_of lines = for_lines (code_at 0 (program_of lines)) (length lines)

-- the sections of its lines
abbrev pub sections_of : List (List ℕ) → List Sect
sections_of lines = for_lines (section_at (program_of lines)) (length lines)

-- a symbol of a text, or a name without a definition
abbrev pub Named : Type 0
Named = List ℕ × Option SymValue

-- a text with the codes of its lines and some of its symbols, from base 0
abbrev Row : Type 0
Row = List (List ℕ) × List Coded × List Named

-- what these names are in a text from base 0
abbrev pub named_in : List (List ℕ) → List Named → List Named
named_in lines rows = map (λ r. (r.0, symbol_of 0 (program_of lines) r.0)) rows

abbrev are_rows : List Row → Type 0
are_rows rows = map (λ r. (r.0, codes_of r.0, named_in r.0 r.2)) rows ≡ rows

-- Addresses and constants

abbrev pub chain_lines : List (List ℕ)
chain_lines =
    codes ".equ N, 5000" ∷ codes "start: li a0, N" ∷ codes "end: nop" ∷ codes ".equ D, end - start" ∷ codes "beq a0, a1, . + D" ∷ []

-- a low part that is negative; constants of earlier lines, and an `.equ` over labels; a size that rests on addresses
abbrev address_rows : List Row
address_rows =
    (codes "call f" ∷ codes ".space 2040" ∷ codes "f: nop" ∷ [], instructions 0x00001097 0x800080E7 ∷ code (replicate 2040 0) ∷ nop ∷ [], [])
    ∷ (chain_lines, no_bytes ∷ instructions 0x00001537 0x38850513 ∷ nop ∷ no_bytes ∷ instruction 0x00B50463 ∷ [], (codes "N", Some (Equ (Some (pos 5000)))) ∷ (codes "start", Some (Label 0)) ∷ (codes "end", Some (Label 8)) ∷ (codes "D", Some (Equ (Some (pos 8)))) ∷ (codes "x", None) ∷ [])
    ∷ (codes "s: .space e - s" ∷ codes "e:" ∷ [], wrong [] fault.NotConstant 10 15 ∷ no_bytes ∷ [], (codes "s", Some (Label 0)) ∷ (codes "e", Some (Label 0)) ∷ [])
    ∷ []

addresses : are_rows address_rows
unfolding word_of encoding_of row_of layout_of limit_fault operation_named operation_names register_named register_names csr_named csr_names other_forms slots_of set_named set_names modifier_named modifier_names directive_named directive_names section_named section_names
addresses = refl

-- Definitions

-- an `.equ` that names itself, a later one and a faulty one; a name that is defined twice
abbrev definition_rows : List Row
definition_rows =
    (codes ".equ a, a" ∷ [], wrong [] fault.LaterEqu 8 9 ∷ [], (codes "a", Some (Equ None)) ∷ [])
    ∷ (codes ".equ a, b" ∷ codes ".equ b, 1" ∷ [], wrong [] fault.LaterEqu 8 9 ∷ no_bytes ∷ [], (codes "a", Some (Equ None)) ∷ (codes "b", Some (Equ (Some (pos 1)))) ∷ [])
    ∷ (codes ".word n" ∷ codes ".equ n, 1/0" ∷ [], wrong_word fault.FaultyEqu 6 7 ∷ wrong [] fault.Arithmetic 8 11 ∷ [], (codes "n", Some (Equ None)) ∷ [])
    ∷ (codes "nop" ∷ codes "x: nop" ∷ codes ".equ x, 9" ∷ codes ".word x" ∷ [], nop ∷ nop ∷ no_bytes ∷ code (0x04 ∷ 0x00 ∷ 0x00 ∷ 0x00 ∷ []) ∷ [], (codes "x", Some (Label 4)) ∷ [])
    ∷ []

definitions : are_rows definition_rows
unfolding word_of encoding_of row_of layout_of limit_fault operation_named operation_names register_named register_names csr_named csr_names other_forms slots_of set_named set_names modifier_named modifier_names directive_named directive_names section_named section_names
definitions = refl

-- Sections

abbrev pub bss_lines : List (List ℕ)
bss_lines = codes ".section .bss" ∷ codes "addi a0, a0, 1" ∷ []

abbrev switch_lines : List (List ℕ)
switch_lines = codes "nop" ∷ codes "x: .data" ∷ codes ".word x" ∷ []

-- the label of a line that changes the section is in the section before
abbrev section_rows : List Row
section_rows =
    (bss_lines, no_bytes ∷ instruction 0x00150513 ∷ [], [])
    ∷ (switch_lines, nop ∷ no_bytes ∷ code (0x04 ∷ 0x00 ∷ 0x00 ∷ 0x00 ∷ []) ∷ [], (codes "x", Some (Label 4)) ∷ [])
    ∷ []

sections : are_rows section_rows
unfolding word_of encoding_of row_of layout_of limit_fault operation_named operation_names register_named register_names csr_named csr_names other_forms slots_of set_named set_names modifier_named modifier_names directive_named directive_names section_named section_names
sections = refl

bss_sections : sections_of bss_lines ≡ section.Text ∷ section.Bss ∷ []
unfolding word_of encoding_of row_of layout_of limit_fault operation_named operation_names register_named register_names csr_named csr_names other_forms slots_of set_named set_names modifier_named modifier_names directive_named directive_names section_named section_names
bss_sections = refl

switch_sections : sections_of switch_lines ≡ section.Text ∷ section.Text ∷ section.Rwdata ∷ []
unfolding word_of encoding_of row_of layout_of limit_fault operation_named operation_names register_named register_names csr_named csr_names other_forms slots_of set_named set_names modifier_named modifier_names directive_named directive_names section_named section_names
switch_sections = refl

-- Local labels

-- a label counts for `1b` on its own line, and not for `1f`
abbrev local_rows : List Row
local_rows =
    (codes "1: j 1b" ∷ codes "1: j 1f" ∷ codes "1:" ∷ [], instruction 0x0000006F ∷ instruction 0x0040006F ∷ no_bytes ∷ [], [])
    ∷ []

local_labels : are_rows local_rows
unfolding word_of encoding_of row_of layout_of limit_fault operation_named operation_names register_named register_names csr_named csr_names other_forms slots_of set_named set_names modifier_named modifier_names directive_named directive_names section_named section_names
local_labels = refl

-- Pairs of halves

abbrev pub pair_lines : List (List ℕ)
pair_lines =
    codes "c.nop" ∷ codes "L:" ∷ codes "auipc a0, %pcrel_hi(m)" ∷ codes "addi a0, a0, %pcrel_lo(L)" ∷ codes "m: nop" ∷ []

-- the line of the label is passed over where it has no bytes: where it is empty, or has a fault of its statement
abbrev pair_rows : List Row
pair_rows =
    (pair_lines, code (0x01 ∷ 0x00 ∷ []) ∷ no_bytes ∷ instruction 0x00000517 ∷ instruction 0x00850513 ∷ nop ∷ [], [])
    ∷ (codes "L: auipc q, %pcrel_hi(m)" ∷ codes "auipc a0, %pcrel_hi(m)" ∷ codes "addi a0, a0, %pcrel_lo(L)" ∷ codes "m: nop" ∷ [], wrong [] fault.BadRegister 9 10 ∷ instruction 0x00000517 ∷ instruction 0x00850513 ∷ nop ∷ [], [])
    ∷ []

pairs : are_rows pair_rows
unfolding word_of encoding_of row_of layout_of limit_fault operation_named operation_names register_named register_names csr_named csr_names other_forms slots_of set_named set_names modifier_named modifier_names directive_named directive_names section_named section_names
pairs = refl

-- `.`, the symbol of an `.equ`, an `auipc` without `%pcrel_hi`, and that of an address in two instructions
abbrev unpaired_rows : List Row
unpaired_rows =
    (codes "addi a0, a0, %pcrel_lo(.)" ∷ [], wrong_word fault.Undefined 13 25 ∷ [], [])
    ∷ (codes ".equ N, 4" ∷ codes "addi a0, a0, %pcrel_lo(N)" ∷ [], no_bytes ∷ wrong_word fault.NoPartner 13 25 ∷ [], [])
    ∷ (codes "L: auipc a0, 5" ∷ codes "addi a0, a0, %pcrel_lo(L)" ∷ [], instruction 0x00005517 ∷ wrong_word fault.NoPartner 13 25 ∷ [], [])
    ∷ (codes "L: la a0, m" ∷ codes "addi a0, a0, %pcrel_lo(L)" ∷ codes "m: nop" ∷ [], instructions 0x00000517 0x00C50513 ∷ wrong_word fault.NoPartner 13 25 ∷ nop ∷ [], [])
    ∷ []

unpaired : are_rows unpaired_rows
unfolding word_of encoding_of row_of layout_of limit_fault operation_named operation_names register_named register_names csr_named csr_names other_forms slots_of set_named set_names modifier_named modifier_names directive_named directive_names section_named section_names
unpaired = refl
