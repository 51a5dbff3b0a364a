-- The words that worked lines stand for, computed on the definitions.
use Rattle.std.proofs.Common.{◌≡◌, refl}
use Rattle.std.specs.Prelude.{ℕ, ℤ, pos, negsuc, List, [], ◌∷◌, Option, Some, None, map, option_map, codes}
use Rattle.rv_ops.specs.Registers.{register_named, register_names}
use Rattle.rv_ops.specs.Table.{operation_named, operation_names, row_of, layout_of}
use Rattle.rv_code.specs.Encoding.{word_of, encoding_of}
use Rattle.rv_code.specs.declared.instruction.Fields.{Fields}
use Rattle.rv_code.specs.declared.word.Word.{Word}
use Rattle.rv_code.specs.declared.word.Word.TheVariants.{Half, Full}
use Rattle.rv_stmt.specs.declared.expansion.Instructions.{Instructions}
use Rattle.rv_stmt.specs.declared.expansion.Instructions.TheVariants.{One, Two}
use Rattle.rv_stmt.specs.declared.expansion.MachineInstruction.{MachineInstruction}
use Rattle.rv_stmt.specs.declared.statement.Body.{Body}
use Rattle.rv_stmt.specs.declared.statement.Body.TheVariants.{Instr, Pseudo}
use Rattle.rv_stmt.specs.Draft.{fields}
use Rattle.rv_stmt.specs.Expansion.{instructions_of, size_of_instructions}
use Rattle.rv_stmt.specs.Forms.{other_forms, slots_of}
use Rattle.rv_stmt.specs.Statement.{statement_of}

-- the fields with the value of the operand that waits for it
abbrev with_value : Fields → ℤ → Fields
with_value f v = fields f.rd f.rs1 f.rs2 v

abbrev word_of_machine : MachineInstruction → Word
word_of_machine i = word_of i.op i.fields

abbrev words_of : Instructions → List Word
words_of (One i) = word_of_machine i ∷ []
words_of (Two i j) = word_of_machine i ∷ word_of_machine j ∷ []

abbrev instructions_of_body : Body → ℤ → Option Instructions
instructions_of_body (Instr i) v = Some (instructions_of i (with_value i.fields v))
instructions_of_body (Pseudo i) v = Some (instructions_of i (with_value i.fields v))
instructions_of_body body v = None

-- what a line stands for, where its operand has the value
abbrev instructions_of_line : List ℕ → ℤ → Option Instructions
instructions_of_line line v = instructions_of_body (statement_of line).body v

-- a line and the value of its operand, with the words that it stands for and their size
abbrev Row : Type 0
Row = (List ℕ × ℤ) × (List Word × ℕ)

abbrev result_of : List ℕ × ℤ → Option (List Word × ℕ)
result_of r = option_map (λ is. (words_of is, size_of_instructions is)) (instructions_of_line r.0 r.1)

abbrev are_words : List Row → Type 0
are_words rows = map (λ r. result_of r.0) rows ≡ map (λ r. Some r.1) rows

-- constants

abbrev constants_rows : List Row
constants_rows =
    ((codes "li a0, 2047", pos 2047), (Full 0x7ff00513 ∷ [], 4))
    ∷ ((codes "li a0, 2048", pos 2048), (Full 0x00001537 ∷ Full 0x80050513 ∷ [], 8))
    ∷ ((codes "li a0, -1", negsuc 0), (Full 0xfff00513 ∷ [], 4))
    ∷ ((codes "li a0, 0xFFFFFFFF", negsuc 0), (Full 0xfff00513 ∷ [], 4))
    ∷ ((codes "li a0, 0x12345678", pos 0x12345678), (Full 0x12345537 ∷ Full 0x67850513 ∷ [], 8))
    ∷ ((codes "li a0, 0x12345000", pos 0x12345000), (Full 0x12345537 ∷ [], 4))
    ∷ []

constants : are_words constants_rows
unfolding operation_named operation_names other_forms row_of layout_of slots_of register_named register_names word_of encoding_of
constants = refl

-- addresses; the low part of 2048 is negative, so that the upper part is one more

abbrev addresses_rows : List Row
addresses_rows =
    ((codes "call f", pos 2048), (Full 0x00001097 ∷ Full 0x800080e7 ∷ [], 8))
    ∷ ((codes "call f", negsuc 0x7fffffff), (Full 0x80000097 ∷ Full 0x000080e7 ∷ [], 8))
    ∷ ((codes "tail f", pos 4), (Full 0x00000317 ∷ Full 0x00430067 ∷ [], 8))
    ∷ ((codes "la a0, f", pos 0x12345fff), (Full 0x12346517 ∷ Full 0xfff50513 ∷ [], 8))
    ∷ ((codes "lw a0, f", pos 0x1000), (Full 0x00001517 ∷ Full 0x00052503 ∷ [], 8))
    ∷ ((codes "sw a0, f, t0", pos 0x1004), (Full 0x00001297 ∷ Full 0x00a2a223 ∷ [], 8))
    ∷ []

addresses : are_words addresses_rows
unfolding operation_named operation_names other_forms row_of layout_of slots_of register_named register_names word_of encoding_of
addresses = refl

-- lines that stand for one instruction

abbrev single_rows : List Row
single_rows =
    ((codes "nop", pos 0), (Full 0x00000013 ∷ [], 4))
    ∷ ((codes "beq a0, a1, .+4094", pos 4094), (Full 0x7eb50fe3 ∷ [], 4))
    ∷ ((codes "c.addi a0, 1", pos 1), (Half 0x0505 ∷ [], 2))
    ∷ ((codes "lw a0, 4(a1)", pos 4), (Full 0x0045a503 ∷ [], 4))
    ∷ []

single : are_words single_rows
unfolding operation_named operation_names other_forms row_of layout_of slots_of register_named register_names word_of encoding_of
single = refl
