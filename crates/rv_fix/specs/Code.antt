-- The code of a line: its bytes, and at most one fault. (docs/LANGUAGE.md, Lines by themselves)
use Rattle.std.specs.Prelude.{ℕ, List, [], ◌∷◌, ◌++◌, true, Some, None, Result, Ok, Err, replicate, if◌then◌else◌}
use Rattle.rv_text.specs.declared.faults.Fault.{Fault}
use Rattle.rv_ops.specs.Table.{shape_of, limits_of}
use Rattle.rv_code.specs.Encoding.{word_of, bytes_of_word}
use Rattle.rv_code.specs.declared.instruction.Fields.{Fields}
use Rattle.rv_stmt.specs.declared.directive.DataContent.{DataContent}
use Rattle.rv_stmt.specs.declared.directive.DataContent.TheVariants.{Values, Bytes}
use Rattle.rv_stmt.specs.declared.expansion.Instructions.{Instructions}
use Rattle.rv_stmt.specs.declared.expansion.Instructions.TheVariants.{One, Two}
use Rattle.rv_stmt.specs.declared.expansion.MachineInstruction.{MachineInstruction}
use Rattle.rv_stmt.specs.declared.operand.Operand.{Operand}
use Rattle.rv_stmt.specs.declared.statement.Body.{Body}
use Rattle.rv_stmt.specs.declared.statement.Body.TheVariants as body
use Rattle.rv_stmt.specs.declared.statement.Instruction.{Instruction}
use Rattle.rv_stmt.specs.Data.{values_size}
use Rattle.rv_stmt.specs.Expansion.{expansion_of, instructions_of, is_constant_load, size_of_instructions}
use Rattle.rv_stmt.specs.Readings.{and_then}
use Rattle.rv_stmt.specs.ValueParts.{word_bits}
use Rattle.rv_layout.specs.declared.measured.Measured.{Measured}
use Rattle.rv_layout.specs.declared.measured.Measured.TheVariants.{Faulty}
use Rattle.rv_layout.specs.Shapes.{value_at}
use Rattle.rv_fix.specs.declared.coded.Coded.{Coded}
use Rattle.rv_fix.specs.Data.{with_values, fill_count, fill_byte}
use Rattle.rv_fix.specs.Filling.{filled}
use Rattle.rv_fix.specs.Padding.{padding}
use Rattle.rv_fix.specs.Values.{Entry}

-- bytes without a fault
abbrev pub code : List ℕ → Coded
code bs = record { payload = bs; fault = None }

-- a fault without bytes
abbrev pub faulty : Fault → Coded
faulty fault = record { payload = []; fault = Some fault }

-- so many zeros, and a fault
abbrev pub zeros_with : ℕ → Fault → Coded
zeros_with n fault = record { payload = replicate n 0; fault = Some fault }

-- the bytes, or so many zeros and the fault
abbrev pub code_or_zeros : ℕ → Result (List ℕ) Fault → Coded
code_or_zeros n (Ok bs) = code bs
code_or_zeros n (Err fault) = zeros_with n fault

-- Instructions

-- the bytes in memory
abbrev pub bytes_of_instruction : MachineInstruction → List ℕ
bytes_of_instruction i = bytes_of_word (word_of i.op i.fields)

abbrev pub bytes_of_instructions : Instructions → List ℕ
bytes_of_instructions (One i) = bytes_of_instruction i
bytes_of_instructions (Two i j) = bytes_of_instruction i ++ bytes_of_instruction j

-- how many bytes a line with a faulty operand has: a constant load none, since its size is that of its constant
abbrev pub faulty_size : Instruction → ℕ
faulty_size i = if is_constant_load (expansion_of i.operands) then 0 else size_of_instructions (instructions_of i i.fields)

abbrev pub bytes_of_fields : Instruction → Result Fields Fault → Result (List ℕ) Fault
bytes_of_fields i f = and_then f (λ f. Ok (bytes_of_instructions (instructions_of i f)))

abbrev pub code_of_instruction : Instruction → List Entry → Coded
code_of_instruction i es =
    code_or_zeros (faulty_size i) (bytes_of_fields i (filled (limits_of (shape_of i.op)) i.operands es i.fields))

-- Directives

abbrev pub code_of_data : DataContent → List Entry → Coded
code_of_data (Values os) es = code_or_zeros (values_size os) (with_values os es [])
code_of_data (Bytes bs) es = code bs

-- so many bytes, each of them the byte; where only that is faulty they are zeros
abbrev pub code_of_count : Result ℕ Fault → Result ℕ Fault → Coded
code_of_count (Err fault) byte = faulty fault
code_of_count (Ok n) byte = code_or_zeros n (and_then byte (λ b. Ok (replicate n b)))

abbrev pub code_of_fill : List Operand → List Entry → Coded
code_of_fill [] es = code []
code_of_fill (o ∷ os) [] = code []
code_of_fill (o ∷ os) (e ∷ es) = code_of_count (fill_count o e) (fill_byte os es)

-- the bytes that a value makes, or its fault
abbrev pub code_of_value : {A : Type 0} → Result A Fault → (A → List ℕ) → Coded
code_of_value (Ok v) f = code (f v)
code_of_value (Err fault) f = faulty fault

-- padding as in a section of code
abbrev pub code_of_alignment : List Operand → List Entry → Coded
code_of_alignment [] es = code []
code_of_alignment (o ∷ os) [] = code []
code_of_alignment (o ∷ os) (e ∷ es) = code_of_value (value_at o.span e) (λ v. padding true (word_bits v))

-- no bytes, but the fault of the value
abbrev pub code_of_definition : List Operand → List Entry → Coded
code_of_definition [] es = code []
code_of_definition (o ∷ os) [] = code []
code_of_definition (o ∷ os) (e ∷ es) = code_of_value (value_at o.span e) (λ v. [])

-- Lines

-- the code of a line whose operands have these values, where its shape is no fault
abbrev pub code_of_body : Body → List Entry → Coded
code_of_body body.Empty es = code []
code_of_body (body.Instr i) es = code_of_instruction i es
code_of_body (body.Pseudo i) es = code_of_instruction i es
code_of_body (body.Emit d) es = code_of_data d.content es
code_of_body (body.Fill d) es = code_of_fill d.operands es
code_of_body (body.Align d) es = code_of_alignment d.operands es
code_of_body (body.Switch s) es = code []
code_of_body (body.Equ d) es = code_of_definition d.operands es
code_of_body body.Ignored es = code []
code_of_body (body.Faulty fault) es = faulty fault

-- the code of a line with this shape
abbrev pub code_of : Measured → Body → List Entry → Coded
code_of (Faulty fault) body es = faulty fault
code_of shape body es = code_of_body body es
