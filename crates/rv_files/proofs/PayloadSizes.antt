-- A line has as many bytes as its shape says.
use Rattle.std.proofs.Common.{◌≡◌, ℕ, ℤ, ◌≤◌, Bool, true, false, List, [], ◌∷◌, length, map, Option, Some, None, Result, Ok, Err, refl, ap, sym, ◌∙◌, subst}
use Rattle.std.specs.Prelude.{⊤, cond, if◌then◌else◌}
use Rattle.std.proofs.lemmas.List.{length-map}
use Rattle.rv_text.specs.declared.faults.Fault.{Fault}
use Rattle.rv_text.specs.declared.lexeme.Span.{Span}
use Rattle.rv_ops.specs.Table.{shape_of as shape_of_operation, limits_of}
use Rattle.rv_code.specs.declared.instruction.Fields.{Fields}
use Rattle.rv_stmt.specs.declared.directive.DataContent.{DataContent}
use Rattle.rv_stmt.specs.declared.directive.Definition.{Definition}
use Rattle.rv_stmt.specs.declared.directive.Directive.{Directive}
use Rattle.rv_stmt.specs.declared.operand.Operand.{Operand}
use Rattle.rv_stmt.specs.declared.operand.OperandValue.{OperandValue}
use Rattle.rv_stmt.specs.declared.operand.Role.TheVariants as role
use Rattle.rv_stmt.specs.declared.statement.Body.{Body}
use Rattle.rv_stmt.specs.declared.statement.Body.TheVariants as body
use Rattle.rv_stmt.specs.declared.statement.Instruction.{Instruction}
use Rattle.rv_stmt.specs.Data.{data_size}
use Rattle.rv_stmt.specs.Expansion.{expansion_of, instructions_of, is_constant_load, size_of_instructions}
use Rattle.rv_stmt.specs.Readings.{and_then}
use Rattle.rv_stmt.specs.Statement.{operands_of_content}
use Rattle.rv_layout.specs.declared.measured.Measured.{Measured}
use Rattle.rv_layout.specs.declared.measured.Measured.TheVariants.{Nothing, Faulty}
use Rattle.rv_layout.specs.Places.{size_at as size_of_shape}
use Rattle.rv_layout.specs.Shapes.{constants, is_size, size_operand, constant_of_operand, is_loadable, with_value, load_size, fill_size, bytes_or_range, shape_by, shape_of_instructions, shape_of_fill, shape_of_alignment, shape_of}
use Rattle.rv_fix.specs.Code.{code_of_instruction, code_of_data, code_of_fill, code_of_value, code_of_definition, code_of_body}
use Rattle.rv_fix.specs.Data.{fill_count}
use Rattle.rv_fix.specs.Filling.{filled}
use Rattle.rv_fix.specs.Padding.{padding}
use Rattle.rv_fix.specs.Values.{Entry, given_to, operand_value, counted_from, entry_of}
use Rattle.rv_program.specs.declared.line_values.LineValues.TheVariants as values
use Rattle.rv_program.specs.Codes.{values_of_body, values_by_shape, code_by_values}
use Rattle.rv_program.specs.Constants.{constant_of}
use Rattle.rv_program.specs.Layout.{address_at, size_at}
use Rattle.rv_program.specs.Pairs.{names_at}
use Rattle.rv_program.specs.Program.{Program}
use Rattle.rv_files.proofs.LoadOperands.{constant_operand, LoadsAlone, IsOneConstant}
use Rattle.rv_files.proofs.RegularBodies.{BeginsWithSize, IsRegular}

-- What the laws of other crates say of sizes.
pub record SizeLaws : Type 0 where
  pub instructions : (i : Instruction) (es : List Entry) → is_constant_load (expansion_of i.operands) ≡ false → length (code_of_instruction i es).payload ≡ size_of_instructions (instructions_of i i.fields)
  pub filled : (i : Instruction) (es : List Entry) (f : Fields) → filled (limits_of (shape_of_operation i.op)) i.operands es i.fields ≡ Ok f → length (code_of_instruction i es).payload ≡ size_of_instructions (instructions_of i f)
  pub content : (c : DataContent) (es : List Entry) → length es ≡ length (operands_of_content c) → length (code_of_data c es).payload ≡ data_size c
  pub fills : (o : Operand) (os : List Operand) (e : Entry) (es : List Entry) (n : ℕ) → fill_count o e ≡ Ok n → length (code_of_fill (o ∷ os) (e ∷ es)).payload ≡ n
  pub padding : (in_code : Bool) (n : ℕ) → length (padding in_code n) ≡ n
  pub values : (i : Instruction) (f g : Fields) → is_constant_load (expansion_of i.operands) ≡ false → size_of_instructions (instructions_of i f) ≡ size_of_instructions (instructions_of i g)
  pub constants : (base : ℕ) (program : Program) (i : ℕ) (o : Operand) (value : ℤ) → i ≤ length program → is_size o.role ≡ true → constant_of_operand (constants (constant_of program i)) o ≡ Ok value → operand_value (given_to o.role (names_at base program i)) (address_at base program i) o.value ≡ Ok value

-- how many bytes a body with this shape and these values of operands has
abbrev coded : Measured → Body → List Entry → ℕ
coded shape b es = length (code_by_values shape b (values_by_shape shape (values.Operands es))).payload

value_empty : {A : Type 0} (r : Result A Fault) → length (code_of_value r (λ (v : A). [])).payload ≡ 0
value_empty (Ok v) = refl
value_empty (Err fault) = refl

definition_empty : (os : List Operand) (es : List Entry) → length (code_of_definition os es).payload ≡ 0
definition_empty [] es = refl
definition_empty (o ∷ os) [] = refl
definition_empty (o ∷ os) (e ∷ es) = value_empty _

alignment_sized : (laws : SizeLaws) (d : Directive) (shape : Measured) (in_code : Bool) (x n : ℕ) → n ≡ size_of_shape x shape → length (code_by_values shape (body.Align d) (values_by_shape shape (values.Padding in_code n))).payload ≡ size_of_shape x shape
alignment_sized laws d (Faulty fault) in_code x n e = refl
alignment_sized laws d shape in_code x n e = laws.padding in_code n ∙ e

module _ (laws : SizeLaws) (base : ℕ) (program : Program) (i : ℕ) (within : i ≤ length program) (x : ℕ) where
  abbrev constant : Operand → Result ℤ Fault
  constant o = constant_of_operand (constants (constant_of program i)) o

  abbrev entry : Operand → Entry
  entry o = entry_of (names_at base program i) (address_at base program i) o

  -- a constant that the size follows from is the value of its operand
  entry_is : (o : Operand) (z : ℤ) → is_size o.role ≡ true → constant o ≡ Ok z → entry o ≡ Ok (counted_from (address_at base program i) o.role z)
  entry_is o z size e =
      ap (λ v. and_then v (λ v. Ok (counted_from (address_at base program i) o.role v))) (laws.constants base program i o z within size e)

  -- Instructions

  -- one that loads no constant
  plain_loaded : (b : Body) (ins : Instruction) (es : List Entry) (span : Span) (f : Fields) (loads : Bool) → ((es : List Entry) → code_of_body b es ≡ code_of_instruction ins es) → is_constant_load (expansion_of ins.operands) ≡ false → coded (bytes_or_range span (if loads then Some (size_of_instructions (instructions_of ins f)) else None)) b es ≡ size_of_shape x (bytes_or_range span (if loads then Some (size_of_instructions (instructions_of ins f)) else None))
  plain_loaded b ins es span f false same e = refl
  plain_loaded b ins es span f true same e = ap (λ c. length c.payload) (same es) ∙ laws.instructions ins es e ∙ laws.values ins ins.fields f e

  plain_by : (b : Body) (ins : Instruction) (es : List Entry) (o : Operand) (r : Result ℤ Fault) → ((es : List Entry) → code_of_body b es ≡ code_of_instruction ins es) → is_constant_load (expansion_of ins.operands) ≡ false → coded (shape_by (λ z. bytes_or_range o.span (load_size ins z)) r) b es ≡ size_of_shape x (shape_by (λ z. bytes_or_range o.span (load_size ins z)) r)
  plain_by b ins es o (Err fault) same e = refl
  plain_by b ins es o (Ok z) same e = plain_loaded b ins es o.span (with_value z ins.fields) (is_loadable z) same e

  plain_sized : (b : Body) (ins : Instruction) (es : List Entry) (o : Option Operand) → ((es : List Entry) → code_of_body b es ≡ code_of_instruction ins es) → is_constant_load (expansion_of ins.operands) ≡ false → coded (shape_of_instructions (constants (constant_of program i)) ins o) b es ≡ size_of_shape x (shape_of_instructions (constants (constant_of program i)) ins o)
  plain_sized b ins es None same e = ap (λ c. length c.payload) (same es) ∙ laws.instructions ins es e
  plain_sized b ins es (Some o) same e = plain_by b ins es o (constant o) same e

  -- one that loads a constant, which is its only operand
  abbrev load_of : Instruction → OperandValue → Span → Instruction
  load_of ins v span = record { name = ins.name; op = ins.op; fields = ins.fields; operands = constant_operand v span ∷ [] }

  load_filled : (ins : Instruction) (v : OperandValue) (span : Span) (e : Entry) (z : ℤ) → e ≡ Ok z → is_loadable z ≡ true → filled (limits_of (shape_of_operation ins.op)) (constant_operand v span ∷ []) (e ∷ []) ins.fields ≡ Ok (with_value z ins.fields)
  load_filled ins v span e z is loads = rw is (rw loads refl)

  load_by : (b : Body) (ins : Instruction) (v : OperandValue) (span : Span) (r : Result ℤ Fault) → ((es : List Entry) → code_of_body b es ≡ code_of_instruction (load_of ins v span) es) → constant (constant_operand v span) ≡ r → coded (shape_by (λ z. bytes_or_range span (load_size (load_of ins v span) z)) r) b (entry (constant_operand v span) ∷ []) ≡ size_of_shape x (shape_by (λ z. bytes_or_range span (load_size (load_of ins v span) z)) r)
  load_by b ins v span (Err fault) same e = refl
  load_by b ins v span (Ok z) same e = at (is_loadable z) refl
    where
      es : List Entry
      es = entry (constant_operand v span) ∷ []

      fields : Fields
      fields = with_value z ins.fields

      size : Bool → Option ℕ
      size loads = if loads then Some (size_of_instructions (instructions_of (load_of ins v span) (with_value z ins.fields))) else None

      at : (loads : Bool) → is_loadable z ≡ loads → coded (bytes_or_range span (size loads)) b es ≡ size_of_shape x (bytes_or_range span (size loads))
      at false unloadable = refl
      at true loads =
          ap (λ c. length c.payload) (same es)
          ∙ laws.filled (load_of ins v span) es fields (load_filled ins v span (entry (constant_operand v span)) z (entry_is (constant_operand v span) z refl e) loads)

  abbrev InstructionSized : Body → Instruction → Type 0
  InstructionSized b ins = ((es : List Entry) → code_of_body b es ≡ code_of_instruction ins es)
      → coded (shape_of_instructions (constants (constant_of program i)) ins (size_operand ins.operands)) b (map entry ins.operands) ≡ size_of_shape x (shape_of_instructions (constants (constant_of program i)) ins (size_operand ins.operands))

  instruction_sized : (b : Body) (ins : Instruction) → LoadsAlone ins.operands → InstructionSized b ins
  instruction_sized b ins alone = at (is_constant_load (expansion_of ins.operands)) refl
    where
      only : IsOneConstant ins.operands → InstructionSized b ins
      only one =
          subst (λ os. InstructionSized b (record { name = ins.name; op = ins.op; fields = ins.fields; operands = os })) (sym one.only)
          (λ same. load_by b ins one.value one.span (constant (constant_operand one.value one.span)) same refl)

      at : (loads : Bool) → is_constant_load (expansion_of ins.operands) ≡ loads → InstructionSized b ins
      at false e = λ same. plain_sized b ins (map entry ins.operands) (size_operand ins.operands) same e
      at true e = only (alone e)

  -- Equal bytes

  fill_by : (name : Span) (o : Operand) (os : List Operand) (r : Result ℤ Fault) → o.role ≡ role.Size → constant o ≡ r → coded (shape_by (λ z. bytes_or_range o.span (fill_size z)) r) (body.Fill (record { name = name; operands = o ∷ os })) (entry o ∷ map entry os) ≡ size_of_shape x (shape_by (λ z. bytes_or_range o.span (fill_size z)) r)
  fill_by name o os (Err fault) is e = refl
  fill_by name o os (Ok z) is e = at (fill_size z) refl
    where
      counted : entry o ≡ Ok z
      counted = entry_is o z (ap is_size is) e ∙ ap (λ r. Ok (counted_from (address_at base program i) r z)) is

      at : (size : Option ℕ) → fill_size z ≡ size → coded (bytes_or_range o.span size) (body.Fill (record { name = name; operands = o ∷ os })) (entry o ∷ map entry os) ≡ size_of_shape x (bytes_or_range o.span size)
      at None none = refl
      at (Some n) some = laws.fills o os (entry o) (map entry os) n (rw counted (rw some refl))

  fill_sized : (name : Span) (os : List Operand) → BeginsWithSize os → coded (shape_of_fill (constants (constant_of program i)) (size_operand os)) (body.Fill (record { name = name; operands = os })) (map entry os) ≡ size_of_shape x (shape_of_fill (constants (constant_of program i)) (size_operand os))
  fill_sized name [] first = refl
  fill_sized name (o ∷ os) first =
      subst (λ b. coded (shape_of_fill (constants (constant_of program i)) (if b then Some o else size_operand os)) (body.Fill (record { name = name; operands = o ∷ os })) (entry o ∷ map entry os) ≡ size_of_shape x (shape_of_fill (constants (constant_of program i)) (if b then Some o else size_operand os)))
      (sym (ap is_size first)) (fill_by name o os (constant o) first refl)

  -- Bodies

  definition_sized : (d : Definition) (b : Bool) (entry : Entry) → length (code_by_values Nothing (body.Equ d) (cond b (values.Symbol entry) values.Nothing)).payload ≡ 0
  definition_sized d true entry = definition_empty d.operands (entry ∷ [])
  definition_sized d false entry = definition_empty d.operands []

  -- how many bytes line i has if this is its body
  abbrev pub size_of_body : Body → ℕ
  size_of_body b = length (code_by_values (shape_of (constant_of program i) b) b (values_by_shape (shape_of (constant_of program i) b) (values_of_body base program i b))).payload

  pub body_sized : (b : Body) → IsRegular (λ bs. ⊤) b → size_at program i ≡ size_of_shape x (shape_of (constant_of program i) b) → size_of_body b ≡ size_of_shape x (shape_of (constant_of program i) b)
  body_sized body.Empty h e = refl
  body_sized (body.Instr ins) h e = instruction_sized (body.Instr ins) ins h (λ es. refl)
  body_sized (body.Pseudo ins) h e = instruction_sized (body.Pseudo ins) ins h (λ es. refl)
  body_sized (body.Emit d) h e = laws.content d.content (map entry (operands_of_content d.content)) (length-map (operands_of_content d.content) entry)
  body_sized (body.Fill d) h e = fill_sized d.name d.operands h
  body_sized (body.Align d) h e =
      alignment_sized laws d (shape_of_alignment (constants (constant_of program i)) (size_operand d.operands)) _ x (size_at program i) e
  body_sized (body.Switch s) h e = refl
  body_sized (body.Equ d) h e = definition_sized d _ _
  body_sized body.Ignored h e = refl
  body_sized (body.Faulty fault) h e = refl
