-- The high halves that `%pcrel_lo` belongs to. (docs/LANGUAGE.md, Pairs of halves)
use Rattle.std.specs.Prelude.{ℕ, ◌-◌, ◌==◌, Bool, true, false, not, ◌&&◌, List, [], ◌∷◌, length, Option, Some, None, Ok, Err}
use Rattle.rv_expr.specs.declared.faults.ValueFault.TheVariants.{NoPartner}
use Rattle.rv_expr.specs.declared.tree.LabelReference.TheVariants as reference
use Rattle.rv_expr.specs.Tree.{Tree}
use Rattle.rv_expr.specs.Value.{Environment, value_of}
use Rattle.rv_ops.specs.declared.op.Op.{Op}
use Rattle.rv_ops.specs.declared.op.Op.TheVariants.{Auipc}
use Rattle.rv_stmt.specs.declared.operand.Operand.{Operand}
use Rattle.rv_stmt.specs.declared.operand.OperandValue.{OperandValue}
use Rattle.rv_stmt.specs.declared.operand.OperandValue.TheVariants.{PcrelHigh, PcrelLow}
use Rattle.rv_stmt.specs.declared.operand.Role.{Role}
use Rattle.rv_stmt.specs.declared.operand.Role.TheVariants.{Immediate}
use Rattle.rv_stmt.specs.declared.statement.Body.{Body}
use Rattle.rv_stmt.specs.declared.statement.Body.TheVariants.{Instr}
use Rattle.rv_stmt.specs.Readings.{and_then}
use Rattle.rv_stmt.specs.ValueParts.{high_part, low_part}
use Rattle.rv_layout.specs.Sections.{section_number}
use Rattle.rv_fix.specs.Displacements.{displacement}
use Rattle.rv_fix.specs.Values.{Entry}
use Rattle.rv_program.specs.Definitions.{definition_of}
use Rattle.rv_program.specs.Layout.{section_at, address_at, size_at}
use Rattle.rv_program.specs.Program.{Program, body_at, first_line}
use Rattle.rv_program.specs.References.{line_of_place, names_on, reference_of, references_at}

abbrev pub pcrel_high_value : OperandValue → Option Tree
pcrel_high_value (PcrelHigh e) = Some e
pcrel_high_value value = None

abbrev pub pcrel_high_operand : Op → List Operand → Option Tree
pcrel_high_operand Auipc (o ∷ os) = pcrel_high_value o.value
pcrel_high_operand op os = None

-- the expression of `auipc rd, %pcrel_hi(expression)`
abbrev pub pcrel_high_of : Body → Option Tree
pcrel_high_of (Instr i) = pcrel_high_operand i.op i.operands
pcrel_high_of body = None

-- its value less the address of its line, of which the instruction holds the upper part
abbrev pub high_by : Environment → (here : ℕ) → Option Tree → Entry
high_by given here None = Err NoPartner
high_by given here (Some e) = and_then (value_of given e) (λ v. Ok (displacement here v))

abbrev pub high_at : (base : ℕ) → Program → (i : ℕ) → Entry
high_at base program i = high_by (references_at base program i) (address_at base program i) (pcrel_high_of (body_at program i))

-- a line in the section that has bytes
abbrev pub has_bytes_in : Program → (section i : ℕ) → Bool
has_bytes_in program section i = section_number (section_at program i) == section && not (size_at program i == 0)

-- the first line with bytes in a section, after line i
abbrev pub next_with_bytes : Program → (section i : ℕ) → Option ℕ
next_with_bytes program section i = first_line (has_bytes_in program section) i (length program - i)

abbrev pub high_at_line : (base : ℕ) → Program → Option ℕ → Entry
high_at_line base program None = Err NoPartner
high_at_line base program (Some p) = high_at base program p

-- what `%pcrel_lo` of a label on line i takes: from the first line with bytes in the section, from this one on
abbrev pub paired_high_of : (base : ℕ) → Program → (i : ℕ) → Entry
paired_high_of base program i =
    high_at_line base program (next_with_bytes program (section_number (section_at program i)) (i - 1))

-- what names give on line i
abbrev pub names_at : (base : ℕ) → Program → (i : ℕ) → Environment
names_at base program i = names_on base program i (reference_of base program i) (paired_high_of base program)

-- Lines of which `%pcrel_hi` is the only operand

abbrev pub is_high_in : OperandValue → Role → Bool
is_high_in (PcrelHigh e) Immediate = true
is_high_in value role = false

abbrev pub is_high_among : Op → List Operand → Bool
is_high_among Auipc (o ∷ []) = is_high_in o.value o.role
is_high_among op os = false

-- a line is one
abbrev pub is_high_alone : Body → Bool
is_high_alone (Instr i) = is_high_among i.op i.operands
is_high_alone body = false

-- what `%pcrel_hi` gives, by its high half
abbrev pub upper_by : (high : Entry) → Entry
upper_by high = and_then high (λ v. Ok (high_part v))

-- Lines of which `%pcrel_lo` of a symbol is the only operand

abbrev pub low_symbol_in : OperandValue → Role → Option (List ℕ)
low_symbol_in (PcrelLow (reference.Symbol name)) Immediate = Some name
low_symbol_in value role = None

abbrev pub low_symbol_among : List Operand → Option (List ℕ)
low_symbol_among (o ∷ []) = low_symbol_in o.value o.role
low_symbol_among os = None

-- the symbol, if a line is one
abbrev pub low_symbol_of : Body → Option (List ℕ)
low_symbol_of (Instr i) = low_symbol_among i.operands
low_symbol_of body = None

abbrev pub low_by : (high : Entry) → Entry
low_by high = and_then high (λ v. Ok (low_part v))

-- what `%pcrel_lo` of a symbol gives
abbrev pub low_of_symbol : (base : ℕ) → Program → (name : List ℕ) → Entry
low_of_symbol base program name = low_by (and_then (line_of_place (definition_of program name)) (paired_high_of base program))
