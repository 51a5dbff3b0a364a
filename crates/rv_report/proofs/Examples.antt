-- Worked messages and rows, computed on the definitions.
use Rattle.std.specs.Prelude.{◌≡◌, ℕ, pos, negsuc, ◌++◌, List, [], ◌∷◌, ◌||◌, bytes_eq, codes, None, Ok, Err, refl, if◌then◌else◌}
use Rattle.std.specs.Fmt.{digits}
use Rattle.strsim.specs.Edits.{rows, next_row, cost_at}
use Rattle.rv_text.specs.declared.faults.Fault.{Fault}
use Rattle.rv_text.specs.declared.faults.FaultNumber.{FaultNumber}
use Rattle.rv_text.specs.declared.faults.FaultNumber.TheVariants as fault
use Rattle.rv_text.specs.Rows.{hex}
use Rattle.rv_expr.specs.declared.faults.ValueFault.TheVariants as value
use Rattle.rv_expr.specs.Value.{Environment}
use Rattle.rv_fix.specs.Values.{Entry}
use Rattle.rv_list.specs.declared.view.DefinitionPlace.TheVariants.{Nowhere, Label, Equ}
use Rattle.rv_list.specs.Faults.{fault_name}
use Rattle.rv_list.specs.Shown.{Shown}
use Rattle.rv_ops.specs.Csrs.{csr_named, csr_names}
use Rattle.rv_ops.specs.Registers.{register_named, register_names}
use Rattle.rv_ops.specs.Table.{operation_named, operation_names, row_of, layout_of}
use Rattle.rv_stmt.specs.declared.section.Sect.TheVariants as section
use Rattle.rv_stmt.specs.Directives.{directive_named, directive_names}
use Rattle.rv_stmt.specs.Forms.{other_forms, slots_of}
use Rattle.rv_stmt.specs.Registers.{set_named, set_names}
use Rattle.rv_stmt.specs.Sections.{section_named, section_names}
use Rattle.rv_stmt.specs.Statement.{statement_of}
use Rattle.rv_stmt.specs.Values.{modifier_named, modifier_names}
use Rattle.rv_show.specs.declared.page.Style.TheVariants.{Plain, Colored}
use Rattle.rv_show.specs.Numbers.{hexadecimal}
use Rattle.rv_show.specs.Rows.{line_row, margin, mark, mark_row, message_row, painted, rendition, shown_line}
use Rattle.rv_show.specs.Suggestions.{did_you_mean, suggestions}
use Rattle.rv_show.specs.Texts.{about, quoted, quoted_from}
use Rattle.rv_show.specs.Totals.{amount_of}
use Rattle.rv_report.specs.Advice.{advice}
use Rattle.rv_report.specs.Bounds.{from_to, gap_text, limits_text}
use Rattle.rv_report.specs.Counts.{numbers_text, some_numbers}
use Rattle.rv_report.specs.Csrs.{counter_number, its_number, standard_number, unknown_csr}
use Rattle.rv_report.specs.LexicalMessages.{bad_byte, bad_number, bad_string, number_wrong}
use Rattle.rv_report.specs.Lines.{Line}
use Rattle.rv_expr.specs.declared.tree.LabelReference.TheVariants.{Symbol}
use Rattle.rv_report.specs.Messages.{operand_count, register_range, undefined_but_for_colon, undefined_name, undefined_near, later_equ, line_of_equ, faulty_equ_of, later_line, not_constant, no_partner, beyond_reach, out_of_range, not_multiple, odd_distance, odd_address, message_of}
use Rattle.rv_report.specs.OperandMessages.{comment_help, expected, missing_comma, no_operand, no_register, no_statement, parentheses_of, separation_of}
use Rattle.rv_report.specs.Reports.{note_at, odd_note_at, odd_note_by, report_of, warning_report_of}
use Rattle.rv_report.specs.UnknownNames.{missing_colon, replacement, unknown_name}
use Rattle.rv_report.specs.Wanted.{register_given}
use Rattle.rv_report.specs.Warnings.{warning_message}

-- Names

colon_missing : undefined_name (record { symbols = codes "loop" ∷ []; unknown = record { word = codes "adi"; line = 2 } ∷ (record { word = codes "lop"; line = 7 } ∷ []) }) (Symbol (codes "lop")) ≡ codes "'lop' is not defined; is a ':' missing in line 7?"
unfolding undefined_but_for_colon quoted about digits
colon_missing = refl

long_names : undefined_near (codes "configuration_of_the_serial_interface_number_1") (codes "configuration_of_the_serial_interface_number_12" ∷ codes "configuration_of_the_serial_interface_number_7" ∷ []) ≡ codes "'...ce_number_1' is not defined; did you mean '...ce_number_12' or '...ce_number_7'?"
unfolding undefined_near quoted_from did_you_mean
long_names = refl

-- Numbers of operands

counts : numbers_text (codes "addi") ∷ numbers_text (codes "JALR") ∷ numbers_text (codes "fence") ∷ numbers_text (codes "nop") ∷ numbers_text (codes "j") ∷ numbers_text (codes ".byte") ∷ numbers_text (codes ".space") ∷ numbers_text (codes ".text") ∷ [] ≡ codes "3 operands" ∷ codes "1, 2 or 3 operands" ∷ codes "0 or 2 operands" ∷ codes "no operands" ∷ codes "1 operand" ∷ codes "1 or more operands" ∷ codes "1 or 2 operands" ∷ codes "no operands" ∷ []
unfolding some_numbers digits operation_named operation_names row_of other_forms slots_of directive_named directive_names
counts = refl

-- Messages of lines

abbrev nothing_shown : Shown
nothing_shown = record {
  count = 0;
  line = λ i. record { text = []; stmt = statement_of []; place = record { section = section.Text; address = 0; size = 0 }; code = record { payload = []; fault = None } };
  section = λ t. record { base = 0; size = 0 };
  definition = λ name. if bytes_eq name (codes "n") then Equ 3 else (if bytes_eq name (codes "table") then Label 18 0 else (if bytes_eq name (codes "late") then Equ 30 else Nowhere));
  value = λ name. None;
}

abbrev names : Environment
names = record {
  symbol = λ name. if bytes_eq name (codes "n") then Err value.FaultyEqu else (if bytes_eq name (codes "far") || (bytes_eq name (codes "table") || bytes_eq name (codes "late")) then Ok (pos 5000) else Err value.Undefined);
  local = λ number direction. Err value.Undefined;
  here = Ok (pos 0);
  paired_high = λ label. Err value.NoPartner;
}

abbrev faulty : (number : ℕ) → (text : List ℕ) → (values : List Entry) → Line
faulty number text values = record {
  number = number;
  text = text;
  stmt = statement_of text;
  address = 1;
  values = values;
  words = record { symbols = codes "loop" ∷ codes "start" ∷ []; unknown = [] };
}

abbrev fault_at : FaultNumber → (from to : ℕ) → Fault
fault_at number from to = record { number = number; span = record { from = from; to = to } }

abbrev message : (text : List ℕ) → (values : List Entry) → Fault → List ℕ
message text values f = message_of names nothing_shown (faulty 1 text values) f

quote : message (codes ".ascii " ++ 0xE2 ∷ 0x80 ∷ 0x9C ∷ []) [] (fault_at fault.BadByte 7 8) ≡ codes "byte 0xE2 begins nothing of the language; write \" in the place of a typographic quotation mark"
unfolding message_of bad_byte advice
quote = refl

octal : message (codes ".word 09") [] (fault_at fault.BadNumber 6 8) ≡ codes "'09' is not a number; '9' is not an octal digit, and a number with a leading 0 is octal"
unfolding message_of bad_number number_wrong quoted about
octal = refl

large : message (codes ".word 0x8000000000000000") [] (fault_at fault.BadNumber 6 24) ≡ codes "'0x8000000000000000' is not a number; the greatest number is 0x7FFFFFFFFFFFFFFF"
unfolding message_of bad_number number_wrong quoted about
large = refl

unclosed : message (codes ".ascii \"a") [] (fault_at fault.BadString 7 9) ≡ codes "the closing quotation mark is missing"
unfolding message_of bad_string quoted about
unclosed = refl

four_operands : message (codes "a: 1: addi a0, (a, b), c, d") [] (fault_at fault.OperandCount 6 10) ≡ codes "'addi' takes 3 operands, not 4"
unfolding message_of advice separation_of no_register quoted about did_you_mean suggestions some_numbers from_to gap_text limits_text operand_count register_range undefined_near quoted_from later_equ line_of_equ faulty_equ_of no_partner beyond_reach out_of_range not_multiple odd_distance odd_address digits operation_named operation_names row_of layout_of register_named register_names csr_named csr_names other_forms slots_of set_named set_names modifier_named modifier_names directive_named directive_names section_named section_names
four_operands = refl

small_register : message (codes "x: c.lui zero, 1") [] (fault_at fault.RegisterRange 9 13) ≡ codes "'c.lui' does not take 'zero' here"
unfolding message_of advice separation_of no_register quoted about did_you_mean suggestions some_numbers from_to gap_text limits_text operand_count register_range undefined_near quoted_from later_equ line_of_equ faulty_equ_of no_partner beyond_reach out_of_range not_multiple odd_distance odd_address digits operation_named operation_names row_of layout_of register_named register_names csr_named csr_names other_forms slots_of set_named set_names modifier_named modifier_names directive_named directive_names section_named section_names
small_register = refl

missing_register : message (codes "addi a0, , 1") [] (fault_at fault.BadRegister 8 8) ≡ codes "a register is expected here"
unfolding message_of expected advice separation_of no_register quoted about did_you_mean suggestions some_numbers from_to gap_text limits_text operand_count register_range undefined_near quoted_from later_equ line_of_equ faulty_equ_of no_partner beyond_reach out_of_range not_multiple odd_distance odd_address
missing_register = refl

undefined_symbol : message (codes "bnez a0, far + lop") [] (fault_at fault.Undefined 9 18) ≡ codes "'lop' is not defined; did you mean 'loop'?"
unfolding message_of advice separation_of no_register quoted about did_you_mean suggestions some_numbers from_to gap_text limits_text operand_count register_range undefined_near quoted_from later_equ line_of_equ faulty_equ_of no_partner beyond_reach out_of_range not_multiple odd_distance odd_address rows next_row cost_at digits operation_named operation_names row_of layout_of register_named register_names csr_named csr_names other_forms slots_of set_named set_names modifier_named modifier_names directive_named directive_names section_named section_names
undefined_symbol = refl

undefined_local : message (codes "j 1f") [] (fault_at fault.Undefined 2 4) ≡ codes "'1f' is not defined"
unfolding message_of advice separation_of no_register quoted about did_you_mean suggestions some_numbers from_to gap_text limits_text operand_count register_range undefined_near quoted_from later_equ line_of_equ faulty_equ_of no_partner beyond_reach out_of_range not_multiple odd_distance odd_address digits operation_named operation_names row_of layout_of register_named register_names csr_named csr_names other_forms slots_of set_named set_names modifier_named modifier_names directive_named directive_names section_named section_names
undefined_local = refl

faulty_symbol : message (codes ".word 1 + n") [] (fault_at fault.FaultyEqu 6 11) ≡ codes "the .equ of 'n' has a fault (line 3)"
unfolding message_of advice separation_of no_register quoted about did_you_mean suggestions some_numbers from_to gap_text limits_text operand_count register_range undefined_near quoted_from later_equ line_of_equ faulty_equ_of no_partner beyond_reach out_of_range not_multiple odd_distance odd_address digits operation_named operation_names row_of layout_of register_named register_names csr_named csr_names other_forms slots_of set_named set_names modifier_named modifier_names directive_named directive_names section_named section_names
faulty_symbol = refl

large_immediate : message (codes "addi a0, a0, 2048") (Ok (pos 2048) ∷ []) (fault_at fault.Range 13 17) ≡ codes "2048 is out of range (-2048 to 2047); load the number by 'li' into a register"
unfolding message_of advice separation_of no_register quoted about did_you_mean suggestions some_numbers from_to gap_text limits_text operand_count register_range undefined_near quoted_from later_equ line_of_equ faulty_equ_of no_partner beyond_reach out_of_range not_multiple odd_distance odd_address digits operation_named operation_names row_of layout_of register_named register_names csr_named csr_names other_forms slots_of set_named set_names modifier_named modifier_names directive_named directive_names section_named section_names
large_immediate = refl

no_zero : message (codes "c.addi a0, 0") (Ok (pos 0) ∷ []) (fault_at fault.Range 11 12) ≡ codes "0 is out of range (-32 to 31, not 0); write 'addi' with the register twice"
unfolding message_of advice separation_of no_register quoted about did_you_mean suggestions some_numbers from_to gap_text limits_text operand_count register_range undefined_near quoted_from later_equ line_of_equ faulty_equ_of no_partner beyond_reach out_of_range not_multiple odd_distance odd_address digits operation_named operation_names row_of layout_of register_named register_names csr_named csr_names other_forms slots_of set_named set_names modifier_named modifier_names directive_named directive_names section_named section_names
no_zero = refl

upper_bits : message (codes "c.lui a0, 32") (Ok (pos 32) ∷ []) (fault_at fault.Range 10 12) ≡ codes "0x20 is out of range (1 to 0xFFFFF, not 0x20 to 0xFFFDF); write the instruction without 'c.'"
unfolding message_of hexadecimal advice separation_of no_register quoted about did_you_mean suggestions some_numbers from_to gap_text limits_text operand_count register_range undefined_near quoted_from later_equ line_of_equ faulty_equ_of no_partner beyond_reach out_of_range not_multiple odd_distance odd_address digits operation_named operation_names row_of layout_of register_named register_names csr_named csr_names other_forms slots_of set_named set_names modifier_named modifier_names directive_named directive_names section_named section_names
upper_bits = refl

far_branch : message (codes "beqz a0, far") (Ok (negsuc 4999) ∷ []) (fault_at fault.Range 9 12) ≡ codes "the target is 5000 bytes behind; the reach is -4096 to 4094; write the opposite branch over a 'j'"
unfolding message_of advice separation_of no_register quoted about did_you_mean suggestions some_numbers from_to gap_text limits_text operand_count register_range undefined_near quoted_from later_equ line_of_equ faulty_equ_of no_partner beyond_reach out_of_range not_multiple odd_distance odd_address digits operation_named operation_names row_of layout_of register_named register_names csr_named csr_names other_forms slots_of set_named set_names modifier_named modifier_names directive_named directive_names section_named section_names
far_branch = refl

lone_low_half : message (codes "lw a0, %pcrel_lo(here)(a0)") (Err value.NoPartner ∷ []) (fault_at fault.NoPartner 7 26) ≡ codes "no 'auipc .., %pcrel_hi(..)' stands at 'here'"
unfolding message_of advice separation_of no_register quoted about did_you_mean suggestions some_numbers from_to gap_text limits_text operand_count register_range undefined_near quoted_from later_equ line_of_equ faulty_equ_of no_partner beyond_reach out_of_range not_multiple odd_distance odd_address digits operation_named operation_names row_of layout_of register_named register_names csr_named csr_names other_forms slots_of set_named set_names modifier_named modifier_names directive_named directive_names section_named section_names
lone_low_half = refl

odd : message (codes "nop") [] (fault_at fault.OddAddress 0 3) ≡ codes "an instruction at the odd address 0x00000001"
unfolding message_of advice separation_of no_register quoted about did_you_mean suggestions some_numbers from_to gap_text limits_text operand_count register_range undefined_near quoted_from later_equ line_of_equ faulty_equ_of no_partner beyond_reach out_of_range not_multiple odd_distance odd_address hex
odd = refl

second_statement : message (codes "/* c */") [] (fault_at fault.NoStatement 0 1) ≡ codes "an instruction or a directive is expected here; one statement stands on a line, and '#' or '//' begins a comment"
unfolding message_of no_statement comment_help
second_statement = refl

no_comma : message (codes "addi a0 a0, 1") [] (fault_at fault.OperandCount 0 4) ≡ codes "'addi' takes 3 operands, not 2; a comma is missing after 'a0'"
unfolding message_of separation_of missing_comma operand_count some_numbers quoted about digits operation_named operation_names row_of layout_of register_named register_names csr_named csr_names other_forms slots_of set_named set_names modifier_named modifier_names directive_named directive_names section_named section_names
no_comma = refl

number_for_register : message (codes "add a0, a0, 5") [] (fault_at fault.BadRegister 12 13) ≡ codes "'5' is not a register; did you mean 'addi'?"
unfolding message_of separation_of parentheses_of no_register advice quoted about digits operation_named operation_names row_of layout_of register_named register_names csr_named csr_names other_forms slots_of set_named set_names modifier_named modifier_names directive_named directive_names section_named section_names
number_for_register = refl

number_in_comment : message (codes "addi a0, a0, #1") [] (fault_at fault.BadOperand 12 12) ≡ codes "an operand is expected here; '#' begins a comment, and a number has none before it"
unfolding message_of expected
number_in_comment = refl

no_such_base : message (codes "lw a0, 4(a9)") [] (fault_at fault.BadOperand 7 12) ≡ codes "'a9' is not a register; there are 'a0' to 'a7'"
unfolding message_of separation_of parentheses_of no_register no_operand advice quoted about digits operation_named operation_names row_of layout_of register_named register_names csr_named csr_names other_forms slots_of set_named set_names modifier_named modifier_names directive_named directive_names section_named section_names
no_such_base = refl

no_closing : message (codes "sw a0, 4(a1") [] (fault_at fault.BadRegister 7 11) ≡ codes "a ')' is missing"
unfolding message_of separation_of parentheses_of no_register no_operand advice quoted about digits operation_named operation_names row_of layout_of register_named register_names csr_named csr_names other_forms slots_of set_named set_names modifier_named modifier_names directive_named directive_names section_named section_names
no_closing = refl

other_section : message (codes ".section .vectors") [] (fault_at fault.BadOperand 9 17) ≡ codes "'.vectors' is not an operand that '.section' takes here; the sections are .text.init, .text, .rodata, .data, .sdata and .bss"
unfolding message_of separation_of parentheses_of no_operand advice quoted about digits operation_named operation_names row_of layout_of register_named register_names csr_named csr_names other_forms slots_of set_named set_names modifier_named modifier_names directive_named directive_names section_named section_names
other_section = refl

directive_elsewhere : message (codes "x: .EQV n, 4") [] (fault_at fault.UnknownName 3 7) ≡ codes "no instruction or directive is called '.EQV'; write '.equ'"
unfolding message_of unknown_name replacement advice quoted digits operation_named operation_names row_of layout_of register_named register_names csr_named csr_names other_forms slots_of set_named set_names modifier_named modifier_names directive_named directive_names section_named section_names
directive_elsewhere = refl

label_without_colon : message (codes "loop addi a0, a0, 1") [] (fault_at fault.UnknownName 0 4) ≡ codes "no instruction or directive is called 'loop'; is a ':' missing after the label?"
unfolding message_of unknown_name replacement missing_colon advice quoted digits operation_named operation_names row_of layout_of register_named register_names csr_named csr_names other_forms slots_of set_named set_names modifier_named modifier_names directive_named directive_names section_named section_names
label_without_colon = refl

register_for_number : message (codes "addi a0, a0, a1") [] (fault_at fault.Undefined 13 15) ≡ codes "'a1' is a register; 'addi' takes a number here; did you mean 'add'?"
unfolding message_of register_given advice quoted about digits operation_named operation_names row_of layout_of register_named register_names csr_named csr_names other_forms slots_of set_named set_names modifier_named modifier_names directive_named directive_names section_named section_names
register_for_number = refl

register_with_number : message (codes "csrr a0, mcycle") [] (fault_at fault.Undefined 9 15) ≡ codes "no control and status register is called 'mcycle' here; its number is 0xB00"
unfolding message_of unknown_csr standard_number counter_number its_number quoted about digits operation_named operation_names row_of layout_of register_named register_names csr_named csr_names other_forms slots_of set_named set_names modifier_named modifier_names directive_named directive_names section_named section_names
register_with_number = refl

label_for_constant : message (codes "li a0, table") [] (fault_at fault.NotConstant 7 12) ≡ codes "the size of a line needs a constant; 'table' is not one; write 'la' for the address of a label"
unfolding message_of not_constant advice quoted about digits operation_named operation_names row_of layout_of register_named register_names csr_named csr_names other_forms slots_of set_named set_names modifier_named modifier_names directive_named directive_names section_named section_names
label_for_constant = refl

later_constant : message (codes "li a0, late") [] (fault_at fault.NotConstant 7 11) ≡ codes "the size of a line needs a constant; 'late' is not one; its .equ is on line 30, and has to stand before this line"
unfolding message_of not_constant later_line advice quoted about digits operation_named operation_names row_of layout_of register_named register_names csr_named csr_names other_forms slots_of set_named set_names modifier_named modifier_names directive_named directive_names section_named section_names
later_constant = refl

-- Reports

second_definition : report_of Plain (record { file = codes "b.s"; marks = [] }) names nothing_shown (faulty 20 (codes "\ttable: nop\r") []) 0 (fault_at fault.Duplicate 1 6) ≡ codes "b.s:20:2: error: 'table' is already defined [Duplicate]\n   20 |         table: nop\n      |         ^~~~~\nb.s:18: note: the first definition is here\n"
unfolding report_of message_row line_row mark_row painted rendition shown_line margin mark note_at quoted about message_of fault_name digits
second_definition = refl

in_color : report_of Colored (record { file = codes "<stdin>"; marks = [] }) names nothing_shown (faulty 1 (codes "4") []) 0 (fault_at fault.NoStatement 0 1) ≡ codes "<stdin>:1:1: " ++ (27 ∷ codes "[31merror:" ++ (27 ∷ codes "[0m an instruction or a directive is expected here [NoStatement]\n    1 | 4\n      | " ++ (27 ∷ codes "[32m^" ++ (27 ∷ codes "[0m\n"))))
unfolding report_of message_row line_row mark_row painted rendition shown_line margin mark note_at quoted about message_of no_statement fault_name digits
in_color = refl

-- line 18 is line 7 of a file, and line 20 is line 5 of another one
marked : report_of Plain (record { file = codes "b.s"; marks = record { on = 17; line = 7; file = codes "c.h" } ∷ record { on = 18; line = 4; file = codes "\tc.c" } ∷ record { on = 20; line = 1; file = codes "d.c" } ∷ [] }) names nothing_shown (faulty 20 (codes "\ttable: nop\r") []) 0 (fault_at fault.Duplicate 1 6) ≡ codes ".c.c:5:2: error: 'table' is already defined [Duplicate]\n    5 |         table: nop\n      |         ^~~~~\nc.h:7: note: the first definition is here\n"
unfolding report_of message_row line_row mark_row painted rendition shown_line margin mark note_at quoted about message_of fault_name digits
marked = refl

a_warning : warning_report_of Plain (record { file = codes "b.s"; marks = [] }) 3 (codes "\tcsrr a0, mcycle") (record { span = record { from = 10; to = 16 }; label = codes "mcycle" }) ≡ codes "b.s:3:11: warning: 'mcycle' is a label: its address is taken as the number of the register; .equ gives such a number a name [label-as-register]\n    3 |         csrr a0, mcycle\n      |                  ^~~~~~\n"
unfolding warning_report_of warning_message message_row line_row mark_row painted rendition shown_line margin mark quoted about digits
a_warning = refl

-- one instruction, several, and none
odd_notes : odd_note_by fault.OddAddress (record { file = codes "b.s"; line = 2 }) 1 ∷ odd_note_by fault.OddAddress (record { file = codes "b.s"; line = 2 }) 12 ∷ odd_note_by fault.OddAddress (record { file = codes "b.s"; line = 2 }) 0 ∷ odd_note_by fault.InBss (record { file = codes "b.s"; line = 2 }) 12 ∷ [] ≡ codes "b.s:2: note: and 1 more instruction after it, for the same reason\n" ∷ codes "b.s:2: note: and 12 more instructions after it, for the same reason\n" ∷ [] ∷ [] ∷ []
unfolding odd_note_at amount_of digits
odd_notes = refl
