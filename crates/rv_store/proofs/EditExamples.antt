-- Worked edits, computed on the definitions.
use Rattle.std.proofs.Common.{◌≡◌, refl}
use Rattle.std.specs.Prelude.{pos, List, [], ◌∷◌, ℕ, Some, None, map, codes}
use Rattle.rv_text.specs.declared.faults.FaultNumber.TheVariants as fault
use Rattle.rv_ops.specs.Csrs.{csr_named, csr_names}
use Rattle.rv_ops.specs.Limits.{limit_fault}
use Rattle.rv_ops.specs.Registers.{register_named, register_names}
use Rattle.rv_ops.specs.Table.{operation_named, operation_names, row_of, layout_of}
use Rattle.rv_code.specs.Encoding.{word_of, encoding_of}
use Rattle.rv_stmt.specs.declared.section.Sect.TheVariants as section
use Rattle.rv_stmt.specs.Directives.{directive_named, directive_names}
use Rattle.rv_stmt.specs.Forms.{other_forms, slots_of}
use Rattle.rv_stmt.specs.Registers.{set_named, set_names}
use Rattle.rv_stmt.specs.Sections.{section_named, section_names}
use Rattle.rv_stmt.specs.Values.{modifier_named, modifier_names}
use Rattle.rv_fix.specs.declared.coded.Coded.{Coded}
use Rattle.rv_fix.specs.Code.{code}
use Rattle.rv_list.specs.declared.view.DefinitionPlace.TheVariants as definition
use Rattle.rv_store.specs.declared.symbols.SymValue.TheVariants.{Label, Equ}
use Rattle.rv_program.specs.Changes.{changed_lines, invalidated_lines, reencoded_lines, most_values, most_codes}
use Rattle.rv_program.specs.Definitions.{definition_of}
use Rattle.rv_program.specs.Edits.{line_before_edit}
use Rattle.rv_program.specs.Program.{program_of}
use Rattle.rv_program.specs.Text.{Edit, Insert, Delete, Replace, lines_after}
use Rattle.rv_store.proofs.ImageExamples.{started_lines}
use Rattle.rv_store.proofs.TextExamples.{Named, wrong, wrong_word, instruction, nop, no_bytes, codes_of, named_in, sections_of, chain_lines, pair_lines, bss_lines}

-- what an edit of a text from base 0 makes of it: the codes of all lines; the numbers of the lines that are changed,
-- invalidated and reencoded; and how many values and lines are computed and encoded anew at most
record Effect : Type 0 where
  codes_after : List Coded
  changed : List ℕ
  invalidated : List ℕ
  reencoded : List ℕ
  values : ℕ
  encodings : ℕ

abbrev effect_of : List (List ℕ) → Edit → Effect
effect_of lines edit = record {
  codes_after = codes_of (lines_after lines edit);
  changed = changed_lines 0 lines edit;
  invalidated = invalidated_lines 0 lines edit;
  reencoded = reencoded_lines 0 lines edit;
  values = most_values 0 lines edit;
  encodings = most_codes 0 lines edit;
}

-- Lines before an edit

inserted_before : map (line_before_edit (Insert 2 [])) (1 ∷ 2 ∷ 3 ∷ 4 ∷ []) ≡ Some 1 ∷ None ∷ Some 2 ∷ Some 3 ∷ []
inserted_before = refl

deleted_before : map (line_before_edit (Delete 2)) (1 ∷ 2 ∷ 3 ∷ []) ≡ Some 1 ∷ Some 3 ∷ Some 4 ∷ []
deleted_before = refl

replaced_before : map (line_before_edit (Replace 2 [])) (1 ∷ 2 ∷ 3 ∷ []) ≡ Some 1 ∷ None ∷ Some 3 ∷ []
replaced_before = refl

-- Definitions

-- an `.equ` before the one that defined its symbol: `li` becomes shorter, so labels move
abbrev define_first : Edit
define_first = Insert 1 (codes ".equ N, 4")

redefined : effect_of chain_lines define_first ≡ record { codes_after = no_bytes ∷ no_bytes ∷ instruction 0x00400513 ∷ nop ∷ no_bytes ∷ instruction 0x00B50263 ∷ []; changed = 1 ∷ 3 ∷ 6 ∷ []; invalidated = 1 ∷ 2 ∷ 3 ∷ 5 ∷ 6 ∷ []; reencoded = 1 ∷ 2 ∷ 3 ∷ 5 ∷ 6 ∷ []; values = 10; encodings = 5 }
unfolding word_of encoding_of row_of layout_of limit_fault operation_named operation_names register_named register_names csr_named csr_names other_forms slots_of set_named set_names modifier_named modifier_names directive_named directive_names section_named section_names
redefined = refl

abbrev redefined_names : List Named
redefined_names = (codes "N", Some (Equ (Some (pos 4)))) ∷ (codes "start", Some (Label 0)) ∷ (codes "end", Some (Label 4)) ∷ (codes "D", Some (Equ (Some (pos 4)))) ∷ []

redefined_symbols : named_in (lines_after chain_lines define_first) redefined_names ≡ redefined_names
unfolding word_of encoding_of row_of layout_of limit_fault operation_named operation_names register_named register_names csr_named csr_names other_forms slots_of set_named set_names modifier_named modifier_names directive_named directive_names section_named section_names
redefined_symbols = refl

-- line 2 does not define the symbol any more
redefined_place : definition_of (program_of (lines_after chain_lines define_first)) (codes "N") ≡ definition.Equ 1
unfolding word_of encoding_of row_of layout_of limit_fault operation_named operation_names register_named register_names csr_named csr_names other_forms slots_of set_named set_names modifier_named modifier_names directive_named directive_names section_named section_names
redefined_place = refl

-- Constants

-- a constant becomes a difference of addresses
abbrev by_addresses : Edit
by_addresses = Replace 1 (codes ".equ N, e - s")

-- `N` is this number
abbrev number_named : ℕ → List Named
number_named n = (codes "N", Some (Equ (Some (pos n)))) ∷ []

abbrev constant_lines : List (List ℕ)
constant_lines = codes ".equ N, 4" ∷ codes "s: li a0, N" ∷ codes "e:" ∷ []

constant_codes : codes_of constant_lines ≡ no_bytes ∷ instruction 0x00400513 ∷ no_bytes ∷ []
unfolding word_of encoding_of row_of layout_of limit_fault operation_named operation_names register_named register_names csr_named csr_names other_forms slots_of set_named set_names modifier_named modifier_names directive_named directive_names section_named section_names
constant_codes = refl

constant_symbols : named_in constant_lines (number_named 4) ≡ number_named 4
unfolding word_of encoding_of row_of layout_of limit_fault operation_named operation_names register_named register_names csr_named csr_names other_forms slots_of set_named set_names modifier_named modifier_names directive_named directive_names section_named section_names
constant_symbols = refl

not_constant : effect_of constant_lines by_addresses ≡ record { codes_after = no_bytes ∷ wrong [] fault.NotConstant 10 11 ∷ no_bytes ∷ []; changed = 1 ∷ 2 ∷ []; invalidated = 1 ∷ 2 ∷ []; reencoded = 1 ∷ 2 ∷ []; values = 4; encodings = 2 }
unfolding word_of encoding_of row_of layout_of limit_fault operation_named operation_names register_named register_names csr_named csr_names other_forms slots_of set_named set_names modifier_named modifier_names directive_named directive_names section_named section_names
not_constant = refl

not_constant_symbols : named_in (lines_after constant_lines by_addresses) (number_named 0) ≡ number_named 0
unfolding word_of encoding_of row_of layout_of limit_fault operation_named operation_names register_named register_names csr_named csr_names other_forms slots_of set_named set_names modifier_named modifier_names directive_named directive_names section_named section_names
not_constant_symbols = refl

-- the same where the value stays
abbrev same_value_lines : List (List ℕ)
same_value_lines = codes ".equ N, 4" ∷ codes "li a0, N" ∷ codes "s: nop" ∷ codes "e:" ∷ []

same_value : effect_of same_value_lines by_addresses ≡ record { codes_after = no_bytes ∷ wrong [] fault.NotConstant 7 8 ∷ nop ∷ no_bytes ∷ []; changed = 1 ∷ 2 ∷ []; invalidated = 1 ∷ 2 ∷ []; reencoded = 1 ∷ 2 ∷ []; values = 4; encodings = 2 }
unfolding word_of encoding_of row_of layout_of limit_fault operation_named operation_names register_named register_names csr_named csr_names other_forms slots_of set_named set_names modifier_named modifier_names directive_named directive_names section_named section_names
same_value = refl

same_value_symbols : named_in (lines_after same_value_lines by_addresses) (number_named 4) ≡ number_named 4
unfolding word_of encoding_of row_of layout_of limit_fault operation_named operation_names register_named register_names csr_named csr_names other_forms slots_of set_named set_names modifier_named modifier_names directive_named directive_names section_named section_names
same_value_symbols = refl

-- Labels

abbrev jump_lines : List (List ℕ)
jump_lines = codes "j x" ∷ codes "x:" ∷ codes "nop" ∷ codes "j x" ∷ []

-- without the line of the label
abbrev unlabeled_lines : List (List ℕ)
unlabeled_lines = codes "j x" ∷ codes "nop" ∷ codes "j x" ∷ []

abbrev jump_codes : List Coded
jump_codes = instruction 0x0040006F ∷ no_bytes ∷ nop ∷ instruction 0xFFDFF06F ∷ []

jumps : codes_of jump_lines ≡ jump_codes
unfolding word_of encoding_of row_of layout_of limit_fault operation_named operation_names register_named register_names csr_named csr_names other_forms slots_of set_named set_names modifier_named modifier_names directive_named directive_names section_named section_names
jumps = refl

label_goes : lines_after jump_lines (Delete 2) ≡ unlabeled_lines
label_goes = refl

unlabeled : effect_of jump_lines (Delete 2) ≡ record { codes_after = wrong_word fault.Undefined 2 3 ∷ nop ∷ wrong_word fault.Undefined 2 3 ∷ []; changed = 1 ∷ 3 ∷ []; invalidated = 1 ∷ 3 ∷ []; reencoded = 1 ∷ 3 ∷ []; values = 4; encodings = 2 }
unfolding word_of encoding_of row_of layout_of limit_fault operation_named operation_names register_named register_names csr_named csr_names other_forms slots_of set_named set_names modifier_named modifier_names directive_named directive_names section_named section_names
unlabeled = refl

labeled_again : effect_of unlabeled_lines (Insert 2 (codes "x:")) ≡ record { codes_after = jump_codes; changed = 1 ∷ 2 ∷ 4 ∷ []; invalidated = 1 ∷ 2 ∷ 4 ∷ []; reencoded = 1 ∷ 2 ∷ 4 ∷ []; values = 4; encodings = 3 }
unfolding word_of encoding_of row_of layout_of limit_fault operation_named operation_names register_named register_names csr_named csr_names other_forms slots_of set_named set_names modifier_named modifier_names directive_named directive_names section_named section_names
labeled_again = refl

-- a local label that is nearer
abbrev local_lines : List (List ℕ)
local_lines = codes "1: nop" ∷ codes "j 1f" ∷ codes "nop" ∷ codes "j 1b" ∷ codes "1: nop" ∷ []

local_codes : codes_of local_lines ≡ nop ∷ instruction 0x00C0006F ∷ nop ∷ instruction 0xFF5FF06F ∷ nop ∷ []
unfolding word_of encoding_of row_of layout_of limit_fault operation_named operation_names register_named register_names csr_named csr_names other_forms slots_of set_named set_names modifier_named modifier_names directive_named directive_names section_named section_names
local_codes = refl

nearer_label : effect_of local_lines (Insert 4 (codes "1:")) ≡ record { codes_after = nop ∷ instruction 0x0080006F ∷ nop ∷ no_bytes ∷ instruction 0x0000006F ∷ nop ∷ []; changed = 2 ∷ 4 ∷ 5 ∷ []; invalidated = 2 ∷ 4 ∷ 5 ∷ []; reencoded = 2 ∷ 4 ∷ 5 ∷ []; values = 4; encodings = 3 }
unfolding word_of encoding_of row_of layout_of limit_fault operation_named operation_names register_named register_names csr_named csr_names other_forms slots_of set_named set_names modifier_named modifier_names directive_named directive_names section_named section_names
nearer_label = refl

-- Alignments and pairs of halves

abbrev aligned_lines : List (List ℕ)
aligned_lines = codes ".balign 4" ∷ codes "nop" ∷ []

aligned_codes : codes_of aligned_lines ≡ no_bytes ∷ nop ∷ []
unfolding word_of encoding_of row_of layout_of limit_fault operation_named operation_names register_named register_names csr_named csr_names other_forms slots_of set_named set_names modifier_named modifier_names directive_named directive_names section_named section_names
aligned_codes = refl

padded : effect_of aligned_lines (Insert 1 (codes ".byte 1")) ≡ record { codes_after = code (0x01 ∷ []) ∷ code (0x00 ∷ 0x01 ∷ 0x00 ∷ []) ∷ nop ∷ []; changed = 1 ∷ 2 ∷ []; invalidated = 1 ∷ 2 ∷ []; reencoded = 1 ∷ 2 ∷ []; values = 4; encodings = 2 }
unfolding word_of encoding_of row_of layout_of limit_fault operation_named operation_names register_named register_names csr_named csr_names other_forms slots_of set_named set_names modifier_named modifier_names directive_named directive_names section_named section_names
padded = refl

-- Padding stands between the label and its `auipc`, which moves together with its target.
parted : effect_of pair_lines (Insert 3 (codes ".align 2")) ≡ record { codes_after = code (0x01 ∷ 0x00 ∷ []) ∷ no_bytes ∷ code (0x01 ∷ 0x00 ∷ []) ∷ instruction 0x00000517 ∷ wrong_word fault.NoPartner 13 25 ∷ nop ∷ []; changed = 3 ∷ 5 ∷ []; invalidated = 3 ∷ 4 ∷ 5 ∷ []; reencoded = 3 ∷ 5 ∷ []; values = 6; encodings = 2 }
unfolding word_of encoding_of row_of layout_of limit_fault operation_named operation_names register_named register_names csr_named csr_names other_forms slots_of set_named set_names modifier_named modifier_names directive_named directive_names section_named section_names
parted = refl

-- Sections

to_text : effect_of bss_lines (Delete 1) ≡ record { codes_after = instruction 0x00150513 ∷ []; changed = []; invalidated = []; reencoded = []; values = 0; encodings = 0 }
unfolding word_of encoding_of row_of layout_of limit_fault operation_named operation_names register_named register_names csr_named csr_names other_forms slots_of set_named set_names modifier_named modifier_names directive_named directive_names section_named section_names
to_text = refl

to_text_sections : sections_of (lines_after bss_lines (Delete 1)) ≡ section.Text ∷ []
unfolding word_of encoding_of row_of layout_of limit_fault operation_named operation_names register_named register_names csr_named csr_names other_forms slots_of set_named set_names modifier_named modifier_names directive_named directive_names section_named section_names
to_text_sections = refl

-- an alignment without padding, whose address stays
aligned_to_text : effect_of (codes ".bss" ∷ codes ".align 2" ∷ []) (Delete 1) ≡ record { codes_after = no_bytes ∷ []; changed = []; invalidated = 1 ∷ []; reencoded = 1 ∷ []; values = 2; encodings = 1 }
unfolding word_of encoding_of row_of layout_of limit_fault operation_named operation_names register_named register_names csr_named csr_names other_forms slots_of set_named set_names modifier_named modifier_names directive_named directive_names section_named section_names
aligned_to_text = refl

-- from `.text.init` to `.text`: nothing changes but places. The alignment is valued again, and keeps its padding.
to_later_text : effect_of started_lines (Delete 2) ≡ record { codes_after = nop ∷ code (0x01 ∷ 0x00 ∷ []) ∷ code (0x01 ∷ 0x00 ∷ []) ∷ no_bytes ∷ code (0x07 ∷ 0x00 ∷ 0x00 ∷ 0x00 ∷ []) ∷ no_bytes ∷ nop ∷ []; changed = []; invalidated = 3 ∷ []; reencoded = []; values = 2; encodings = 0 }
unfolding word_of encoding_of row_of layout_of limit_fault operation_named operation_names register_named register_names csr_named csr_names other_forms slots_of set_named set_names modifier_named modifier_names directive_named directive_names section_named section_names
to_later_text = refl
