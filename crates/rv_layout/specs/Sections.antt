-- The sections by their numbers, and those of code. (docs/LANGUAGE.md, Sections)
use Rattle.std.specs.Prelude.{ℕ, ◌==◌, Bool, List}
use Rattle.std.specs.List.{list_any}
use Rattle.rv_stmt.specs.declared.section.Sect.{Sect}
use Rattle.rv_stmt.specs.declared.section.Sect.TheVariants.{Init, Text, Rodata, Rwdata, Sdata, Bss}
use Rattle.rv_layout.specs.declared.sections.TheConstants.{SECTIONS, CODE_SECTIONS}

-- how many sections there are
abbrev pub sections : ℕ
sections = SECTIONS

-- the number of a section, in the order in which the sections lie in memory
abbrev pub section_number : Sect → ℕ
section_number Init = 0
section_number Text = 1
section_number Rodata = 2
section_number Rwdata = 3
section_number Sdata = 4
section_number Bss = 5

-- the sections of code, in the order of their numbers
abbrev pub code_sections : List Sect
code_sections = CODE_SECTIONS

-- a section is one of code
abbrev pub is_code : Sect → Bool
is_code s = list_any (λ code. section_number code == section_number s) code_sections
