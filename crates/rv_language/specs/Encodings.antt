-- The instructions that a line stands for.
use Rattle.std.specs.Prelude.{ℕ, Bool, true, false, ◌&&◌, is_none, List, [], if◌then◌else◌}
use Rattle.rv_stmt.specs.declared.statement.Body.{Body}
use Rattle.rv_stmt.specs.declared.statement.Body.TheVariants.{Instr, Pseudo}
use Rattle.rv_layout.specs.Sections.{section_number}
use Rattle.rv_list.specs.Shown.{ShownLine, shows_bytes}

abbrev pub is_instruction : Body → Bool
is_instruction (Instr i) = true
is_instruction (Pseudo i) = true
is_instruction body = false

-- a line has bytes in the image: those of `.bss` have none
abbrev pub is_in_image : ShownLine → Bool
is_in_image line = shows_bytes (section_number line.place.section)

-- the bytes of the instructions that a line stands for: none where it has a fault, or no bytes in the image
abbrev pub instruction_bytes : ShownLine → List ℕ
instruction_bytes line =
    if is_instruction line.stmt.body && (is_none line.code.fault && is_in_image line) then line.code.payload else []
