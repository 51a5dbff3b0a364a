use Rattle.std.proofs.Common.{◌≡◌, ◌++◌, length}
use Rattle.std.specs.List.{flat_map}
use Rattle.rv_files.specs.Elf.{program_header}
use Rattle.rv_files.proofs.elf_headers.push_program_headers.Given as goal

-- what is appended so far, and what is left
abbrev pub invariant-segments : goal.invariant-segments
invariant-segments l = l.out.items ++ flat_map (program_header l.start) l.segments ≡ l.fn.out.items ++ flat_map (program_header l.start) l.fn.segments

abbrev pub decreases-segments : goal.decreases-segments
decreases-segments l = length l.segments
