use Rattle.std.proofs.Common.{◌≡◌, ◌≤◌, ◌+◌, ◌-◌, drop, length}
use Rattle.rv_program.specs.Definitions.{first_place}
use Rattle.rv_program.specs.Program.{program_of}
use Rattle.rv_program.proofs.first_definition.first_place.Given as goal

-- the name is defined on none of the lines so far
abbrev pub invariant-lines : goal.invariant-lines
invariant-lines l = record {
  within : l.i ≤ length l.searched;
  place : first_place (l.i + 1) (program_of (drop l.i l.searched)) l.name ≡ first_place (l.from + 1) (program_of (drop l.from l.searched)) l.name;
}

abbrev pub decreases-lines : goal.decreases-lines
decreases-lines l = length l.searched - l.i
