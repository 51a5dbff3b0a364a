use Rattle.std.proofs.Common.{take}
use Rattle.rv_list.specs.declared.view.DefinitionPlace.TheVariants.{Nowhere}
use Rattle.rv_program.specs.Definitions.{definition_of}
use Rattle.rv_program.specs.Program.{program_of}
use Rattle.rv_program.specs.internal.Rows.{Grows, HoldsByName}
use Rattle.rv_program.proofs.whole_text.definitions_of.Given as goal

-- what the lines so far define
abbrev pub invariant-loop-i : goal.invariant-loop-i
invariant-loop-i l = record {
  row : HoldsByName l.names l.row.items Nowhere (definition_of (take l.i (program_of l.lines)));
  names : Grows l.initial.names l.names;
}
