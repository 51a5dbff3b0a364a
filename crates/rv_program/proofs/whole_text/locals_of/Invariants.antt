use Rattle.rv_program.specs.Program.{program_of}
use Rattle.rv_program.specs.internal.Rows.{AreLocals}
use Rattle.rv_program.proofs.whole_text.locals_of.Given as goal

-- the local labels of the lines so far
abbrev pub invariant-loop-i : goal.invariant-loop-i
invariant-loop-i l = AreLocals (program_of l.lines) l.i l.locals
