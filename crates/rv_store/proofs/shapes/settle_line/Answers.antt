use Rattle.std.proofs.Common.{sym, subst}
use Rattle.rv_layout.specs.Places.{IsLimited}
use Rattle.rv_program.specs.Program.{program_of}
use Rattle.rv_program.specs.internal.Rows.{AreConstants}
use Rattle.rv_store.proofs.shapes.settle_line.Goals as goal

pub shape_after-shape-requires-clause-constants : goal.shape_after-shape-requires-clause-constants
shape_after-shape-requires-clause-constants g c = rw c.as_slice.ensures.value c.requires.constants

pub settle_constant-requires-clause-before : goal.settle_constant-requires-clause-before
settle_constant-requires-clause-before g c =
    subst (λ row. AreConstants (program_of c.args.lines.now) c.args.i c.args.before.now.symbols.text.names.now row.items) (sym c.write.ensures.constants) c.requires.constants

pub returns-clause-limited : goal.returns-clause-limited
returns-clause-limited g c = subst IsLimited c.shape_after-shape.ensures.shape c.shape_after-shape.ensures.limited
