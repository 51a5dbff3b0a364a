use Rattle.std.proofs.Common.{length, sym, subst}
use Rattle.rv_program.specs.Program.{program_of}
use Rattle.rv_program.specs.internal.Rows.{AreConstants}
use Rattle.rv_store.proofs.store.Store.new_shape.Goals as goal

pub new_shape-requires-clause-constants : goal.new_shape-requires-clause-constants
new_shape-requires-clause-constants g c =
    subst (λ ls. AreConstants (program_of ls) (length (program_of ls)) c.self.inside.names c.self.inside.survey.constants.items) (sym c.self.invariant.listed) c.self.invariant.surveyed.constants
