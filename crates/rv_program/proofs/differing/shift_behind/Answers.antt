use Rattle.std.proofs.lemmas.Grind.{common_steps}
use Rattle.std.proofs.Common.{arith}
use Rattle.rv_program.proofs.differing.shift_behind.Goals as goal

pub rise-requires-clause-last_stood : goal.rise-requires-clause-last_stood
rise-requires-clause-last_stood c = grind (arith, common_steps)
