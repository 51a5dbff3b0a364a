-- The reader's refusals, where not too many parentheses are open.
use Rattle.std.proofs.Common.{◌≤◌, List}
use Rattle.rv_text.specs.Lexing.{SpelledToken}
use Rattle.rv_expr.specs.declared.faults.ReadFault.{ReadFault}
use Rattle.rv_expr.specs.declared.faults.ReadFault.TheVariants.{Deep, Operand, Memory}
use Rattle.rv_expr.specs.Depth.{depth_of}
use Rattle.rv_expr.specs.Reading.{expression_of}
use Rattle.rv_expr.specs.ReaderState.{Fails}
use Rattle.rv_expr.specs.Refusals.{Refuses}

pub refused : (f : ReadFault) (run : List SpelledToken) → depth_of run ≤ 64 → Fails f (expression_of run) → Refuses f run
refused Deep run h fails = absurd fails
refused Operand run h fails = (h, fails)
refused Memory run h fails = tt
