-- What the refusals to read a run of tokens say of it.
use Rattle.std.specs.Prelude.{◌≡◌, ◌<◌, ◌≤◌, List, None, ⊤}
use Rattle.rv_text.specs.Lexing.{SpelledToken}
use Rattle.rv_expr.specs.declared.faults.ReadFault.{ReadFault}
use Rattle.rv_expr.specs.declared.faults.ReadFault.TheVariants.{Deep, Operand, Memory}
use Rattle.rv_expr.specs.Depth.{depth_of}
use Rattle.rv_expr.specs.Reading.{expression_of}

-- too many open parentheses, whatever else is wrong; then no expression; nothing, where memory ran out
abbrev pub Refuses : ReadFault → List SpelledToken → Type 0
Refuses Deep run = 64 < depth_of run
Refuses Operand run = (depth_of run ≤ 64) × (expression_of run ≡ None)
Refuses Memory run = ⊤
