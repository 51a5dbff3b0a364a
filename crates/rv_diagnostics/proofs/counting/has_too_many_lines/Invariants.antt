use Rattle.std.proofs.Common.{◌≡◌, ◌-◌, drop}
use Rattle.rv_diagnostics.proofs.counting.has_too_many_lines.Given as goal

-- those behind the lines that are left before the limit
abbrev pub invariant-loop : goal.invariant-loop
invariant-loop l = drop (16384 - l.counter) l.lines ≡ drop 16384 l.fn.lines
