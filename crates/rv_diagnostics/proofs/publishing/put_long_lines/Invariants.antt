use Rattle.std.proofs.Common.{◌≡◌, ◌-◌, ◌++◌, take}
use Rattle.rv_diagnostics.specs.Published.{long_lines, shown_in}
use Rattle.rv_diagnostics.proofs.publishing.put_long_lines.Given as goal

-- what is written so far, and what the window shows of the lines that are left
abbrev pub invariant-loop-k : goal.invariant-loop-k
invariant-loop-k l =
    l.m ++ shown_in l.window (long_lines l.context.encoding l.k (take (16384 - l.k) l.lines))
    ≡ l.fn.m ++ shown_in l.fn.window (long_lines l.context.encoding 0 (take 16384 l.fn.lines))
