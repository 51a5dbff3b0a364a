use Rattle.std.proofs.Common.{◌≡◌, ◌-◌, ◌++◌, length, take, map}
use Rattle.rv_program.specs.declared.limits.TheConstants.{MAX_LINES}
use Rattle.rv_changes.specs.Assembled.{assembled_line}
use Rattle.rv_changes.proofs.limits.append_lines.Given as goal

abbrev pub invariant-lines : goal.invariant-lines
invariant-lines l = record {
  base : l.store.base ≡ l.fn.store.base;
  lines : l.store.lines ++ map assembled_line (take (MAX_LINES - length l.store.lines) l.lines) ≡ l.fn.store.lines ++ map assembled_line (take (MAX_LINES - length l.fn.store.lines) l.initial.lines);
}

abbrev pub decreases-lines : goal.decreases-lines
decreases-lines l = length l.lines
