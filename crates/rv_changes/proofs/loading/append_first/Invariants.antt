use Rattle.std.proofs.Common.{◌≡◌, ◌+◌, ◌≤◌, ◌++◌, length, take, map}
use Rattle.rv_program.specs.declared.limits.TheConstants.{MAX_LINES}
use Rattle.rv_changes.specs.Assembled.{assembled_line}
use Rattle.rv_changes.proofs.loading.append_first.Given as goal

-- the lines so far are in the text, and so many of the others belong there
abbrev pub invariant-lines : goal.invariant-lines
invariant-lines l = record {
  base : l.draft.base ≡ l.fn.draft.base;
  whole : l.draft.lines ++ map assembled_line (take l.left l.lines) ≡ l.fn.draft.lines ++ map assembled_line (take l.most l.initial.lines);
  room : length l.draft.lines + l.left ≤ MAX_LINES;
}

abbrev pub decreases-lines : goal.decreases-lines
decreases-lines l = l.left
