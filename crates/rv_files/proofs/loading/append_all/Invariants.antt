use Rattle.std.proofs.Common.{◌≡◌, ◌+◌, ◌++◌, None, length}
use Rattle.rv_files.specs.Loading.{refusal_from}
use Rattle.rv_files.proofs.loading.append_all.Given as goal

-- the lines so far are in the text, and none of the others is past a limit
abbrev pub invariant-lines : goal.invariant-lines
invariant-lines l = record {
  base : l.draft.base ≡ l.fn.draft.base;
  whole : l.draft.lines ++ l.lines ≡ l.fn.draft.lines ++ l.initial.lines;
  left : refusal_from (length l.draft.lines + 1) l.lines ≡ None;
}

abbrev pub decreases-lines : goal.decreases-lines
decreases-lines l = length l.lines
