use Rattle.std.proofs.Common.{arith}
use Rattle.rv_files.specs.Lines.{lines_of}
use Rattle.rv_files.proofs.FileTexts.{taken_from, lines_hold_bytes}
use Rattle.rv_files.proofs.TextEdits.{empty_within_limits, within_limits_after}
use Rattle.rv_files.proofs.laws.texts_are_within_limits.Goals as goal

pub returns-clause-empty : goal.returns-clause-empty
returns-clause-empty c = empty_within_limits

pub returns-clause-edited : goal.returns-clause-edited
returns-clause-edited c = within_limits_after

pub returns-clause-files : goal.returns-clause-files
returns-clause-files c = λ base file based none.
    let taken = taken_from 1 (lines_of file) (omega arith) none in
    record { based = based; few = omega (arith, taken.few); short = taken.short }

pub returns-clause-bytes : goal.returns-clause-bytes
returns-clause-bytes c = lines_hold_bytes
