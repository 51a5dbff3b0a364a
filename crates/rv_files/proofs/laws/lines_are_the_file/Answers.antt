use Rattle.rv_files.proofs.LineLaw.{are_lines, only_lines}
use Rattle.rv_files.proofs.laws.lines_are_the_file.Goals as goal

pub returns-clause-lines : goal.returns-clause-lines
returns-clause-lines c = are_lines

pub returns-clause-only : goal.returns-clause-only
returns-clause-only c = only_lines
