use Rattle.rv_files.proofs.HexUnique.{same_rows}
use Rattle.rv_files.proofs.laws.hex_rows_are_unique.Goals as goal

pub returns : goal.returns
returns c = same_rows
