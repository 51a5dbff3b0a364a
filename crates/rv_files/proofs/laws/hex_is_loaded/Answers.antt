use Rattle.rv_files.proofs.HexLaw.{hex_loads}
use Rattle.rv_files.proofs.laws.hex_is_loaded.Goals as goal

pub returns : goal.returns
returns c = hex_loads
