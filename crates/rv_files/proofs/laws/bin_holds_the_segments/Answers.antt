use Rattle.rv_files.proofs.BinLaw.{stand_in}
use Rattle.rv_files.proofs.laws.bin_holds_the_segments.Goals as goal

pub returns : goal.returns
returns c = stand_in
