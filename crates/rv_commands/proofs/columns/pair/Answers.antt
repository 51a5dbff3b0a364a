use Rattle.std.proofs.Common.{arith}
use Rattle.rv_commands.proofs.HexColumns.{pair_at}
use Rattle.rv_commands.proofs.columns.pair.Goals as goal

pub returns : goal.returns
returns c = rw (c.pair_at.ensures, c.from.ensures) (pair_at c.args.n (omega (arith, c.ranges.n.fits)))
