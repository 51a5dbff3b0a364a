use Rattle.std.proofs.Common.{ap, length, arith, length-append}
use Rattle.std.specs.Prelude.{codes}
use Rattle.rv_dis.proofs.Lengths.{length-hex}
use Rattle.rv_dis.proofs.numbers.push_hexadecimal_of.Goals as goal

pub push_last_digits-requires-clause-room : goal.push_last_digits-requires-clause-room
push_last_digits-requires-clause-room c = omega (arith, c.requires.room, length-hex c.args.count c.args.n, ap length c.push_str.ensures, length-append c.args.out.now (codes "0x"))
