use Rattle.std.proofs.Common.{◌++◌, ◌∙◌, ap, length, length-append, arith}
use Rattle.rv_dis.proofs.HexPairs.{hex_pairs_ascii, last_pair}
use Rattle.rv_dis.proofs.Lengths.{length-hex}
use Rattle.rv_dis.proofs.numbers.push_pair.Goals as goal

pub pair_at-requires-clause-ascii : goal.pair_at-requires-clause-ascii
pair_at-requires-clause-ascii c = hex_pairs_ascii

pub push_str-requires : goal.push_str-requires
push_str-requires c = omega (arith, c.requires, ap length (c.pair_at.ensures ∙ last_pair c.args.n), length-hex 2 c.args.n)

pub returns-clause-text : goal.returns-clause-text
returns-clause-text c = c.push_str.ensures ∙ ap (λ t. c.args.out.now ++ t) (c.pair_at.ensures ∙ last_pair c.args.n)

pub returns-clause-length : goal.returns-clause-length
returns-clause-length c =
    omega (arith, ap length c.push_str.ensures, length-append c.args.out.now c.pair_at.result.now, ap length (c.pair_at.ensures ∙ last_pair c.args.n), length-hex 2 c.args.n)
