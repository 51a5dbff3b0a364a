use Rattle.std.proofs.Common.{◌++◌, ◌∙◌, ap, length, arith}
use Rattle.std.proofs.lemmas.List.{length-take-le}
use Rattle.rv_dis.specs.declared.decimals.TheConstants.{DECIMALS}
use Rattle.rv_dis.proofs.PaddedDecimals.{decimal_begins, decimal_end, decimal_within, decimals_ascii, width_of}
use Rattle.rv_dis.proofs.PairTexts.{pair_of}
use Rattle.rv_dis.proofs.decimals.push_below_hundred.Goals as goal

pub pair_at-requires-clause-ascii : goal.pair_at-requires-clause-ascii
pair_at-requires-clause-ascii c = decimals_ascii

pub push_padded-requires-clause-within : goal.push_padded-requires-clause-within
push_padded-requires-clause-within c =
    rw (c.width.ensures, c.pair_at.ensures) (decimal_within c.args.n c.requires.small)

pub push_padded-requires-clause-ascii : goal.push_padded-requires-clause-ascii
push_padded-requires-clause-ascii c =
    rw (c.width.ensures, c.pair_at.ensures) (decimal_end c.args.n c.requires.small)

pub push_padded-requires-clause-room : goal.push_padded-requires-clause-room
push_padded-requires-clause-room c =
    let n = c.args.n in
    let len = length-take-le (width_of n) (pair_of DECIMALS.now n) (decimal_within n c.requires.small) in
    let whole = ap length (decimal_begins n c.requires.small) in
    rw c.width.ensures (omega (arith, c.requires.room, len, whole))

pub returns : goal.returns
returns c =
    let begins = decimal_begins c.args.n c.requires.small in
    c.push_padded.ensures ∙ ap (λ t. c.args.out.now ++ t) (rw (c.width.ensures, c.pair_at.ensures) begins)
