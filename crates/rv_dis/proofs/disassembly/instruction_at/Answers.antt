use Rattle.std.proofs.Common.{arith, sym, subst}
use Rattle.rv_dis.specs.Rows.{StandsFirst}
use Rattle.rv_dis.proofs.disassembly.instruction_at.Goals as goal

pub returns-in-Some-clause-found : goal.returns-in-Some-clause-found
returns-in-Some-clause-found c =
    let found = c.in-Some.ensures.found in
    record {
      fits = found.0;
      word = subst (λ w. StandsFirst w c.args.bytes.now) (sym found.1) (omega arith, c.from_le_bytes-number.ensures);
    }
