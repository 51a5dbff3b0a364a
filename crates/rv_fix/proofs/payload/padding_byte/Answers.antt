use Rattle.rv_fix.proofs.Paddings.{first_of_nop, other_of_nop}
use Rattle.rv_fix.proofs.payload.padding_byte.Goals as goal

pub returns-then-after-half-eq0 : goal.returns-then-after-half-eq0
returns-then-after-half-eq0 c =
    first_of_nop c.args.count c.args.place c.requires c.if-place-odd.false c.if-after-half.false c.if-after-half-eq0.true

pub returns-else-after-half-eq0 : goal.returns-else-after-half-eq0
returns-else-after-half-eq0 c =
    other_of_nop c.args.count c.args.place c.requires c.if-place-odd.false c.if-after-half.false c.if-after-half-eq0.false
