use Rattle.std.proofs.lemmas.Nat.{and_mask, one_shl}
use Rattle.rv_code.proofs.encoding.cut.Goals as goal

pub returns : goal.returns
returns c = rw (one_shl c.args.count 32 c.requires.count) (and_mask _ _)
