use Rattle.std.proofs.Common.{arith}
use Rattle.std.proofs.lemmas.List.{length-take}
use Rattle.rv_language.proofs.names.text_of.Goals as goal

pub returns-clause-few : goal.returns-clause-few
returns-clause-few c = rw c.first_bytes.ensures (omega (arith, length-take 1000 c.args.line.now.text.now))
