use Rattle.rv_stmt.proofs.DataSizes.{few_data}
use Rattle.rv_stmt.proofs.laws.data_are_few.Goals as goal

pub returns : goal.returns
returns c = λ line. few_data line (c.tokens_fit.ensures.bytes line)
