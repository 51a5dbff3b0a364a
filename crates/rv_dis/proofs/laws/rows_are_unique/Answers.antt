use Rattle.rv_dis.proofs.OneReading.{one_reading}
use Rattle.rv_dis.proofs.laws.rows_are_unique.Goals as goal

pub returns : goal.returns
returns c =
    let apart = c.words_tell_instructions_apart.ensures in
    λ a bytes rows others shows shows'. one_reading apart.one apart.full apart.half shows shows'
