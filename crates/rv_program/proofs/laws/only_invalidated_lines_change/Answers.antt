use Rattle.rv_program.proofs.ChangeLaws.{not_reencoded, not_changed}
use Rattle.rv_program.specs.lemmas.KeptLines.{kept}
use Rattle.rv_program.proofs.laws.only_invalidated_lines_change.Goals as goal

pub returns : goal.returns
returns c = record { kept = kept; reencoded = not_reencoded; changed = not_changed }
