use Rattle.std.proofs.Common.{◌≤◌, length, ap, arith}
use Rattle.rv_program.specs.Text.{Text}
use Rattle.rv_changes.proofs.Pieces.{put_insert}
use Rattle.rv_changes.proofs.syncing.put_line.Goals as goal

pub returns-then-left-eq0-clause-lines : goal.returns-then-left-eq0-clause-lines
returns-then-left-eq0-clause-lines c later =
    let within : c.args.at ≤ length c.args.store.now.lines = omega (arith, c.requires.place) in
    put_insert c.args.store.now.lines c.insert_line.new.store.lines c.args.at c.args.left _ later (ap (λ (t : Text). t.lines) c.in_ok-insert_line.ensures) within c.if-left-eq0.true
