use Rattle.rv_program.specs.Counted.{counts_of}
use Rattle.rv_program.proofs.ComparedJumps.{not-compared}
use Rattle.rv_program.proofs.due.is_due.Goals as goal

pub returns-in-None-clause-compared : goal.returns-in-None-clause-compared
returns-in-None-clause-compared g c =
    not-compared c.args.before.now c.args.after.now.text c.args.line c.requires.after c.requires.first (counts_of g.C.Count.parsed_count g.C.Count.valued_count g.C.Count.encoded_count c.args.counter.now)

pub returns-in-Some-clause-compared : goal.returns-in-Some-clause-compared
returns-in-Some-clause-compared g c =
    not-compared c.args.before.now c.args.after.now.text c.args.line c.requires.after c.requires.first (counts_of g.C.Count.parsed_count g.C.Count.valued_count g.C.Count.encoded_count c.args.counter.now)
