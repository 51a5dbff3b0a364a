use Rattle.std.proofs.lemmas.List.{get_or_default}
use Rattle.rv_program.specs.internal.TextRows.{no_place}
use Rattle.rv_program.proofs.pairs.place_behind.Goals as goal

pub returns : goal.returns
returns c = get_or_default c.args.places.now c.args.i _ no_place c.requires
