use Rattle.std.proofs.Common.{◌-◌, arith}
use Rattle.rv_program.specs.Counted.{counts_of}
use Rattle.rv_program.specs.internal.Revisions.{edited_text}
use Rattle.rv_program.specs.lemmas.CountedLines.{nothing_counted}
use Rattle.rv_store.proofs.ItemsLeft.{new-invalidated, new-former, new-listed}
use Rattle.rv_store.proofs.renewal.line_behind.Goals as goal

pub renewed-requires-clause-invalidated : goal.renewed-requires-clause-invalidated
renewed-requires-clause-invalidated g c = new-invalidated (edited_text c.args.revision.now) c.args.line c.requires.new

pub renewed-requires-clause-former : goal.renewed-requires-clause-former
renewed-requires-clause-former g c = new-former (edited_text c.args.revision.now) c.args.line c.requires.new _

pub returns-clause-listed : goal.returns-clause-listed
returns-clause-listed g c =
    new-listed (edited_text c.args.revision.now) c.args.line c.requires.new c.requires.first c.args.changed.now.items _ c.in_ok-push.ensures.items

pub returns-in_err-share-clause-counted : goal.returns-in_err-share-clause-counted
returns-in_err-share-clause-counted g c =
    nothing_counted (edited_text c.args.revision.now) (c.args.line - 1) c.args.line (counts_of g.C.Count.parsed_count g.C.Count.valued_count g.C.Count.encoded_count c.args.counter.now) (omega arith)
