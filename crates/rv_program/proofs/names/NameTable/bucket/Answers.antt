use Rattle.std.proofs.Common.{map, ap, ◌∙◌}
use Rattle.rv_program.specs.internal.NameSets.{bucket_of}
use Rattle.rv_program.specs.lemmas.NameRows.{bucket-of_number, bucket-of_number-below}
use Rattle.rv_program.proofs.names.NameTable.bucket.Goals as goal

pub returns-clause-bucket : goal.returns-clause-bucket
returns-clause-bucket c =
    bucket-of_number c.args.self.now c.self.inside.buckets.items (c.self.invariant ∙ ap (map bucket_of) c.self.view_is) c.args.number c.index.result.now c.requires c.index.ensures

pub returns-clause-below : goal.returns-clause-below
returns-clause-below c =
    bucket-of_number-below c.args.self.now c.self.inside.buckets.items (c.self.invariant ∙ ap (map bucket_of) c.self.view_is) c.args.number c.index.result.now c.requires c.index.ensures
