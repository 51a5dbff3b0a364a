use Rattle.std.proofs.Common.{◌≡◌, ◌<◌, length}
use Rattle.std.specs.List.{fold}
use Rattle.rv_program.specs.internal.NameSets.{next_bucket, bucket_of}
use Rattle.rv_program.proofs.name_set.bucket_of.Given as goal

abbrev pub invariant-loop-name : goal.invariant-loop-name
invariant-loop-name l = record {
  below : l.bucket < 16384;
  bucket : fold next_bucket l.bucket l.name ≡ bucket_of l.initial.name;
}

abbrev pub decreases-loop-name : goal.decreases-loop-name
decreases-loop-name l = length l.name
