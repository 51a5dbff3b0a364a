use Rattle.std.proofs.Common.{◌≡◌, take}
use Rattle.std.specs.Prelude.{replicate}
use Rattle.rv_files.proofs.pieces.repeated_byte.Given as goal

-- the bytes so far are the same
abbrev pub invariant-loop-place : goal.invariant-loop-place
invariant-loop-place l = take l.place l.payload ≡ replicate l.place l.first
