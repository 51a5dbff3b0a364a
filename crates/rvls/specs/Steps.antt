-- How much of some bytes a frame takes that is answered.
use Rattle.std.specs.Prelude.{ℕ, ◌≤◌, ◌<◌}
use Rattle.rvls.specs.declared.run.Step.{Step}
use Rattle.rvls.specs.declared.run.Step.TheVariants.{Done}

-- a frame that is answered has some of these bytes
abbrev pub IsStepWithin : Step → (count : ℕ) → Type 0
IsStepWithin (Done bytes) count = (0 < bytes) × (bytes ≤ count)
IsStepWithin step count = Unit {0}
