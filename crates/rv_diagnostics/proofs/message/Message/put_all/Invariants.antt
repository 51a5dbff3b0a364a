use Rattle.std.proofs.Common.{◌≡◌, ◌++◌, length}
use Rattle.rv_diagnostics.specs.Json.{tokens_of}
use Rattle.rv_diagnostics.proofs.message.Message.put_all.Given as goal

-- what is written so far, and the parts that are left
abbrev pub invariant-parts : goal.invariant-parts
invariant-parts l = l.self ++ tokens_of l.parts ≡ l.fn.self ++ tokens_of l.fn.parts

abbrev pub decreases-parts : goal.decreases-parts
decreases-parts l = length l.parts
