use Rattle.std.proofs.Common.{◌≡◌, ◌++◌, decimal, length, map}
use Rattle.json.specs.Token.{number}
use Rattle.rv_diagnostics.proofs.message.Message.numbers.Given as goal

-- what is written so far, and the numbers that are left
abbrev pub invariant-numbers : goal.invariant-numbers
invariant-numbers l = l.self ++ map (λ n. number (decimal n)) l.numbers ≡ l.fn.self ++ map (λ n. number (decimal n)) l.fn.numbers

abbrev pub decreases-numbers : goal.decreases-numbers
decreases-numbers l = length l.numbers
