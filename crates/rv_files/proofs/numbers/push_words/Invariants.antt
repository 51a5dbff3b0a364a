use Rattle.std.proofs.Common.{◌≡◌, ◌++◌, length}
use Rattle.rv_files.specs.Elf.{words}
use Rattle.rv_files.proofs.numbers.push_words.Given as goal

-- what is appended so far, and what is left
abbrev pub invariant-numbers : goal.invariant-numbers
invariant-numbers l = l.out.items ++ words l.numbers ≡ l.fn.out.items ++ words l.fn.numbers

abbrev pub decreases-numbers : goal.decreases-numbers
decreases-numbers l = length l.numbers
