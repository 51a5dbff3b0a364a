use Rattle.std.proofs.Common.{◌≡◌, ◌++◌, length, map}
use Rattle.rv_files.proofs.text_symbols.names.Given as goal

-- the names so far, and those that are left
abbrev pub invariant-symbols : goal.invariant-symbols
invariant-symbols l = map (λ t. t.now) l.names.items ++ map (λ s. s.name) l.symbols ≡ map (λ s. s.name) l.fn.symbols

abbrev pub decreases-symbols : goal.decreases-symbols
decreases-symbols l = length l.symbols
