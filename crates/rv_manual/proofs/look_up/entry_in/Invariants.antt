use Rattle.std.proofs.Common.{◌≡◌, length, map}
use Rattle.rv_manual.specs.Manual.{entry_in, row_value}
use Rattle.rv_manual.proofs.look_up.entry_in.Given as goal

-- what is left decides
abbrev pub invariant-rows : goal.invariant-rows
invariant-rows l =
    entry_in (map (λ row. row_value (map (λ n. n.now) row.0.now) row.1 row.2.now) l.rows) l.name
    ≡ entry_in (map (λ row. row_value (map (λ n. n.now) row.0.now) row.1 row.2.now) l.fn.rows) l.name

abbrev pub decreases-rows : goal.decreases-rows
decreases-rows l = length l.rows
