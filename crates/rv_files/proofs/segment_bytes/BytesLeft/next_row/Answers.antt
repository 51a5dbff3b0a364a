use Rattle.std.proofs.Common.{◌≡◌, length, arith}
use Rattle.std.proofs.lemmas.Bool.Decides.{nat_tests}
use Rattle.rv_files.proofs.PieceLists.{taken_all, taken_full}
use Rattle.rv_files.proofs.segment_bytes.BytesLeft.next_row.Goals as goal

pub returns-in_default-clause-row : goal.returns-in_default-clause-row
returns-in_default-clause-row c = (taken_all _ _ _ c.filling.invariant.whole c.in_default.ensures.end.0 c.filling.invariant.few).0

pub returns-in_default-clause-rest : goal.returns-in_default-clause-rest
returns-in_default-clause-rest c =
    let parts = taken_all _ _ _ c.filling.invariant.whole c.in_default.ensures.end.0 c.filling.invariant.few in rw (c.in_default.ensures.end.1, ← c.in_default.ensures.end.0) parts.1

pub returns-clause-row : goal.returns-clause-row
returns-clause-row c =
    let full : length c.filling.row.items ≡ 16 = grind (arith, nat_tests, c.filling-test.ensures.value) in
    (taken_full _ _ _ c.filling.invariant.whole full).0

pub returns-clause-rest : goal.returns-clause-rest
returns-clause-rest c =
    let full : length c.filling.row.items ≡ 16 = grind (arith, nat_tests, c.filling-test.ensures.value) in
    (taken_full _ _ _ c.filling.invariant.whole full).1
