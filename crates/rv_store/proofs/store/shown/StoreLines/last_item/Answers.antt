use Rattle.std.proofs.Common.{◌≤◌, ap}
use Rattle.std.specs.Option.{option_map}
use Rattle.rv_store.proofs.PassedItems.{none_passed, last_item, passed_within}
use Rattle.rv_store.proofs.store.shown.StoreLines.last_item.Goals as goal

pub unreachable-requires : goal.unreachable-requires
unreachable-requires c =
    let store = c.self.inside.store.now in
    let some : 1 ≤ c.self.inside.passed = rw (← c.self.view_is) at c.requires in
    none_passed store.base store.lines c.self.inside.passed _ c.self.inside.left c.self.invariant some (ap (option_map (λ i. i.now)) c.in_default.is)

pub returns-clause-item : goal.returns-clause-item
returns-clause-item c =
    let store = c.self.inside.store.now in
    let some : 1 ≤ c.self.inside.passed = rw (← c.self.view_is) at c.requires in
    rw (← c.self.view_is)
    (last_item store.base store.lines c.self.inside.passed _ c.self.inside.left c.self.invariant c.in-Some.item.now some (ap (option_map (λ i. i.now)) c.in-Some.is))

pub returns-clause-within : goal.returns-clause-within
returns-clause-within c =
    let store = c.self.inside.store.now in
    rw (← c.self.view_is) (passed_within store.base store.lines c.self.inside.passed _ c.self.inside.left c.self.invariant)
