use Rattle.std.proofs.Common.{◌<◌, length}
use Rattle.rv_store.proofs.PassedItems.{one_passed}
use Rattle.rv_store.proofs.store.shown.StoreLinesLineSource.advance.Goals as goal

pub invariant_of-self : goal.invariant_of-self
invariant_of-self c =
    let store = c.self.inside.store.now in
    let more : c.self.inside.passed < length store.lines = rw (← c.self.view_is) at c.requires in
    one_passed store.base store.lines c.self.inside.passed _ c.self.inside.left c.self.invariant more c.next-self-inside.result c.next-self-inside.new.self c.next-self-inside.ensures.steps
