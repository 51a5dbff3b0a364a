use Rattle.std.proofs.Common.{◌≡◌, ◌-◌, ◌≤◌}
use Rattle.rv_list.specs.Later.{bytes_left}
use Rattle.rv_list.proofs.bytes_left.SectionBytes.next.Given as goal

-- nothing was taken yet
abbrev pub invariant-finding : goal.invariant-finding
invariant-finding g l = record {
  left : bytes_left (g.V.Lines.LineSource.shown l.self-inside.lines) l.self-inside.section l.self-inside.passed l.self-inside.taken ≡ l.fn.self;
  passed : l.self-inside.passed ≡ g.V.Lines.LineSource.passed l.self-inside.lines;
  lines : l.self-inside.count ≡ (g.V.Lines.LineSource.shown l.self-inside.lines).count;
  within : l.self-inside.passed ≤ l.self-inside.count;
}

abbrev pub decreases-finding : goal.decreases-finding
decreases-finding g l = l.self-inside.count - l.self-inside.passed
