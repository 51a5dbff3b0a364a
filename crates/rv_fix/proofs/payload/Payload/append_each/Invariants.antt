use Rattle.std.proofs.Common.{◌≡◌, ◌++◌, take}
use Rattle.rv_fix.proofs.payload.Payload.append_each.Given as goal

-- the bytes so far are there
abbrev pub invariant-loop-place : goal.invariant-loop-place
invariant-loop-place l = l.list.items ≡ l.fn.list.items ++ take l.place l.self
