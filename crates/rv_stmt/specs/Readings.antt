-- What tokens are read as, or what is wrong with them.
use Rattle.std.specs.Prelude.{Option, Some, None, Result, Ok, Err}
use Rattle.rv_text.specs.declared.faults.FaultNumber.{FaultNumber}

-- what was read, or the number of a fault
abbrev pub Reading : Type 0 → Type 0
Reading A = Result A FaultNumber

-- what follows where there is no fault
abbrev pub and_then : {A B E : Type 0} → Result A E → (A → Result B E) → Result B E
and_then (Err fault) f = Err fault
and_then (Ok x) f = f x

-- what is there, or the fault that nothing is
abbrev pub or_fault : {A : Type 0} → FaultNumber → Option A → Reading A
or_fault fault None = Err fault
or_fault fault (Some x) = Ok x
