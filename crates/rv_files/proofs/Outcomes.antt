-- What holds of a result, where there is one.
use Rattle.std.proofs.Common.{Bool, true, false, cond, Result, Ok, Err}
use Rattle.std.specs.Prelude.{⊤}
use Rattle.rv_text.specs.declared.faults.FaultNumber.TheVariants.{TooDeep}
use Rattle.rv_text.specs.declared.lexeme.Span.{Span}
use Rattle.rv_stmt.specs.declared.runs.Run.{Run}
use Rattle.rv_stmt.specs.Operands.{reported_at, operand_of_run}
use Rattle.rv_stmt.specs.Readings.{Reading, and_then}
use Rattle.rv_stmt.specs.Values.{is_deep}

abbrev pub Holds : {A E : Type 0} → (A → Type 0) → Result A E → Type 0
Holds P (Ok x) = P x
Holds P (Err fault) = ⊤

-- what follows gives it
pub then_holds : {A B E : Type 0} (P : B → Type 0) (r : Result A E) (f : A → Result B E) → ((x : A) → Holds P (f x)) → Holds P (and_then r f)
then_holds P (Err fault) f h = tt
then_holds P (Ok x) f h = h x

-- what follows keeps it
pub next_holds : {A B E : Type 0} (P : A → Type 0) (Q : B → Type 0) (r : Result A E) (f : A → Result B E) → Holds P r → ((x : A) → P x → Holds Q (f x)) → Holds Q (and_then r f)
next_holds P Q (Err fault) f h k = tt
next_holds P Q (Ok x) f h k = k x h

pub either_holds : {A E : Type 0} (P : A → Type 0) (b : Bool) (x y : Result A E) → Holds P x → Holds P y → Holds P (cond b x y)
either_holds P true x y h k = h
either_holds P false x y h k = k

reported_holds : {A : Type 0} (P : A → Type 0) (span : Span) (x : Reading A) → Holds P x → Holds P (reported_at span x)
reported_holds P span (Ok x) h = h
reported_holds P span (Err number) h = tt

pub run_holds : {A : Type 0} (P : A → Type 0) (r : Run) (x : Reading A) → Holds P x → Holds P (operand_of_run r x)
run_holds P r x h = reported_holds P r.span (cond (is_deep r.tokens) (Err TooDeep) x) (either_holds P (is_deep r.tokens) (Err TooDeep) x tt h)
