-- What the program says of a run that ended early, and its status.
use Rattle.std.specs.Prelude.{ℕ, List, codes}
use Rattle.rv_commands.specs.declared.answer_error.AnswerError.{AnswerError}
use Rattle.rv_commands.specs.declared.answer_error.AnswerError.TheVariants as unanswered
use Rattle.rv_commands.specs.declared.run_error.RunError.{RunError}
use Rattle.rv_commands.specs.declared.run_error.RunError.TheVariants.{Read, Write, Memory}

-- how a run ends where a command was not answered
abbrev pub run_error : AnswerError → RunError
run_error unanswered.Write = Write
run_error unanswered.Memory = Memory

-- the number of the error
abbrev pub run_refusal_number : RunError → ℕ
run_refusal_number Read = 1
run_refusal_number Write = 2
run_refusal_number Memory = 3

-- the status of the process
abbrev pub run_status : RunError → ℕ
run_status Read = 3
run_status Write = 4
run_status Memory = 5

-- what is said on standard error
abbrev pub run_message : RunError → List ℕ
run_message Read = codes "rvedit: read fault"
run_message Write = codes "rvedit: write fault"
run_message Memory = codes "rvedit: out of memory"
