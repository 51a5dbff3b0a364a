-- The statements of a text, and what is asked of its lines one by one. Lines are counted from 1.
use Rattle.std.specs.Prelude.{ℕ, zero, suc, ◌-◌, Bool, List, [], ◌∷◌, ◌++◌, map, get_or, Option, Some, None, if◌then◌else◌}
use Rattle.rv_stmt.specs.declared.statement.Body.{Body}
use Rattle.rv_stmt.specs.declared.statement.Body.TheVariants.{Empty}
use Rattle.rv_stmt.specs.declared.statement.Stmt.{Stmt}
use Rattle.rv_stmt.specs.Statement.{statement_of}

-- a text as the list of its statements
abbrev pub Program : Type 0
Program = List Stmt

abbrev pub program_of : List (List ℕ) → Program
program_of lines = map statement_of lines

-- what stands past the end
abbrev pub no_statement : Stmt
no_statement = record { labels = []; body = Empty }

abbrev pub statement_at : Program → (i : ℕ) → Stmt
statement_at program i = get_or program (i - 1) no_statement

abbrev pub body_at : Program → (i : ℕ) → Body
body_at program i = (statement_at program i).body

-- what a question is answered by line 1, line 2 and so on to line n
abbrev pub for_lines : {A : Type 0} → (ℕ → A) → (n : ℕ) → List A
for_lines f zero = []
for_lines f (suc n) = for_lines f n ++ f (suc n) ∷ []

-- those of the lines 1 to n that pass a test
abbrev pub lines_that : (ℕ → Bool) → (n : ℕ) → List ℕ
lines_that test zero = []
lines_that test (suc n) = lines_that test n ++ (if test (suc n) then suc n ∷ [] else [])

-- those of the `count` lines after line k
abbrev pub lines_ahead : (ℕ → Bool) → (k count : ℕ) → List ℕ
lines_ahead test k zero = []
lines_ahead test k (suc count) = (if test (suc k) then suc k ∷ [] else []) ++ lines_ahead test (suc k) count

-- the last of the lines 1 to i that passes a test
abbrev pub last_line : (ℕ → Bool) → (i : ℕ) → Option ℕ
last_line test zero = None
last_line test (suc i) = if test (suc i) then Some (suc i) else last_line test i

-- the first of the `count` lines after line i that passes a test
abbrev pub first_line : (ℕ → Bool) → (i count : ℕ) → Option ℕ
first_line test i zero = None
first_line test i (suc count) = if test (suc i) then Some (suc i) else first_line test (suc i) count
