-- Rows of shapes: how long the lines of a text can be.
use Rattle.std.proofs.Common.{◌≡◌, ℕ, zero, suc, ℤ, ◌+◌, ◌-◌, ◌<◌, ◌≤◌, List, [], ◌∷◌, ◌++◌, length, get_or, set, take, drop, Option, None, arith, subst}
use Rattle.rv_stmt.specs.declared.statement.Body.{Body}
use Rattle.rv_stmt.specs.Statement.{statement_of, data_size_of}
use Rattle.rv_layout.specs.PlaceLaws.{part_limited}
use Rattle.rv_layout.specs.declared.measured.Measured.{Measured}
use Rattle.rv_layout.specs.Places.{IsLimited, AreLimited}
use Rattle.rv_layout.specs.Shapes.{shape_of}
use Rattle.rv_program.specs.Layout.{shape_at}
use Rattle.rv_program.specs.Program.{program_of}
use Rattle.rv_program.specs.Text.{Edit, Insert, Delete, Replace}
use Rattle.rv_program.specs.internal.Rows.{in_row, AreConstants}
use Rattle.rv_program.specs.lemmas.KeptShapes.{shape-on}
use Rattle.rv_program.specs.internal.EditedRows.{edited_row}

limited-append : (ms ns : List Measured) → AreLimited ms → AreLimited ns → AreLimited (ms ++ ns)
limited-append [] ns first rest = rest
limited-append (m ∷ ms) ns first rest = (first.0, limited-append ms ns first.1 rest)

pub limited-push : (ms : List Measured) (m : Measured) → AreLimited ms → IsLimited m → AreLimited (ms ++ m ∷ [])
limited-push ms m all one = limited-append ms (m ∷ []) all (one, tt)

limited-drop : (i : ℕ) (ms : List Measured) → AreLimited ms → AreLimited (drop i ms)
limited-drop zero ms all = all
limited-drop (suc i) [] all = tt
limited-drop (suc i) (m ∷ ms) all = limited-drop i ms all.1

pub limited-set : (ms : List Measured) (i : ℕ) (m : Measured) → AreLimited ms → IsLimited m → AreLimited (set ms i m)
limited-set [] i m are is = are
limited-set (n ∷ ms) zero m are is = (is, are.1)
limited-set (n ∷ ms) (suc i) m are is = (are.0, limited-set ms i m are.1 is)

-- shapes with an edit made in them
pub limited-former : (ms : List Measured) (edit : Edit) (m : Measured) → AreLimited ms → IsLimited m → AreLimited (edited_row ms edit m)
limited-former ms (Insert place line) m all one =
    limited-append (take (place - 1) ms) (m ∷ drop (place - 1) ms) (part_limited (place - 1) ms all) (one, limited-drop (place - 1) ms all)
limited-former ms (Delete place) m all one =
    limited-append (take (place - 1) ms) (drop (suc (place - 1)) ms) (part_limited (place - 1) ms all) (limited-drop (suc (place - 1)) ms all)
limited-former ms (Replace place line) m all one = limited-set ms (place - 1) m all one

-- the shape that the constants on a line give, of a line with few data
pub limited-on : (lines : List (List ℕ)) (i : ℕ) (text : List ℕ) (names : List (List ℕ)) (row : List (Option ℤ)) → i < length lines → text ≡ get_or lines i text → AreConstants (program_of lines) i names row → ((constants : List ℕ → Option ℤ) (b : Body) → data_size_of b ≤ 65536 → IsLimited (shape_of constants b)) → data_size_of (statement_of text).body ≤ 4000 → IsLimited (shape_at (program_of lines) (i + 1))
limited-on lines i text names row within read are limited few =
    subst IsLimited (shape-on lines i text names row within read are) (limited (in_row names row None) (statement_of text).body (omega (arith, few)))
