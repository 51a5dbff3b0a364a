-- Lines as they are shown.
use Rattle.std.proofs.Common.{◌≡◌, ℕ, List, ap, ◌∙◌}
use Rattle.rv_stmt.specs.declared.statement.Stmt.{Stmt}
use Rattle.rv_fix.specs.declared.coded.Coded.{Coded}
use Rattle.rv_list.specs.declared.view.LinePlace.{LinePlace}
use Rattle.rv_list.specs.Shown.{ShownLine}

abbrev shown : List ℕ → Stmt → LinePlace → Coded → ShownLine
shown text stmt place code = record { text = text; stmt = stmt; place = place; code = code }

-- two lines with the same parts are the same
pub same_line : {t u : List ℕ} {s r : Stmt} {p q : LinePlace} {c d : Coded} → t ≡ u → s ≡ r → p ≡ q → c ≡ d → shown t s p c ≡ shown u r q d
same_line {t} {u} {s} {r} {p} {q} {c} {d} texts stmts places codes =
    ap (λ x. shown x s p c) texts ∙ ap (λ x. shown u x p c) stmts ∙ ap (λ x. shown u r x c) places ∙ ap (shown u r q) codes
