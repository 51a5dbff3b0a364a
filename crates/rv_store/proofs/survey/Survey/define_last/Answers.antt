use Rattle.std.proofs.Common.{◌≡◌, ℕ, suc, ◌+◌, ◌*◌, ◌-◌, ◌≤◌, true≢false, false, List, [], ◌∷◌, ◌++◌, length, arith, ap, sym, subst, ◌∙◌, refl}
use Rattle.rv_list.specs.declared.view.DefinitionPlace.TheVariants.{Nowhere}
use Rattle.rv_stmt.specs.Statement.{statement_of}
use Rattle.rv_program.specs.Definitions.{place_in_statement}
use Rattle.rv_program.specs.Program.{program_of, body_at}
use Rattle.rv_program.specs.internal.Work.{equ_operands}
use Rattle.rv_program.specs.lemmas.Programs.{length-program}
use Rattle.rv_program.specs.Uses.{is_equ}
use Rattle.rv_program.specs.internal.Defining.{also_on}
use Rattle.rv_program.specs.internal.Rows.{in_row}
use Rattle.rv_store.specs.declared.survey.Survey.{Survey}
use Rattle.rv_store.specs.internal.Appended.{AreSymbols, IsUnsettled}
use Rattle.rv_store.proofs.LastDefinitions.{symbols-grown, symbols-written, symbols-no_equ, of-all}
use Rattle.rv_store.proofs.LongerPrograms.{body-last}
use Rattle.rv_store.proofs.LongerTexts.{count-longer, program-longer}
use Rattle.rv_store.proofs.StillRows.{in_any_error}
use Rattle.rv_store.proofs.survey.Survey.define_last.Goals as goal

-- the number of the line
behind : (lines : List (List ℕ)) (line : List ℕ) (all : List (List ℕ)) (number : ℕ) → all ≡ lines ++ line ∷ [] → number ≡ length all → number ≡ suc (length lines)
behind lines line all number more is = omega (arith, is, ap length more, count-longer lines line)

-- what the rows hold when all definitions are written
written : (base : ℕ) (lines names : List (List ℕ)) (line : List ℕ) (all : List (List ℕ)) (number : ℕ) (old new : Survey) → IsUnsettled base lines names line old → all ≡ lines ++ line ∷ [] → number ≡ length all
    → (names' : List (List ℕ)) (held : Survey) → AreSymbols base (program_of lines) (length lines) names' held → in_row names' new.definitions.items Nowhere ≡ also_on number (in_row names' held.definitions.items Nowhere) (place_in_statement number (statement_of line))
    → length new.definitions.items ≡ length names' → new.constants ≡ held.constants → new.equ_values ≡ held.equ_values → AreSymbols base (program_of (lines ++ line ∷ [])) (length lines) names' new
written base lines names line all number old new was more is names' held are row places constants equ_values =
    let here = behind lines line all number more is in
    symbols-written base lines line was.earlier names' held new are
    (subst (λ k. in_row names' new.definitions.items Nowhere ≡ also_on k (in_row names' held.definitions.items Nowhere) (place_in_statement k (statement_of line))) here row)
    places constants equ_values

pub returns-then-not-any-clause-symbols : goal.returns-then-not-any-clause-symbols
returns-then-not-any-clause-symbols g c = c.requires.unsettled.whole c.if-not-any.true

-- where the constant and the value of the last line wait
up_to-last : (base : ℕ) (lines names : List (List ℕ)) (line : List ℕ) (all : List (List ℕ)) (t : Survey) → all ≡ lines ++ line ∷ [] → AreSymbols base (program_of (lines ++ line ∷ [])) (length lines) names t → AreSymbols base (program_of all) (length all - 1) names t
up_to-last base lines names line all t more are =
    let count : length lines ≡ length all - 1 = omega (arith, ap length more, count-longer lines line) in
    subst (λ k. AreSymbols base (program_of all) k names t) count (subst (λ ls. AreSymbols base (program_of ls) (length lines) names t) (sym more) are)

-- Without memory

pub returns-in_err-number_line-clause-err : goal.returns-in_err-number_line-clause-err
returns-in_err-number_line-clause-err g c =
    in_any_error c.from_residual.result
    (λ lines was. symbols-grown c.args.base (program_of lines) (length lines) c.args.names.now c.number_line.new.names c.args.self.now c.number_line.ensures.names was.symbols)

pub returns-in_err-lengthen_rows-clause-err : goal.returns-in_err-lengthen_rows-clause-err
returns-in_err-lengthen_rows-clause-err g c =
    in_any_error c.from_residual-in_err-lengthen_rows.result
    (λ lines was.
    c.lengthen_rows.ensures.symbols c.args.base (program_of lines) (length lines)
    (symbols-grown c.args.base (program_of lines) (length lines) c.args.names.now c.number_line.new.names c.args.self.now c.number_line.ensures.names was.symbols))

-- With the line

pub settle_last-requires-clause-symbols : goal.settle_last-requires-clause-symbols
settle_last-requires-clause-symbols g c =
    let line = c.args.line.now in
    let waits = c.requires.unsettled.waits c.if-not-any.false in
    let lines = waits.0 in
    let was = waits.1 in
    let held = c.lengthen_rows.new.self in
    let more : held.lines.items ≡ lines ++ line ∷ [] = c.lengthen_rows.ensures.lines.lines ∙ was.more in
    let are = c.lengthen_rows.ensures.symbols c.args.base (program_of lines) (length lines) (symbols-grown c.args.base (program_of lines) (length lines) c.args.names.now c.number_line.new.names c.args.self.now c.number_line.ensures.names was.symbols) in
    up_to-last c.args.base lines c.number_line.new.names line held.lines.items _ more
    (written c.args.base lines c.args.names.now line held.lines.items c.len-number.result c.args.self.now _ was more (omega (arith, c.len-number.ensures)) c.number_line.new.names held are c.define_line.ensures.row c.define_line.ensures.as_many refl refl)

pub returns-else-brief-clause-symbols : goal.returns-else-brief-clause-symbols
returns-else-brief-clause-symbols g c =
    let line = c.args.line.now in
    let waits = c.requires.unsettled.waits c.if-not-any.false in
    let lines = waits.0 in
    let was = waits.1 in
    let held = c.lengthen_rows.new.self in
    let more : held.lines.items ≡ lines ++ line ∷ [] = c.lengthen_rows.ensures.lines.lines ∙ was.more in
    let are = c.lengthen_rows.ensures.symbols c.args.base (program_of lines) (length lines) (symbols-grown c.args.base (program_of lines) (length lines) c.args.names.now c.number_line.new.names c.args.self.now c.number_line.ensures.names was.symbols) in
    let equ : is_equ (statement_of line).body ≡ false = sym (ap (λ b. b.equ) c.brief.ensures) ∙ c.if-brief.false in
    of-all c.args.base lines c.number_line.new.names line held.lines.items _ more
    (symbols-no_equ c.args.base lines line was.earlier c.number_line.new.names _ equ
    (written c.args.base lines c.args.names.now line held.lines.items c.len-number.result c.args.self.now _ was more (omega (arith, c.len-number.ensures)) c.number_line.new.names held are c.define_line.ensures.row c.define_line.ensures.as_many refl refl))

-- There is the line

one-line : (lines : List (List ℕ)) (line : List ℕ) → 1 ≤ length (lines ++ line ∷ [])
one-line lines line = omega (arith, count-longer lines line)

pub settle_last-requires-clause-some : goal.settle_last-requires-clause-some
settle_last-requires-clause-some g c =
    let waits = c.requires.unsettled.waits c.if-not-any.false in
    subst (λ ls. 1 ≤ length ls) (sym (c.lengthen_rows.ensures.lines.lines ∙ waits.1.more)) (one-line waits.0 c.args.line.now)

pub returns-then-brief-clause-none : goal.returns-then-brief-clause-none
returns-then-brief-clause-none g c = λ none. absurd (true≢false (sym c.if-not-any.false ∙ none))

pub returns-else-brief-clause-none : goal.returns-else-brief-clause-none
returns-else-brief-clause-none g c = λ none. absurd (true≢false (sym c.if-not-any.false ∙ none))

-- its body is the last one
body-at-end : (lines : List (List ℕ)) (line : List ℕ) → body_at (program_of (lines ++ line ∷ [])) (length (lines ++ line ∷ [])) ≡ (statement_of line).body
body-at-end lines line =
    let end : length (lines ++ line ∷ []) ≡ suc (length (program_of lines)) = count-longer lines line ∙ ap suc (sym (length-program lines)) in
    (λ i. body_at (program-longer lines line i) (end i)) ∙ body-last (program_of lines) (statement_of line)

pub returns-then-brief-clause-operands : goal.returns-then-brief-clause-operands
returns-then-brief-clause-operands g c =
    let count = g.C.Count.valued_count in
    let waits = c.requires.unsettled.waits c.if-not-any.false in
    subst (λ body. count c.settle_last.new.counter ≤ count c.args.counter.now + 2 * equ_operands body) (body-at-end waits.0 c.args.line.now)
    (subst (λ ls. count c.settle_last.new.counter ≤ count c.args.counter.now + 2 * equ_operands (body_at (program_of ls) (length ls))) (c.lengthen_rows.ensures.lines.lines ∙ waits.1.more) c.settle_last.ensures.operands)
