use Rattle.std.proofs.Common.{◌≡◌, ◌-◌, ℕ, List, [], ◌∷◌, ◌++◌, Bool, true, false, length, take, arith, ap, sym, subst, ◌∙◌, refl}
use Rattle.rv_program.specs.Program.{program_of}
use Rattle.rv_store.specs.internal.Appended.{AreSymbols, StayEqus}
use Rattle.rv_store.specs.internal.Surveys.{IsSurvey}
use Rattle.rv_store.proofs.LastLines.{symbols-back, survey-without}
use Rattle.rv_store.proofs.LongerTexts.{count-longer}
use Rattle.rv_store.proofs.StillRows.{symbols-of, symbols-same}
use Rattle.rv_store.proofs.survey.Survey.remove_last.Goals as goal

pub returns-clause-survey : goal.returns-clause-survey
returns-clause-survey c base is named are =
    let forgotten = c.forget_last.new.self in
    let symbols = by_names c.args.last.now.defines refl in
    let place : c.len-place.result - 1 ≡ length is.lines =
    omega (arith, c.len-place.ensures, ap length c.forget_last.ensures.lines.lines, ap length is.whole, count-longer is.lines is.line) in
    survey-without is.still is.plain c.args.names.now c.args.self.now _ all
    (record { definitions = symbols.definitions; constants = symbols.constants; equ_values = symbols.equ_values })
    (c.truncate-2.ensures.items ∙ (λ i. take (place i) (c.forget_last.ensures.lines.shapes i)))
    is.before
    (c.truncate-3.ensures.items ∙ (λ i. take (place i) (c.forget_last.ensures.lines.places i)))
    c.forget_last.ensures.lines.locals is.local
    (c.truncate-4.ensures.items ∙ (λ i. take (place i) (c.forget_last.ensures.lines.highs i)))
  where
    whole : List (List ℕ)
    whole = is.lines ++ is.line ∷ []

    all : IsSurvey base (program_of whole) c.args.names.now c.args.self.now
    all = subst (λ ls. IsSurvey base (program_of ls) c.args.names.now c.args.self.now) is.whole are

    held : AreSymbols base (program_of whole) (length whole) c.args.names.now c.args.self.now
    held = symbols-of base whole c.args.names.now c.args.self.now all

    by_names : (b : Bool) → c.args.last.now.defines ≡ b → AreSymbols base (program_of is.lines) (length is.lines) c.args.names.now c.forget_last.new.self
    by_names true e =
        let last = (is.still.last (sym is.defines ∙ e)).1 in
        c.forget_last.ensures.symbols e base is.lines (is.whole ∙ ap (λ l. is.lines ++ l ∷ []) (sym named))
        (subst (StayEqus base is.lines) (sym named) last)
        (subst (λ ls. AreSymbols base (program_of ls) (length ls) c.args.names.now c.args.self.now) (sym is.whole) held)
    by_names false e =
        symbols-same base (program_of is.lines) (length is.lines) c.args.names.now c.args.self.now c.forget_last.new.self (c.forget_last.ensures.none e)
        (symbols-back is.still is.plain c.args.names.now c.args.self.now (is.still.nothing (sym is.defines ∙ e)) held)
