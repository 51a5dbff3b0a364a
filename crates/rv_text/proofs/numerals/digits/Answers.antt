use Rattle.std.proofs.lemmas.Grind.{common_steps}
use Rattle.std.proofs.Common.{option_map, pos, ap, sym, ◌∙◌, arith}
use Rattle.rv_text.proofs.DigitSteps.{digits_number-large}
use Rattle.rv_text.proofs.numerals.digits.Goals as goal

pub returns-in_err-checked_mul : goal.returns-in_err-checked_mul
returns-in_err-checked_mul c =
    let over = rw c.from-in-loop-d.ensures at c.in_err-checked_mul.ensures in
    let none = digits_number-large c.args.base c.loop-d.value c.loop-d.d-index c.args.digits.now (omega arith) (omega arith) c.loop-d.invariant (omega arith) in
    c.from_residual-in_err-checked_mul.ensures ∙ ap (option_map pos) (sym none)

pub returns-in_err-value : goal.returns-in_err-value
returns-in_err-value c =
    let over = c.in_err-value.ensures in
    let product = rw c.from-in-loop-d.ensures at c.in_ok-checked_mul.ensures.1 in
    let digit = rw c.from.ensures at c.in_ok-digit.ensures.value.1 in
    let none = digits_number-large c.args.base c.loop-d.value c.loop-d.d-index c.args.digits.now (omega arith) (omega arith) c.loop-d.invariant (omega arith) in
    c.from_residual-in_err-value.ensures ∙ ap (option_map pos) (sym none)

pub loop-d-preserved : goal.loop-d-preserved
loop-d-preserved c = grind (arith, common_steps)
