use Rattle.std.proofs.Common.{append_assoc, true, arith}
use Rattle.std.proofs.lemmas.Fmt.{hex_one_digit}
use Rattle.rv_text.specs.DigitLaws.{digits_step}
use Rattle.rv_show.proofs.numbers.+push_digits.Goals as goal

pub returns-then-n-lt16 : goal.returns-then-n-lt16
returns-then-n-lt16 t c = rw (hex_one_digit true c.args.n c.if-n-lt16.true) (rw c.upper_digit.ensures at c.push_byte.ensures)

pub returns : goal.returns
returns t c =
    let sum = rw (c.in_ok-push_digits.ensures, c.upper_digit-2.ensures) at c.push_byte-2.ensures in
    rw (digits_step true c.args.n (omega arith) (omega arith)) (simp append_assoc at sum)
