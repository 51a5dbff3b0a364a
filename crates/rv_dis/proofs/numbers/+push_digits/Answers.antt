use Rattle.std.proofs.Common.{◌≡◌, ◌/◌, ◌%◌, ◌++◌, false, [], ◌∷◌, length, refl, ap, ◌∙◌, append_assoc, length-append, arith}
use Rattle.std.specs.Fmt.{digits}
use Rattle.rv_text.specs.Rows.{hex_digit}
use Rattle.rv_text.specs.DigitLaws.{digits_last, digits_step}
use Rattle.rv_dis.proofs.numbers.+push_digits.Goals as goal
use Rattle.rv_dis.proofs.numbers.+push_digits.Goals.{then-n-ge16, else-n-ge16}

pub push_digits-requires : goal.push_digits-requires
push_digits-requires t c =
    let more = digits_step false c.args.n c.if-n-ge16.true (omega arith) in
    (omega arith, omega (arith, c.requires, ap length more, length-append (digits 16 false (c.args.n / 16)) (hex_digit (c.args.n % 16) ∷ [])))

pub push-requires-clause-room : goal.push-requires-clause-room
push-requires-clause-room t c = elim c.if-n-ge16.branch [
  | then-n-ge16 w ↦
      let more = digits_step false c.args.n w.if-n-ge16.true (omega arith) in
      omega (arith, c.requires, ap length (w.out-is ∙ w.push_digits.ensures), length-append c.args.out.now (digits 16 false (c.args.n / 16)), ap length more, length-append (digits 16 false (c.args.n / 16)) (hex_digit (c.args.n % 16) ∷ []))
  | else-n-ge16 w ↦ omega (arith, c.requires, ap length w.out-is, ap length (digits_last false c.args.n w.if-n-ge16.false))
]

pub returns : goal.returns
returns t c =
    let whole : c.if-n-ge16.out ++ hex_digit (c.args.n % 16) ∷ [] ≡ c.args.out.now ++ digits 16 false c.args.n = elim c.if-n-ge16.branch [
      | then-n-ge16 w ↦ rw (w.out-is, w.push_digits.ensures, digits_step false c.args.n w.if-n-ge16.true (omega arith)) (append_assoc c.args.out.now (digits 16 false (c.args.n / 16)) (hex_digit (c.args.n % 16) ∷ []))
      | else-n-ge16 w ↦ rw (w.out-is, digits_last false c.args.n w.if-n-ge16.false) refl
    ] in
    c.push.ensures ∙ ap (λ d. c.if-n-ge16.out ++ d ∷ []) c.hex_digit.ensures.value ∙ whole
