use Rattle.std.proofs.Common.{◌≡◌, suc, ◌-◌, ◌++◌, [], ◌∷◌, length, sym, ap, ◌∙◌, append_assoc, length-append, arith}
use Rattle.std.proofs.lemmas.List.{append-nil}
use Rattle.rv_text.specs.Rows.{hex}
use Rattle.rv_text.specs.RowLaws.{hex_first, hex_none}
use Rattle.rv_dis.proofs.numbers.push_last_digits.Goals as goal

pub loop-left-preserved : goal.loop-left-preserved
loop-left-preserved c =
    let left = c.loop-left.left - 1 in
    let one_more : c.loop-left.left ≡ suc left = omega arith in
    let first : hex c.loop-left.left c.args.n ≡ c.hex_digit.result ∷ hex left c.args.n = ap (λ k. hex k c.args.n) one_more ∙ hex_first left c.args.n ∙ ap (λ d. d ∷ hex left c.args.n) (sym c.hex_digit.ensures.value) in
    record {
      few = omega (arith, c.loop-left.invariant.few);
      room = omega (arith, c.loop-left.invariant.room, ap length c.push.ensures, length-append c.loop-left.out (c.hex_digit.result ∷ []));
      text = rw c.push.ensures (append_assoc c.loop-left.out (c.hex_digit.result ∷ []) (hex left c.args.n) ∙ ap (λ xs. c.loop-left.out ++ xs) (sym first) ∙ c.loop-left.invariant.text);
    }

pub returns : goal.returns
returns c =
    let none : c.loop-left.left ≡ 0 = omega arith in
    sym (append-nil c.loop-left.out) ∙ ap (λ xs. c.loop-left.out ++ xs) (sym (ap (λ k. hex k c.args.n) none ∙ hex_none c.args.n)) ∙ c.loop-left.invariant.text
