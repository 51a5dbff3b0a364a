use Rattle.std.proofs.Common.{◌/◌, ◌++◌, ◌∙◌, ap, length, length-append, append_assoc, arith}
use Rattle.std.specs.Prelude.{codes}
use Rattle.rv_text.specs.Rows.{hex}
use Rattle.rv_dis.proofs.HexPairs.{word_of_pairs}
use Rattle.rv_dis.proofs.Lengths.{length-hex}
use Rattle.rv_dis.proofs.numbers.push_word.Goals as goal

pub push_pair-requires : goal.push_pair-requires
push_pair-requires c = omega (arith, c.requires, length-hex 8 c.args.n, ap length c.push_str.ensures, length-append c.args.out.now (codes "0x"))

pub push_pair-requires-2 : goal.push_pair-requires-2
push_pair-requires-2 c = omega (arith, c.requires, length-hex 8 c.args.n, ap length c.push_str.ensures, length-append c.args.out.now (codes "0x"), c.push_pair.ensures.length)

pub push_pair-requires-3 : goal.push_pair-requires-3
push_pair-requires-3 c = omega (arith, c.requires, length-hex 8 c.args.n, ap length c.push_str.ensures, length-append c.args.out.now (codes "0x"), c.push_pair.ensures.length, c.push_pair-2.ensures.length)

pub push_pair-requires-4 : goal.push_pair-requires-4
push_pair-requires-4 c = omega (arith, c.requires, length-hex 8 c.args.n, ap length c.push_str.ensures, length-append c.args.out.now (codes "0x"), c.push_pair.ensures.length, c.push_pair-2.ensures.length, c.push_pair-3.ensures.length)

pub returns : goal.returns
returns c =
    let n = c.args.n in
    let start = c.args.out.now ++ codes "0x" in
    let a = hex 2 (n / 16777216) in
    let b = hex 2 (n / 65536) in
    let d = hex 2 (n / 256) in
    rw (c.push_pair-4.ensures.text, c.push_pair-3.ensures.text, c.push_pair-2.ensures.text, c.push_pair.ensures.text, c.push_str.ensures, word_of_pairs n)
    (append_assoc (start ++ a ++ b) d (hex 2 n) ∙ append_assoc (start ++ a) b (d ++ hex 2 n) ∙ append_assoc start a (b ++ (d ++ hex 2 n)) ∙ append_assoc c.args.out.now (codes "0x") (a ++ (b ++ (d ++ hex 2 n))))
