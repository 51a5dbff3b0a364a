use Rattle.std.proofs.Common.{◌<◌, ◌∙◌, arith}
use Rattle.rv_report.proofs.Strings.{length_of_rest, next_place}
use Rattle.rv_report.proofs.lexical_messages.stop_of.Goals as goal

pub bytes-preserved : goal.bytes-preserved
bytes-preserved c =
    let before = c.bytes.invariant in
    let later : c.bytes.at < c.next_place-next.result = c.next_place-next.ensures.rises (omega (arith, c.if-next-eq0.false)) in
    record {
      whole = next_place c.args.text.now c.bytes.at c.next_place-next.result c.next_place-next.ensures.value later ∙ before.whole;
      behind = omega (arith, before.behind, later);
      steps = omega (arith, before.steps, later, length_of_rest c.bytes.bytes.now c.in-len1-up.len_at_least);
    }
