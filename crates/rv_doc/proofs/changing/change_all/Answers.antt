use Rattle.std.proofs.Common.{◌∙◌}
use Rattle.serde_json.specs.View.{view}
use Rattle.rv_doc.proofs.ChangedTexts.{next_change}
use Rattle.rv_doc.proofs.changing.change_all.Goals as goal

pub changes-preserved : goal.changes-preserved
changes-preserved c =
    let is = rw c.in-Some-change_in.is at c.change_in.ensures in
    let said = rw c.as_bytes.ensures.value at c.in_ok-change.ensures.ok in
    record {
      text = next_change view c.args.encoding c.changes.document c.change.new.self c.changes.changes.now c.in-Some.json.now c.in-Some.later.now _ (c.in-Some.ensures).first is said ∙ c.changes.invariant.text;
    }
