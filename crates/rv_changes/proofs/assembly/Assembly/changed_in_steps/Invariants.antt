use Rattle.std.proofs.Common.{◌≡◌, length, map}
use Rattle.std.specs.Option.{option_map}
use Rattle.serde_json.specs.View.{view}
use Rattle.rv_doc.specs.Edits.{text_after_all}
use Rattle.rv_doc.specs.Changes.{changes_of}
use Rattle.rv_changes.proofs.assembly.Assembly.changed_in_steps.Given as goal

-- the text after the changes that are left is that after all
abbrev pub invariant-changes : goal.invariant-changes
invariant-changes l = record {
  base : l.made.base ≡ l.fn.self.base;
  text : option_map (text_after_all l.encoding l.made.document) (changes_of (map view l.changes)) ≡ option_map (text_after_all l.encoding l.fn.self.document) (changes_of (map view l.initial.changes));
}

abbrev pub decreases-changes : goal.decreases-changes
decreases-changes l = length l.changes
