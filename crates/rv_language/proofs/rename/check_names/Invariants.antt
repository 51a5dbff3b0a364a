use Rattle.std.proofs.Common.{◌≡◌, length}
use Rattle.std.specs.List.{list_all}
use Rattle.rv_language.specs.Renames.{change_of, keeps_span, length_after}
use Rattle.rv_language.proofs.rename.check_names.Given as goal

-- all names so far keep their meanings, and how long the line gets
abbrev pub invariant-names : goal.invariant-names
invariant-names l = record {
  kept : list_all (keeps_span (change_of l.renaming) l.number l.text) l.left ≡ list_all (keeps_span (change_of l.renaming) l.number l.text) l.initial.left;
  length : length_after (change_of l.renaming) l.number l.text l.length l.left ≡ length_after (change_of l.renaming) l.number l.text (length l.text) l.initial.left;
}

abbrev pub decreases-names : goal.decreases-names
decreases-names l = length l.left
