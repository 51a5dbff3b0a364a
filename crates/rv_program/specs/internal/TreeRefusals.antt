-- The refusal of an edit of a text, by that of the same edit of the tree of its items.
use Rattle.rv_program.specs.declared.edit_error.EditError.{EditError}
use Rattle.rv_program.specs.declared.edit_error.EditError.TheVariants.{Place, TooMany, Memory}
use Rattle.rv_tree.specs.declared.error.TreeError.{TreeError}
use Rattle.rv_tree.specs.declared.error.TreeError.TheVariants as tree

abbrev pub refusal_by_tree : TreeError → EditError
refusal_by_tree tree.Place = Place
refusal_by_tree tree.Full = TooMany
refusal_by_tree tree.Memory = Memory
