-- Labels as a list keeps them: an entry for each label, and the bytes of the names side by side.
use Rattle.std.specs.Prelude.{ℕ, ◌+◌, List, [], ◌∷◌, take, drop}
use Rattle.rv_stmt.specs.declared.label_list.Entry.{Entry}
use Rattle.rv_stmt.specs.declared.label_list.EntryName.{EntryName}
use Rattle.rv_stmt.specs.declared.label_list.EntryName.TheVariants as entry
use Rattle.rv_stmt.specs.LabelNames.{LabelName, Symbol, Local, Label}

-- how many bytes of the names are an entry's
abbrev pub name_length : EntryName → ℕ
name_length (entry.Symbol length) = length
name_length (entry.Local number) = 0

-- how many bytes the names of some entries have
abbrev pub names_length : List Entry → ℕ
names_length [] = 0
names_length (e ∷ es) = name_length e.name + names_length es

-- what the first entry defines
abbrev pub first_name : List ℕ → EntryName → LabelName
first_name names (entry.Symbol length) = Symbol (take length names)
first_name names (entry.Local number) = Local number

-- the labels of some entries
abbrev pub labels_of : List ℕ → List Entry → List Label
labels_of names [] = []
labels_of names (e ∷ es) =
    record { name = first_name names e.name; span = e.span } ∷ labels_of (drop (name_length e.name) names) es
