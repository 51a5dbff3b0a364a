-- Texts that are written out.
use Rattle.std.specs.Prelude.{ℕ, ℤ, List, [], ◌∷◌, Option, None, bytes_eq, if◌then◌else◌}
use Rattle.rv_stmt.specs.declared.section.Sect.TheVariants.{Text}
use Rattle.rv_stmt.specs.declared.statement.Body.TheVariants.{Empty}
use Rattle.rv_list.specs.declared.view.DefinitionPlace.{DefinitionPlace}
use Rattle.rv_list.specs.declared.view.DefinitionPlace.TheVariants.{Nowhere}
use Rattle.rv_list.specs.declared.view.SectionPlace.{SectionPlace}
use Rattle.rv_list.specs.Shown.{ShownLine}
use Rattle.examples.specs.declared.defined.Defined.{Defined}

-- what stands past the end
abbrev pub no_line : ShownLine
no_line = record {
  text = [];
  stmt = record { labels = []; body = Empty };
  place = record { section = Text; address = 0; size = 0 };
  code = record { payload = []; fault = None };
}

abbrev pub no_section : SectionPlace
no_section = record { base = 0; size = 0 }

-- where a name is defined, and its value
abbrev pub known : List Defined → (name : List ℕ) → DefinitionPlace × Option ℤ
known [] name = (Nowhere, None)
known (d ∷ ds) name = if bytes_eq d.name.now name then (d.place, d.value) else known ds name
