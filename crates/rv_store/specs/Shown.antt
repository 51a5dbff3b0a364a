-- What is shown of a text: each line with its statement, its place and its code, each section, and each name.
use Rattle.std.specs.Prelude.{ℕ, ◌-◌, [], length, get_or}
use Rattle.rv_list.specs.declared.view.SectionPlace.{SectionPlace}
use Rattle.rv_list.specs.Shown.{Shown, ShownLine}
use Rattle.rv_program.specs.Codes.{code_at}
use Rattle.rv_program.specs.Definitions.{definition_of}
use Rattle.rv_program.specs.Layout.{place_at, section_base_at, section_end_at}
use Rattle.rv_program.specs.Program.{Program, program_of, statement_at}
use Rattle.rv_store.specs.Symbols.{equ_value_of}
use Rattle.rv_program.specs.Text.{Text}

abbrev pub shown_line_at : Text → (i : ℕ) → ShownLine
shown_line_at text i = record {
  text = get_or text.lines (i - 1) [];
  stmt = statement_at (program_of text.lines) i;
  place = place_at text.base (program_of text.lines) i;
  code = code_at text.base (program_of text.lines) i;
}

abbrev pub section_place_at : (base : ℕ) → Program → (t : ℕ) → SectionPlace
section_place_at base program t = record { base = section_base_at base program t; size = section_end_at program t }

abbrev pub shown_of : Text → Shown
shown_of text = record {
  count = length text.lines;
  line = shown_line_at text;
  section = section_place_at text.base (program_of text.lines);
  definition = definition_of (program_of text.lines);
  value = equ_value_of text.base (program_of text.lines);
}
