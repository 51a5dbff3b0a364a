-- What is shown of texts that are written out.
use Rattle.std.specs.Prelude.{ℕ, ◌-◌, length, map, get_or}
use Rattle.rv_list.specs.Shown.{Shown}
use Rattle.examples.specs.declared.table.Table.{Table}
use Rattle.examples.specs.Tables.{no_line, no_section, known}

-- each line, each section and each name
abbrev pub shown_table : Table → Shown
shown_table t = record {
  count = length t.rows.items;
  line = λ k. get_or (map (λ r. record { text = r.text.now; stmt = r.stmt; place = r.place; code = r.code }) t.rows.items) (k - 1) no_line;
  section = λ s. get_or t.sections s no_section;
  definition = λ name. (known t.names.items name).0;
  value = λ name. (known t.names.items name).1;
}

-- a text, and how many of its lines were passed
pub record PassedRows : Type 0 where
  pub table : Table
  pub count : ℕ
