-- The rows of a disassembly.
use Rattle.std.proofs.Common.{ℕ, ◌≤◌, List, [], ◌++◌, arith, ap, sym}
use Rattle.std.proofs.lemmas.List.{append-nil}
use Rattle.std.proofs.lemmas.List.Elements.{All-cons, All-nil}
use Rattle.std.specs.Prelude.{All}
use Rattle.rv_code.specs.declared.word.Word.{Word}
use Rattle.rv_code.specs.declared.word.Word.TheVariants.{Half, Full}
use Rattle.rv_code.specs.Encoding.{word_of}
use Rattle.rv_stmt.specs.declared.section.Sect.TheVariants as section
use Rattle.rv_dis.specs.declared.row.DisRow.{DisRow}
use Rattle.rv_dis.specs.Rows.{Shows, ended, shown, half, byte, instruction_row, word_size}
use Rattle.rv_store.specs.Shown.{shown_of}
use Rattle.rv_program.specs.Text.{Text}
use Rattle.rv_commands.specs.Disassembly.{ShowsSection, next_section, no_sections, IsDisassembly, disassembly_text}

abbrev IsShort : DisRow → Type 0
IsShort row = row.len ≤ 4

word_short : (w : Word) → word_size w ≤ 4
word_short (Half n) = omega arith
word_short (Full n) = omega arith

-- no row has more than four bytes
pub rows_short : {address : ℕ} {bytes : List ℕ} {rows : List DisRow} → Shows address bytes rows → All IsShort rows
rows_short (ended a) = All-nil IsShort
rows_short (shown a o f bytes rows first next) = All-cons IsShort (instruction_row a o f) rows (word_short (word_of o f)) (rows_short next)
rows_short (half a bytes rows two none next) = All-cons IsShort _ rows (omega arith) (rows_short next)
rows_short (byte a bytes one) = All-cons IsShort _ [] (omega arith) (All-nil IsShort)

-- the rows of both sections of code
pub disassembled : (text : Text) (init code : List DisRow) → ShowsSection (shown_of text) section.Init init → ShowsSection (shown_of text) section.Text code → IsDisassembly text (disassembly_text (init ++ code))
disassembled text init code is_init is_code = record {
  rows = init ++ (code ++ []);
  shows = next_section section.Init init _ (code ++ []) is_init (next_section section.Text code [] [] is_code no_sections);
  is = ap (λ rows. disassembly_text (init ++ rows)) (sym (append-nil code));
}
