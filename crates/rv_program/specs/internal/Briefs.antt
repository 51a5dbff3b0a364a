-- What a line has to do with other lines, in brief.
use Rattle.std.specs.Prelude.{ℕ, ◌==◌, Bool, not, ◌&&◌, ◌||◌, List, length}
use Rattle.std.specs.Option.{is_some}
use Rattle.rv_stmt.specs.declared.statement.Stmt.{Stmt}
use Rattle.rv_stmt.specs.Statement.{statement_of}
use Rattle.rv_program.specs.declared.brief.Brief.{Brief}
use Rattle.rv_program.specs.declared.mask.Kind.{Kind}
use Rattle.rv_program.specs.declared.mask.Mask.{Mask}
use Rattle.rv_program.specs.declared.mask.Kind.TheVariants.{Equ, PcrelHigh, Shaped, Addressed, Uncompared}
use Rattle.rv_program.specs.internal.DefinedNames.{defined_in, mask_of_defined}
use Rattle.rv_program.specs.internal.HighSymbols.{high_symbol_of}
use Rattle.rv_program.specs.internal.Masks.{both_masks, with_kind}
use Rattle.rv_program.specs.internal.NameSets.{brief_of_names, mask_of_used}
use Rattle.rv_program.specs.Jumps.{target_of}
use Rattle.rv_program.specs.internal.Locals.{has_local_labels}
use Rattle.rv_program.specs.Pairs.{pcrel_high_of, low_symbol_of}
use Rattle.rv_program.specs.Uses.{names_used, is_sized, uses_symbols, uses_address, uses_local_label, uses_paired_high, is_equ}

abbrev pub brief_of : Stmt → Brief
brief_of s = record {
  labels = not (length s.labels == 0);
  local_labels = has_local_labels s.labels;
  equ = is_equ s.body;
  pcrel_high = is_some (pcrel_high_of s.body);
  sized = is_sized s.body;
  symbols = uses_symbols s.body;
  names = brief_of_names (names_used s.body);
  defined = defined_in s;
  address = uses_address s.body;
  relative = is_some (target_of s.body) || is_some (high_symbol_of s.body);
  uncompared = uses_local_label s.body || uses_paired_high s.body || is_equ s.body;
  low = is_some (low_symbol_of s.body);
  alone = not (uses_symbols s.body || uses_address s.body || (uses_local_label s.body || uses_paired_high s.body || is_equ s.body));
}

-- the line is of a kind
abbrev pub is_brief_of : Kind → Brief → Bool
is_brief_of Equ b = b.equ
is_brief_of PcrelHigh b = b.pcrel_high
is_brief_of Shaped b = (b.sized && b.symbols) || b.equ
is_brief_of Addressed b = b.address
is_brief_of Uncompared b = b.uncompared && not b.low

-- the names that a line uses, and those that it defines
abbrev pub names_mask : Brief → Mask
names_mask b = both_masks (mask_of_used b.names) (mask_of_defined b.defined)

-- and its kinds
abbrev pub mask_of_brief : Brief → Mask
mask_of_brief b =
    with_kind
    (with_kind (with_kind (with_kind (with_kind (names_mask b) Equ b.equ) PcrelHigh b.pcrel_high) Shaped ((b.sized && b.symbols) || b.equ)) Addressed b.address)
    Uncompared
    (b.uncompared && not b.low)

abbrev pub mask_on : (line : List ℕ) → Mask
mask_on line = mask_of_brief (brief_of (statement_of line))
