-- Lines that are not what is looked for.
use Rattle.std.specs.Prelude.{◌≡◌, ℕ, suc, ◌≤◌, ◌<◌, Bool, false, not, ◌&&◌, ◌||◌}
use Rattle.std.specs.Option.{is_some}
use Rattle.rv_stmt.specs.declared.statement.Body.{Body}
use Rattle.rv_program.specs.declared.mask.Kind.{Kind}
use Rattle.rv_program.specs.declared.mask.Kind.TheVariants.{Equ, PcrelHigh, Shaped, Addressed, Uncompared}
use Rattle.rv_program.specs.Pairs.{pcrel_high_of, low_symbol_of}
use Rattle.rv_program.specs.Program.{Program, body_at}
use Rattle.rv_program.specs.Uses.{is_equ, is_sized, uses_symbols, uses_address, uses_local_label, uses_paired_high}

abbrev pub is_of_kind : Kind → Body → Bool
is_of_kind Equ body = is_equ body
is_of_kind PcrelHigh body = is_some (pcrel_high_of body)
is_of_kind Shaped body = (is_sized body && uses_symbols body) || is_equ body
is_of_kind Addressed body = uses_address body
is_of_kind Uncompared body = (uses_local_label body || uses_paired_high body || is_equ body) && not (is_some (low_symbol_of body))

-- none of the lines after line i, up to line j, passes a test
pub record AreWithout (test : Body → Bool) (program : Program) (i j : ℕ) : Type 0 where
  pub each : (k : ℕ) → i ≤ k → k < j → test (body_at program (suc k)) ≡ false
