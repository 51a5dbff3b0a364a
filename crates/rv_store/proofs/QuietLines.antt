-- Lines that have no faults.
use Rattle.std.proofs.Common.{◌≡◌, ℕ, ◌%◌, ◌==◌, true, false, true≢false, not, ◌&&◌, [], ◌++◌, length, Option, Some, None, is_some, ap, ◌∙◌, refl}
use Rattle.std.specs.List.{list_any}
use Rattle.std.proofs.lemmas.Bool.{and_right, or_parts}
use Rattle.rv_text.specs.declared.faults.Fault.{Fault}
use Rattle.rv_text.specs.declared.faults.FaultNumber.{FaultNumber}
use Rattle.rv_text.specs.declared.faults.FaultNumber.TheVariants.{OddAddress, InBss}
use Rattle.rv_text.specs.declared.lexeme.Span.{Span}
use Rattle.rv_stmt.specs.declared.section.Sect.{Sect}
use Rattle.rv_stmt.specs.declared.section.Sect.TheVariants.{Bss}
use Rattle.rv_stmt.specs.declared.statement.Body.{Body}
use Rattle.rv_stmt.specs.declared.statement.Body.TheVariants.{Equ}
use Rattle.rv_stmt.specs.Statement.{name_of}
use Rattle.rv_layout.specs.Sections.{section_number}
use Rattle.rv_list.specs.Faults.{fault_at_name, label_faults, equ_faults, body_faults, is_instruction, is_at_odd_address, is_lost_in_bss, faults_of}
use Rattle.rv_list.specs.Shown.{Shown, ShownLine, shows_bytes}
use Rattle.rv_store.specs.internal.Passed.{is_bss, may_be_misplaced}
use Rattle.rv_program.specs.Uses.{is_equ}
use Rattle.rv_program.specs.lemmas.Lists.{no-items}

none-at_name : (number : FaultNumber) (name : Option Span) → fault_at_name false number name ≡ []
none-at_name number None = refl
none-at_name number (Some span) = refl

no-equ : (shown : Shown) (k : ℕ) (body : Body) → is_equ body ≡ false → equ_faults shown k body ≡ []
no-equ shown k (Equ d) equ = absurd (true≢false equ)
no-equ shown k body equ = refl

no-fault : (fault : Option Fault) → is_some fault ≡ false → body_faults fault ≡ []
no-fault None none = refl
no-fault (Some fault) none = absurd (true≢false none)

shown-section : (section : Sect) → is_bss section ≡ false → shows_bytes (section_number section) ≡ true
shown-section Bss bss = absurd (true≢false bss)
shown-section section bss = refl

module _ (shown : Shown) (k : ℕ) (line : ShownLine) (labels : not (length line.stmt.labels == 0) ≡ false) (equ : is_equ line.stmt.body ≡ false) (code : is_some line.code.fault ≡ false) (place : may_be_misplaced line.place ≡ false) where
  -- no labels, no `.equ`, no fault of its body, an even address, and a section whose bytes are shown
  pub quiet-line : faults_of shown k line ≡ []
  unfolding faults_of
  quiet-line =
      let parts = or_parts (line.place.address % 2 == 1) (is_bss line.place.section) place in
      let even : is_at_odd_address line.stmt.body line.place ≡ false =
      ap (λ odd. is_instruction line.stmt.body && (not (line.place.size == 0) && odd)) parts.0
      ∙ ap (λ b. is_instruction line.stmt.body && b) (and_right (not (line.place.size == 0)) false refl)
      ∙ and_right (is_instruction line.stmt.body) false refl in
      let shows : is_lost_in_bss line.place.section line.code.payload ≡ false = ap (λ b. not b && list_any (λ byte. not (byte == 0)) line.code.payload) (shown-section line.place.section parts.1) in
      let none : line.stmt.labels ≡ [] = no-items line.stmt.labels labels in
      let name = name_of line.stmt.body in
      (λ i. label_faults shown k 0 (none i) ++ (no-equ shown k line.stmt.body equ i ++ (no-fault line.code.fault code i ++ (fault_at_name (even i) OddAddress name ++ fault_at_name (shows i) InBss name))))
      ∙ (λ i. none-at_name OddAddress name i ++ none-at_name InBss name i)
