use Rattle.std.proofs.Common.{◌≡◌, ◌+◌, ◌%◌, ◌==◌, ℕ, suc, Bool, true, false, List, length, true≢false, arith, ap, sym, ◌∙◌, refl}
use Rattle.std.specs.Int.{bit_at}
use Rattle.std.proofs.lemmas.Bool.{not-false}
use Rattle.std.proofs.lemmas.Nat.Bits.{bit_at-zero}
use Rattle.rv_stmt.specs.Statement.{statement_of}
use Rattle.rv_program.specs.internal.Masks.{no_mask, part_of, has_name}
use Rattle.rv_program.specs.internal.NameSets.{bucket_of}
use Rattle.rv_program.specs.lemmas.MaskLaws.{part-of_remainders}
use Rattle.rv_program.specs.lemmas.Programs.{length-program}
use Rattle.rv_program.specs.Program.{program_of, lines_that}
use Rattle.rv_store.specs.internal.Appended.{adds}
use Rattle.rv_store.specs.internal.Still.{Touched, uses_any}
use Rattle.rv_store.proofs.ApartLines.{adds-same}
use Rattle.rv_store.proofs.apart.adds_apart.Goals as goal

-- these names, and local labels from the line on
abbrev touching : (List ℕ → Bool) → (from : ℕ) → Touched
touching names from = record { names = names; from = from }

-- no name is in the mask of none
no-name : (bucket : ℕ) → has_name no_mask bucket ≡ false
no-name bucket = ap (λ n. n == 1) (ap (λ n. bit_at n (bucket % 59)) (part-of_remainders 0 (part_of bucket)) ∙ bit_at-zero (bucket % 59))

pub returns-clause-apart : goal.returns-clause-apart
returns-clause-apart c =
    let lines = c.args.searched.now in
    let s = statement_of c.args.line.now in
    let number : c.len.result + 1 ≡ suc (length lines) = omega (arith, c.len.ensures) in
    let same = adds-same lines c.args.names.now c.args.definitions.now s (c.len.result + 1) c.requires.definitions number in
    record {
      near = c.requires.locals;
      unused = λ i first last settled.
          ap (λ f. uses_any (touching f c.args.from) (program_of lines) i) (sym same) ∙ c.in_ok-users.ensures.unsettled i first (omega (arith, last, length-program lines)) settled;
    }

pub returns-clause-nothing : goal.returns-clause-nothing
returns-clause-nothing c none name = at (adds (program_of c.args.searched.now) (statement_of c.args.line.now) name) refl
  where
    number : c.len.result + 1 ≡ suc (length c.args.searched.now)
    number = omega (arith, c.len.ensures)

    at : (b : Bool) → adds (program_of c.args.searched.now) (statement_of c.args.line.now) name ≡ b → adds (program_of c.args.searched.now) (statement_of c.args.line.now) name ≡ false
    at false e = e
    at true e =
        let same = adds-same c.args.searched.now c.args.names.now c.args.definitions.now (statement_of c.args.line.now) (c.len.result + 1) c.requires.definitions number in
        absurd (true≢false (sym (c.added-added.ensures name (ap (λ f. f name) same ∙ e)).has ∙ ap (λ m. has_name m (bucket_of name)) (c.is_none.ensures (not-false c.is_none.result none)) ∙ no-name (bucket_of name)))

pub returns-clause-users : goal.returns-clause-users
returns-clause-users c =
    let lines = c.args.searched.now in
    let number : c.len.result + 1 ≡ suc (length lines) = omega (arith, c.len.ensures) in
    let same = adds-same lines c.args.names.now c.args.definitions.now (statement_of c.args.line.now) (c.len.result + 1) c.requires.definitions number in
    c.in_ok-users.ensures.users ∙ ap (λ f. lines_that (uses_any (touching f c.args.from) (program_of lines)) (length lines)) same
