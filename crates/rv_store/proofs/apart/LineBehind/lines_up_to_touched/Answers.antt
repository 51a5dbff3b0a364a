use Rattle.std.proofs.Common.{◌≡◌, ◌-◌, ◌<◌, ◌≤◌, ◌⊎◌, inl, inr, true, false, length, arith, ap, refl, ◌∙◌}
use Rattle.std.proofs.lemmas.Bool.{cases_lt, lt-leb, and_left, and_right, or_from}
use Rattle.rv_program.specs.declared.mask.Kind.TheVariants.{Uncompared}
use Rattle.rv_program.specs.internal.Masks.{has_name, has_kind}
use Rattle.rv_program.specs.internal.NameSets.{bucket_of}
use Rattle.rv_program.specs.lemmas.MaskLaws.{name-kept, kind-added}
use Rattle.rv_program.specs.Program.{program_of}
use Rattle.rv_store.specs.internal.Apart.{touched_by}
use Rattle.rv_store.specs.internal.Still.{uses_any}
use Rattle.rv_store.proofs.ApartLines.{unnamed-by_mask, no_local-by_mask}
use Rattle.rv_store.proofs.apart.LineBehind.lines_up_to_touched.Goals.{then-i-local+else-next-local, else-i-local}
use Rattle.rv_store.proofs.apart.LineBehind.lines_up_to_touched.Goals as goal

pub returns-then-next-local-clause-passed : goal.returns-then-next-local-clause-passed
returns-then-next-local-clause-passed c line past last =
    let lines = c.args.searched.now in
    let next = c.next-next.ensures in
    or_from _ _
    (unnamed-by_mask lines c.args.self.now line (omega (arith, past)) (omega (arith, last, next.within)) c.args.added c.requires.added (next.passed (line - 1) (omega (arith, past)) (omega (arith, past, last))))
    (and_left _ _ (lt-leb c.args.self.now.from line (omega (arith, past, last, c.if-next-local.true, c.min-local.ensures, c.saturating_sub.ensures))))

pub returns-clause-passed : goal.returns-clause-passed
returns-clause-passed c line past last = at (cases_lt c.max.result line)
  where
    at : (c.max.result < line) ⊎ (line ≤ c.max.result) → uses_any (touched_by c.args.self.now) (program_of c.args.searched.now) line ≡ false
    at (inr before) = elim c.if-i-local.branch [
      | then-i-local+else-next-local w ↦
          let next = w.next-next.ensures in
          or_from _ _
          (unnamed-by_mask c.args.searched.now c.args.self.now line (omega (arith, past)) (omega (arith, before, c.max.ensures, w.if-i-local.true, w.if-next-local.false, next.within)) c.args.added c.requires.added
          (next.passed (line - 1) (omega (arith, past)) (omega (arith, past, before, c.max.ensures, w.if-i-local.true, w.if-next-local.false))))
          (and_left _ _ (lt-leb c.args.self.now.from line (omega (arith, past, before, c.max.ensures, w.if-i-local.true, c.min-local.ensures, c.saturating_sub.ensures))))
      | else-i-local w ↦ absurd (omega (arith, past, before, c.max.ensures, w.if-i-local.false))
    ]
    at (inl after) =
        let lines = c.args.searched.now in
        let wanted = c.with_kind.result in
        let next = c.next.ensures in
        let first : 1 ≤ line = omega (arith, past) in
        let within : line ≤ length lines = omega (arith, last, next.within) in
        let lacks = next.passed (line - 1) (omega (arith, after)) (omega (arith, past, last)) in
        or_from _ _
        (unnamed-by_mask lines c.args.self.now line first within wanted
        (λ name adds. record { has = ap (λ m. has_name m (bucket_of name)) c.with_kind.ensures ∙ name-kept c.args.added Uncompared true (bucket_of name) (c.requires.added name adds).has })
        lacks)
        (and_right _ _
        (no_local-by_mask lines c.args.self.now line first within wanted
        (ap (λ m. has_kind m Uncompared) c.with_kind.ensures ∙ kind-added c.args.added Uncompared true refl) lacks))
