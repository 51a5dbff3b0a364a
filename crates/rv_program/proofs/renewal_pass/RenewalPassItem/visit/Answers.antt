use Rattle.std.proofs.Common.{◌≡◌, ◌+◌, ◌-◌, ◌≤◌, length, inl, inr, refl, subst, arith}
use Rattle.rv_program.specs.Counted.{counts_of}
use Rattle.rv_program.specs.internal.Renewals.{AreCounted, AreListed}
use Rattle.rv_program.specs.internal.Revisions.{edited_text}
use Rattle.rv_program.proofs.ChangeLaws.{not_changed}
use Rattle.rv_program.proofs.ListedLines.{none_listed}
use Rattle.rv_program.proofs.RenewalRuns.{first_former, next_due, next_not_due}
use Rattle.rv_program.proofs.renewal_pass.RenewalPassItem.visit.Goals as goal

pub returns-in_default-clause-given : goal.returns-in_default-clause-given
returns-in_default-clause-given g c = (
  λ items left. inr (record {
    not_due = next_not_due _ _ _ _ _ _ _ left (c.in_default.ensures.none refl);
    item = refl;
    counts_stay = refl;
    changed_stay = refl;
    row_stays = refl;
  }),
  refl,
  refl,
  refl,
  refl,
)

pub renewed-requires-clause-invalidated : goal.renewed-requires-clause-invalidated
renewed-requires-clause-invalidated g c = (next_due _ _ _ _ _ _ _ _ c.requires.accepted.1 c.in-Some.ensures.later).0

pub renewed-requires-clause-former : goal.renewed-requires-clause-former
renewed-requires-clause-former g c =
    let r = edited_text c.args.self.now.revision.now in
    first_former r.base r.lines r.edit c.args.before.now.count c.args.item.now c.requires.accepted.0 c.requires.accepted.1.former

pub add_changed-requires-clause-former : goal.add_changed-requires-clause-former
add_changed-requires-clause-former g c =
    let r = edited_text c.args.self.now.revision.now in
    first_former r.base r.lines r.edit c.args.before.now.count c.args.item.now c.requires.accepted.0 c.requires.accepted.1.former

pub returns-in-Ok-None-clause-given : goal.returns-in-Ok-None-clause-given
returns-in-Ok-None-clause-given g c =
    let r = edited_text c.args.self.now.revision.now in
    let count = counts_of g.C.Count.parsed_count g.C.Count.valued_count g.C.Count.encoded_count in
    let k = c.args.before.now.count in
    let revised = c.requires.accepted.1.revised in
    let none = rw c.in-Ok-None.field-0-is at c.in-Ok-None.ensures in
    let back : k + 1 - 1 ≡ k = omega arith in
    let last : k + 1 ≤ length c.args.self.now.rows.now.symbols.text.lines.now = omega (arith, c.requires.accepted.1.lines) in
    let same = not_changed r.base r.lines r.edit (k + 1) revised.allowed (omega arith) (subst (λ ls. k + 1 ≤ length ls) revised.lines last) (none.kept refl) in (
      λ items left. inl (
        record {
          item = none.item;
          counted = subst (λ m. AreCounted r m (k + 1) (count c.args.self.now.counter.now) (count c.renewed.new.counter)) back none.counted;
          listed = none_listed r k (k + 1) c.args.self.now.changed.now.items (omega arith) same;
        },
        (next_due _ _ _ _ _ _ _ _ left c.in-Some.ensures.later).1,
      ),
      refl,
      refl,
      refl,
      refl,
    )

pub returns-in_ok-add_changed-in-Ok-Some-clause-given : goal.returns-in_ok-add_changed-in-Ok-Some-clause-given
returns-in_ok-add_changed-in-Ok-Some-clause-given g c =
    let r = edited_text c.args.self.now.revision.now in
    let count = counts_of g.C.Count.parsed_count g.C.Count.valued_count g.C.Count.encoded_count in
    let k = c.args.before.now.count in
    let some = rw c.in-Ok-Some.field-0-is at c.in-Ok-Some.ensures in
    let back : k + 1 - 1 ≡ k = omega arith in (
      λ items left. inl (
        record {
          item = some.item;
          counted = subst (λ m. AreCounted r m (k + 1) (count c.args.self.now.counter.now) (count c.renewed.new.counter)) back some.counted;
          listed = subst (λ m. AreListed r m (k + 1) c.args.self.now.changed.now.items c.add_changed.new.changed.items) back c.in_ok-add_changed-in-Ok-Some.ensures;
        },
        (next_due _ _ _ _ _ _ _ _ left c.in-Some.ensures.later).1,
      ),
      refl,
      refl,
      refl,
      refl,
    )
