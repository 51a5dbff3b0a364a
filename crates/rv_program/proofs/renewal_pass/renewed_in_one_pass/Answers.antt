use Rattle.std.proofs.Common.{[], length, refl, ap, sym, arith}
use Rattle.std.proofs.lemmas.Result.{IfOk-weaker}
use Rattle.rv_program.specs.Counted.{counts_of}
use Rattle.rv_program.specs.internal.ValueRows.{base_of}
use Rattle.rv_program.specs.lemmas.ItemLaws.{no_items}
use Rattle.rv_program.specs.internal.Renewals.{AreLeft, done-next}
use Rattle.rv_program.specs.internal.Revisions.{edited_text}
use Rattle.rv_program.proofs.RenewalRuns.{all_left, visited, run_items, run_listed, outcome_counted}
use Rattle.rv_program.proofs.renewal_pass.renewed_in_one_pass.Goals as goal

pub rewritten-requires : goal.rewritten-requires
rewritten-requires g c = record {
  accepted = all_left _ c.args.rows.now c.args.items.now.items c.args.due.now _ c.requires.revised c.requires.count c.requires.due c.requires.former c.requires.valued c.requires.encoded;
}

pub returns-clause-items : goal.returns-clause-items
returns-clause-items g c =
    let count = counts_of g.C.Count.parsed_count g.C.Count.valued_count g.C.Count.encoded_count in
    let rows = c.args.rows.now in
    IfOk-weaker c.rewritten.result _ _
    (λ t r. run_items _ (λ p b xs. AreLeft (edited_text p.revision.now) p.rows.now p.ahead.now b xs (count p.counter.now)) (λ p. edited_text p.revision.now) (λ p. p.rows.now) (λ p. count p.counter.now) (λ p. p.changed.now.items) (λ p. p.changed.ghost_name) (λ p. p.counter.ghost_name)
    (λ p q b x y xs can g. done-next (edited_text p.revision.now) (edited_text q.revision.now) p.rows.now q.rows.now _ _ b x y xs _ _ _ _ can g.0 g.1 g.2)
    (λ p q b x y xs can g. (visited (edited_text p.revision.now) p.rows.now b x y xs _ _ _ _ _ _ can g.0, g.1, g.2, g.3, g.4)) rows (length c.args.items.now.items) [] refl (all_left _ c.args.rows.now c.args.items.now.items c.args.due.now _ c.requires.revised c.requires.count c.requires.due c.requires.former c.requires.valued c.requires.encoded) r c.requires.revised.few c.requires.count (omega arith) (no_items (base_of rows) rows.symbols.text.lines.now))
    c.rewritten.ensures.runs

pub returns-clause-changed : goal.returns-clause-changed
returns-clause-changed g c =
    let count = counts_of g.C.Count.parsed_count g.C.Count.valued_count g.C.Count.encoded_count in
    IfOk-weaker c.rewritten.result _ _
    (λ t r. run_listed _ (λ p b xs. AreLeft (edited_text p.revision.now) p.rows.now p.ahead.now b xs (count p.counter.now)) (λ p. edited_text p.revision.now) (λ p. p.rows.now) (λ p. count p.counter.now) (λ p. p.changed.now.items) (λ p. p.changed.ghost_name) (λ p. p.counter.ghost_name)
    (λ p q b x y xs can g. done-next (edited_text p.revision.now) (edited_text q.revision.now) p.rows.now q.rows.now _ _ b x y xs _ _ _ _ can g.0 g.1 g.2)
    (λ p q b x y xs can g. (visited (edited_text p.revision.now) p.rows.now b x y xs _ _ _ _ _ _ can g.0, g.1, g.2, g.3, g.4)) (edited_text c.args.revision.now) (length c.args.items.now.items) refl (all_left _ c.args.rows.now c.args.items.now.items c.args.due.now _ c.requires.revised c.requires.count c.requires.due c.requires.former c.requires.valued c.requires.encoded) r (omega (arith, c.requires.revised.few, c.requires.count)) (omega arith) refl c.requires.changed _ (λ e. ap (λ v. v.items) (c.changed-1.given.1 e)))
    c.rewritten.ensures.runs

pub returns-clause-counted : goal.returns-clause-counted
returns-clause-counted g c =
    let count = counts_of g.C.Count.parsed_count g.C.Count.valued_count g.C.Count.encoded_count in
    let all = outcome_counted _ (λ p b xs. AreLeft (edited_text p.revision.now) p.rows.now p.ahead.now b xs (count p.counter.now)) (λ p. edited_text p.revision.now) (λ p. p.rows.now) (λ p. count p.counter.now) (λ p. p.changed.now.items) (λ p. p.changed.ghost_name) (λ p. p.counter.ghost_name)
    (λ p q b x y xs can g. done-next (edited_text p.revision.now) (edited_text q.revision.now) p.rows.now q.rows.now _ _ b x y xs _ _ _ _ can g.0 g.1 g.2)
    (λ p q b x y xs can g. (visited (edited_text p.revision.now) p.rows.now b x y xs _ _ _ _ _ _ can g.0, g.1, g.2, g.3, g.4))
    _ (λ p q b x s. s) (edited_text c.args.revision.now) (length c.args.items.now.items) refl (all_left _ c.args.rows.now c.args.items.now.items c.args.due.now _ c.requires.revised c.requires.count c.requires.due c.requires.former c.requires.valued c.requires.encoded) (omega (arith, c.requires.revised.few, c.requires.count)) (omega arith) c.rewritten.result (λ t. t.items) c.rewritten.ensures.runs c.rewritten.ensures.stops in
    rw (c.counter-1.given.1 (sym all.1)) all.0
