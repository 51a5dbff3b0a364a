use Rattle.std.proofs.Common.{◌≡◌, ◌<◌, length, get_or, arith, ap, ◌∙◌, refl}
use Rattle.std.proofs.lemmas.List.{get_or_default, length-set}
use Rattle.rv_list.specs.declared.view.DefinitionPlace.TheVariants.{Nowhere}
use Rattle.rv_program.specs.Edits.{edit_of}
use Rattle.rv_program.specs.internal.MovedDefinitions.{place_after, found_after}
use Rattle.rv_program.specs.lemmas.MovedDefinitionLaws.{kept-none, kept-more, kept-all}
use Rattle.rv_program.proofs.moved_definitions.keep_places.Goals as goal

pub loop-number-init : goal.loop-number-init
loop-number-init c = record {
  kept = kept-none (edit_of c.args.edit.now) c.args.searched.now c.args.names.now c.args.row.now.items;
  as_many = refl;
}

pub loop-number-preserved : goal.loop-number-preserved
loop-number-preserved c =
    let row = c.loop-number.row.items in
    let number = c.loop-number.number in
    let so_far = c.loop-number.invariant in
    let there : number < length row = omega (arith, c.loop-number-test.true, c.len-number-end.ensures, so_far.as_many) in
    let here : c.index.result.now ≡ get_or row number Nowhere = c.index.ensures ∙ get_or_default row number c.index.result.now Nowhere there in
    record {
      kept = kept-more (edit_of c.args.edit.now) c.args.searched.now c.args.names.now c.args.row.now.items row number
          c.place_after.result so_far.kept there
          (λ name named. c.place_after.ensures name named ∙ ap (place_after (edit_of c.args.edit.now) (found_after (edit_of c.args.edit.now) c.args.searched.now name)) here);
      as_many = length-set row number c.place_after.result ∙ so_far.as_many;
    }

pub returns-clause-row : goal.returns-clause-row
returns-clause-row c =
    kept-all (edit_of c.args.edit.now) c.args.searched.now c.args.names.now c.args.row.now.items c.loop-number.row.items c.loop-number.number c.loop-number.invariant.kept (omega (arith, c.loop-number-test.false, c.len-number-end.ensures))
