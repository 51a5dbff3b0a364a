use Rattle.std.proofs.Common.{◌<◌, ◌∙◌, ap, sym, subst, Some}
use Rattle.rv_manual.specs.Fields.{fixed_below, format_of, slice_below, stretch_below, stretch_of_slice, stretch_or}
use Rattle.rv_manual.proofs.FormatFacts.{has_value_bit}
use Rattle.rv_manual.proofs.fields.stretch_below.Goals as goal

pub stretch_of_slice-requires-clause-value : goal.stretch_of_slice-requires-clause-value
stretch_of_slice-requires-clause-value c = subst (λ names. names.value_bit < 32) (sym c.format_of-format.ensures.names) (has_value_bit c.args.op)

pub returns-in-Some : goal.returns-in-Some
unfolding stretch_below
returns-in-Some c =
    let format = format_of c.args.op in
    let found = c.in-Some.ensures.value ∙ ap (slice_below c.args.end) c.slices.ensures.value in
    record {
      value = ap Some (c.stretch_of_slice.ensures.value ∙ ap (λ names. stretch_of_slice names c.in-Some.slice) c.format_of-format.ensures.names)
          ∙ ap (λ s. stretch_or format.0 s (fixed_below c.args.end format.1.now)) found;
      placed = c.stretch_of_slice.ensures.placed;
    }

pub returns-in-None : goal.returns-in-None
unfolding stretch_below
returns-in-None c =
    let format = format_of c.args.op in
    let none = c.in-None.ensures.value ∙ ap (slice_below c.args.end) c.slices.ensures.value in
    record {
      value = c.fixed_below.ensures.value ∙ ap (fixed_below c.args.end) c.format_of-format.ensures.fixed
          ∙ ap (λ s. stretch_or format.0 s (fixed_below c.args.end format.1.now)) none;
      placed = c.fixed_below.ensures.placed;
    }
