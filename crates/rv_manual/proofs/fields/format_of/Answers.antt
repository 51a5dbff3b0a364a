use Rattle.std.proofs.Common.{◌≡◌, ◌∙◌, ap, sym, subst, map, slice_index_or, [], IsTrue}
use Rattle.std.specs.List.{list_all}
use Rattle.rv_manual.specs.declared.formats.TheConstants.{FORMATS}
use Rattle.rv_manual.specs.Fields.{format_number, format_of, is_stretch, no_format}
use Rattle.rv_manual.proofs.FormatFacts.{are_stretches, slice_index_or-map}
use Rattle.rv_manual.proofs.fields.format_of.Goals as goal

pub returns : goal.returns
unfolding format_of
returns c =
    let op = c.args.op in
    let fixed : c.format_at.result.fixed.now ≡ (format_of op).1.now =
    c.format_at.ensures.fixed ∙ ap (λ n. slice_index_or (map (λ row. row.1.now) FORMATS) n []) c.format_number.ensures.value
    ∙ sym (slice_index_or-map (λ row. row.1.now) FORMATS (format_number op) no_format) in
    record {
      names = c.format_at.ensures.names ∙ ap (λ n. slice_index_or (map (λ row. row.0) FORMATS) n no_format.0) c.format_number.ensures.value
          ∙ sym (slice_index_or-map (λ row. row.0) FORMATS (format_number op) no_format);
      fixed = fixed;
      placed = subst (λ ss. IsTrue (list_all is_stretch ss)) (sym fixed) (are_stretches op);
    }
