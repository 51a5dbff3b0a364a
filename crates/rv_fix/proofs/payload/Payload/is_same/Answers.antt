use Rattle.std.proofs.Common.{◌≡◌, ◌∙◌, sym}
use Rattle.std.proofs.lemmas.Bool.Decides.{Decides-eqb}
use Rattle.std.proofs.lemmas.Slice.Eq.{slice_eq-Decides}
use Rattle.rv_fix.proofs.payload.Payload.is_same.Goals as goal

pub returns-in-Bytes-form : goal.returns-in-Bytes-form
returns-in-Bytes-form c =
    let left : c.as_slice.result.now ≡ c.args.self.now = c.as_slice.ensures ∙ rw c.in-Bytes.is at c.self.view_is in
    let right : c.as_slice-in-Bytes-form.result.now ≡ c.args.other.now = c.as_slice-in-Bytes-form.ensures ∙ rw c.in-Bytes-form.is at c.other.view_is in
    let decides = slice_eq-Decides Decides-eqb c.as_slice.result.now c.as_slice-in-Bytes-form.result.now c.eq.result c.eq.ensures in
    (λ is. sym left ∙ decides.0 is ∙ right, λ same. decides.1 (left ∙ same ∙ sym right))
