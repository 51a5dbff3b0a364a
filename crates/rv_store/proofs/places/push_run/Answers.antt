use Rattle.std.proofs.Common.{◌≡◌, ◌≤◌, ◌<◌, ◌+◌, ◌^◌, length, rules, arith, ap, subst, sym, ◌∙◌, inl, inr}
use Rattle.std.proofs.lemmas.List.{length-append}
use Rattle.rv_layout.specs.declared.measured.Measured.TheVariants.{Bytes}
use Rattle.rv_layout.specs.Sections.{sections}
use Rattle.rv_store.specs.declared.places.Reached.{Reached}
use Rattle.rv_store.specs.internal.Ends.{next_offset, ends_at, IsReached}
use Rattle.rv_store.proofs.EndLaws.{IsPlain, at-offset, next-short, next-IsLimited, plain-size, plain-few, plain-on, reached-next, placed-next}
use Rattle.rv_store.proofs.places.push_run.Goals.{in-Bytes, in-Nothing, in-Nothing-2}
use Rattle.rv_store.proofs.places.push_run.Goals as goal

pub overflow_add-offset : goal.overflow_add-offset
overflow_add-offset c =
    let ms = c.args.shapes.now in
    let i = c.len-in-lines.result in
    let m = c.index-shapes-len.result in
    let r : Reached = record { ends = c.args.reached.now.ends; base = c.args.reached.now.base; offset = c.lines.offset } in
    let many : length r.ends.offsets ≡ sections = search rules in
    let count : length c.lines.row.items ≡ i = search rules in
    let within : i < length ms = search rules in
    let plain : IsPlain m c.match-shapes-len.size = elim c.match-shapes-len.branch [ in-Bytes w ↦ inl (w.in-Bytes.is ∙ ap Bytes (sym w.size-is)) | in-Nothing w ↦ inr (w.in-Nothing.is, w.size-is) | in-Nothing-2 w ↦ inr (w.in-Nothing.is, w.size-is) ] in
    let short : next_offset (ends_at r) ≤ 2 ^ 30 = subst (λ e. next_offset e ≤ 2 ^ 30) (sym c.lines.invariant.reached) (next-short ms (length c.lines.row.items) c.requires.few c.requires.limited) in
    let few = plain-few m c.match-shapes-len.size plain (next-IsLimited ms i m c.requires.limited within c.index-shapes-len.is) in
    omega (arith, short, at-offset r many, few)

pub lines-preserved : goal.lines-preserved
lines-preserved c =
    let ms = c.args.shapes.now in
    let i = c.len-in-lines.result in
    let m = c.index-shapes-len.result in
    let size = c.match-shapes-len.size in
    let r : Reached = record { ends = c.args.reached.now.ends; base = c.args.reached.now.base; offset = c.lines.offset } in
    let q : Reached = record { ends = c.args.reached.now.ends; base = c.args.reached.now.base; offset = c.lines.offset + size } in
    let row = c.lines.row.items in
    let row' = c.push_reserved.new.self.items in
    let many : length r.ends.offsets ≡ sections = search rules in
    let count : length row ≡ i = search rules in
    let within : i < length ms = search rules in
    let plain : IsPlain m size = elim c.match-shapes-len.branch [ in-Bytes w ↦ inl (w.in-Bytes.is ∙ ap Bytes (sym w.size-is)) | in-Nothing w ↦ inr (w.in-Nothing.is, w.size-is) | in-Nothing-2 w ↦ inr (w.in-Nothing.is, w.size-is) ] in
    let more : length row' ≡ i + 1 = ap length c.push_reserved.ensures.items ∙ length-append row _ ∙ ap (λ n. n + 1) count in
    let reached = subst (λ n. IsReached ms n r) count c.lines.invariant.reached in
    record {
      up = omega (arith, c.lines.invariant.up, count, more);
      within = omega (arith, more, within);
      reached = subst (λ n. IsReached ms n q) (sym more) (reached-next ms r q i m row row' size c.index-shapes-len.is within c.requires.few c.requires.limited reached count (plain-on r many m size plain));
      room = subst (λ n. length ms ≤ n) (sym c.push_reserved.ensures.capacity) c.lines.invariant.room;
      same = c.push_reserved.ensures.capacity ∙ c.lines.invariant.same;
      places = λ base bases begins placed.
          placed-next ms r q i m row row' size c.index-shapes-len.is within c.requires.few c.requires.limited reached count base bases begins many (plain-size (next_offset (ends_at r)) m size plain) c.push_reserved.ensures.items (c.lines.invariant.places base bases begins placed);
    }
