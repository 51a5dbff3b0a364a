use Rattle.std.proofs.Common.{◌≡◌, ◌+◌, ◌++◌, [], ◌∷◌, length, Some, take, slice_get, arith, ap, sym, ◌∙◌, add-one, append_assoc}
use Rattle.std.proofs.lemmas.Option.{get_or_from_slice_get, slice_get_within, slice_get-get_or}
use Rattle.std.proofs.lemmas.List.{take-append-le, take_all}
use Rattle.std.proofs.lemmas.Result.{err_from_is_err_and}
use Rattle.std.proofs.Math.Seq.{take-suc}
use Rattle.rv_fix.proofs.payload.Payload.append_each.Goals as goal

pub loop-place-preserved : goal.loop-place-preserved
loop-place-preserved c =
    let bytes = c.args.self.now in
    let before = c.args.list.now.items in
    let k = c.loop-place.place in
    let byte = c.in-Some.byte in
    let found : slice_get bytes k ≡ Some byte = sym c.in-Some.ensures in
    let more : take (k + 1) bytes ≡ take k bytes ++ byte ∷ [] =
    rw add-one (take-suc bytes k byte (slice_get_within bytes k byte found) ∙ ap (λ x. take k bytes ++ x ∷ []) (get_or_from_slice_get bytes k byte byte found)) in
    c.in_ok-push.ensures.items ∙ ap (λ xs. xs ++ byte ∷ []) c.loop-place.invariant ∙ append_assoc before (take k bytes) (byte ∷ []) ∙ ap (λ xs. before ++ xs) (sym more)

pub returns : goal.returns
returns c = record {
  appended = c.loop-place.invariant ∙ ap (λ xs. c.args.list.now.items ++ xs) (take_all c.loop-place.place c.args.self.now (omega arith));
  begins = tt;
}

pub returns-in_err-push-clause-begins : goal.returns-in_err-push-clause-begins
returns-in_err-push-clause-begins c =
    let p = err_from_is_err_and c.from_residual.result c.from_residual.ensures.1 in
    let before = c.args.list.now.items in
    let first = take-append-le (length before) before (take c.loop-place.place c.args.self.now) (omega arith) in
    rw (p.1, c.in_err-push.ensures.items, c.loop-place.invariant, first) (take_all (length before) before (omega arith))

pub unreachable-requires : goal.unreachable-requires
unreachable-requires c =
    let found = slice_get-get_or c.args.self.now c.loop-place.place 0 (omega arith) in
    cc (found, c.byte.ensures)
