use Rattle.std.proofs.Common.{◌≡◌, ◌<◌, ◌^◌, ◌∙◌, ap, rules}
use Rattle.rv_code.specs.Encoding.{encoding_of}
use Rattle.rv_code.proofs.Decoded.{found_fields}
use Rattle.rv_code.proofs.Filled.{encoding-fields_at}
use Rattle.rv_code.proofs.decoding.instruction_of.Goals as goal

pub returns-clause-found : goal.returns-clause-found
returns-clause-found c =
    let op = c.args.op in
    let word = c.args.word in
    let below : word < 2 ^ 32 = search rules in
    let same : encoding_of op c.fields_of.result ≡ word = ap (encoding_of op) c.fields_of.ensures ∙ encoding-fields_at op word c.requires.fixed below c.requires.size in
    found_fields c.try_new.result op c.fields_of.result word same c.try_new.ensures.fits c.try_new.ensures.value
