-- On each way out the answer is that of `decoded`. A line that comes is within its bounds, and its bytes are the record.
use Rattle.std.proofs.Common.{◌≡◌, sym, length, arith, rules}
use Rattle.std.proofs.lemmas.Result.{err_from_is_err_and}
use Rattle.plan.proofs.DecodedLine.{decoded_fit}
use Rattle.plan.proofs.RecordParts.{decoded_fields}
use Rattle.plan.proofs.RoundTrip.{encoded_decoded}
use Rattle.plan.proofs.decode.decode.Goals as goal
use Rattle.plan.specs.Read.{fields_of}
use Rattle.plan.specs.Records.{line, decoded}

pub returns-in_default-clause-exact : goal.returns-in_default-clause-exact
unfolding decoded
returns-in_default-clause-exact c = search rules

pub returns-in_err-line-clause-exact : goal.returns-in_err-line-clause-exact
returns-in_err-line-clause-exact c =
    let bs = c.args.bytes.now in
    let long : length bs ≡ 20 = search rules in
    let parts : c.of.result ≡ fields_of bs = search rules in
    let p = err_from_is_err_and c.from_residual.result c.from_residual.ensures.1 in
    rw (p.1, p.2) (decoded_fields bs long c.of.result parts _ c.in_err-line.ensures)

pub returns : goal.returns
returns c =
    let bs = c.args.bytes.now in
    let l = c.in_ok-line.field-0 in
    let long : length bs ≡ 20 = search rules in
    let parts : c.of.result ≡ fields_of bs = search rules in
    let exact = decoded_fields bs long c.of.result parts (line l) c.in_ok-line.ensures in
    record {
      exact = exact;
      fit = decoded_fit bs l (sym exact);
      back = encoded_decoded bs (λ i. omega (arith, c.type_inv.bytes i)) l (sym exact);
    }
