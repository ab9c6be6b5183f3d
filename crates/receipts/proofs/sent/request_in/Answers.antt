use Rattle.std.proofs.Common.{◌≡◌, ◌∙◌, ap, length, vec_len, refl, arith}
use Rattle.receipts.proofs.ReadBack.{read_back}
use Rattle.receipts.proofs.sent.request_in.Goals as goal

pub returns : goal.returns
returns c request sendable same =
    let list = read_back request sendable c.args.bytes.now c.in_ok-found.found.items same c.in_ok-found.ensures.all in
    let one : vec_len c.in_ok-found.found ≡ 1 = omega (arith, c.in_ok-found.found.ok.0, ap length list) in
    c.pop.ensures.value request (omega (arith, one)) ∙ rw (one, list) refl
