use Rattle.std.proofs.Common.{◌≡◌, ◌<◌, ◌≤◌, ◌-◌, ◌∙◌, length, get_or, sym, ap, arith}
use Rattle.std.proofs.lemmas.Str.{IsCharBoundary-after_ascii}
use Rattle.planus_cli.proofs.include.folder_length.Goals as goal

pub returns-then-bytes-n-eq47-clause-behind : goal.returns-then-bytes-n-eq47-clause-behind
returns-then-bytes-n-eq47-clause-behind c =
    let name = c.args.name.now in
    let n = c.bytes.n in
    let some : 0 < n = c.bytes-test.true in
    let within : n ≤ length name = c.bytes.invariant.within in
    let slash : get_or name (n - 1) 0 ≡ 47 =
    ap (λ l. get_or l (n - 1) 0) (sym c.as_bytes-bytes.ensures.value) ∙ c.if-bytes-n-eq47.true in
    IsCharBoundary-after_ascii name (n - 1) c.utf8.name (omega (arith, some, within))
    (omega (arith, slash))
