use Rattle.std.proofs.Common.{arith}
use Rattle.hir_fmt.proofs.read.span_shift.Goals as goal

pub returns-clause-short : goal.returns-clause-short
returns-clause-short c = λ text fits.
    let most = fits _ _ c.quote_offsets.ensures.between in
    omega (arith, most)
