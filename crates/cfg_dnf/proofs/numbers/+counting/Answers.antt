use Rattle.std.proofs.Common.{◌<◌, length, arith}
use Rattle.cfg_dnf.proofs.Choosing.{product_counted_more}
use Rattle.cfg_dnf.proofs.numbers.+counting.Goals as goal

pub product_count-loop-part-preserved : goal.product_count-loop-part-preserved
product_count-loop-part-preserved t c =
    let within : c.loop-part.part-index < length c.args.parts.now = omega arith in
    product_counted_more c.args.negated c.args.parts.now c.loop-part.part-index c.part-item.result _ _ _ within c.part-item.is c.count.ensures c.loop-part.invariant c.saturating_mul-found.ensures
