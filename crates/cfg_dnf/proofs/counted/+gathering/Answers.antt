use Rattle.std.proofs.Common.{◌<◌, length, ap, ◌∙◌, arith, is_some}
use Rattle.std.specs.FinMap as finite
use Rattle.cfg_dnf.proofs.Gathered.{gathers_part, opens, gathers_version}
use Rattle.cfg_dnf.proofs.counted.+gathering.Goals as goal

pub gather-returns-in-Version : goal.gather-returns-in-Version
gather-returns-in-Version t c = gathers_version c.args.opts.now c.args.expr.now _ c.args.negated _ _ c.in-Version.is (c.is_some.ensures ∙ ap is_some (c.version.ensures ∙ ap (finite.get c.args.opts.now.versions) c.as_str.ensures))

pub gather_each-returns-then-not-branch : goal.gather_each-returns-then-not-branch
gather_each-returns-then-not-branch t c =
    let within : c.loop-part.part-index < length c.args.parts.now = omega arith in
    opens c.args.opts.now c.args.negated c.args.parts.now c.loop-part.part-index _ _ _ _ within c.part-item.is c.if-not-branch.true c.in_ok-gather.ensures

pub gather_each-loop-part-preserved : goal.gather_each-loop-part-preserved
gather_each-loop-part-preserved t c =
    let within : c.loop-part.part-index < length c.args.parts.now = omega arith in
    gathers_part c.args.opts.now c.args.negated c.args.parts.now c.loop-part.part-index _ _ _ _ _ within c.part-item.is c.loop-part.invariant c.if-not-branch.false c.in_ok-gather.ensures
