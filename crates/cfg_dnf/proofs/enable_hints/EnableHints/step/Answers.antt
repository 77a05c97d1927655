use Rattle.std.proofs.Common.{refl}
use Rattle.cfg_dnf.proofs.Steps.{goes_to, ends_at}
use Rattle.cfg_dnf.proofs.enable_hints.EnableHints.step.Goals as goal

pub returns-then-branch-clause-steps : goal.returns-then-branch-clause-steps
returns-then-branch-clause-steps c = goes_to c.args.self.now _ _ c.requires (record { expr = c.in_ok-find.ensures.along.expr; opts = c.in_ok-find.ensures.along.opts }) refl c.if-branch.true c.in_ok-find.ensures.makes

pub returns-clause-steps : goal.returns-clause-steps
returns-clause-steps c = ends_at c.args.self.now _ _ _ c.requires c.end.ensures.standing c.if-branch.false c.in_ok-find.ensures.makes
