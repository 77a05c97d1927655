use Rattle.std.proofs.Common.{rules, of_calls}
use Rattle.std.specs.FinSet as set
use Rattle.std.specs.FinMap as finite
use Rattle.ra_cfg.proofs.Folding.{agrees_on}
use Rattle.ra_cfg.proofs.cfg_options.CfgOptions.check.Goals as goal

pub returns : goal.returns
returns c =
    c.fold_with.ensures (set.contains c.args.self.now.atoms) (finite.get c.args.self.now.versions)
    (agrees_on _ _ _ (λ atom r told. search (rules, of_calls)))
    (agrees_on _ _ _ (λ text r told. search (rules, of_calls)))
