use Rattle.std.proofs.Common.{ap, subst, sym, ◌∙◌}
use Rattle.std.specs.FinSet as set
use Rattle.ra_cfg.specs.Options.{OptionSet, IsSettable}
use Rattle.ra_cfg.specs.AtomOrder.{atom_total}
use Rattle.ra_cfg.proofs.cfg_options.CfgOptions.check_atom.Goals as goal

pub returns-clause-value : goal.returns-clause-value
returns-clause-value c = c.contains.ensures ∙ sym (set.contains-from_list atom_total c.self.inside.enabled.keys c.args.cfg.now) ∙ ap (λ (o : OptionSet). set.contains o.atoms c.args.cfg.now) c.self.view_is

pub returns-clause-settable : goal.returns-clause-settable
returns-clause-settable c = subst IsSettable (ap (λ (o : OptionSet). o.atoms) c.self.view_is) c.self.invariant
