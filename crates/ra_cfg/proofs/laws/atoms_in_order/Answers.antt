use Rattle.std.proofs.Common.{◌∙◌, sym, ap}
use Rattle.std.specs.Cmp.{tied_itself}
use Rattle.ra_cfg.specs.AtomOrder.{atom_total, same_atom}
use Rattle.ra_cfg.specs.Options.{atom_cmp}
use Rattle.ra_cfg.proofs.laws.atoms_in_order.Goals as goal

pub returns-clause-total : goal.returns-clause-total
returns-clause-total c = atom_total

pub returns-clause-ties : goal.returns-clause-ties
returns-clause-ties c = λ a b. (same_atom a b, λ e. ap (atom_cmp a) (sym e) ∙ tied_itself atom_total a)
