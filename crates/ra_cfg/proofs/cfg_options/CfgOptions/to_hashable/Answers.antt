use Rattle.ra_cfg.proofs.SameKept.{listing_kept}
use Rattle.ra_cfg.proofs.Settable.{copied_of_options}
use Rattle.ra_cfg.proofs.cfg_options.CfgOptions.to_hashable.Goals as goal

pub invariant_of-result : goal.invariant_of-result
invariant_of-result c =
    copied_of_options _ _ _ _ c.in_ok-atoms.ensures.kept c.in_ok-versions.ensures.kept c.listed_atoms.ensures.sorted c.listed_versions.ensures.sorted c.self.invariant

pub returns : goal.returns
returns c =
    listing_kept _ _ _ _ c.listed_atoms.ensures.sorted c.listed_versions.ensures.sorted c.self.view_is c.in_ok-atoms.ensures.kept c.in_ok-versions.ensures.kept
