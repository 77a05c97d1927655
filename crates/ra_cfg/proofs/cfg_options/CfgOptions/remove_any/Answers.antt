use Rattle.std.proofs.Common.{◌∙◌, sym, rules}
use Rattle.ra_cfg.specs.Options.{IsReserved, name_of}
use Rattle.ra_cfg.proofs.OptionSets.{settable_less, options_of_remove}
use Rattle.ra_cfg.proofs.Reserved.{gone_free}
use Rattle.ra_cfg.proofs.cfg_options.CfgOptions.remove_any.Goals as goal

pub invariant_of-self : goal.invariant_of-self
invariant_of-self c =
    let free : IsReserved (name_of c.args.atom.now) → ⊥ = λ r. search (rules, r) in
    settable_less _ _ c.args.atom.now free c.remove.ensures.updates c.self.invariant

pub returns : goal.returns
returns c =
    let free : IsReserved (name_of c.args.atom.now) → ⊥ = λ r. search (rules, r) in
    options_of_remove _ _ _ _ _ c.remove.ensures.updates c.self.view_is ∙ sym (gone_free c.args.self.now c.args.atom.now free)
