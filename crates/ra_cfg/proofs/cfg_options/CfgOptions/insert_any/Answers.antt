use Rattle.std.proofs.Common.{◌∙◌, sym, rules}
use Rattle.ra_cfg.specs.Options.{IsReserved, name_of}
use Rattle.ra_cfg.proofs.OptionSets.{settable_later, options_of_insert}
use Rattle.ra_cfg.proofs.Reserved.{new_free}
use Rattle.ra_cfg.proofs.cfg_options.CfgOptions.insert_any.Goals as goal

pub invariant_of-self-2 : goal.invariant_of-self-2
invariant_of-self-2 c =
    let free : IsReserved (name_of c.args.atom) → ⊥ = λ r. search (rules, r) in
    settable_later _ _ c.args.atom free c.in_ok-insert.ensures.updates c.self.invariant

pub returns-clause-set : goal.returns-clause-set
returns-clause-set c = options_of_insert _ _ _ _ _ c.in_ok-insert.ensures.updates c.self.view_is

pub returns-clause-free : goal.returns-clause-free
returns-clause-free c =
    let free : IsReserved (name_of c.args.atom) → ⊥ = λ r. search (rules, r) in
    options_of_insert _ _ _ _ _ c.in_ok-insert.ensures.updates c.self.view_is ∙ sym (new_free c.args.self.now c.args.atom free)
