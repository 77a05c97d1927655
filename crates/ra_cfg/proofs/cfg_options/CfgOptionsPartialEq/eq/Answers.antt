use Rattle.std.proofs.Common.{◌∙◌, sym}
use Rattle.ra_cfg.proofs.SameKept.{same_options_kept, first_holds, first_fails}
use Rattle.ra_cfg.proofs.cfg_options.CfgOptionsPartialEq.eq.Goals as goal

pub returns-then-eq : goal.returns-then-eq
returns-then-eq c =
    let same = same_options_kept _ _ _ _ _ _ c.len.ensures.ordered c.len-2.ensures.ordered c.len-3.ensures.ordered c.len-4.ensures.ordered c.self.view_is c.other.view_is in
    c.eq-then-eq.ensures ∙ sym (same ∙ first_holds _ _ (sym c.eq.ensures ∙ c.if-eq.true))

pub returns-else-eq : goal.returns-else-eq
returns-else-eq c =
    let same = same_options_kept _ _ _ _ _ _ c.len.ensures.ordered c.len-2.ensures.ordered c.len-3.ensures.ordered c.len-4.ensures.ordered c.self.view_is c.other.view_is in
    c.if-eq.false ∙ sym (same ∙ first_fails _ _ (sym c.eq.ensures ∙ c.if-eq.false))
