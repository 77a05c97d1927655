use Rattle.std.proofs.Common.{◌≡◌, ◌≤◌, ap, sym, subst, ◌∙◌}
use Rattle.hir_expander.specs.Machine.{max_recursion_limit, step_of}
use Rattle.hir_expander.proofs.Reaches.{limit_stays, nothing_entered}
use Rattle.hir_expander.proofs.reach.+reaching.Goals as goal

pub reach-returns-in-None-clause-literal : goal.reach-returns-in-None-clause-literal
reach-returns-in-None-clause-literal g c l =
    let same : l.enter_expand.new.self.limit ≡ l.args.expander.now.limit = ap (λ machine. machine.limit) l.enter_expand.ensures.state ∙ limit_stays (g.M.Macros.mapped l.args.macros.now) l.args.expander.now (step_of l.args.expander.now l.in-Macro.call (g.M.Macros.resolved l.args.macros.now l.args.expander.now.current.file_id l.in-Macro.call)) in
    let limit : l.args.expander.now.limit ≤ max_recursion_limit = subst (λ limit. limit ≤ max_recursion_limit) same l.enter_expand.ensures.bounded.0 in
    sym (rw l.in-Macro.is (nothing_entered _ _ l.args.expander.now l.in-Macro.call l.in-Ok.entry (record { limit = limit; depth = l.requires.depth }) l.in-Ok.ensures.answer l.in-None.is))
