use Rattle.ra_cfg.proofs.Appending.{atoms_copied, answers_copied, options_of_append, settable_append}
use Rattle.ra_cfg.proofs.cfg_options.CfgOptions.append.Goals as goal

pub invariant_of-self : goal.invariant_of-self
invariant_of-self c =
    settable_append c.self.inside.enabled c.in_ok-enabled.enabled c.other.inside.enabled c.append.new.self (atoms_copied _ _ c.in_ok-enabled.ensures.cases) c.in_ok-append.ensures.inserts_all
    c.self.invariant c.other.invariant

pub returns-clause-ok : goal.returns-clause-ok
returns-clause-ok c =
    options_of_append c.self.inside.enabled c.in_ok-enabled.enabled c.other.inside.enabled c.append.new.self
    c.self.inside.versions c.in_ok-versions.versions c.other.inside.versions c.append-2.new.self _ _
    (atoms_copied _ _ c.in_ok-enabled.ensures.cases) c.in_ok-append.ensures.inserts_all
    (answers_copied _ _ c.in_ok-versions.ensures.cases) c.in_ok-append-2.ensures.inserts_all c.append-2.ensures.other_was_ordered
    c.self.view_is c.other.view_is
