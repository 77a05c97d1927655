use Rattle.std.proofs.Common.{length, string_bytes, false}
use Rattle.cfg_dnf.specs.Form.{form, paths, behind}
use Rattle.cfg_dnf.proofs.TextSteps.{SoText}
use Rattle.cfg_dnf.proofs.dnf.more_text.Given as goal

abbrev pub invariant-loop-choices : goal.invariant-loop-choices
invariant-loop-choices l = SoText (form l.expr false) (string_bytes l.initial.text) l.initial.choices.items (string_bytes l.text) l.choices.items

abbrev pub decreases-loop-choices : goal.decreases-loop-choices
decreases-loop-choices l = length (behind l.choices.items (paths (form l.expr false)))
