use Rattle.std.proofs.Common.{◌∙◌, refl}
use Rattle.hir_expander.proofs.Marks.{restored_whole, restored_depth}
use Rattle.hir_expander.proofs.laws.marks_restore.Goals as goal

pub returns-clause-depth : goal.returns-clause-depth
returns-clause-depth c = restored_whole

pub returns-clause-ended : goal.returns-clause-ended
returns-clause-ended c machine id maps inner can came file = restored_depth machine id maps inner can came ∙ rw file refl

pub returns-clause-lasting : goal.returns-clause-lasting
returns-clause-lasting c machine id maps inner can came file = restored_depth machine id maps inner can came ∙ rw file refl
