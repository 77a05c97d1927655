use Rattle.hir_store.proofs.Entered.{no_dangling_entered}
use Rattle.printer_tests.proofs.printed.note_usages.Goals as goal

pub returns : goal.returns
returns c = rw c.in_ok-insert.ensures.entered (no_dangling_entered _ _ _ c.requires.within c.requires.no_dangling)
