use Rattle.std.proofs.Common.{map, take}
use Rattle.hir_lower.specs.Captures.{Places}
use Rattle.hir_lower.specs.NameLog.{entry_of}
use Rattle.hir_lower.proofs.captures.place_all.Given as goal

abbrev pub invariant-loop-logged : goal.invariant-loop-logged
invariant-loop-logged l = Places l.template l.fn.builder (map entry_of (take l.logged-index l.entries)) l.builder
