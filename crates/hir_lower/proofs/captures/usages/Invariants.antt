use Rattle.std.proofs.Common.{◌≡◌, map, take}
use Rattle.hir_lower.specs.Captures.{usages_of}
use Rattle.hir_lower.specs.NameLog.{entry_of}
use Rattle.hir_lower.proofs.captures.usages.Given as goal

abbrev pub invariant-loop-logged : goal.invariant-loop-logged
invariant-loop-logged l = l.usages.items ≡ usages_of (map entry_of (take l.logged-index l.entries))
