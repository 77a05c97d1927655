use Rattle.std.proofs.Common.{length}
use Rattle.std.specs.Str.{chars}
use Rattle.text_cut.specs.Seen.{seen}
use Rattle.syn_trees.proofs.Unescaped.{UnitsSoFar}
use Rattle.syn_trees.proofs.escape.unescape.Given as goal

abbrev pub invariant-loop-meant : goal.invariant-loop-meant
invariant-loop-meant l = UnitsSoFar (chars l.fn.inside) l.text.bytes.items (seen l.here)

abbrev pub decreases-loop-meant : goal.decreases-loop-meant
decreases-loop-meant l = length l.here.rest.now
