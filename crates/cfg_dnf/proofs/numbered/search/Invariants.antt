use Rattle.cfg_dnf.proofs.Searching.{HasSearched}
use Rattle.cfg_dnf.proofs.numbered.search.Given as goal

abbrev pub invariant-loop-number : goal.invariant-loop-number
invariant-loop-number l = HasSearched l.opts l.expr l.start l.number l.choices.items
