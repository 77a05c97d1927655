-- The value is in the entry at the place for the expression.
use Rattle.std.proofs.Common.{sym, ◌∙◌}
use Rattle.hir_store.specs.Unfolding.{place_of}
use Rattle.hir_store.proofs.Entries.{entry_at_place}
use Rattle.hir_store.proofs.expr_map.ExprMap.get.Goals as goal

pub returns : goal.returns
returns g c = c.value_at.ensures ∙ sym (entry_at_place c.args.self.now (place_of c.args.id) c.place_for.result c.place_for.ensures.rising c.place_for.ensures.place)
