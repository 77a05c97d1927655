use Rattle.std.proofs.Common.{◌≡◌, ℕ}
use Rattle.std.specs.Prelude.{take}
use Rattle.hir_build.specs.Building.{Builds}
use Rattle.hir_lower.specs.Collector.{around, collector_of}
use Rattle.hir_lower.specs.Lowered.{Lowers, AreMost, most_lets}
use Rattle.hir_lower.proofs.lowering.Lowering.lower_all.Given as goal

abbrev pub invariant-loop-call : goal.invariant-loop-call
invariant-loop-call g l = record {
  lowers : Lowers l.opts (around (g.M.Macros.resolved l.macros) (g.M.Macros.expanded l.macros) (collector_of l.fn.self.builder l.fn.self.expander)) (take l.call-index l.calls) l.outcomes.items l.fn.self.builder l.self.builder;
  within : (most : ℕ) → AreMost l.opts (around (g.M.Macros.resolved l.macros) (g.M.Macros.expanded l.macros) (collector_of l.fn.self.builder l.fn.self.expander)) (take l.call-index l.calls) most → Builds l.fn.self.builder l.self.builder most (most_lets l.opts (take l.call-index l.calls));
  unchanged : l.self.expander ≡ l.fn.self.expander;
}
