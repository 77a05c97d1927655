use Rattle.std.proofs.Common.{arith, ◌∙◌}
use Rattle.hir_build.proofs.Builds.{builds_then, builds_within}
use Rattle.hir_build.proofs.Placed.{all_placed_later}
use Rattle.hir_lower.specs.FormatArgs.{syntaxes_of}
use Rattle.hir_lower.proofs.Elements.{elements_next}
use Rattle.hir_lower.proofs.format_args.build_elements.Goals as goal

pub loop-pair-preserved : goal.loop-pair-preserved
loop-pair-preserved c =
    let before = all_placed_later _ _ c.in_ok-element.ensures.builds.grows _ _ _ c.loop-pair.invariant.placed in
    let one = rw (c.loop-pair.invariant.builds.items, c.loop-pair.invariant.builds.file, c.syntax_of-syntax.ensures) at c.in_ok-element.ensures.placed in
    record {
      placed = rw c.in_ok-push.ensures.items (elements_next c.args.builder.now.file c.args.builder.now.items (syntaxes_of c.args.args.now) _ _ _ _ _ _ _ c.loop-pair-test.true before one);
      builds = builds_within (builds_then c.loop-pair.invariant.builds c.in_ok-element.ensures.builds) (omega arith) (omega arith);
      captures = c.in_ok-element.ensures.captures ∙ c.loop-pair.invariant.captures;
    }
