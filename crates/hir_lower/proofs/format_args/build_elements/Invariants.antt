use Rattle.std.specs.Prelude.{◌*◌, take}
use Rattle.hir_build.specs.Placed.{AllPlaced}
use Rattle.hir_build.specs.Building.{Builds, SameCaptures}
use Rattle.template_bytes.specs.ShownPairs.{shown_pairs}
use Rattle.format_code.specs.Code.{elements}
use Rattle.hir_lower.specs.FormatOrigins.{elements_origins}
use Rattle.hir_lower.specs.FormatArgs.{syntaxes_of}
use Rattle.hir_lower.proofs.format_args.build_elements.Given as goal

abbrev pub invariant-loop-pair : goal.invariant-loop-pair
invariant-loop-pair l = record {
  placed : AllPlaced l.builder.store l.elements.items
      (elements l.fn.builder.items l.number (shown_pairs (take l.pair-index l.pairs)))
      (elements_origins l.fn.builder.file l.fn.builder.items (syntaxes_of l.args) (shown_pairs (take l.pair-index l.pairs)));
  builds : Builds l.fn.builder l.builder (4 * l.pair-index) 0;
  captures : SameCaptures l.fn.builder.store l.builder.store;
}
