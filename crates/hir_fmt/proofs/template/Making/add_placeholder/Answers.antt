use Rattle.std.proofs.Common.{ap, ◌∙◌, ◌∷◌, [], ◌++◌}
use Rattle.hir_fmt.specs.declared.format_args.FormatArgsPiece.TheVariants.{Placeholder}
use Rattle.hir_fmt.specs.Literal.{source_of}
use Rattle.hir_fmt.specs.Making.{made_of}
use Rattle.hir_fmt.proofs.Placeholders.{finds_added}
use Rattle.hir_fmt.proofs.template.Making.add_placeholder.Goals as goal

pub returns-clause-found : goal.returns-clause-found
returns-clause-found g c =
    finds_added (source_of c.args.literal) c.args.argument (made_of c.args.self.now) _
    (c.in_ok-push.ensures ∙ ap (λ m. (m.0 ++ Placeholder c.in_ok-placeholder.placeholder ∷ [], m.1)) c.in_ok-end_literal.ensures)
    c.in_ok-placeholder.ensures.found
