use Rattle.hir_fmt.specs.Literal.{source_of}
use Rattle.hir_fmt.specs.Making.{made_of}
use Rattle.hir_fmt.proofs.Walks.{ok_weaker}
use Rattle.hir_fmt.proofs.Placeholders.{finds_piece}
use Rattle.hir_fmt.proofs.template.Making.add.Goals as goal

pub returns-in-NextArgument-clause-found : goal.returns-in-NextArgument-clause-found
returns-in-NextArgument-clause-found g c =
    ok_weaker c.add_placeholder.result (λ done p. finds_piece (source_of c.args.literal) (made_of c.args.self.now) c.args.piece c.in-NextArgument.argument c.in-NextArgument.is p) c.add_placeholder.ensures.found
