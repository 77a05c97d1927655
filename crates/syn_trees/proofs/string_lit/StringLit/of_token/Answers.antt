use Rattle.std.proofs.Common.{sym, subst}
use Rattle.syn_trees.specs.Literal.{IsLiteral}
use Rattle.syn_trees.proofs.Literals.{literal_known}
use Rattle.syn_trees.proofs.string_lit.StringLit.of_token.Goals as goal

pub invariant_of-result : goal.invariant_of-result
invariant_of-result c = subst (λ l. IsLiteral l) (sym c.in_ok-token.ensures) (literal_known c.args.token.text.now c.args.token.literal)
