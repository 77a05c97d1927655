use Rattle.std.specs.Prelude.{◌≡◌, ◌++◌, take}
use Rattle.hir_lower.specs.FormatParts.{expr_statements}
use Rattle.hir_lower.proofs.format_args.push_statements.Given as goal

abbrev pub invariant-loop-expr : goal.invariant-loop-expr
invariant-loop-expr l = l.statements.items ≡ l.fn.statements.items ++ expr_statements (take l.expr-index l.exprs)
