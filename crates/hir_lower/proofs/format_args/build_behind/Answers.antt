use Rattle.std.proofs.Common.{sym, ◌∙◌}
use Rattle.std.proofs.lemmas.Result.{IfOk-weaker}
use Rattle.hir_lower.specs.FormatParts.{call_origin}
use Rattle.hir_lower.proofs.Statements.{exprs_within, behind_as, behind_some}
use Rattle.hir_lower.proofs.format_args.build_behind.Goals as goal

pub block-requires-clause-within : goal.block-requires-clause-within
block-requires-clause-within c = rw (c.from_vec.ensures, c.in_ok-push_statements.ensures, c.new-statements.ensures.items) (exprs_within c.args.builder.now.store c.args.exprs.now c.requires.within)

pub returns-clause-placed : goal.returns-clause-placed
returns-clause-placed c = IfOk-weaker c.block.result _ _ (λ made was. λ t os tail.
    let block = rw (c.from_vec.ensures, c.in_ok-push_statements.ensures, c.new-statements.ensures.items) at was in
    behind_some c.args.builder.now.store c.block.new.self.store _ (call_origin c.args.builder.now c.args.site.ptr) c.args.exprs.now t os (sym c.is_empty.ensures ∙ c.if-is_empty.false)
    (behind_as _ _ _ _ c.args.exprs.now c.args.tail t os tail block)) c.block.ensures.placed
