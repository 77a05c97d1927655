use Rattle.std.proofs.Common.{ap, ◌∙◌}
use Rattle.hir_fmt.specs.Referred.{unreferred}
use Rattle.hir_fmt.specs.Orphans.{resolved_all}
use Rattle.hir_fmt.proofs.Walks.{on_err, halts_after}
use Rattle.hir_fmt.proofs.Parsing.{is_made}
use Rattle.hir_fmt.proofs.parser.parse_pieces.Goals as goal

pub returns-in_err-orphans-clause-halted : goal.returns-in_err-orphans-clause-halted
returns-in_err-orphans-clause-halted g c = on_err _ (halts_after c.in_ok-template.ensures.found)

pub returns-clause-made : goal.returns-clause-made
returns-clause-made g c =
    is_made c.num_explicit_args.ensures.within c.in_ok-template.ensures.found _ c.finish.ensures.value _
    (c.in_ok-orphans.ensures
    ∙ ap (λ l. unreferred (resolved_all l) 0 c.explicit_args.result.now) c.as_slice.ensures
    ∙ ap (λ l. unreferred (resolved_all c.in_ok-template.template) 0 l) c.explicit_args.ensures.value)
