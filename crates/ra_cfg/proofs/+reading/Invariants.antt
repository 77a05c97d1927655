use Rattle.std.proofs.Common.{◌+◌, ◌*◌, length}
use Rattle.ra_cfg.specs.Weights.{weights}
use Rattle.ra_cfg.proofs.Fronts.{PartsRead}
use Rattle.ra_cfg.proofs.+reading.Given as goal

abbrev pub decreases-cfg_expr::CfgExpr::parse_from_iter :
    goal.decreases-cfg_expr::CfgExpr::parse_from_iter
decreases-cfg_expr::CfgExpr::parse_from_iter l = 4 * weights l.tt.now

abbrev pub decreases-parse_tokens::grouped : goal.decreases-parse_tokens::grouped
decreases-parse_tokens::grouped l = 4 * weights l.inside.now + 2

abbrev pub decreases-parse_tokens::named : goal.decreases-parse_tokens::named
decreases-parse_tokens::named l = 4 * weights l.trees.now + 3

abbrev pub decreases-parse_tokens::read_all : goal.decreases-parse_tokens::read_all
decreases-parse_tokens::read_all l = 4 * weights l.inside.now + 1

abbrev pub invariant-parse_tokens::read_all-loop-first : goal.invariant-parse_tokens::read_all-loop-first
invariant-parse_tokens::read_all-loop-first l = PartsRead l.fn.inside l.parts l.trees

abbrev pub decreases-parse_tokens::read_all-loop-first : goal.decreases-parse_tokens::read_all-loop-first
decreases-parse_tokens::read_all-loop-first l = length l.trees
