use Rattle.std.proofs.Common.{subst}
use Rattle.hir_fmt.specs.Reading.{IsValueRead, ArePiecesRead}
use Rattle.hir_fmt.proofs.Parsing.{no_value, no_pieces}
use Rattle.hir_fmt.proofs.read.read_format.Goals as goal

pub returns-in_default : goal.returns-in_default
returns-in_default c = no_value _ (subst (λ found. IsValueRead c.args.s.now found) c.in_default.is c.in_ok-text.ensures)

pub returns-in_default-2 : goal.returns-in_default-2
returns-in_default-2 c =
    no_pieces _ _ _ c.one_value.ensures
    (subst (λ found. IsValueRead c.args.s.now found) c.in-Some.is c.in_ok-text.ensures)
    c.as_str.ensures
    (subst (λ found. ArePiecesRead c.as_str.result.now found) c.in_default-2.is c.in_ok-pieces.ensures)
