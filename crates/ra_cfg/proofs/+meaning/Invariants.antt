use Rattle.std.proofs.Common.{◌≡◌, map, take}
use Rattle.ra_cfg.specs.Syntax.{meaning}
use Rattle.ra_cfg.proofs.+meaning.Given as goal

abbrev pub invariant-parse_ast::read_parts-loop-part : goal.invariant-parse_ast::read_parts-loop-part
invariant-parse_ast::read_parts-loop-part l = l.read ≡ map meaning (take l.part-index l.parts)
