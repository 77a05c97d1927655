use Rattle.std.specs.Prelude.{◌≡◌, drop}
use Rattle.template_bytes.specs.Canonical.{canonical_pieces}
use Rattle.format_code.specs.Code.{has_placeholder}
use Rattle.hir_lower.proofs.format_args.has_placeholder.Given as goal

-- the pieces so far have none
abbrev pub invariant-loop-piece : goal.invariant-loop-piece
invariant-loop-piece l = has_placeholder (canonical_pieces l.template) ≡ has_placeholder (canonical_pieces (drop l.piece-index l.template))
