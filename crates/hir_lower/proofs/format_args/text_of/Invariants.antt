use Rattle.std.specs.Prelude.{◌≡◌, ◌++◌, drop, string_bytes}
use Rattle.template_bytes.specs.Canonical.{canonical_pieces}
use Rattle.format_code.specs.Code.{text_of}
use Rattle.hir_lower.proofs.format_args.text_of.Given as goal

-- the text so far and that of the pieces that are left are the text of all
abbrev pub invariant-loop-piece : goal.invariant-loop-piece
invariant-loop-piece l = string_bytes l.text ++ text_of (canonical_pieces (drop l.piece-index l.template)) ≡ text_of (canonical_pieces l.template)
