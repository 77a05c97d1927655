use Rattle.std.proofs.Common.{◌≡◌, take, []}
use Rattle.hir_fmt.specs.Literal.{source_of}
use Rattle.hir_fmt.specs.Making.{made_of}
use Rattle.hir_fmt.specs.References.{references_of}
use Rattle.hir_fmt.specs.Template.{pieces_added}
use Rattle.hir_fmt.specs.Walk.{Finds}
use Rattle.hir_fmt.proofs.template.find_template.Given as goal

abbrev pub invariant-loop-piece : goal.invariant-loop-piece
invariant-loop-piece g l =
    let front = take l.piece-index l.pieces in
    let source = source_of l.literal in
    record {
      walked : Finds l.literal.is_direct l.literal.ptr (references_of source front) (pieces_added source front ([], [])) l.fn.args (g.C.Captures.log l.fn.captures) l.args (g.C.Captures.log l.captures) (made_of l.making);
      grown : g.C.Captures.grows l.fn.captures l.captures;
      steady : g.C.Captures.refusals l.captures ≡ g.C.Captures.refusals l.fn.captures;
    }
