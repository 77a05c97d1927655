use Rattle.std.proofs.Common.{rules, ◌≡◌, None}
use Rattle.script_tokens.specs.Ahead.{ahead}
use Rattle.script_tokens.specs.Readers.{behind}
use Rattle.script_tokens.proofs.Many.{many_ends}
use Rattle.script_grammar.specs.AsmPieces.{piece}
use Rattle.script_grammar.proofs.asm.pieces.Goals as goal

pub returns-clause-value : goal.returns-clause-value
returns-clause-value c =
    let none : behind 59 (piece c.args.ptr.node) (ahead c.loop-pieces.after) ≡ None = search rules in
    many_ends (behind 59 (piece c.args.ptr.node)) (ahead c.args.here) c.loop-pieces.pieces (ahead c.loop-pieces.after) none c.loop-pieces.invariant.so_far
