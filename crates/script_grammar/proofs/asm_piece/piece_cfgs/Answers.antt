use Rattle.std.proofs.Common.{rules, ◌≡◌, None}
use Rattle.script_tokens.specs.Ahead.{ahead}
use Rattle.script_tokens.proofs.Many.{many_ends}
use Rattle.script_grammar.specs.AsmPieces.{piece_cfg}
use Rattle.script_grammar.proofs.asm_piece.piece_cfgs.Goals as goal

pub returns-clause-value : goal.returns-clause-value
returns-clause-value c =
    let none : piece_cfg (ahead c.loop-cfgs.after) ≡ None = search rules in
    many_ends piece_cfg (ahead c.args.here) c.loop-cfgs.cfgs (ahead c.loop-cfgs.after) none c.loop-cfgs.invariant.so_far
