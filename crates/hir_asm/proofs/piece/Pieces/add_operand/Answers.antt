use Rattle.std.proofs.Common.{subst, option_copied}
use Rattle.hir_asm.specs.Operands.{part_of}
use Rattle.hir_asm.specs.Placing.{MayBePart}
use Rattle.hir_asm.proofs.Parts.{adds_operand}
use Rattle.hir_asm.proofs.piece.Pieces.add_operand.Goals as goal

pub returns-clause-adds : goal.returns-clause-adds
returns-clause-adds c =
    adds_operand c.place_operand.new.builder.store c.args.builder.now.file (option_copied c.args.name) (part_of c.args.op.now) c.args.self.now c.in_ok-name.name c.in-Some.operand c.push.new.self c.in_ok-name.ensures
    (subst (MayBePart c.place_operand.new.builder.store c.args.builder.now.file (part_of c.args.op.now)) c.in-Some.is c.in_ok-operand.ensures.part) c.in_ok-push.ensures.ok
