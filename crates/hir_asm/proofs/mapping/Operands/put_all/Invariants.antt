use Rattle.std.specs.Prelude.{◌≡◌, take}
use Rattle.hir_asm.specs.Mapping.{places_in}
use Rattle.hir_asm.specs.Text.{source_of}
use Rattle.hir_asm.specs.Heads.{heads_of}
use Rattle.hir_asm.proofs.mapping.Operands.put_all.Given as goal

abbrev pub invariant-loop-piece : goal.invariant-loop-piece
invariant-loop-piece l = l.places ≡ places_in (heads_of l.self.list.now) (source_of l.text) (take l.piece-index l.pieces)
