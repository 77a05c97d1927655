use Rattle.std.proofs.Common.{arith}
use Rattle.std.proofs.lemmas.Grind.{common_steps}
use Rattle.streams.proofs.Chunks.{takes_more}
use Rattle.streams.proofs.read_write.read_whole.Goals as goal

pub returns-in-Err-extend_from_slice-clause-taken : goal.returns-in-Err-extend_from_slice-clause-taken
returns-in-Err-extend_from_slice-clause-taken g c =
    takes_more (g.S.Source.state c.args.source.now) (g.S.Source.state c.loop-chunk.source) (g.S.Source.state c.read.new.self) _ _ _ (grind (arith, common_steps, c.loop-chunk.bytes.ok, c.in-Ok.ensures.within, c.read.auto.buf)) c.loop-chunk.invariant.taken c.in-Ok.ensures.bytes.0
