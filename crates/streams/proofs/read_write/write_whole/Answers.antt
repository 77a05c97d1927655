use Rattle.std.proofs.Common.{◌∙◌, arith}
use Rattle.std.proofs.lemmas.Grind.{common_steps}
use Rattle.streams.proofs.Chunks.{appends_more}
use Rattle.streams.proofs.Room.{takes_room_then}
use Rattle.streams.proofs.read_write.write_whole.Goals as goal

pub loop-at-preserved : goal.loop-at-preserved
loop-at-preserved g c = record {
  within = grind (arith, common_steps, c.in_ok-at.ensures.within);
  front = appends_more _ _ _ _ _ _ c.loop-at.invariant.within c.loop-at.invariant.front c.in_ok-at.ensures.bytes;
  idle = λ none. let never : ⊥ = omega arith in absurd never;
  room = takes_room_then _ _ _ _ _ c.loop-at.invariant.room c.in_ok-at.ensures.room;
  known = c.in_ok-at.ensures.known ∙ c.loop-at.invariant.known;
  calm = c.in_ok-at.ensures.cause.kept ∙ c.loop-at.invariant.calm;
}
