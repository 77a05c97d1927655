use Rattle.std.proofs.Common.{◌∙◌, sym, arith}
use Rattle.text_cut.specs.Seen.{seen}
use Rattle.syn_trees.proofs.Raw.{mark_then}
use Rattle.syn_trees.proofs.quoted.raw_end.Goals as goal

pub loop-preserved : goal.loop-preserved
loop-preserved c = record {
  same = mark_then c.args.marks c.loop.counter (seen c.loop.end) (seen c.in_ok-end-2.end) (omega (arith, c.loop-test.true)) (sym c.in_ok-end-2.ensures.value) ∙ c.loop.invariant.same;
  shorter = omega (arith, c.loop.invariant.shorter, c.in_ok-end-2.ensures.shorter);
}
