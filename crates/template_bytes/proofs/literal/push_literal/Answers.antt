use Rattle.std.specs.Prelude.{◌≡◌, length}
use Rattle.std.proofs.Common.{◌∙◌, sym, arith, rules}
use Rattle.std.proofs.lemmas.Bool.Decides.{nat_tests}
use Rattle.template_bytes.proofs.LiteralLaws.{chunk_written, nothing_left}
use Rattle.template_bytes.proofs.literal.push_literal.Goals as goal

pub loop-rest-preserved : goal.loop-rest-preserved
loop-rest-preserved c = record {
  text = search rules;
  so_far = chunk_written _ _ c.loop-rest.rest.now _ _ c.loop-rest.invariant.text c.first_chunk.ensures c.in_ok-push_chunk.ensures ∙ c.loop-rest.invariant.so_far;
}

pub returns : goal.returns
returns c =
    let empty : length c.loop-rest.rest.now ≡ 0 = grind (arith, nat_tests) in
    sym (nothing_left c.loop-rest.bytes.items c.loop-rest.rest.now empty) ∙ c.loop-rest.invariant.so_far
