use Rattle.std.proofs.Common.{refl, ap, ◌∙◌, take, ◌≡◌}
use Rattle.std.proofs.lemmas.List.{take_more, take_all}
use Rattle.hir_fmt.specs.Literal.{source_of}
use Rattle.hir_fmt.proofs.Walks.{on_err}
use Rattle.hir_fmt.proofs.Placeholders.{finds_begun, finds_turn, finds_end, halts_turn}
use Rattle.hir_fmt.proofs.template.find_template.Goals as goal

pub loop-piece-init : goal.loop-piece-init
loop-piece-init g c = record {
  walked = finds_begun _ _ (source_of c.args.literal) _ _ _ c.new-making.ensures;
  grown = g.met.C.Captures.grows_self _;
  steady = refl;
}

pub loop-piece-preserved : goal.loop-piece-preserved
loop-piece-preserved g c = record {
  walked = finds_turn (source_of c.args.literal) c.args.pieces.now c.loop-piece.piece-index _ (take_more c.args.pieces.now c.loop-piece.piece-index _ c.loop-piece-test.true) c.loop-piece.invariant.walked c.in_ok-add.ensures.found;
  grown = g.met.C.Captures.grows_on _ _ _ c.loop-piece.invariant.grown c.in_ok-add.ensures.grown;
  steady = c.in_ok-add.ensures.steady ∙ c.loop-piece.invariant.steady;
}

pub returns-in_err-add-clause-halted : goal.returns-in_err-add-clause-halted
returns-in_err-add-clause-halted g c =
    on_err _ (halts_turn (source_of c.args.literal) c.args.pieces.now c.loop-piece.piece-index _ (take_more c.args.pieces.now c.loop-piece.piece-index _ c.loop-piece-test.true) c.loop-piece.invariant.walked c.in_err-add.ensures.halted)

pub returns-clause-found : goal.returns-clause-found
returns-clause-found g c =
    let all : take c.loop-piece.piece-index c.args.pieces.now ≡ c.args.pieces.now = take_all c.loop-piece.piece-index c.args.pieces.now c.loop-piece-test.false in
    finds_end (source_of c.args.literal) c.args.pieces.now c.loop-piece.piece-index _ all (c.from_vec.ensures ∙ ap (λ m. m.0) c.in_ok-end_literal.ensures) c.loop-piece.invariant.walked
