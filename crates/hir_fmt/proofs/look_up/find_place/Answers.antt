use Rattle.std.proofs.Common.{refl}
use Rattle.hir_fmt.proofs.Walks.{ok_weaker, err_weaker}
use Rattle.hir_fmt.proofs.Lookups.{finds_numbered, finds_named, halts_named}
use Rattle.hir_fmt.proofs.look_up.find_place.Goals as goal

pub returns-in-Left-clause-found : goal.returns-in-Left-clause-found
returns-in-Left-clause-found g c = finds_numbered _ _ c.args.reference.now _ _ _ _ c.in-Left.is c.place_at.ensures

pub returns-in-Right-clause-found : goal.returns-in-Right-clause-found
returns-in-Right-clause-found g c = ok_weaker c.find_name.result (λ place p. finds_named c.args.reference.now c.in-Right.is refl p) c.find_name.ensures.looked

pub returns-in-Right-clause-halted : goal.returns-in-Right-clause-halted
returns-in-Right-clause-halted g c = err_weaker c.find_name.result (λ p. halts_named c.args.reference.now c.in-Right.is refl p) c.find_name.ensures.stopped
