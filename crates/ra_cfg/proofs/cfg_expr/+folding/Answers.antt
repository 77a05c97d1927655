use Rattle.std.proofs.Common.{Some, None, true, false, ◌<◌, ◌≤◌, length, of_calls, arith, ap, ◌∙◌}
use Rattle.std.specs.Fn.{FnReturnsAt}
use Rattle.ra_cfg.specs.Reading.{read_all, read_any}
use Rattle.ra_cfg.proofs.Folding.{of_atom, of_version, of_all, of_any, of_not, turned, stops, all_goes_on, any_goes_on, at_end}
use Rattle.ra_cfg.proofs.cfg_expr.+folding.Goals as goal

pub CfgExpr::fold_with-returns-in-Atom : goal.CfgExpr::fold_with-returns-in-Atom
CfgExpr::fold_with-returns-in-Atom g t c = λ holds answer atoms versions.
    let told : FnReturnsAt g.F.Fn c.args.query.now c.in-Atom.atom c.query.result = search of_calls in
    of_atom holds answer (FnReturnsAt g.F.Fn c.args.query.now) (FnReturnsAt g.G.Fn c.args.version.now) _ _ _ c.in-Atom.is told atoms

pub CfgExpr::fold_with-returns-in-Version : goal.CfgExpr::fold_with-returns-in-Version
CfgExpr::fold_with-returns-in-Version g t c = λ holds answer atoms versions.
    let told : FnReturnsAt g.G.Fn c.args.version.now c.in-Version.text c.version.result = search of_calls in
    of_version holds answer (FnReturnsAt g.F.Fn c.args.query.now) (FnReturnsAt g.G.Fn c.args.version.now) _ _ _ c.in-Version.is told versions

pub CfgExpr::fold_with-returns-in-All : goal.CfgExpr::fold_with-returns-in-All
CfgExpr::fold_with-returns-in-All g t c = λ holds answer atoms versions.
    of_all holds answer (FnReturnsAt g.F.Fn c.args.query.now) (FnReturnsAt g.G.Fn c.args.version.now) _ _ _ _ c.in-All.is c.as_slice.ensures (c.fold_all.ensures holds answer) atoms versions

pub CfgExpr::fold_with-returns-in-Any : goal.CfgExpr::fold_with-returns-in-Any
CfgExpr::fold_with-returns-in-Any g t c = λ holds answer atoms versions.
    of_any holds answer (FnReturnsAt g.F.Fn c.args.query.now) (FnReturnsAt g.G.Fn c.args.version.now) _ _ _ _ c.in-Any.is c.as_slice-in-Any.ensures (c.fold_any.ensures holds answer) atoms versions

pub CfgExpr::fold_with-returns-in_err-fold_with-in-Not : goal.CfgExpr::fold_with-returns-in_err-fold_with-in-Not
CfgExpr::fold_with-returns-in_err-fold_with-in-Not g t c = λ holds answer atoms versions.
    c.from_residual.ensures ∙ of_not holds answer (FnReturnsAt g.F.Fn c.args.query.now) (FnReturnsAt g.G.Fn c.args.version.now) _ _ _ _ None c.in-Not.is c.get.ensures (c.fold_with.ensures holds answer) atoms versions c.in_err-fold_with-in-Not.was

pub CfgExpr::fold_with-returns-in_ok-fold_with-in-Not : goal.CfgExpr::fold_with-returns-in_ok-fold_with-in-Not
CfgExpr::fold_with-returns-in_ok-fold_with-in-Not g t c = λ holds answer atoms versions.
    of_not holds answer (FnReturnsAt g.F.Fn c.args.query.now) (FnReturnsAt g.G.Fn c.args.version.now) _ _ _ _ (Some c.in_ok-fold_with-in-Not.field-0) c.in-Not.is c.get.ensures (c.fold_with.ensures holds answer) atoms versions c.in_ok-fold_with-in-Not.was

pub fold_all-returns-in_err-fold_with : goal.fold_all-returns-in_err-fold_with
fold_all-returns-in_err-fold_with g t c = λ holds answer atoms versions.
    let within : c.loop-part.part-index < length c.args.parts.now = omega arith in
    let turn = turned holds answer (FnReturnsAt g.F.Fn c.args.query.now) (FnReturnsAt g.G.Fn c.args.version.now) read_all _ _ _ _ within c.part-item.is (c.fold_with.ensures holds answer) (c.loop-part.invariant holds answer atoms versions) in
    c.from_residual.ensures ∙ stops holds answer (FnReturnsAt g.F.Fn c.args.query.now) (FnReturnsAt g.G.Fn c.args.version.now) None turn c.in_err-fold_with.was

pub fold_all-returns-then-not-branch : goal.fold_all-returns-then-not-branch
fold_all-returns-then-not-branch g t c = λ holds answer atoms versions.
    let within : c.loop-part.part-index < length c.args.parts.now = omega arith in
    let turn = turned holds answer (FnReturnsAt g.F.Fn c.args.query.now) (FnReturnsAt g.G.Fn c.args.version.now) read_all _ _ _ _ within c.part-item.is (c.fold_with.ensures holds answer) (c.loop-part.invariant holds answer atoms versions) in
    stops holds answer (FnReturnsAt g.F.Fn c.args.query.now) (FnReturnsAt g.G.Fn c.args.version.now) (Some false) turn (c.in_ok-fold_with.was ∙ ap Some c.if-not-branch.true)

pub fold_all-loop-part-preserved : goal.fold_all-loop-part-preserved
fold_all-loop-part-preserved g t c = λ holds answer atoms versions.
    let within : c.loop-part.part-index < length c.args.parts.now = omega arith in
    let turn = turned holds answer (FnReturnsAt g.F.Fn c.args.query.now) (FnReturnsAt g.G.Fn c.args.version.now) read_all _ _ _ _ within c.part-item.is (c.fold_with.ensures holds answer) (c.loop-part.invariant holds answer atoms versions) in
    all_goes_on holds answer (FnReturnsAt g.F.Fn c.args.query.now) (FnReturnsAt g.G.Fn c.args.version.now) turn (c.in_ok-fold_with.was ∙ ap Some c.if-not-branch.false)

pub fold_all-returns : goal.fold_all-returns
fold_all-returns g t c = λ holds answer atoms versions.
    let done : length c.args.parts.now ≤ c.loop-part.part-index = omega arith in
    at_end holds answer (FnReturnsAt g.F.Fn c.args.query.now) (FnReturnsAt g.G.Fn c.args.version.now) read_all c.args.parts.now c.loop-part.part-index done (c.loop-part.invariant holds answer atoms versions)

pub fold_any-returns-in_err-fold_with : goal.fold_any-returns-in_err-fold_with
fold_any-returns-in_err-fold_with g t c = λ holds answer atoms versions.
    let within : c.loop-part.part-index < length c.args.parts.now = omega arith in
    let turn = turned holds answer (FnReturnsAt g.F.Fn c.args.query.now) (FnReturnsAt g.G.Fn c.args.version.now) read_any _ _ _ _ within c.part-item.is (c.fold_with.ensures holds answer) (c.loop-part.invariant holds answer atoms versions) in
    c.from_residual.ensures ∙ stops holds answer (FnReturnsAt g.F.Fn c.args.query.now) (FnReturnsAt g.G.Fn c.args.version.now) None turn c.in_err-fold_with.was

pub fold_any-returns-then-branch : goal.fold_any-returns-then-branch
fold_any-returns-then-branch g t c = λ holds answer atoms versions.
    let within : c.loop-part.part-index < length c.args.parts.now = omega arith in
    let turn = turned holds answer (FnReturnsAt g.F.Fn c.args.query.now) (FnReturnsAt g.G.Fn c.args.version.now) read_any _ _ _ _ within c.part-item.is (c.fold_with.ensures holds answer) (c.loop-part.invariant holds answer atoms versions) in
    stops holds answer (FnReturnsAt g.F.Fn c.args.query.now) (FnReturnsAt g.G.Fn c.args.version.now) (Some true) turn (c.in_ok-fold_with.was ∙ ap Some c.if-branch.true)

pub fold_any-loop-part-preserved : goal.fold_any-loop-part-preserved
fold_any-loop-part-preserved g t c = λ holds answer atoms versions.
    let within : c.loop-part.part-index < length c.args.parts.now = omega arith in
    let turn = turned holds answer (FnReturnsAt g.F.Fn c.args.query.now) (FnReturnsAt g.G.Fn c.args.version.now) read_any _ _ _ _ within c.part-item.is (c.fold_with.ensures holds answer) (c.loop-part.invariant holds answer atoms versions) in
    any_goes_on holds answer (FnReturnsAt g.F.Fn c.args.query.now) (FnReturnsAt g.G.Fn c.args.version.now) turn (c.in_ok-fold_with.was ∙ ap Some c.if-branch.false)

pub fold_any-returns : goal.fold_any-returns
fold_any-returns g t c = λ holds answer atoms versions.
    let done : length c.args.parts.now ≤ c.loop-part.part-index = omega arith in
    at_end holds answer (FnReturnsAt g.F.Fn c.args.query.now) (FnReturnsAt g.G.Fn c.args.version.now) read_any c.args.parts.now c.loop-part.part-index done (c.loop-part.invariant holds answer atoms versions)
