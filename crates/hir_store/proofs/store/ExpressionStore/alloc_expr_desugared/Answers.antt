-- A whole expression keeps each index of the store whole.
use Rattle.std.proofs.Common.{rules, ◌≤◌, length, length-append, ap, arith, [], ◌∷◌}
use Rattle.hir_store.specs.Sources.{SameMaps}
use Rattle.hir_store.specs.Store.{PlacesExpr}
use Rattle.hir_store.proofs.Maps.{maps_still}
use Rattle.hir_store.proofs.Placing.{no_dangling_later}
use Rattle.hir_store.proofs.store.ExpressionStore.alloc_expr_desugared.Goals as goal

pub returns-clause-kept : goal.returns-clause-kept
returns-clause-kept c = λ was whole.
    let new = record c.args.self.now { exprs = c.alloc.new.self } in
    let places : PlacesExpr c.args.self.now c.args.expr c.from.result new = search rules in
    let maps : SameMaps c.args.self.now new = search rules in
    let more : length c.args.self.now.exprs ≤ length new.exprs = omega (arith, ap length places.exprs, length-append c.args.self.now.exprs (c.args.expr ∷ [])) in
    no_dangling_later c.args.self.now new c.args.expr c.from.result places (maps_still c.args.self.now new maps more was.maps) was whole
