-- An expression with its source keeps what the older ones had.
use Rattle.std.proofs.Common.{rules, ◌≤◌, ◌<◌, length, length-append, ap, arith, [], ◌∷◌}
use Rattle.hir_store.specs.Unfolding.{place_of}
use Rattle.hir_store.specs.Sources.{EntersSource}
use Rattle.hir_store.specs.Store.{PlacesExpr}
use Rattle.hir_store.proofs.Maps.{older_with_source, maps_with_source}
use Rattle.hir_store.proofs.Placing.{grows_by_expr, no_dangling_later}
use Rattle.hir_store.proofs.store.ExpressionStore.alloc_expr.Goals as goal

pub returns-in-Ok-clause-grows : goal.returns-in-Ok-clause-grows
returns-in-Ok-clause-grows c =
    let old = c.args.self.now in
    let new = record c.alloc_expr_desugared.new.self { expr_map_back = c.insert.new.self } in
    let places : PlacesExpr old c.args.expr c.in_ok-id.id new = search rules in
    let enters : EntersSource old c.in_ok-id.id c.args.ptr new = search rules in
    grows_by_expr old new c.args.expr c.in_ok-id.id places (older_with_source old new c.in_ok-id.id c.args.ptr enters places.place)

pub returns-in-Ok-clause-kept : goal.returns-in-Ok-clause-kept
returns-in-Ok-clause-kept c = λ was whole.
    let old = c.args.self.now in
    let new = record c.alloc_expr_desugared.new.self { expr_map_back = c.insert.new.self } in
    let places : PlacesExpr old c.args.expr c.in_ok-id.id new = search rules in
    let enters : EntersSource old c.in_ok-id.id c.args.ptr new = search rules in
    let more : length old.exprs ≤ length new.exprs = omega (arith, ap length places.exprs, length-append old.exprs (c.args.expr ∷ [])) in
    let within : place_of c.in_ok-id.id < length new.exprs = omega (arith, places.place, ap length places.exprs, length-append old.exprs (c.args.expr ∷ [])) in
    no_dangling_later old new c.args.expr c.in_ok-id.id places (maps_with_source old new c.in_ok-id.id c.args.ptr enters more within was.maps) was whole
