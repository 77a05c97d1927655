-- A pattern behind the others leaves each index its tree.
use Rattle.std.proofs.Common.{rules}
use Rattle.hir_store.specs.Sources.{SameMaps}
use Rattle.hir_store.specs.Store.{PlacesPat}
use Rattle.hir_store.proofs.Placing.{no_dangling_by_pat}
use Rattle.hir_store.proofs.store.ExpressionStore.alloc_pat.Goals as goal

pub returns-clause-kept : goal.returns-clause-kept
returns-clause-kept c =
    let new = record c.args.self.now { pats = c.alloc.new.self } in
    let places : PlacesPat c.args.self.now c.args.pat c.from.result new = search rules in
    let maps : SameMaps c.args.self.now new = search rules in
    no_dangling_by_pat c.args.self.now new c.args.pat c.from.result places maps
