-- A binding behind the others leaves each name, and each index its tree.
use Rattle.std.proofs.Common.{rules, None}
use Rattle.hir_store.specs.declared.pat.Binding.{Binding}
use Rattle.hir_store.specs.Sources.{SameMaps}
use Rattle.hir_store.specs.Store.{PlacesBinding}
use Rattle.hir_store.proofs.Placing.{grows_by_binding, name_of_binding, no_dangling_by_binding}
use Rattle.hir_store.proofs.store.ExpressionStore.alloc_binding.Goals as goal

pub returns-clause-grows : goal.returns-clause-grows
returns-clause-grows c =
    let new = record c.args.self.now { bindings = c.alloc.new.self } in
    let binding : Binding = record { name = c.args.name; definition = None } in
    let places : PlacesBinding c.args.self.now binding c.from.result new = search rules in
    let maps : SameMaps c.args.self.now new = search rules in
    grows_by_binding c.args.self.now new binding c.from.result places maps

pub returns-clause-named : goal.returns-clause-named
returns-clause-named c =
    let new = record c.args.self.now { bindings = c.alloc.new.self } in
    let binding : Binding = record { name = c.args.name; definition = None } in
    let places : PlacesBinding c.args.self.now binding c.from.result new = search rules in
    let maps : SameMaps c.args.self.now new = search rules in
    name_of_binding c.args.self.now new binding c.from.result places maps

pub returns-clause-kept : goal.returns-clause-kept
returns-clause-kept c = λ was.
    let new = record c.args.self.now { bindings = c.alloc.new.self } in
    let binding : Binding = record { name = c.args.name; definition = None } in
    let places : PlacesBinding c.args.self.now binding c.from.result new = search rules in
    let maps : SameMaps c.args.self.now new = search rules in
    no_dangling_by_binding c.args.self.now new binding c.from.result places maps was tt
