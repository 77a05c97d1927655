-- A definition of the store keeps what the store names in it.
use Rattle.std.proofs.Common.{rules, Some, slice_set}
use Rattle.la_arena.specs.Idx.{index_of}
use Rattle.hir_store.specs.Sources.{SameMaps}
use Rattle.hir_store.specs.Store.{Defines}
use Rattle.hir_store.proofs.Placing.{no_dangling_by_definition}
use Rattle.hir_store.proofs.store.ExpressionStore.add_definition_to_binding.Goals as goal

pub returns-clause-kept : goal.returns-clause-kept
returns-clause-kept c = λ was within.
    let old = c.args.self.now in
    let new = record old { bindings = slice_set old.bindings (index_of c.idx.result) (record c.index_mut.result.now { definition = Some c.args.pat }) } in
    let defines : Defines old c.args.binding c.args.pat new = search rules in
    let maps : SameMaps old new = search rules in
    no_dangling_by_definition old new c.args.binding c.args.pat defines maps was within
