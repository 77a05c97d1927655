-- Ids in a row, however they are kept.
use Rattle.std.specs.Prelude.{List, []}
use Rattle.hir_store.specs.declared.ids.ExprId.{ExprId}
use Rattle.hir_store.specs.declared.row.Row.{Row}
use Rattle.hir_store.specs.declared.row.Row.TheVariants as row

-- the ids of a row
abbrev pub ids_of : Row → List ExprId
ids_of row.Empty = []
ids_of (row.One ids) = ids
ids_of (row.Two ids) = ids
ids_of (row.Three ids) = ids
ids_of (row.Many ids) = ids.value.items
