use Rattle.std.specs.Prelude.{◌≡◌, take}
use Rattle.hir_expander.specs.Reached.{literal_of}
use Rattle.hir_asm.specs.Heads.{heads_of, MapsSoFar}
use Rattle.hir_asm.proofs.mapping.Operands.map_templates.Given as goal

abbrev pub invariant-loop-place : goal.invariant-loop-place
invariant-loop-place g l = record {
  so_far : MapsSoFar (heads_of l.self.list.now) (literal_of (g.M.Macros.resolved l.macros) (g.M.Macros.expanded l.macros) l.fn.expander.limit l.fn.expander.current.file_id) (take l.place l.templates) l.rows.rows l.rows.counter;
  unchanged : l.expander ≡ l.fn.expander;
}
