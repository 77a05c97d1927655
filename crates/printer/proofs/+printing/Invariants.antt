use Rattle.std.proofs.Common.{◌≡◌, ◌++◌, ◌≤◌, IsTrue, string_bytes, drop, ◌+◌, ◌*◌}
use Rattle.std.specs.List.{flat_map}
use Rattle.hir_store.specs.Tree.{Tuple, Array, Call, Block, all_whole, steps_whole, operands_whole}
use Rattle.hir_store.specs.Unfolding.{tree_at, tree_over, trees_of, steps_of, tail_step, name_in, row_of, operand_exprs, operands_of}
use Rattle.ra_cfg.specs.Text.{after_comma}
use Rattle.printer.specs.Printed.{later_texts, steps_text, operand_texts}
use Rattle.printer.proofs.Sizes.{tree_size, trees_size, steps_size, operands_size, statement_size}
use Rattle.printer.proofs.+printing.Given as goal

-- A part is smaller than the whole; among the functions on one tree, each is below its caller.
abbrev pub decreases-expr::push_expr : goal.decreases-expr::push_expr
decreases-expr::push_expr l = 4 * tree_size (tree_at l.store.now l.id) + 2

abbrev pub decreases-expr::push_node : goal.decreases-expr::push_node
decreases-expr::push_node l = 4 * tree_size (tree_over l.store.now l.expr.now) + 1

abbrev pub decreases-expr::push_tuple : goal.decreases-expr::push_tuple
decreases-expr::push_tuple l = 4 * tree_size (Tuple (trees_of (tree_at l.store.now) l.ids.now))

abbrev pub decreases-expr::push_array : goal.decreases-expr::push_array
decreases-expr::push_array l = 4 * tree_size (Array (trees_of (tree_at l.store.now) l.ids.now))

abbrev pub decreases-expr::push_call : goal.decreases-expr::push_call
decreases-expr::push_call l = 4 * tree_size (Call (tree_at l.store.now l.callee) (trees_of (tree_at l.store.now) l.args.now))

abbrev pub decreases-expr::push_list : goal.decreases-expr::push_list
decreases-expr::push_list l = 4 * trees_size (trees_of (tree_at l.store.now) l.ids.now)

abbrev pub decreases-expr::push_later : goal.decreases-expr::push_later
decreases-expr::push_later l = 4 * trees_size (trees_of (tree_at l.store.now) l.ids.now)

abbrev pub decreases-expr::push_block : goal.decreases-expr::push_block
decreases-expr::push_block l = 4 * tree_size (Block l.is_unsafe (steps_of (name_in l.store.now) (tree_at l.store.now) l.statements.now l.tail))

abbrev pub decreases-expr::push_steps : goal.decreases-expr::push_steps
decreases-expr::push_steps l = 4 * steps_size (steps_of (name_in l.store.now) (tree_at l.store.now) l.statements.now l.tail) + 2

abbrev pub decreases-expr::push_tail : goal.decreases-expr::push_tail
decreases-expr::push_tail l = 4 * steps_size (tail_step (tree_at l.store.now) l.tail)

abbrev pub decreases-expr::push_let : goal.decreases-expr::push_let
decreases-expr::push_let l = 4 * tree_size (tree_at l.store.now l.initializer) + 3

-- the texts so far, with those of the expressions that are left behind them, are all texts
abbrev pub invariant-expr::push_later-loop-id : goal.invariant-expr::push_later-loop-id
invariant-expr::push_later-loop-id l = record {
  whole : IsTrue (all_whole (trees_of (tree_at l.store) (drop l.id-index l.ids)));
  texts : string_bytes l.out ++ later_texts (trees_of (tree_at l.store) (drop l.id-index l.ids)) ≡ string_bytes l.initial.out ++ later_texts (trees_of (tree_at l.store) l.ids);
  size : trees_size (trees_of (tree_at l.store) (drop l.id-index l.ids)) ≤ trees_size (trees_of (tree_at l.store) l.ids);
}

abbrev pub decreases-expr::push_statement : goal.decreases-expr::push_statement
decreases-expr::push_statement l = 4 * statement_size l.store.now l.statement + 4

-- the statements so far, with those that are left and the tail behind them, are all of the block
abbrev pub invariant-expr::push_steps-loop-statement : goal.invariant-expr::push_steps-loop-statement
invariant-expr::push_steps-loop-statement l = record {
  whole : IsTrue (steps_whole (steps_of (name_in l.store) (tree_at l.store) (drop l.statement-index l.statements) l.tail));
  texts : string_bytes l.out ++ steps_text (steps_of (name_in l.store) (tree_at l.store) (drop l.statement-index l.statements) l.tail) ≡ string_bytes l.initial.out ++ steps_text (steps_of (name_in l.store) (tree_at l.store) l.statements l.tail);
  size : steps_size (steps_of (name_in l.store) (tree_at l.store) (drop l.statement-index l.statements) l.tail) ≤ steps_size (steps_of (name_in l.store) (tree_at l.store) l.statements l.tail);
}

abbrev pub decreases-asm::push_assembly : goal.decreases-asm::push_assembly
decreases-asm::push_assembly l = 4 * operands_size (operands_of (tree_at l.store.now) l.assembly.now.operands) + 4

abbrev pub decreases-asm::push_operands : goal.decreases-asm::push_operands
decreases-asm::push_operands l = 4 * operands_size (operands_of (tree_at l.store.now) l.operands.now) + 3

abbrev pub decreases-asm::push_later_operands : goal.decreases-asm::push_later_operands
decreases-asm::push_later_operands l = 4 * operands_size (operands_of (tree_at l.store.now) l.operands.now) + 2

abbrev pub decreases-asm::push_operand : goal.decreases-asm::push_operand
decreases-asm::push_operand l = 4 * trees_size (trees_of (tree_at l.store.now) (operand_exprs l.operand.now)) + 1

abbrev pub decreases-asm::push_output : goal.decreases-asm::push_output
decreases-asm::push_output l = 4 * trees_size (trees_of (tree_at l.store.now) (row_of l.expr))

-- the texts so far, with those of the operands that are left behind them, are all texts
abbrev pub invariant-asm::push_later_operands-loop-name : goal.invariant-asm::push_later_operands-loop-name
invariant-asm::push_later_operands-loop-name l = record {
  whole : IsTrue (operands_whole (operands_of (tree_at l.store) (drop l.name-index l.operands)));
  texts : string_bytes l.out ++ flat_map after_comma (operand_texts (operands_of (tree_at l.store) (drop l.name-index l.operands))) ≡ string_bytes l.initial.out ++ flat_map after_comma (operand_texts (operands_of (tree_at l.store) l.operands));
  size : operands_size (operands_of (tree_at l.store) (drop l.name-index l.operands)) ≤ operands_size (operands_of (tree_at l.store) l.operands);
}
