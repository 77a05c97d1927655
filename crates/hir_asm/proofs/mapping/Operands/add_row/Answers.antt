use Rattle.std.proofs.Common.{◌∙◌, ◌++◌, ◌∷◌, [], sym, ap, subst, option_map}
use Rattle.hir_expander.specs.Reached.{literal_of}
use Rattle.hir_asm.specs.Heads.{heads_of, filled, MapsSoFar}
use Rattle.hir_asm.proofs.Rows.{maps_past, maps_row, reached_row}
use Rattle.hir_asm.proofs.mapping.Operands.add_row.Goals as goal

pub returns-in_default-clause-adds : goal.returns-in_default-clause-adds
returns-in_default-clause-adds g c templates place so_far =
    maps_past _ _ templates _ _ so_far c.args.template.now (sym c.expand_macros_to_string.ensures.literal ∙ ap (option_map _) c.in_default.is)

pub returns-clause-adds : goal.returns-clause-adds
returns-clause-adds g c templates place so_far =
    let heads = heads_of c.args.self.now.list.now in
    let reaches = literal_of (g.M.Macros.resolved c.args.macros.now) (g.M.Macros.expanded c.args.macros.now) c.args.expander.now.limit c.args.expander.now.current.file_id in
    let row = reached_row heads reaches c.args.template.now c.in-Some.literal.now c.in-Some.is_direct c.args.rows.now.counter c.in_ok-row.row.places c.in_ok-row.after (sym c.expand_macros_to_string.ensures.literal ∙ ap (option_map _) c.in-Some.is) c.in-Some.ensures.direct c.in_ok-row.ensures in
    subst (λ rows. MapsSoFar heads reaches (templates ++ c.args.template.now ∷ []) rows c.in_ok-row.after) (sym (c.in_ok-push.ensures.ok ∙ ap (λ rows. rows ++ c.in_ok-row.row ∷ []) (c.in_ok-fill.ensures ∙ ap (filled c.args.rows.now.rows) (sym place))))
    (maps_row heads reaches templates c.args.rows.now.rows c.args.rows.now.counter so_far c.args.template.now c.in_ok-row.row.places c.in_ok-row.after row)
