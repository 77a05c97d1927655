use Rattle.std.proofs.Common.{◌∙◌, IfOk, ap, subst}
use Rattle.hir_expander.specs.Machine.{is_macro}
use Rattle.hir_expander.specs.Reached.{literal_of}
use Rattle.hir_asm.specs.Lowered.{IsAsmCode}
use Rattle.hir_lower.proofs.asm.lower_asm_call.Goals as goal

pub lower_inline_asm-requires : goal.lower_inline_asm-requires
lower_inline_asm-requires g c = record { outside = ap is_macro c.requires.rest.file ∙ c.requires.rest.outside; depth = c.requires.rest.depth }

pub returns-clause-code : goal.returns-clause-code
returns-clause-code g c =
    subst (λ file. IfOk c.lower_inline_asm.result (IsAsmCode c.args.opts.now (literal_of (g.M.Macros.resolved c.args.macros.now) (g.M.Macros.expanded c.args.macros.now) c.args.expander.now.limit file) c.args.builder.now.file c.args.asm.now c.lower_inline_asm.new.builder.store)) c.requires.rest.file
    c.lower_inline_asm.ensures.code
