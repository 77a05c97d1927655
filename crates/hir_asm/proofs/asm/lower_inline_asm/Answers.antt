use Rattle.std.proofs.Common.{◌∙◌, length, sym, ap, subst, arith}
use Rattle.hir_store.specs.PartsBelow.{OperandsBelow}
use Rattle.hir_store.proofs.Grown.{longer}
use Rattle.hir_store.specs.declared.asm_options.AsmOptions.{AsmOptions}
use Rattle.hir_build.specs.Building.{Builds}
use Rattle.hir_expander.specs.Reached.{literal_of}
use Rattle.hir_build.proofs.Builds.{builds_then, builds_within}
use Rattle.hir_build.proofs.Captures.{builds_mapped}
use Rattle.hir_asm.specs.Operands.{operands_written, bits_written}
use Rattle.hir_asm.specs.Mapping.{IsMapping}
use Rattle.hir_asm.specs.Heads.{heads_of}
use Rattle.hir_asm.specs.Lowered.{most_of}
use Rattle.hir_asm.specs.Placing.{AreOperands}
use Rattle.hir_asm.proofs.Parts.{operands_below}
use Rattle.hir_asm.proofs.Calls.{IsMade, asm_code}
use Rattle.hir_asm.proofs.asm.lower_inline_asm.Goals as goal

pub inline_asm-requires : goal.inline_asm-requires
inline_asm-requires g c = record { within = subst (OperandsBelow _) (sym c.in_ok-assembly.ensures.operands) (operands_below _ _ _ _ c.in_ok-pieces.ensures.operands) }

pub returns-in_err-code-clause-builds : goal.returns-in_err-code-clause-builds
returns-in_err-code-clause-builds g c = builds_within (builds_then c.in_ok-pieces.ensures.builds c.in_err-code.ensures.builds) (omega (arith, ap length c.as_slice.ensures)) (omega arith)

pub returns-in_err-note_mapping-clause-builds : goal.returns-in_err-note_mapping-clause-builds
returns-in_err-note_mapping-clause-builds g c =
    subst (λ frame. Builds c.args.builder.now frame (most_of c.args.asm.now) 0) (sym c.in_err-note_mapping.ensures.err)
    (builds_within (builds_then c.in_ok-pieces.ensures.builds c.in_ok-code.ensures.builds) (omega (arith, ap length c.as_slice.ensures)) (omega arith))

pub returns-clause-code : goal.returns-clause-code
returns-clause-code g c =
    let pieces = c.as_slice.ensures in
    let reaches = literal_of (g.M.Macros.resolved c.args.macros.now) (g.M.Macros.expanded c.args.macros.now) c.args.expander.now.limit c.args.expander.now.current.file_id in
    let operands = subst (λ list. AreOperands c.place_pieces.new.builder.store c.args.builder.now.file (operands_written c.args.opts.now list) c.in_ok-pieces.pieces.operands) pieces c.in_ok-pieces.ensures.operands in
    let made : IsMade c.args.opts.now c.args.builder.now.file c.args.asm.now c.place_pieces.new.builder.store c.in_ok-assembly.assembly = record {
      kind = c.in_ok-assembly.ensures.kind;
      bits = ap (λ (options : AsmOptions). options.0) c.in_ok-assembly.ensures.options ∙ c.in_ok-pieces.ensures.options ∙ ap (bits_written c.args.opts.now) pieces;
      operands = subst (AreOperands c.place_pieces.new.builder.store c.args.builder.now.file (operands_written c.args.opts.now c.args.asm.now.pieces)) (sym c.in_ok-assembly.ensures.operands) operands;
    } in
    let said = subst (λ templates. IsMapping c.in_ok-pieces.pieces.options.0 (heads_of c.in_ok-pieces.pieces.operands) reaches templates c.in_ok-mapping.mapping) c.as_slice-2.ensures c.in_ok-mapping.ensures.mapping in
    let bits = subst (λ (options : AsmOptions). IsMapping options.0 (heads_of c.in_ok-pieces.pieces.operands) reaches c.args.asm.now.templates c.in_ok-mapping.mapping) (sym c.in_ok-assembly.ensures.options) said in
    let maps = subst (λ list. IsMapping c.in_ok-assembly.assembly.options.0 (heads_of list) reaches c.args.asm.now.templates c.in_ok-mapping.mapping) (sym c.in_ok-assembly.ensures.operands) bits in
    asm_code c.args.opts.now reaches c.args.asm.now c.in_ok-pieces.ensures.builds c.in_ok-assembly.assembly made c.in_ok-code.code c.in_ok-mapping.mapping c.in_ok-code.ensures.placed maps c.in_ok-note_mapping.ensures.notes

pub returns-clause-builds : goal.returns-clause-builds
returns-clause-builds g c =
    let built : Builds c.args.builder.now c.inline_asm.new.self (most_of c.args.asm.now) 0 = builds_within (builds_then c.in_ok-pieces.ensures.builds c.in_ok-code.ensures.builds) (omega (arith, ap length c.as_slice.ensures)) (omega arith) in
    builds_mapped c.in_ok-code.code c.in_ok-mapping.mapping built (omega (arith, c.in_ok-code.ensures.later, longer _ _ c.in_ok-pieces.ensures.builds.grows)) c.in_ok-note_mapping.ensures.notes
