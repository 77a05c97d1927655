use Rattle.std.proofs.Common.{ℕ, IfOk, sym, subst}
use Rattle.hir_build.specs.Building.{Builds, Outgrows}
use Rattle.hir_asm.specs.Lowered.{most_of}
use Rattle.hir_lower.specs.Collector.{around, collector_of}
use Rattle.hir_lower.specs.CallParsed.{GrowsSome}
use Rattle.hir_lower.specs.Lowered.{IsMostOf, PlacesCall, lets_in}
use Rattle.hir_lower.proofs.Outcomes.{placed_call, placed_asm}
use Rattle.hir_lower.proofs.lowering.Lowering.lower_call.Goals as goal

pub returns-in-Format-clause-placed : goal.returns-in-Format-clause-placed
returns-in-Format-clause-placed g c =
    subst (λ call. IfOk c.lower_format_call.result (λ made. PlacesCall c.args.opts.now (around (g.M.Macros.resolved c.args.macros.now) (g.M.Macros.expanded c.args.macros.now) (collector_of c.args.self.now.builder c.args.self.now.expander)) c.args.self.now.builder call made c.lower_format_call.new.builder)) (sym c.in-Format.is)
    (placed_call c.args.opts.now _ c.args.self.now.builder c.lower_format_call.new.builder _ c.lower_format_call.result c.lower_format_call.ensures.within c.lower_format_call.ensures.builds c.lower_format_call.ensures.code c.lower_format_call.ensures.later)

pub returns-in-Format-clause-within : goal.returns-in-Format-clause-within
returns-in-Format-clause-within g c =
    subst (λ call. (most : ℕ) → IsMostOf (around (g.M.Macros.resolved c.args.macros.now) (g.M.Macros.expanded c.args.macros.now) (collector_of c.args.self.now.builder c.args.self.now.expander)) call most → Builds c.args.self.now.builder c.lower_format_call.new.builder most (lets_in call)) (sym c.in-Format.is) c.lower_format_call.ensures.within

pub returns-in-Format-clause-full : goal.returns-in-Format-clause-full
returns-in-Format-clause-full g c full =
    subst (λ call. (most : ℕ) → IsMostOf (around (g.M.Macros.resolved c.args.macros.now) (g.M.Macros.expanded c.args.macros.now) (collector_of c.args.self.now.builder c.args.self.now.expander)) call most → Outgrows c.args.self.now.builder.store most (lets_in call)) (sym c.in-Format.is) (c.lower_format_call.ensures.full full)

pub returns-in-Asm-clause-placed : goal.returns-in-Asm-clause-placed
returns-in-Asm-clause-placed g c =
    subst (λ call. IfOk c.lower_asm_call.result (λ made. PlacesCall c.args.opts.now (around (g.M.Macros.resolved c.args.macros.now) (g.M.Macros.expanded c.args.macros.now) (collector_of c.args.self.now.builder c.args.self.now.expander)) c.args.self.now.builder call made c.lower_asm_call.new.builder)) (sym c.in-Asm.is)
    (placed_asm c.args.opts.now (around (g.M.Macros.resolved c.args.macros.now) (g.M.Macros.expanded c.args.macros.now) (collector_of c.args.self.now.builder c.args.self.now.expander)) c.args.self.now.builder c.lower_asm_call.new.builder c.in-Asm.asm c.lower_asm_call.result c.lower_asm_call.ensures.builds c.lower_asm_call.ensures.code c.lower_asm_call.ensures.later)

pub returns-in-Asm-clause-builds : goal.returns-in-Asm-clause-builds
returns-in-Asm-clause-builds g c =
    subst (λ call. GrowsSome c.args.self.now.builder c.lower_asm_call.new.builder (lets_in call)) (sym c.in-Asm.is) (most_of c.in-Asm.asm, c.lower_asm_call.ensures.builds)
