-- What a caller knows of a run over bytes in memory.
use Rattle.std.specs.Prelude.{◌≡◌, ℕ, List, [], ◌++◌, Some, None}
use Rattle.std.proofs.Common.{sym, subst, ◌∙◌, arith}
use Rattle.streams.specs.Streams.{SourceState, SinkState}
use Rattle.streams.specs.ReadWrite.{WritesWhole}
use Rattle.cfgfmt.specs.declared.session.Session.{Session}
use Rattle.cfgfmt.specs.declared.refusal.Refusal.{Refusal}
use Rattle.cfgfmt.specs.declared.refusal.Refusal.TheVariants.{Usage, Syntax, Read, Memory, ArenaFull, TooLong}
use Rattle.std.proofs.lemmas.Option.{same_Some}
use Rattle.cfgfmt.specs.declared.command.Command.TheVariants.{Run}
use Rattle.cfgfmt.specs.Command.{command_of}
use Rattle.cfgfmt.specs.Session.{Gets}
use Rattle.cfgfmt.specs.Refusal.{IsFaulty, line_of, status_of, IsJustified}
use Rattle.cfgfmt.specs.Run.{Refuses, TellsWhole}

-- a source with these bytes, and a sink
abbrev pub source_of : List ℕ → ℕ → SourceState
source_of bytes faults = record { left = Some bytes; faults = faults }

abbrev pub sink_of : List ℕ → ℕ → SinkState
sink_of bytes faults = record { written = Some bytes; faults = faults; room = None }

module _ (words : List (List ℕ)) (reads : command_of words ≡ Some Run) (bytes left now written : List ℕ) (same : left ≡ bytes) (empty : written ≡ []) (faults sink_faults now_faults : ℕ) (new : SourceState) (status : ℕ) (three : status ≡ 3) where
  by_refusal : (refusal : Refusal) → IsJustified words (source_of left faults) new refusal → status ≡ status_of refusal
      → WritesWhole (sink_of written sink_faults) (sink_of now now_faults) (line_of refusal) → (line : ℕ) × IsFaulty bytes line × (now ≡ line_of (Syntax line))
  by_refusal (Syntax line) cause is told =
      let came : Gets Run (source_of left faults) new cause.holds.bytes = subst (λ c. Gets c (source_of left faults) new cause.holds.bytes) (same_Some cause.command Run (sym cause.asked ∙ reads)) cause.holds.came in (
        line,
        subst (λ b. IsFaulty b line) (sym came.all ∙ same) cause.holds.holds,
        subst (λ w. now ≡ w ++ line_of (Syntax line)) empty told.whole,
      )
  by_refusal Usage cause is told = absurd (omega (arith, is, three))
  by_refusal Read cause is told = absurd (omega (arith, is, three))
  by_refusal Memory cause is told = absurd (omega (arith, is, three))
  by_refusal ArenaFull cause is told = absurd (omega (arith, is, three))
  by_refusal TooLong cause is told = absurd (omega (arith, is, three))

  -- where the status is 3, a sink that was empty holds the line of the first broken item
  pub line_told : (session : Session) → Refuses words (source_of left faults) new session (TellsWhole status (sink_of written sink_faults) (sink_of now now_faults))
      → (line : ℕ) × IsFaulty bytes line × (now ≡ line_of (Syntax line))
  line_told session refuses = by_refusal refuses.refusal refuses.cause refuses.told.is_status refuses.told.line
