-- What a run over a source that cannot fail, and a sink to which nothing was written, has answered.
use Rattle.std.specs.Prelude.{zero, suc, ◌≡◌, ◌≢◌, ◌<◌, ℕ, List, [], ◌++◌, length, Some, None}
use Rattle.std.proofs.Common.{refl, ap, inl, inr, sym, subst, ◌∙◌, arith, length-append}
use Rattle.streams.specs.Streams.{SourceState, SinkState}
use Rattle.cfgfmt.specs.declared.session.Session.{Session}
use Rattle.cfgfmt.specs.declared.command.Command.{Command}
use Rattle.cfgfmt.specs.declared.command.Command.TheVariants.{Run, Generate}
use Rattle.cfgfmt.specs.declared.refusal.Refusal.{Refusal}
use Rattle.cfgfmt.specs.declared.refusal.Refusal.TheVariants.{Usage, Syntax, Read, Memory, ArenaFull, TooLong}
use Rattle.cfgfmt.specs.Command.{Asks}
use Rattle.cfgfmt.specs.Session.{Answers, Gets, output_of}
use Rattle.cfgfmt.specs.Refusal.{IsFaulty, OutgrowsArena, line_of, IsJustified}
use Rattle.cfgfmt.specs.Run.{Prints, Refuses, TellsWhole}
use Rattle.script.specs.Limit.{max_script_len}
use Rattle.juqabhino_c.specs.InMemory.{script_for, IsOutput, IsCause, IsRefusal, IsAnswer}

abbrev source_of : List ℕ → SourceState
source_of bytes = record { left = Some bytes; faults = 0 }

abbrev sink_of : List ℕ → ℕ → SinkState
sink_of bytes faults = record { written = Some bytes; faults = faults; room = None }

module _ (words : List (List ℕ)) (script left left_now : List ℕ) (same : left ≡ script) where
  -- the bytes that came are those of the command's script
  came_for : (command : Command) (bytes : List ℕ) → Gets command (source_of left) (source_of left_now) bytes → bytes ≡ script_for script command
  came_for Run bytes came = sym came.all ∙ same
  came_for (Generate n) bytes came = came.0

  -- a refusal comes of the words and the script alone
  cause_of : (refusal : Refusal) → IsJustified words (source_of left) (source_of left_now) refusal → IsCause words script refusal
  cause_of Usage cause = cause.none
  cause_of (Syntax line) cause = record {
    command = cause.command;
    asked = cause.asked;
    holds = subst (λ b. IsFaulty b line) (came_for cause.command cause.holds.bytes cause.holds.came) cause.holds.holds;
  }
  cause_of Read cause = absurd (omega (arith, cause.holds.1))
  cause_of Memory cause = tt
  cause_of ArenaFull cause = record {
    command = cause.command;
    asked = cause.asked;
    holds = subst OutgrowsArena (came_for cause.command cause.holds.bytes cause.holds.came) cause.holds.holds;
  }
  cause_of TooLong cause =
      let taken = cause.holds.1.0 in
      (cause.asked ∙ ap (λ (c : Command). Some c) cause.holds.0, subst (λ b. max_script_len < length b) same (omega (arith, taken.1, ap length taken.2, length-append taken.0 left_now)))

  module _ (written now : List ℕ) (empty : written ≡ []) (faults faults_now : ℕ) (session : Session) where
    output_of_prints : Asks words (Prints (source_of left) (source_of left_now) (sink_of written faults) (sink_of now faults_now) session) → Asks words (IsOutput script now)
    output_of_prints asks = record {
      command = asks.command;
      asked = asks.asked;
      holds = record {
        session = session;
        answers = subst (λ b. Answers b session) (came_for asks.command asks.holds.bytes asks.holds.came) asks.holds.answers;
        is_printed = subst (λ w. now ≡ w ++ output_of asks.command session) empty asks.holds.printed.whole;
      };
    }

    refusal_of_refuses : (status : ℕ) → Refuses words (source_of left) (source_of left_now) session (TellsWhole status (sink_of written faults) (sink_of now faults_now)) → IsRefusal words script status now
    refusal_of_refuses status refuses = record {
      refusal = refuses.refusal;
      cause = cause_of refuses.refusal refuses.cause;
      is_status = refuses.told.is_status;
      is_line = subst (λ w. now ≡ w ++ line_of refuses.refusal) empty refuses.told.line.whole;
    }

    -- whatever the status is but 5, it has its answer
    pub answer_of : (status : ℕ)
        → (status ≡ 0 → Asks words (Prints (source_of left) (source_of left_now) (sink_of written faults) (sink_of now faults_now) session))
        → (status ≢ 0 → Refuses words (source_of left) (source_of left_now) session (TellsWhole status (sink_of written faults) (sink_of now faults_now)))
        → IsAnswer words script status now
    answer_of zero prints refuses = inl (refl, output_of_prints (prints refl))
    answer_of (suc n) prints refuses = inr (refusal_of_refuses (suc n) (refuses (λ e. omega (arith, e))))
