-- What a refusal is told by, and what it comes of.
use Rattle.std.specs.Prelude.{true, ◌≡◌, ◌≢◌, ℕ, ◌≤◌, ◌<◌, List, length, Err, Some, None}
use Rattle.std.proofs.Common.{sym, ap, subst, ◌∙◌, ◌+◌, inl, inr, arith}
use Rattle.std.proofs.lemmas.Option.{same_Some, none-some}
use Rattle.causes.specs.Causes.{Rose}
use Rattle.streams.specs.Streams.{SourceState, SinkState}
use Rattle.streams.specs.ReadWrite.{TakesCount}
use Rattle.script.specs.Limit.{max_script_len}
use Rattle.script.specs.declared.script.ScriptError.{ScriptError}
use Rattle.script.specs.declared.script.ScriptError.TheVariants as error
use Rattle.script.specs.Fault.{BreakIs}
use Rattle.script.specs.Contents.{Contents}
use Rattle.script.specs.Script.{IsScript, with_end}
use Rattle.cfgfmt.specs.declared.session.Session.{Session}
use Rattle.cfgfmt.specs.declared.refusal.Refusal.{Refusal}
use Rattle.cfgfmt.specs.declared.refusal.Refusal.TheVariants.{Usage, Syntax, Read, Memory, ArenaFull, TooLong}
use Rattle.hir_store.specs.declared.store.ExpressionStore.{ExpressionStore}
use Rattle.hir_store.specs.Store.{IsEmptyStore}
use Rattle.hir_build.specs.Building.{Outgrows}
use Rattle.hir_lower.specs.Lowered.{AreMost, most_lets}
use Rattle.hir_lower.proofs.Outcomes.{lets_fewer}
use Rattle.cfgfmt.specs.Session.{IsNew, Gets, script_around}
use Rattle.cfgfmt.specs.declared.command.Command.{Command}
use Rattle.cfgfmt.specs.declared.command.Command.TheVariants.{Run, Generate}
use Rattle.cfgfmt.specs.Command.{command_of, Asks}
use Rattle.cfgfmt.specs.Refusal.{HasInput, IsFaulty, OutgrowsArena, AreMany, status_of, line_of, IsJustified, IsInputRefusal, IsScriptRefusal, IsLowerRefusal, refusal_of}
use Rattle.cfgfmt.specs.Run.{IsSent, IsTold, Refuses, TellsWhole, TellsFront, is_status}

-- bytes that are no script are refused because of the bytes
pub not_script : (bytes ended : List ℕ) (fault : ScriptError) (refusal : Refusal) → length bytes ≤ max_script_len → ended ≡ with_end bytes
    → refusal ≡ refusal_of fault → BreakIs (Err fault) ended → IsScriptRefusal bytes refusal
not_script bytes ended fault refusal fits is becomes breaks =
    subst (IsScriptRefusal bytes) (sym becomes) (by_fault fault (subst (BreakIs (Err fault)) is breaks))
  where
    by_fault : (fault : ScriptError) → BreakIs (Err fault) (with_end bytes) → IsScriptRefusal bytes (refusal_of fault)
    by_fault (error.Syntax line) breaks = record { fits = fits; is_line = breaks }
    by_fault (error.Memory refused) breaks = tt

-- calls that don't fit into a store that is empty may place more expressions than an arena holds
pub many_outgrow : (contents : Contents) (store : ExpressionStore) → IsEmptyStore store
    → ((most : ℕ) → AreMost contents.options (script_around contents) contents.calls most → Outgrows store most (most_lets contents.options contents.calls)) → AreMany contents
many_outgrow contents store empty full most are = by_arena (full most are)
  where
    by_arena : Outgrows store most (most_lets contents.options contents.calls) → 4294967295 < most
    by_arena (inl exprs) = omega (arith, exprs, ap length empty.exprs)
    by_arena (inr (inl pats)) = let fewer = lets_fewer contents.options (script_around contents) contents.calls most are in omega (arith, pats, ap length empty.pats, fewer)
    by_arena (inr (inr bindings)) = let fewer = lets_fewer contents.options (script_around contents) contents.calls most are in omega (arith, bindings, ap length empty.bindings, fewer)

-- getting the bytes of a script counts no fault
pub got_calmly : (command : Command) (old new : SourceState) (bytes : List ℕ) → Gets command old new bytes → new.faults ≡ old.faults
got_calmly Run old new bytes came = came.calm
got_calmly (Generate n) old new bytes came = ap (λ (s : SourceState). s.faults) came.1

module _ (words : List (List ℕ)) (old new : SourceState) (command : Command) (asked : command_of words ≡ Some command) where
  -- a refusal to get the bytes of a script is justified
  pub input_justified : (refusal : Refusal) → IsInputRefusal command old new refusal → IsJustified words old new refusal
  input_justified Read found = record { command = command; asked = asked; holds = found }
  input_justified Memory found = record { command = command; asked = asked; holds = found }
  input_justified TooLong found = record { command = command; asked = asked; holds = found }
  input_justified Usage found = absurd found
  input_justified (Syntax line) found = absurd found
  input_justified ArenaFull found = absurd found

  module _ (bytes : List ℕ) (came : Gets command old new bytes) where
    -- so is want of memory behind that
    pub memory_justified : IsJustified words old new Memory
    memory_justified = record { command = command; asked = asked; holds = got_calmly command old new bytes came }

    -- a refusal to read the bytes
    pub script_justified : (refusal : Refusal) → IsScriptRefusal bytes refusal → IsJustified words old new refusal
    script_justified (Syntax line) faulty = record { command = command; asked = asked; holds = record { bytes = bytes; came = came; holds = faulty } }
    script_justified Memory found = memory_justified
    script_justified Usage found = absurd found
    script_justified Read found = absurd found
    script_justified ArenaFull found = absurd found
    script_justified TooLong found = absurd found

    -- and one to lower the calls of their script
    pub lower_justified : length bytes ≤ max_script_len → (contents : Contents) → IsScript bytes contents
        → (refusal : Refusal) → IsLowerRefusal (AreMany contents) refusal → IsJustified words old new refusal
    lower_justified fits contents script Memory found = memory_justified
    lower_justified fits contents script ArenaFull many = record {
      command = command;
      asked = asked;
      holds = record { bytes = bytes; came = came; holds = record { fits = fits; contents = contents; script = script; many = many } };
    }
    lower_justified fits contents script Usage found = absurd found
    lower_justified fits contents script (Syntax line) found = absurd found
    lower_justified fits contents script Read found = absurd found
    lower_justified fits contents script TooLong found = absurd found

module _ (words : List (List ℕ)) (old new : SourceState) (sink sink_now : SinkState) (session : Session) (still : IsNew session) (result : ℕ) where
  -- where a broken item is to be told, memory may be wanted for its line
  for_memory : (line : ℕ) → IsJustified words old new (Syntax line) → IsJustified words old new Memory
  for_memory line cause = record { command = cause.command; asked = cause.asked; holds = got_calmly cause.command old new cause.holds.bytes cause.holds.came }

  -- what was sent with the status of a refusal was written whole, where the status is not 5
  sent_whole : (refusal : Refusal) → IsJustified words old new refusal → result ≢ 5 → IsSent (status_of refusal) result sink sink_now (line_of refusal)
      → Refuses words old new session (TellsWhole result sink sink_now)
  sent_whole refusal cause whole (inl sent) = record { refusal = refusal; cause = cause; told = record { is_status = sent.0; line = sent.1 }; still_new = still }
  sent_whole refusal cause whole (inr sent) = absurd (whole sent.0)

  -- a refusal that was told by another status than 5 was told whole
  pub told_whole : (refusal : Refusal) → IsJustified words old new refusal → result ≢ 5 → IsTold refusal result sink sink_now
      → Refuses words old new session (TellsWhole result sink sink_now)
  told_whole (Syntax line) cause whole (inl sent) = sent_whole (Syntax line) cause whole sent
  told_whole (Syntax line) cause whole (inr sent) = sent_whole Memory (for_memory line cause) whole sent
  told_whole Usage cause whole sent = sent_whole Usage cause whole sent
  told_whole Read cause whole sent = sent_whole Read cause whole sent
  told_whole Memory cause whole sent = sent_whole Memory cause whole sent
  told_whole ArenaFull cause whole sent = sent_whole ArenaFull cause whole sent
  told_whole TooLong cause whole sent = sent_whole TooLong cause whole sent

  -- what was sent with another status was written in part, where the status is 5
  sent_front : (refusal : Refusal) → IsJustified words old new refusal → result ≡ 5 → IsSent (status_of refusal) result sink sink_now (line_of refusal)
      → (status_of refusal ≢ 5) → Refuses words old new session (TellsFront sink sink_now)
  sent_front refusal cause five (inl sent) other = absurd (other (sym sent.0 ∙ five))
  sent_front refusal cause five (inr sent) other = record { refusal = refusal; cause = cause; told = sent.1; still_new = still }

  -- a refusal that was told by status 5 was told in part
  pub told_front : (refusal : Refusal) → IsJustified words old new refusal → result ≡ 5 → IsTold refusal result sink sink_now
      → Refuses words old new session (TellsFront sink sink_now)
  told_front (Syntax line) cause five (inl sent) = sent_front (Syntax line) cause five sent (λ e. omega (arith, e))
  told_front (Syntax line) cause five (inr sent) = sent_front Memory (for_memory line cause) five sent (λ e. omega (arith, e))
  told_front Usage cause five sent = sent_front Usage cause five sent (λ e. omega (arith, e))
  told_front Read cause five sent = sent_front Read cause five sent (λ e. omega (arith, e))
  told_front Memory cause five sent = sent_front Memory cause five sent (λ e. omega (arith, e))
  told_front ArenaFull cause five sent = sent_front ArenaFull cause five sent (λ e. omega (arith, e))
  told_front TooLong cause five sent = sent_front TooLong cause five sent (λ e. omega (arith, e))

-- a command that is asked for is the only one
one_command : (words : List (List ℕ)) (command other : Command) → command_of words ≡ Some command → command_of words ≡ Some other → command ≡ other
one_command words command other asked also = same_Some command other (sym asked ∙ also)

-- words that ask for nothing ask for no command
no_command : (words : List (List ℕ)) (command : Command) → command_of words ≡ None → command_of words ≡ Some command → ⊥
no_command words command none asked = none-some command (sym none ∙ asked)

module _ (words : List (List ℕ)) (old new : SourceState) (result : ℕ) where
  -- what a status says of the words and of the source, where it is that of a refusal with its cause
  pub usage_by : (refusal : Refusal) → IsJustified words old new refusal → result ≡ status_of refusal → result ≡ 2 → command_of words ≡ None
  usage_by Usage cause is two = cause.none
  usage_by (Syntax line) cause is two = absurd (omega (arith, is, two))
  usage_by Read cause is two = absurd (omega (arith, is, two))
  usage_by Memory cause is two = absurd (omega (arith, is, two))
  usage_by ArenaFull cause is two = absurd (omega (arith, is, two))
  usage_by TooLong cause is two = absurd (omega (arith, is, two))

  pub syntax_by : (refusal : Refusal) → IsJustified words old new refusal → result ≡ status_of refusal → result ≡ 3
      → Asks words (λ command. (line : ℕ) × HasInput command old new (λ bytes. IsFaulty bytes line))
  syntax_by (Syntax line) cause is three = record { command = cause.command; asked = cause.asked; holds = (line, cause.holds) }
  syntax_by Usage cause is three = absurd (omega (arith, is, three))
  syntax_by Read cause is three = absurd (omega (arith, is, three))
  syntax_by Memory cause is three = absurd (omega (arith, is, three))
  syntax_by ArenaFull cause is three = absurd (omega (arith, is, three))
  syntax_by TooLong cause is three = absurd (omega (arith, is, three))

  pub read_by : (refusal : Refusal) → IsJustified words old new refusal → result ≡ status_of refusal → result ≡ 4 → (command_of words ≡ Some Run) × Rose old.faults new.faults
  read_by Read cause is four = (cause.asked ∙ ap (λ c. Some c) cause.holds.0, cause.holds.1)
  read_by Usage cause is four = absurd (omega (arith, is, four))
  read_by (Syntax line) cause is four = absurd (omega (arith, is, four))
  read_by Memory cause is four = absurd (omega (arith, is, four))
  read_by ArenaFull cause is four = absurd (omega (arith, is, four))
  read_by TooLong cause is four = absurd (omega (arith, is, four))

  pub full_by : (refusal : Refusal) → IsJustified words old new refusal → result ≡ status_of refusal → result ≡ 8 → Asks words (λ command. HasInput command old new OutgrowsArena)
  full_by ArenaFull cause is eight = cause
  full_by Usage cause is eight = absurd (omega (arith, is, eight))
  full_by (Syntax line) cause is eight = absurd (omega (arith, is, eight))
  full_by Read cause is eight = absurd (omega (arith, is, eight))
  full_by Memory cause is eight = absurd (omega (arith, is, eight))
  full_by TooLong cause is eight = absurd (omega (arith, is, eight))

  pub too_long_by : (refusal : Refusal) → IsJustified words old new refusal → result ≡ status_of refusal → result ≡ 9
      → (command_of words ≡ Some Run) × TakesCount old new (max_script_len + 1)
  too_long_by TooLong cause is nine = (cause.asked ∙ ap (λ c. Some c) cause.holds.0, cause.holds.1.0)
  too_long_by Usage cause is nine = absurd (omega (arith, is, nine))
  too_long_by (Syntax line) cause is nine = absurd (omega (arith, is, nine))
  too_long_by Read cause is nine = absurd (omega (arith, is, nine))
  too_long_by Memory cause is nine = absurd (omega (arith, is, nine))
  too_long_by ArenaFull cause is nine = absurd (omega (arith, is, nine))

  pub calm_by : (refusal : Refusal) → IsJustified words old new refusal → result ≡ status_of refusal → result ≢ 4 → new.faults ≡ old.faults
  calm_by Read cause is other = absurd (other is)
  calm_by Usage cause is other = ap (λ (s : SourceState). s.faults) cause.unread
  calm_by (Syntax line) cause is other = got_calmly cause.command old new cause.holds.bytes cause.holds.came
  calm_by Memory cause is other = cause.holds
  calm_by ArenaFull cause is other = got_calmly cause.command old new cause.holds.bytes cause.holds.came
  calm_by TooLong cause is other = cause.holds.1.1

  pub words_by : (refusal : Refusal) → IsJustified words old new refusal → result ≡ status_of refusal → command_of words ≡ None → result ≡ 2
  words_by Usage cause is none = is
  words_by (Syntax line) cause is none = absurd (no_command words cause.command none cause.asked)
  words_by Read cause is none = absurd (no_command words cause.command none cause.asked)
  words_by Memory cause is none = absurd (no_command words cause.command none cause.asked)
  words_by ArenaFull cause is none = absurd (no_command words cause.command none cause.asked)
  words_by TooLong cause is none = absurd (no_command words cause.command none cause.asked)

  -- a status that is that of a refusal is one that there is
  pub status_by : (refusal : Refusal) → result ≡ status_of refusal → is_status result ≡ true
  status_by Usage is = ap is_status is
  status_by (Syntax line) is = ap is_status is
  status_by Read is = ap is_status is
  status_by Memory is = ap is_status is
  status_by ArenaFull is = ap is_status is
  status_by TooLong is = ap is_status is
