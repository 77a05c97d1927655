-- Where the input is a script whose calls fit into a store, no refusal comes but want of memory and a failing outside; and a script that is
-- made is one.
use Rattle.std.specs.Prelude.{true, ◌≡◌, ℕ, ◌≤◌, ◌<◌, ◌+◌, List, length, Option, Some, None, IfSome}
use Rattle.std.specs.Io.KnownBytes.{Consumes}
use Rattle.std.proofs.Common.{refl, sym, ap, subst, ◌∙◌, inl, inr, arith}
use Rattle.std.proofs.lemmas.Option.{same_Some, none-some}
use Rattle.std.proofs.lemmas.List.{length-append}
use Rattle.streams.specs.Streams.{SourceState, SinkState}
use Rattle.streams.specs.ReadWrite.{TakesCount}
use Rattle.script_generator.specs.Generated.{script_of}
use Rattle.script_generator.proofs.Length.{length_script}
use Rattle.generated_script.specs.Made.{made_contents}
use Rattle.generated_script.proofs.MadeScript.{made_are_scripts}
use Rattle.generated_script.proofs.MadeFew.{made_place_few}
use Rattle.hir_lower.specs.Lowered.{AreMost}
use Rattle.hir_lower.proofs.Most.{some_most}
use Rattle.script.specs.Limit.{max_script_len}
use Rattle.script.specs.Contents.{Contents}
use Rattle.script.specs.Script.{IsScript, with_end}
use Rattle.script.proofs.Lines.{one_contents}
use Rattle.cfgfmt.specs.declared.command.Command.{Command}
use Rattle.cfgfmt.specs.declared.command.Command.TheVariants.{Run, Generate}
use Rattle.cfgfmt.specs.declared.refusal.Refusal.{Refusal}
use Rattle.cfgfmt.specs.declared.refusal.Refusal.TheVariants.{Usage, Syntax, Read, Memory, ArenaFull, TooLong}
use Rattle.cfgfmt.specs.Command.{command_of}
use Rattle.cfgfmt.specs.Session.{script_around, Gets}
use Rattle.cfgfmt.specs.Refusal.{IsFaulty, OutgrowsArena, AreMany, line_of, IsJustified}
use Rattle.cfgfmt.specs.Run.{HasNeeds, IsGood, IsSent, IsTold, is_good_status}

-- the bytes of the script that a command asks for, before anything is done
abbrev IsInput : Command → SourceState → List ℕ → Type 0
IsInput Run source bytes = source.left ≡ Some bytes
IsInput (Generate n) source bytes = bytes ≡ script_of n

-- they are a script, few enough, and its calls fit into a store
record HasScript (source : SourceState) (command : Command) : Type 0 where
  bytes : List ℕ
  input : IsInput command source bytes
  fits : length bytes ≤ max_script_len
  contents : Contents
  script : IsScript bytes contents
  most : ℕ
  are_most : AreMost contents.options (script_around contents) contents.calls most
  room : most ≤ 4294967295

-- a script that is made is one
made_script : (n : ℕ) (source : SourceState) → HasScript source (Generate n)
made_script n source =
    let said = made_contents n in
    let some = some_most said.options (script_around said) said.calls in
    record {
      bytes = script_of n;
      input = refl;
      fits = length_script n;
      contents = said;
      script = made_are_scripts n;
      most = some.0;
      are_most = some.1;
      room = omega (arith, made_place_few n said.options (script_around said) some.0 some.1);
    }

has_script : (source : SourceState) (command : Command) → HasNeeds source command → HasScript source command
has_script source Run good = record {
  bytes = good.bytes;
  input = good.known;
  fits = good.fits;
  contents = good.contents;
  script = good.script;
  most = good.most;
  are_most = good.are_most;
  room = good.room;
}
has_script source (Generate n) good = made_script n source

-- all that was left of a source whose content is known is what was known
all_known : (left : Option (List ℕ)) (bytes got : List ℕ) → left ≡ Some bytes → IfSome left (λ l. l ≡ got) → got ≡ bytes
all_known None bytes got is all = absurd (none-some bytes is)
all_known (Some l) bytes got is all = sym all ∙ same_Some l bytes is

-- the bytes that came are those of the input
module _ (old new : SourceState) (bytes got : List ℕ) where
  came_as_input : (command : Command) → IsInput command old bytes → Gets command old new got → got ≡ bytes
  came_as_input Run input came = all_known old.left bytes got input came.all
  came_as_input (Generate n) input came = came.0 ∙ sym input

-- no more bytes than there are can be taken
few_taken : (left now : Option (List ℕ)) (bytes taken : List ℕ) → left ≡ Some bytes → Consumes left now taken → length taken ≤ length bytes
few_taken None now bytes taken is consumes = absurd (none-some bytes is)
few_taken (Some l) None bytes taken is consumes = absurd consumes
few_taken (Some l) (Some rest) bytes taken is consumes = omega (arith, ap length (same_Some l bytes is), ap length consumes, length-append taken rest)

-- the statuses of a sink that fails, of success, and of want of memory are good, and where a script is read, that of a source that fails
write_good : (command : Command) → is_good_status command 5 ≡ true
write_good Run = refl
write_good (Generate n) = refl

success_good : (command : Command) → is_good_status command 0 ≡ true
success_good Run = refl
success_good (Generate n) = refl

memory_good : (command : Command) → is_good_status command 6 ≡ true
memory_good Run = refl
memory_good (Generate n) = refl

read_good : (command : Command) → command ≡ Run → is_good_status command 4 ≡ true
read_good Run is = refl
read_good (Generate n) is = absurd (cc)

-- what was sent with a status that is good, or failed to be sent, has a good status
good_sent : (command : Command) (status result : ℕ) (sink sink_now : SinkState) (bytes : List ℕ) → is_good_status command status ≡ true → IsSent status result sink sink_now bytes → is_good_status command result ≡ true
good_sent command status result sink sink_now bytes is (inl sent) = ap (is_good_status command) sent.0 ∙ is
good_sent command status result sink sink_now bytes is (inr sent) = ap (is_good_status command) sent.0 ∙ write_good command

-- so has what was sent where no refusal came
pub success_sent : (command : Command) (result : ℕ) (sink sink_now : SinkState) (bytes : List ℕ) → IsSent 0 result sink sink_now bytes → is_good_status command result ≡ true
success_sent command result sink sink_now bytes sent = good_sent command 0 result sink sink_now bytes (success_good command) sent

module _ (words : List (List ℕ)) (old new : SourceState) (result : ℕ) (good : IsGood words old) where
  there : HasScript old good.command
  there = has_script old good.command good.holds

  same_command : (command : Command) → command_of words ≡ Some command → command ≡ good.command
  same_command command asked = same_Some command good.command (sym asked ∙ good.asked)

  same_bytes : (command : Command) (bytes : List ℕ) → command_of words ≡ Some command → Gets command old new bytes → bytes ≡ there.bytes
  same_bytes command bytes asked came =
      came_as_input old new there.bytes bytes good.command there.input (subst (λ c. Gets c old new bytes) (same_command command asked) came)

  not_faulty : (line : ℕ) → IsFaulty there.bytes line → ⊥
  not_faulty line faulty = faulty.is_line.none there.contents there.script

  not_full : OutgrowsArena there.bytes → ⊥
  not_full outgrows = small (subst AreMany (one_contents (with_end there.bytes) outgrows.contents there.contents outgrows.script there.script) outgrows.many there.most there.are_most)
    where
      small : 4294967295 < there.most → ⊥
      small many = omega (arith, many, there.room)

  not_long : (command : Command) → command_of words ≡ Some command → command ≡ Run → TakesCount old new (max_script_len + 1) → ⊥
  not_long command asked is takes =
      let input : IsInput Run old there.bytes = subst (λ c. IsInput c old there.bytes) (sym (same_command command asked) ∙ is) there.input in
      omega (arith, few_taken old.left new.left there.bytes takes.0 input takes.2, takes.1, there.fits)

  never_usage : IsJustified words old new Usage → ⊥
  never_usage cause = none-some good.command (sym cause.none ∙ good.asked)

  never_faulty : (line : ℕ) → IsJustified words old new (Syntax line) → ⊥
  never_faulty line cause = not_faulty line (subst (λ b. IsFaulty b line) (same_bytes cause.command cause.holds.bytes cause.asked cause.holds.came) cause.holds.holds)

  never_full : IsJustified words old new ArenaFull → ⊥
  never_full cause = not_full (subst OutgrowsArena (same_bytes cause.command cause.holds.bytes cause.asked cause.holds.came) cause.holds.holds)

  never_long : IsJustified words old new TooLong → ⊥
  never_long cause = not_long cause.command cause.asked cause.holds.0 cause.holds.1.0

  module _ (sink sink_now : SinkState) where
    -- a refusal that was told has a good status
    pub good_told : (refusal : Refusal) → IsJustified words old new refusal → IsTold refusal result sink sink_now → is_good_status good.command result ≡ true
    good_told (Syntax line) cause told = absurd (never_faulty line cause)
    good_told Usage cause told = absurd (never_usage cause)
    good_told Read cause told = good_sent good.command 4 result sink sink_now (line_of Read) (read_good good.command (sym (same_command cause.command cause.asked) ∙ cause.holds.0)) told
    good_told Memory cause told = good_sent good.command 6 result sink sink_now (line_of Memory) (memory_good good.command) told
    good_told ArenaFull cause told = absurd (never_full cause)
    good_told TooLong cause told = absurd (never_long cause)
