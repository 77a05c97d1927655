-- What is answered to a question about a predicate under the options of a script.
use Rattle.std.specs.Prelude.{◌≡◌, ◌≢◌, ◌⊎◌, ℕ, Bool, true, false, List, length, Option, Some, None}
use Rattle.std.specs.Option.{option_map}
use Rattle.ra_cfg.specs.declared.cfg_expr.CfgExpr.{CfgExpr}
use Rattle.ra_cfg.specs.Options.{OptionSet}
use Rattle.ra_cfg.specs.Reading.{reads_under}
use Rattle.ra_cfg.specs.Text.{diff_text}
use Rattle.cfg_dnf.specs.Hints.{reason}
use Rattle.cfg_dnf.specs.Numbered.{hint_from}
use Rattle.cfg_dnf.specs.ReasonText.{reason_text}
use Rattle.cfg_query.specs.declared.query_error.QueryError.{QueryError}
use Rattle.cfg_query.specs.declared.query_error.QueryError.TheVariants as error
use Rattle.cfg_query.specs.Query.{Asks, IsRefused}
use Rattle.juqabhino_c.specs.Handing.{Handed}

-- the status of a question that is refused
abbrev pub status_of : QueryError → ℕ
status_of (error.Options line) = 3
status_of error.Predicate = 10
status_of error.TooLong = 9
status_of (error.Memory refused) = 6

-- the texts ask for a predicate under options, and this holds of them
pub record AsksOf (options predicate : List ℕ) (Holds : OptionSet → CfgExpr → Type 0) : Type 0 where
  pub set : OptionSet
  pub expr : CfgExpr
  pub asks : Asks options predicate set expr
  pub holds : Holds set expr

-- the question is refused for a cause, and the status is the refusal's
pub record RefusesBy (options predicate : List ℕ) (status : ℕ) : Type 0 where
  pub error : QueryError
  pub cause : IsRefused options predicate error
  pub is_status : status ≡ status_of error

-- what a predicate reads, as a number
abbrev pub number_of : Option Bool → ℕ
number_of (Some false) = 0
number_of (Some true) = 1
number_of None = 2

-- what is told of what a predicate reads
pub record TellsReading (reads result : ℕ) (set : OptionSet) (expr : CfgExpr) : Type 0 where
  pub is_status : result ≡ 0
  pub is_read : reads ≡ number_of (reads_under set expr)

-- what the predicate reads is told, or the question is refused and nothing is told
abbrev pub Checked : List ℕ → List ℕ → ℕ → ℕ → ℕ → Type 0
Checked options predicate reads reads_now result =
    AsksOf options predicate (TellsReading reads_now result) ⊎ (RefusesBy options predicate result × (reads_now ≡ reads))

-- no text is told: its length is 0, and the room is as it was
pub record TellsNone (room room_now : List ℕ) (told : ℕ) : Type 0 where
  pub is_told : told ≡ 0
  pub same_room : room_now ≡ room

-- a text is told with its length, and handed out through the room
pub record TellsText (text room room_now : List ℕ) (told result : ℕ) : Type 0 where
  pub is_told : told ≡ length text
  pub handed : Handed text 0 room room_now result

-- a text that there may be: where there is none, the status is 1
abbrev pub Tells : Option (List ℕ) → List ℕ → List ℕ → ℕ → ℕ → Type 0
Tells None room room_now told result = (result ≡ 1) × TellsNone room room_now told
Tells (Some text) room room_now told result = TellsText text room room_now told result

-- the text of the reason, if there is one
abbrev pub reason_line : OptionSet → CfgExpr → Option (List ℕ)
reason_line set expr = option_map (λ r. reason_text r.enabled r.disabled) (reason set expr)

-- the reason is told, or the question is refused and nothing is told
abbrev pub Reasoned : List ℕ → List ℕ → List ℕ → List ℕ → ℕ → ℕ → Type 0
Reasoned options predicate room room_now told result =
    AsksOf options predicate (λ set expr. Tells (reason_line set expr) room room_now told result)
    ⊎ (RefusesBy options predicate result × TellsNone room room_now told)

-- a text with a number
pub record NumberedText : Type 0 where
  pub number : ℕ
  pub text : List ℕ

-- the text of the first hint from a number on, with the number of its conjunction, if there is one
abbrev pub hint_line : OptionSet → CfgExpr → ℕ → Option NumberedText
hint_line set expr number = option_map (λ f. record { number = f.number; text = diff_text f.hint.enabled f.hint.disabled }) (hint_from set expr number)

-- a text is told; its number is told with it where it fits, and is as it was where it does not
pub record TellsNumbered (found : NumberedText) (number number_now : ℕ) (room room_now : List ℕ) (told result : ℕ) : Type 0 where
  pub tells : TellsText found.text room room_now told result
  pub numbered : result ≡ 0 → number_now ≡ found.number
  pub same_number : result ≢ 0 → number_now ≡ number

-- a text with a number that there may be: where there is none, the status is 1, and the number is as it was
abbrev pub TellsHint : Option NumberedText → ℕ → ℕ → List ℕ → List ℕ → ℕ → ℕ → Type 0
TellsHint None number number_now room room_now told result = (result ≡ 1) × (TellsNone room room_now told × (number_now ≡ number))
TellsHint (Some found) number number_now room room_now told result = TellsNumbered found number number_now room room_now told result

-- the first hint from the number on is told, or the question is refused and nothing is told
abbrev pub Hinted : List ℕ → List ℕ → ℕ → ℕ → List ℕ → List ℕ → ℕ → ℕ → Type 0
Hinted options predicate number number_now room room_now told result =
    AsksOf options predicate (λ set expr. TellsHint (hint_line set expr number) number number_now room room_now told result)
    ⊎ (RefusesBy options predicate result × (TellsNone room room_now told × (number_now ≡ number)))
