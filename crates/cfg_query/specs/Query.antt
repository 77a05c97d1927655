-- What is asked of a predicate under options, and when a question is refused.
use Rattle.std.specs.Prelude.{◌≡◌, ◌≤◌, ◌<◌, ◌⊎◌, ℕ, List, length, Result, Ok, Err}
use Rattle.ra_cfg.specs.declared.cfg_expr.CfgExpr.{CfgExpr}
use Rattle.ra_cfg.specs.Options.{OptionSet}
use Rattle.script.specs.Contents.{Contents}
use Rattle.script.specs.Limit.{max_script_len}
use Rattle.script.specs.Script.{IsScript, IsFaultLine}
use Rattle.cfg_query.specs.Predicate.{IsPredicate}
use Rattle.cfg_query.specs.declared.query_error.QueryError.{QueryError}
use Rattle.cfg_query.specs.declared.query_error.QueryError.TheVariants as error

-- the bytes are few enough, and a script with these options
pub record HasOptions (bytes : List ℕ) (set : OptionSet) : Type 0 where
  pub fits : length bytes ≤ max_script_len
  pub contents : Contents
  pub script : IsScript bytes contents
  pub are : set ≡ contents.options

-- the bytes are few enough, and say this predicate
pub record SaysPredicate (bytes : List ℕ) (expr : CfgExpr) : Type 0 where
  pub fits : length bytes ≤ max_script_len
  pub is : IsPredicate bytes expr

-- one text has these options, and the other says this predicate
pub record Asks (options predicate : List ℕ) (set : OptionSet) (expr : CfgExpr) : Type 0 where
  pub has : HasOptions options set
  pub says : SaysPredicate predicate expr

-- why the text of a predicate is refused: it is none, or it is too long; want of memory may come whatever it is
abbrev pub IsNoPredicate : List ℕ → QueryError → Type 0
IsNoPredicate bytes (error.Options line) = ⊥
IsNoPredicate bytes error.Predicate = (length bytes ≤ max_script_len) × ((expr : CfgExpr) → IsPredicate bytes expr → ⊥)
IsNoPredicate bytes error.TooLong = max_script_len < length bytes
IsNoPredicate bytes (error.Memory refused) = Unit {0}

-- why the text of the options is refused: it is no script, whose first broken item begins in this line; or it is too long
abbrev pub HasNoOptions : List ℕ → QueryError → Type 0
HasNoOptions bytes (error.Options line) = (length bytes ≤ max_script_len) × IsFaultLine bytes line
HasNoOptions bytes error.Predicate = ⊥
HasNoOptions bytes error.TooLong = max_script_len < length bytes
HasNoOptions bytes (error.Memory refused) = Unit {0}

-- why a question is refused: for one of its two texts
abbrev pub IsRefused : List ℕ → List ℕ → QueryError → Type 0
IsRefused options predicate error = HasNoOptions options error ⊎ IsNoPredicate predicate error

-- what holds of an error, where there is one
abbrev pub IfRefused : {A : Type 0} → Result A QueryError → (QueryError → Type 0) → Type 0
IfRefused (Ok value) Holds = Unit {0}
IfRefused (Err error) Holds = Holds error
