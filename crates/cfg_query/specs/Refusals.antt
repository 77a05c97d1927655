-- What a script that was not read makes of a question.
use Rattle.script.specs.declared.script.ScriptError.{ScriptError}
use Rattle.script.specs.declared.script.ScriptError.TheVariants as script
use Rattle.cfg_query.specs.declared.query_error.QueryError.{QueryError}
use Rattle.cfg_query.specs.declared.query_error.QueryError.TheVariants as error

abbrev pub refusal_of : ScriptError → QueryError
refusal_of (script.Syntax line) = error.Options line
refusal_of (script.Memory refused) = error.Memory refused
