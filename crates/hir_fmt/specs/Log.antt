-- What `Captures` is told, and what it answers.
use Rattle.std.specs.Prelude.{◌≡◌, List, [], ◌∷◌, ◌++◌, Option, option_map, Ok, Err}
use Rattle.std.specs.declared.result.Result.{Result}
use Rattle.sym_core.specs.declared.name.Name.{Name}
use Rattle.sym_core.specs.declared.text_range.TextRange.{TextRange}
use Rattle.hir_store.specs.declared.ids.ExprId.{ExprId}

-- an entry of a log: a name that was used, or one for which this expression was made, with its span
pub data Entry : Type 0 where
  Usage : Name → Option TextRange → Entry
  Made : Name → Option TextRange → ExprId → Entry

-- the log, where it is told, has these entries more
abbrev pub Logs : Option (List Entry) → List Entry → Option (List Entry) → Type 0
Logs old entries new = new ≡ option_map (λ log. log ++ entries) old

-- a call that is done logs one entry, and one that is refused logs none
abbrev pub LogsOne : {T E : Type 0} → Option (List Entry) → Option (List Entry) → Result T E → (T → Entry) → Type 0
LogsOne old new (Ok x) entry = Logs old (entry x ∷ []) new
LogsOne old new (Err e) entry = new ≡ old
