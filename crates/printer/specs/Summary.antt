-- The summary of a session: how many calls there are, how many of them are off and how many are code, how many hints those that are off have, and how many expressions the store holds.
use Rattle.std.specs.Prelude.{ℕ, Bool, true, false, ◌+◌, min, List, [], ◌∷◌, ◌++◌, length, count_by, codes}
use Rattle.std.specs.Fmt.{decimal}
use Rattle.hir_store.specs.declared.store.ExpressionStore.{ExpressionStore}
use Rattle.ra_cfg.specs.Options.{OptionSet}
use Rattle.cfg_dnf.specs.Hints.{hints}
use Rattle.hir_lower.specs.declared.outcome.Outcome.{Outcome}
use Rattle.hir_lower.specs.declared.outcome.Outcome.TheVariants.{Off, Code}

-- the calls that are off
abbrev pub is_off : Outcome → Bool
is_off (Off why dnf) = true
is_off (Code id) = false

-- the calls that are code
abbrev pub is_code : Outcome → Bool
is_code (Off why dnf) = false
is_code (Code id) = true

-- how many hints a call has under options
abbrev pub hints_at : OptionSet → Outcome → ℕ
hints_at options (Off why dnf) = length (hints options dnf)
hints_at options (Code id) = 0

-- how many hints the calls have
abbrev pub count_hints : OptionSet → List Outcome → ℕ
count_hints options [] = 0
count_hints options (outcome ∷ outcomes) = hints_at options outcome + count_hints options outcomes

-- the largest number of hints that is told: it stands for more, too
abbrev pub most_told : ℕ
most_told = 18446744073709551615

-- a line: a word, a space and a number
abbrev pub count_line : List ℕ → ℕ → List ℕ
count_line word number = word ++ codes " " ++ decimal number ++ codes "\n"

-- a line for each count
abbrev pub summary : ExpressionStore → OptionSet → List Outcome → List ℕ
summary store options outcomes =
    count_line (codes "calls") (length outcomes) ++ count_line (codes "off") (count_by is_off outcomes) ++ count_line (codes "code") (count_by is_code outcomes)
    ++ count_line (codes "hints") (min (count_hints options outcomes) most_told) ++ count_line (codes "exprs") (length store.exprs)
