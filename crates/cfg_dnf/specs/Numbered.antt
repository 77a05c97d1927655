-- Hints by the number of their conjunction: the conjunctions of a predicate are numbered from 0, in order.
use Rattle.std.specs.Prelude.{ℕ, suc, if◌then◌else◌, nat_lt, List, [], ◌∷◌, drop, Option, Some, None}
use Rattle.ra_cfg.specs.declared.cfg_expr.CfgExpr.{CfgExpr}
use Rattle.ra_cfg.specs.Options.{OptionSet}
use Rattle.ra_cfg.specs.Diff.{Diff}
use Rattle.cfg_dnf.specs.declared.literal.Literal.{Literal}
use Rattle.cfg_dnf.specs.declared.numbered_hint.NumberedHint.{NumberedHint}
use Rattle.cfg_dnf.specs.Conjunctions.{conjunctions}
use Rattle.cfg_dnf.specs.Hints.{hint_if}

-- numbers are below this one
abbrev pub number_limit : ℕ
number_limit = 18_446_744_073_709_551_615

-- a hint with the number of its conjunction, or else another answer
abbrev pub hint_or : ℕ → Option Diff → Option NumberedHint → Option NumberedHint
hint_or number None behind = behind
hint_or number (Some diff) behind = Some (record { number = number; hint = diff })

-- the first hint of conjunctions, of which the first one has this number, among those whose numbers are below the limit
abbrev pub first_hint : OptionSet → ℕ → List (List Literal) → Option NumberedHint
first_hint options number [] = None
first_hint options number (c ∷ rest) = if nat_lt number number_limit then hint_or number (hint_if options c) (first_hint options (suc number) rest) else None

-- the first hint of a predicate among the conjunctions of this number and of larger ones
abbrev pub hint_from : OptionSet → CfgExpr → ℕ → Option NumberedHint
hint_from options expr number = first_hint options number (drop number (conjunctions expr))
