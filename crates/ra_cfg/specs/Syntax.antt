-- Which predicate a syntax tree of one (`CfgPredicate`) means.
use Rattle.std.specs.Prelude.{ℕ, if◌then◌else◌, List, [], ◌∷◌, Option, Some, None, codes}
use Rattle.std.specs.Str.{bytes_eq}
use Rattle.syn_trees.specs.ReadString.{value_of}
use Rattle.syn_trees.specs.declared.cfg_predicate.CfgAtomKey.{CfgAtomKey}
use Rattle.syn_trees.specs.declared.cfg_predicate.CfgAtomKey.TheVariants.{True, False, Ident}
use Rattle.syn_trees.specs.declared.cfg_predicate.CfgPredicate.{CfgPredicate, CfgPredicate-F}
use Rattle.syn_trees.specs.declared.cfg_predicate.CfgPredicate.TheFolds.{fold-CfgPredicate}
use Rattle.ra_cfg.specs.declared.cfg_expr.CfgAtom.TheVariants.{Flag, KeyValue}
use Rattle.ra_cfg.specs.declared.cfg_expr.CfgExpr.{CfgExpr, Invalid, Atom, All, Any, Not, Version}

-- a key with a value, which may be refused
abbrev pub pair_of : List ℕ → Option (List ℕ) → CfgExpr
pair_of key None = Invalid
pair_of key (Some value) = Atom (KeyValue key value)

-- a word with a string or without one
abbrev pub worded : List ℕ → Option (List ℕ) → CfgExpr
worded word None = Atom (Flag word)
worded word (Some token) = pair_of word (value_of token)

-- an atom: the words `true` and `false` are flags, whatever stands beside them
abbrev pub atom_of : Option CfgAtomKey → Option (List ℕ) → CfgExpr
atom_of None string = Invalid
atom_of (Some True) string = Atom (Flag (codes "true"))
atom_of (Some False) string = Atom (Flag (codes "false"))
atom_of (Some (Ident word)) string = worded word string

-- `not` has one part
abbrev pub not_of : List CfgExpr → CfgExpr
not_of [] = Invalid
not_of (part ∷ []) = Not part
not_of (part ∷ second ∷ parts) = Invalid

-- a keyword with parts
abbrev pub composite_of : Option (List ℕ) → List CfgExpr → CfgExpr
composite_of None parts = Invalid
composite_of (Some word) parts =
    if bytes_eq word (codes "all") then All parts else
    if bytes_eq word (codes "any") then Any parts else
    if bytes_eq word (codes "not") then not_of parts else Invalid

-- a version with a text, which may be refused
abbrev pub version_with : Option (List ℕ) → CfgExpr
version_with None = Invalid
version_with (Some text) = Version text

-- a version with a string or without one
abbrev pub version_by : Option (List ℕ) → CfgExpr
version_by None = Invalid
version_by (Some token) = version_with (value_of token)

-- what the syntax means, of what its parts mean
abbrev pub meaning_step : CfgPredicate-F CfgExpr → CfgExpr
meaning_step (CfgPredicate-F.Atom key string) = atom_of key string
meaning_step (CfgPredicate-F.Composite keyword parts) = composite_of keyword parts
meaning_step (CfgPredicate-F.Version string) = version_by string

-- what the syntax means
abbrev pub meaning : CfgPredicate → CfgExpr
meaning = fold-CfgPredicate CfgExpr meaning_step
