-- What a conjunction says under options, and its hint.
use Rattle.std.specs.Prelude.{Bool, true, false, not, ◌&&◌, ◌||◌, if◌then◌else◌, List, [], ◌∷◌, map, Option, Some, None, is_none}
use Rattle.std.specs.Option.{option_map}
use Rattle.std.specs.List.{list_any, list_all, filter_map, filter, flat_map}
use Rattle.std.specs.Ordering.{eq_by_cmp, match_ordering}
use Rattle.std.specs.FinSet as set
use Rattle.std.specs.FinMap as finite
use Rattle.ra_cfg.specs.declared.cfg_expr.CfgAtom.{CfgAtom}
use Rattle.ra_cfg.specs.declared.cfg_expr.CfgExpr.{CfgExpr}
use Rattle.ra_cfg.specs.Options.{OptionSet, atom_cmp, is_reserved, name_of}
use Rattle.ra_cfg.specs.Diff.{Diff}
use Rattle.ra_cfg.specs.Reading.{reads_true, reads_false}
use Rattle.cfg_dnf.specs.declared.literal.Leaf.{Leaf}
use Rattle.cfg_dnf.specs.declared.literal.Leaf.TheVariants.{Atom, Invalid, Version}
use Rattle.cfg_dnf.specs.declared.literal.Literal.{Literal}
use Rattle.cfg_dnf.specs.declared.literal.Literal.TheVariants.{Plain, Negated}
use Rattle.cfg_dnf.specs.Conjunctions.{conjunctions}

-- whether an atom is set
abbrev pub holds : OptionSet → CfgAtom → Bool
holds options atom = set.contains options.atoms atom

-- what a leaf is under options: what is no predicate, and a version without an answer, are open
abbrev pub leaf_answer : OptionSet → Leaf → Option Bool
leaf_answer options (Atom atom) = Some (holds options atom)
leaf_answer options Invalid = None
leaf_answer options (Version text) = finite.get options.versions text

-- what a literal is under options
abbrev pub answer : OptionSet → Literal → Option Bool
answer options (Plain leaf) = leaf_answer options leaf
answer options (Negated leaf) = option_map not (leaf_answer options leaf)

-- what a leaf's answer makes of a literal
abbrev pub answer_if : Option Bool → Bool → Option Bool
answer_if told false = told
answer_if told true = option_map not told

-- whether a literal is open
abbrev pub is_open : OptionSet → Literal → Bool
is_open options literal = is_none (answer options literal)

-- whether a literal is true
abbrev pub is_true : OptionSet → Literal → Bool
is_true options literal = reads_true (answer options literal)

-- whether a literal is false
abbrev pub is_false : OptionSet → Literal → Bool
is_false options literal = reads_false (answer options literal)

-- the atom of a literal
abbrev pub leaf_atom : Leaf → Option CfgAtom
leaf_atom (Atom atom) = Some atom
leaf_atom Invalid = None
leaf_atom (Version text) = None

-- the atom of a plain literal
abbrev pub plain_atom : Literal → Option CfgAtom
plain_atom (Plain leaf) = leaf_atom leaf
plain_atom (Negated leaf) = None

-- the atom of a negated literal
abbrev pub negated_atom : Literal → Option CfgAtom
negated_atom (Plain leaf) = None
negated_atom (Negated leaf) = leaf_atom leaf

-- the atoms of the plain literals that are false: what a conjunction wants to be enabled
abbrev pub wants : OptionSet → List Literal → List CfgAtom
wants options literals = filter_map plain_atom (filter (is_false options) literals)

-- the atoms of the negated literals that are false: what a conjunction wants to be disabled
abbrev pub wants_off : OptionSet → List Literal → List CfgAtom
wants_off options literals = filter_map negated_atom (filter (is_false options) literals)

-- an atom put where it belongs among atoms in order, unless it stands there
abbrev pub put : CfgAtom → List CfgAtom → List CfgAtom
put a [] = a ∷ []
put a (b ∷ bs) = match_ordering (atom_cmp a b) (a ∷ b ∷ bs) (b ∷ bs) (b ∷ put a bs)

-- atoms in order, each once
abbrev pub in_order : List CfgAtom → List CfgAtom
in_order [] = []
in_order (a ∷ rest) = put a (in_order rest)

-- the hint of a conjunction: it enables the plain atoms that are off, and disables the negated atoms that are on
abbrev pub hint : OptionSet → List Literal → Diff
hint options literals = record { enabled = in_order (wants options literals); disabled = in_order (wants_off options literals) }

-- whether a literal is of an atom
abbrev pub is_atom : Literal → Bool
is_atom (Plain (Atom atom)) = true
is_atom (Plain Invalid) = false
is_atom (Plain (Version text)) = false
is_atom (Negated (Atom atom)) = true
is_atom (Negated Invalid) = false
is_atom (Negated (Version text)) = false

-- whether a literal is of an atom, or true
abbrev pub is_settled : OptionSet → Literal → Bool
is_settled options literal = is_atom literal || is_true options literal

-- whether an atom has a name or a key that is reserved
abbrev pub is_fixed : CfgAtom → Bool
is_fixed atom = is_reserved (name_of atom)

-- whether an atom is one of these
abbrev pub is_among : List CfgAtom → CfgAtom → Bool
is_among atoms atom = list_any (eq_by_cmp atom_cmp atom) atoms

-- whether an atom stands among the literals both plain and negated
abbrev pub contradicts : List Literal → Bool
contradicts literals = list_any (is_among (filter_map plain_atom literals)) (filter_map negated_atom literals)

-- A conjunction gives a hint where
--     no literal is open, and none is a version that makes it false;
--     it does not hold an atom and its negation;
--     it does not hold true literals alone;
--     the hint names no atom whose name or key is reserved.
abbrev pub gives_hint : OptionSet → List Literal → Bool
gives_hint options literals =
    (list_all (is_settled options) literals && not (contradicts literals)) &&
    (not (list_all (is_true options) literals) && (not (list_any is_fixed (wants options literals)) && not (list_any is_fixed (wants_off options literals))))

-- the hint of a conjunction, where it gives one
abbrev pub hint_if : OptionSet → List Literal → Option Diff
hint_if options literals = if gives_hint options literals then Some (hint options literals) else None

-- the hints of conjunctions, in order
abbrev pub hints_of : OptionSet → List (List Literal) → List Diff
hints_of options listed = map (hint options) (filter (gives_hint options) listed)

-- the hints of a predicate under options
abbrev pub hints : OptionSet → CfgExpr → List Diff
hints options expr = hints_of options (conjunctions expr)

-- atoms that are on and would have to be off, and atoms that are off and would have to be on
pub record Reason : Type 0 where
  pub enabled : List CfgAtom
  pub disabled : List CfgAtom

-- the atoms of the false literals
abbrev pub reason_of : OptionSet → List Literal → Reason
reason_of options literals = record { enabled = in_order (wants_off options literals); disabled = in_order (wants options literals) }

-- Why a predicate is off: there is a reason where none of its literals is open and none of its conjunctions holds true literals
-- alone, and it has the atoms of all false literals.
abbrev pub reason : OptionSet → CfgExpr → Option Reason
reason options expr =
    if list_any (list_any (is_open options)) (conjunctions expr) || list_any (list_all (is_true options)) (conjunctions expr)
    then None
    else Some (reason_of options (flat_map (λ conjunction. conjunction) (conjunctions expr)))
