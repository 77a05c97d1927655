-- How predicates are written.
use Rattle.std.specs.Prelude.{ℕ, Bool, false, ◌||◌, nat_eq, nat_lt, if◌then◌else◌, List, [], ◌∷◌, ◌++◌, codes}
use Rattle.std.specs.List.{flat_map}
use Rattle.std.specs.Char.{encode_utf8}
use Rattle.std.specs.Str.{chars}
use Rattle.std.specs.Fmt.{radix_digits}
use Rattle.ra_cfg.specs.declared.cfg_expr.CfgAtom.{CfgAtom}
use Rattle.ra_cfg.specs.declared.cfg_expr.CfgAtom.TheVariants.{Flag, KeyValue}
use Rattle.ra_cfg.specs.declared.cfg_expr.CfgExpr.{CfgExpr, CfgExpr-F}
use Rattle.ra_cfg.specs.declared.cfg_expr.CfgExpr.TheFolds.{fold-CfgExpr}

-- `\u{h}`, with the number of the character in hexadecimal digits
abbrev pub unicode_escape : ℕ → List ℕ
unicode_escape c = codes "\\u{" ++ radix_digits 16 false c ++ codes "}"

-- the characters below 32, and 127
abbrev pub is_control : ℕ → Bool
is_control c = nat_lt c 32 || nat_eq c 127

-- how a character is written between quotes
unfoldable pub escaped : ℕ → List ℕ
escaped c =
    if nat_eq c 34 then codes "\\\"" else
    if nat_eq c 92 then codes "\\\\" else
    if nat_eq c 10 then codes "\\n" else
    if nat_eq c 13 then codes "\\r" else
    if nat_eq c 9 then codes "\\t" else
    if nat_eq c 0 then codes "\\0" else
    if is_control c then unicode_escape c else encode_utf8 c

-- a text between quotes
abbrev pub quoted : List ℕ → List ℕ
quoted text = codes "\"" ++ flat_map escaped (chars text) ++ codes "\""

-- an atom: a name, or `key = "value"`
abbrev pub atom_text : CfgAtom → List ℕ
atom_text (Flag name) = name
atom_text (KeyValue key value) = key ++ codes " = " ++ quoted value

-- a text behind `, `
abbrev pub after_comma : List ℕ → List ℕ
after_comma text = codes ", " ++ text

-- texts with `, ` between
abbrev pub joined : List (List ℕ) → List ℕ
joined [] = []
joined (text ∷ texts) = text ++ flat_map after_comma texts

-- a word, and a text in brackets behind it
abbrev pub call_text : List ℕ → List ℕ → List ℕ
call_text word inside = word ++ inside ++ codes ")"

-- the text of a predicate, of the texts of its parts
abbrev pub text_step : CfgExpr-F (List ℕ) → List ℕ
text_step CfgExpr-F.Invalid = codes "invalid"
text_step (CfgExpr-F.Atom atom) = atom_text atom
text_step (CfgExpr-F.All parts) = call_text (codes "all(") (joined parts)
text_step (CfgExpr-F.Any parts) = call_text (codes "any(") (joined parts)
text_step (CfgExpr-F.Not part) = call_text (codes "not(") part
text_step (CfgExpr-F.Version text) = call_text (codes "version(") (quoted text)

-- the text of a predicate
abbrev pub expr_text : CfgExpr → List ℕ
expr_text = fold-CfgExpr (List ℕ) text_step

-- a text behind ` and `
abbrev pub after_and : List ℕ → List ℕ
after_and text = codes " and " ++ text

-- atoms behind a first one: the last behind ` and `, each of the others behind `, `
abbrev pub more_atoms : List CfgAtom → List ℕ
more_atoms [] = []
more_atoms (atom ∷ []) = after_and (atom_text atom)
more_atoms (atom ∷ next ∷ more) = after_comma (atom_text atom) ++ more_atoms (next ∷ more)

-- atoms in words
abbrev pub atoms_text : List CfgAtom → List ℕ
atoms_text [] = []
atoms_text (atom ∷ more) = atom_text atom ++ more_atoms more

-- `disable` and atoms, if there are any
abbrev pub disabled_text : List CfgAtom → List ℕ
disabled_text [] = []
disabled_text (atom ∷ more) = codes "disable " ++ atoms_text (atom ∷ more)

-- what stands between two texts, if the second is of atoms
abbrev pub divided : List CfgAtom → List ℕ
divided [] = []
divided (atom ∷ more) = codes "; "

-- the text of a diff: `enable` and its atoms, `disable` and its atoms, with `; ` between where there are both
abbrev pub diff_text : List CfgAtom → List CfgAtom → List ℕ
diff_text [] disabled = disabled_text disabled
diff_text (atom ∷ more) disabled = codes "enable " ++ (atoms_text (atom ∷ more) ++ (divided disabled ++ disabled_text disabled))
