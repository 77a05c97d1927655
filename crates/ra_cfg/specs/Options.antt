-- Options are a set of atoms and a map from the texts of versions to yes or no.
use Rattle.std.specs.Prelude.{◌≡◌, ℕ, Bool, true, ◌||◌, if◌then◌else◌, List, [], ◌∷◌, ◌⊎◌, Option, Some, None, map as list_map, codes, refl}
use Rattle.std.specs.List.{IsDistinct, filter_map}
use Rattle.std.specs.Str.{bytes_eq}
use Rattle.std.specs.Ordering.{nat_cmp, eq_by_cmp}
use Rattle.std.specs.declared.cmp.Ordering.{Ordering}
use Rattle.std.specs.Coded.{Coded, code_by, coded×, coded_list, coded_ℕ, coded_bool}
use Rattle.std.specs.Cmp.Lexicographic.{slice_cmp}
use Rattle.std.specs.FinSet as set
use Rattle.std.specs.FinMap as map
use Rattle.ra_cfg.specs.contracts.cfg_expr.CfgAtom as atom
use Rattle.ra_cfg.specs.contracts.cfg_expr.CfgAtomOrd.TheImpl as order
use Rattle.ra_cfg.specs.declared.cfg_expr.CfgAtom.{CfgAtom}
use Rattle.ra_cfg.specs.declared.cfg_expr.CfgAtom.TheVariants.{Flag, KeyValue}

-- the order of atoms: flags by their bytes, then pairs by key, then by value
abbrev pub atom_cmp : CfgAtom → CfgAtom → Ordering
atom_cmp = (order.ghosts).cmp

-- which atoms are set, and which versions have an answer
pub record OptionSet : Type 0 where
  pub atoms : set.FinSet atom_cmp
  pub versions : map.FinMap (slice_cmp nat_cmp) Bool

-- options are stored as the pair of their parts
abbrev pub options_code : Coded OptionSet
options_code =
    code_by (set.FinSet atom_cmp × map.FinMap (slice_cmp nat_cmp) Bool) (coded× (set.code atom.the_row.coded) (map.code (coded_list coded_ℕ) coded_bool)) (λ o. (o.atoms, o.versions)) (λ p. record { atoms = p.0; versions = p.1 }) (λ _. refl)

-- the name of a flag, or the key of a pair
abbrev pub name_of : CfgAtom → List ℕ
name_of (Flag name) = name
name_of (KeyValue key value) = key

-- the names `true` and `false` are reserved
abbrev pub IsReserved : List ℕ → Type 0
IsReserved name = (name ≡ codes "true") ⊎ (name ≡ codes "false")

-- the flag `true`
abbrev pub true_flag : CfgAtom
true_flag = Flag (codes "true")

-- a set is settable where it holds the flag `true` and no other atom whose name or key is reserved
pub record IsSettable (atoms : set.FinSet atom_cmp) : Type 0 where
  pub holds_true : set.contains atoms true_flag ≡ true
  pub no_other : (a : CfgAtom) → set.contains atoms a ≡ true → IsReserved (name_of a) → a ≡ true_flag

-- the options with one more atom
abbrev pub with_atom : OptionSet → CfgAtom → OptionSet
with_atom o a = record { atoms = set.insert o.atoms a; versions = o.versions }

-- the options with the flag `true` alone, and no version that has an answer
abbrev pub only_true : OptionSet
only_true = record { atoms = set.insert set.empty true_flag; versions = map.empty }

-- whether a name is reserved
abbrev pub is_reserved : List ℕ → Bool
is_reserved name = bytes_eq name (codes "true") || bytes_eq name (codes "false")

-- the options with this flag put in: a reserved name changes nothing
abbrev pub with_flag : OptionSet → List ℕ → OptionSet
with_flag o name = if is_reserved name then o else with_atom o (Flag name)

-- the options with this atom put in: one with a reserved name or key changes nothing
abbrev pub with_free : OptionSet → CfgAtom → OptionSet
with_free o a = if is_reserved (name_of a) then o else with_atom o a

-- the options with these atoms put in, one after the other
abbrev pub with_all : OptionSet → List CfgAtom → OptionSet
with_all o [] = o
with_all o (a ∷ rest) = with_all (with_free o a) rest

-- the options without this atom: one with a reserved name or key stays
abbrev pub without_free : OptionSet → CfgAtom → OptionSet
without_free o a = if is_reserved (name_of a) then o else (record { atoms = set.remove o.atoms a; versions = o.versions })

-- the options without these atoms
abbrev pub without_all : OptionSet → List CfgAtom → OptionSet
without_all o [] = o
without_all o (a ∷ rest) = without_all (without_free o a) rest

-- `new` is what is left where these atoms are put into `old`
abbrev pub TakesIn : OptionSet → List CfgAtom → OptionSet → Type 0
TakesIn old atoms new = new ≡ with_all old atoms

-- the options with this answer for a version
abbrev pub with_answer : OptionSet → List ℕ → Bool → OptionSet
with_answer o text answer = record { atoms = o.atoms; versions = map.insert o.versions text answer }

-- a list has each atom of a set once
pub record Lists (atoms : set.FinSet atom_cmp) (items : List CfgAtom) : Type 0 where
  pub each : set.from_list items ≡ atoms
  pub once : IsDistinct (eq_by_cmp atom_cmp) items

-- the name of a flag, or the key of a pair, of each of these atoms
abbrev pub names_of : List CfgAtom → List (List ℕ)
names_of atoms = list_map name_of atoms

-- the value of a pair with this key
abbrev pub value_at : List ℕ → CfgAtom → Option (List ℕ)
value_at wanted (Flag name) = None
value_at wanted (KeyValue key value) = if bytes_eq key wanted then Some value else None

-- the value of each of these atoms that is a pair with this key
abbrev pub values_at : List ℕ → List CfgAtom → List (List ℕ)
values_at wanted atoms = filter_map (value_at wanted) atoms

-- a map with these answers put in, one after the other
abbrev pub with_answers : map.FinMap (slice_cmp nat_cmp) Bool → List (List ℕ × Bool) → map.FinMap (slice_cmp nat_cmp) Bool
with_answers versions [] = versions
with_answers versions (e ∷ rest) = with_answers (map.insert versions e.0 e.1) rest

-- the atoms of both options, and the answers of both, those of the second over those of the first
abbrev pub appended : OptionSet → OptionSet → OptionSet
appended o other = record { atoms = set.union o.atoms other.atoms; versions = with_answers o.versions (map.entries other.versions) }
