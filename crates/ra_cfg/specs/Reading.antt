-- Under a set of atoms and a map of versions a predicate evaluates to `Some true`, `Some false` or `None`: it reads true, false or nothing.
use Rattle.std.specs.Prelude.{◌≡◌, ℕ, Bool, true, false, not, if◌then◌else◌, List, [], ◌∷◌, map, Option, Some, None}
use Rattle.std.specs.Option.{unwrap_or, option_map}
use Rattle.std.specs.List.{list_any, flat_map, AllByRecursion}
use Rattle.std.specs.FinSet as set
use Rattle.std.specs.FinMap as finite
use Rattle.ra_cfg.specs.declared.cfg_expr.CfgAtom.{CfgAtom}
use Rattle.ra_cfg.specs.declared.cfg_expr.CfgExpr.{CfgExpr, CfgExpr-F}
use Rattle.ra_cfg.specs.declared.cfg_expr.CfgExpr.TheFolds.{fold-CfgExpr}
use Rattle.ra_cfg.specs.Options.{OptionSet}

-- whether a reading is true
abbrev pub reads_true : Option Bool → Bool
reads_true (Some true) = true
reads_true (Some false) = false
reads_true None = false

-- whether a reading is false
abbrev pub reads_false : Option Bool → Bool
reads_false (Some true) = false
reads_false (Some false) = true
reads_false None = false

-- the first of these readings that passes the test
abbrev pub first_that : (Option Bool → Bool) → List (Option Bool) → Option (Option Bool)
first_that test [] = None
first_that test (part ∷ rest) = if test part then Some part else first_that test rest

-- `Not` exchanges true and false, and keeps nothing
abbrev pub read_not : Option Bool → Option Bool
read_not part = option_map not part

-- `All` reads what its first part that does not read true reads, and true where there is no such part
abbrev pub read_all : List (Option Bool) → Option Bool
read_all parts = unwrap_or (first_that (λ part. not (reads_true part)) parts) (Some true)

-- `Any` reads what its first part that does not read false reads, and false where there is no such part
abbrev pub read_any : List (Option Bool) → Option Bool
read_any parts = unwrap_or (first_that (λ part. not (reads_false part)) parts) (Some false)

-- what a predicate reads, of the readings of its parts: an atom is in the set or not, `Invalid` reads nothing, and a version has its answer or none
abbrev pub read_step : (CfgAtom → Bool) → (List ℕ → Option Bool) → CfgExpr-F (Option Bool) → Option Bool
read_step holds answer CfgExpr-F.Invalid = None
read_step holds answer (CfgExpr-F.Atom atom) = Some (holds atom)
read_step holds answer (CfgExpr-F.All parts) = read_all parts
read_step holds answer (CfgExpr-F.Any parts) = read_any parts
read_step holds answer (CfgExpr-F.Not part) = read_not part
read_step holds answer (CfgExpr-F.Version text) = answer text

-- what a predicate reads
abbrev pub reading : (CfgAtom → Bool) → (List ℕ → Option Bool) → CfgExpr → Option Bool
reading holds answer = fold-CfgExpr (Option Bool) (read_step holds answer)

-- what a predicate reads under options
abbrev pub reads_under : OptionSet → CfgExpr → Option Bool
reads_under options expr = reading (set.contains options.atoms) (finite.get options.versions) expr

-- a list of predicates is off where one of them, each taken by itself, reads false
abbrev pub is_off : OptionSet → List CfgExpr → Bool
is_off options predicates = list_any (λ expr. reads_false (reads_under options expr)) predicates

-- the atoms of a predicate, of those of its parts
abbrev pub atoms_step : CfgExpr-F (List CfgAtom) → List CfgAtom
atoms_step CfgExpr-F.Invalid = []
atoms_step (CfgExpr-F.Atom atom) = atom ∷ []
atoms_step (CfgExpr-F.All parts) = flat_map (λ part. part) parts
atoms_step (CfgExpr-F.Any parts) = flat_map (λ part. part) parts
atoms_step (CfgExpr-F.Not part) = part
atoms_step (CfgExpr-F.Version text) = []

-- the atoms of a predicate, from left to right
abbrev pub atoms_of : CfgExpr → List CfgAtom
atoms_of = fold-CfgExpr (List CfgAtom) atoms_step

-- the texts of the version parts of a predicate, of those of its parts
abbrev pub versions_step : CfgExpr-F (List (List ℕ)) → List (List ℕ)
versions_step CfgExpr-F.Invalid = []
versions_step (CfgExpr-F.Atom atom) = []
versions_step (CfgExpr-F.All parts) = flat_map (λ part. part) parts
versions_step (CfgExpr-F.Any parts) = flat_map (λ part. part) parts
versions_step (CfgExpr-F.Not part) = part
versions_step (CfgExpr-F.Version text) = text ∷ []

-- the texts of the version parts of a predicate, from left to right
abbrev pub versions_of : CfgExpr → List (List ℕ)
versions_of = fold-CfgExpr (List (List ℕ)) versions_step

-- each answer that can come to one of these questions is the one of the function
abbrev pub Agrees : {Q A : Type 0} → (Q → A → Type 0) → (Q → A) → List Q → Type 0
Agrees {Q} {A} returns answer asked = AllByRecursion (λ q. (r : A) → returns q r → r ≡ answer q) asked

-- `result` is what the predicate reads under every set of atoms and every map of versions with which the answers agree
abbrev pub EvaluatesTo : (CfgAtom → Bool → Type 0) → (List ℕ → Option Bool → Type 0) → CfgExpr → Option Bool → Type 0
EvaluatesTo query version expr result =
    (holds : CfgAtom → Bool) (answer : List ℕ → Option Bool) → Agrees query holds (atoms_of expr) → Agrees version answer (versions_of expr) → result ≡ reading holds answer expr

-- `result` is what `read` makes of what these predicates read under every such set and map
abbrev pub FoldsTo : (CfgAtom → Bool → Type 0) → (List ℕ → Option Bool → Type 0) → (List (Option Bool) → Option Bool) → List CfgExpr → Option Bool → Type 0
FoldsTo query version read parts result =
    (holds : CfgAtom → Bool) (answer : List ℕ → Option Bool) → Agrees query holds (flat_map (λ part. part) (map atoms_of parts)) → Agrees version answer (flat_map (λ part. part) (map versions_of parts)) →
    result ≡ read (map (reading holds answer) parts)
