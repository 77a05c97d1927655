-- Going through the parts of a predicate: what their readings, and the questions that are asked, leave for the parts behind.
use Rattle.std.proofs.Common.{◌≡◌, ℕ, Bool, true, false, List, [], ◌∷◌, ◌++◌, ◌+◌, ◌<◌, ◌≤◌, length, drop, map, Option, Some, sym, ap, subst, ◌∙◌, slice_index_or}
use Rattle.std.proofs.lemmas.List.{drop_more, at_drop_all}
use Rattle.std.specs.List.{flat_map, AllByRecursion}
use Rattle.ra_cfg.specs.declared.cfg_expr.CfgAtom.{CfgAtom}
use Rattle.ra_cfg.specs.declared.cfg_expr.CfgExpr.{CfgExpr, Atom, All, Any, Not, Version}
use Rattle.ra_cfg.specs.Reading.{reading, read_all, read_any, read_not, atoms_of, versions_of, Agrees}
use Rattle.ra_cfg.proofs.Equations.{reading-Atom, reading-All, reading-Any, reading-Not, reading-Version, atoms-Atom, atoms-All, atoms-Any, atoms-Not, versions-All, versions-Any, versions-Not, versions-Version}

-- what holds of all is what holds of the front and of the rest
parted : {X : Type 0} (P : X → Type 0) (xs ys : List X) → AllByRecursion P (xs ++ ys) → AllByRecursion P xs × AllByRecursion P ys
parted P [] ys all = (tt, all)
parted P (x ∷ xs) ys all = let rest = parted P xs ys all.1 in ((all.0, rest.0), rest.1)

-- answers that are the function's at every question are so at these
pub agrees_on : {Q A : Type 0} (returns : Q → A → Type 0) (answer : Q → A) (asked : List Q) → ((q : Q) (r : A) → returns q r → r ≡ answer q) → Agrees returns answer asked
agrees_on returns answer [] always = tt
agrees_on returns answer (q ∷ asked) always = (always q, agrees_on returns answer asked always)

module _ (holds : CfgAtom → Bool) (answer : List ℕ → Option Bool) (query : CfgAtom → Bool → Type 0) (version : List ℕ → Option Bool → Type 0) where
  -- the parts `rest` read by `read` what all of them do, and the questions of their atoms and versions are answered alike
  pub record Remains (read : List (Option Bool) → Option Bool) (parts rest : List CfgExpr) : Type 0 where
    pub reads : read (map (reading holds answer) rest) ≡ read (map (reading holds answer) parts)
    pub atoms : Agrees query holds (flat_map (λ part. part) (map atoms_of rest))
    pub versions : Agrees version answer (flat_map (λ part. part) (map versions_of rest))

  -- the next part read r, and so r with the readings of `rest` reads by `read` what all parts do
  pub record Turned (read : List (Option Bool) → Option Bool) (parts rest : List CfgExpr) (r : Option Bool) : Type 0 where
    pub reads : read (r ∷ map (reading holds answer) rest) ≡ read (map (reading holds answer) parts)
    pub atoms : Agrees query holds (flat_map (λ part. part) (map atoms_of rest))
    pub versions : Agrees version answer (flat_map (λ part. part) (map versions_of rest))

  of_next : (read : List (Option Bool) → Option Bool) (parts rest : List CfgExpr) (part : CfgExpr) (r : Option Bool) →
      (Agrees query holds (atoms_of part) → Agrees version answer (versions_of part) → r ≡ reading holds answer part) →
      Remains read parts (part ∷ rest) → Turned read parts rest r
  of_next read parts rest part r found remains =
      let atoms = parted _ (atoms_of part) (flat_map (λ part. part) (map atoms_of rest)) remains.atoms in
      let versions = parted _ (versions_of part) (flat_map (λ part. part) (map versions_of rest)) remains.versions in
      record {
        reads = ap (λ r. read (r ∷ map (reading holds answer) rest)) (found atoms.0 versions.0) ∙ remains.reads;
        atoms = atoms.1;
        versions = versions.1;
      }

  -- one turn: the part at i is read
  pub turned : (read : List (Option Bool) → Option Bool) (parts : List CfgExpr) (i : ℕ) (part : CfgExpr) (r : Option Bool) → i < length parts → part ≡ slice_index_or parts i part →
      (Agrees query holds (atoms_of part) → Agrees version answer (versions_of part) → r ≡ reading holds answer part) →
      Remains read parts (drop i parts) → Turned read parts (drop (i + 1) parts) r
  turned read parts i part r within is found remains =
      of_next read parts (drop (i + 1) parts) part r found (subst (Remains read parts) (drop_more parts i part within ∙ ap (λ p. p ∷ drop (i + 1) parts) (sym is)) remains)

  -- behind the last part nothing is left to read
  pub at_end : (read : List (Option Bool) → Option Bool) (parts : List CfgExpr) (i : ℕ) → length parts ≤ i → Remains read parts (drop i parts) → read [] ≡ read (map (reading holds answer) parts)
  at_end read parts i done remains = sym (at_drop_all (λ rest. read (map (reading holds answer) rest)) parts i done) ∙ remains.reads

  -- the part is the first that decides
  pub stops : {read : List (Option Bool) → Option Bool} {parts rest : List CfgExpr} {r : Option Bool} (x : Option Bool) → Turned read parts rest r → r ≡ x → read (x ∷ map (reading holds answer) rest) ≡ read (map (reading holds answer) parts)
  stops {read = read} {rest = rest} x turn e = ap (λ r. read (r ∷ map (reading holds answer) rest)) (sym e) ∙ turn.reads

  -- a part that reads true decides nothing in `All`, and one that reads false nothing in `Any`
  pub all_goes_on : {parts rest : List CfgExpr} {r : Option Bool} → Turned read_all parts rest r → r ≡ Some true → Remains read_all parts rest
  all_goes_on turn e = record { reads = stops (Some true) turn e; atoms = turn.atoms; versions = turn.versions }

  pub any_goes_on : {parts rest : List CfgExpr} {r : Option Bool} → Turned read_any parts rest r → r ≡ Some false → Remains read_any parts rest
  any_goes_on turn e = record { reads = stops (Some false) turn e; atoms = turn.atoms; versions = turn.versions }

  -- what was answered of an atom is what it reads
  pub of_atom : (expr : CfgExpr) (atom : CfgAtom) (r : Bool) → expr ≡ Atom atom → query atom r → Agrees query holds (atoms_of expr) → Some r ≡ reading holds answer expr
  of_atom expr atom r is told atoms =
      let agree : Agrees query holds (atom ∷ []) = subst (Agrees query holds) (ap atoms_of is ∙ atoms-Atom atom) atoms in
      ap Some (agree.0 r told) ∙ sym (ap (reading holds answer) is ∙ reading-Atom holds answer atom)

  -- what was answered of a version is what it reads
  pub of_version : (expr : CfgExpr) (text : List ℕ) (r : Option Bool) → expr ≡ Version text → version text r → Agrees version answer (versions_of expr) → r ≡ reading holds answer expr
  of_version expr text r is told versions =
      let agree : Agrees version answer (text ∷ []) = subst (Agrees version answer) (ap versions_of is ∙ versions-Version text) versions in
      agree.0 r told ∙ sym (ap (reading holds answer) is ∙ reading-Version holds answer text)

  -- what was found of the parts of `All`, of `Any` and of `Not` is what it reads
  pub of_all : (expr : CfgExpr) (parts shown : List CfgExpr) (r : Option Bool) → expr ≡ All parts → shown ≡ parts →
      (Agrees query holds (flat_map (λ part. part) (map atoms_of shown)) → Agrees version answer (flat_map (λ part. part) (map versions_of shown)) → r ≡ read_all (map (reading holds answer) shown)) →
      Agrees query holds (atoms_of expr) → Agrees version answer (versions_of expr) → r ≡ reading holds answer expr
  of_all expr parts shown r is same found atoms versions =
      let whole : expr ≡ All shown = is ∙ ap All (sym same) in
      found (subst (Agrees query holds) (ap atoms_of whole ∙ atoms-All shown) atoms) (subst (Agrees version answer) (ap versions_of whole ∙ versions-All shown) versions)
      ∙ sym (ap (reading holds answer) whole ∙ reading-All holds answer shown)

  pub of_any : (expr : CfgExpr) (parts shown : List CfgExpr) (r : Option Bool) → expr ≡ Any parts → shown ≡ parts →
      (Agrees query holds (flat_map (λ part. part) (map atoms_of shown)) → Agrees version answer (flat_map (λ part. part) (map versions_of shown)) → r ≡ read_any (map (reading holds answer) shown)) →
      Agrees query holds (atoms_of expr) → Agrees version answer (versions_of expr) → r ≡ reading holds answer expr
  of_any expr parts shown r is same found atoms versions =
      let whole : expr ≡ Any shown = is ∙ ap Any (sym same) in
      found (subst (Agrees query holds) (ap atoms_of whole ∙ atoms-Any shown) atoms) (subst (Agrees version answer) (ap versions_of whole ∙ versions-Any shown) versions)
      ∙ sym (ap (reading holds answer) whole ∙ reading-Any holds answer shown)

  pub of_not : (expr part shown : CfgExpr) (r x : Option Bool) → expr ≡ Not part → shown ≡ part →
      (Agrees query holds (atoms_of shown) → Agrees version answer (versions_of shown) → r ≡ reading holds answer shown) →
      Agrees query holds (atoms_of expr) → Agrees version answer (versions_of expr) → r ≡ x → read_not x ≡ reading holds answer expr
  of_not expr part shown r x is same found atoms versions e =
      let whole : expr ≡ Not shown = is ∙ ap Not (sym same) in
      ap read_not (sym e ∙ found (subst (Agrees query holds) (ap atoms_of whole ∙ atoms-Not shown) atoms) (subst (Agrees version answer) (ap versions_of whole ∙ versions-Not shown) versions))
      ∙ sym (ap (reading holds answer) whole ∙ reading-Not holds answer shown)
