-- What a reading, and the lists of atoms and of versions, are at each kind of predicate.
use Rattle.std.proofs.Common.{◌≡◌, ℕ, Bool, List, [], ◌∷◌, Option, Some, None, map, sym, ap, ◌∙◌}
use Rattle.std.specs.List.{flat_map}
use Rattle.ra_cfg.specs.declared.cfg_expr.CfgAtom.{CfgAtom}
use Rattle.ra_cfg.specs.declared.cfg_expr.CfgExpr.{CfgExpr, CfgExpr-F, Invalid, Atom, All, Any, Not, Version}
use Rattle.ra_cfg.specs.declared.cfg_expr.CfgExpr.TheVariants.{rolls-Invalid, rolls-Atom, rolls-All, rolls-Any, rolls-Not, rolls-Version}
use Rattle.ra_cfg.specs.declared.cfg_expr.CfgExpr.TheFolds.{fold-roll-CfgExpr}
use Rattle.ra_cfg.specs.Reading.{read_step, read_all, read_any, read_not, reading, atoms_step, atoms_of, versions_step, versions_of}

module _ (holds : CfgAtom → Bool) (answer : List ℕ → Option Bool) where
  pub reading-Invalid : reading holds answer Invalid ≡ None
  reading-Invalid = ap (reading holds answer) (sym rolls-Invalid) ∙ fold-roll-CfgExpr (Option Bool) (read_step holds answer) CfgExpr-F.Invalid

  pub reading-Atom : (atom : CfgAtom) → reading holds answer (Atom atom) ≡ Some (holds atom)
  reading-Atom atom = ap (reading holds answer) (sym (rolls-Atom atom)) ∙ fold-roll-CfgExpr (Option Bool) (read_step holds answer) (CfgExpr-F.Atom atom)

  pub reading-All : (parts : List CfgExpr) → reading holds answer (All parts) ≡ read_all (map (reading holds answer) parts)
  reading-All parts = ap (reading holds answer) (sym (rolls-All parts)) ∙ fold-roll-CfgExpr (Option Bool) (read_step holds answer) (CfgExpr-F.All parts)

  pub reading-Any : (parts : List CfgExpr) → reading holds answer (Any parts) ≡ read_any (map (reading holds answer) parts)
  reading-Any parts = ap (reading holds answer) (sym (rolls-Any parts)) ∙ fold-roll-CfgExpr (Option Bool) (read_step holds answer) (CfgExpr-F.Any parts)

  pub reading-Not : (part : CfgExpr) → reading holds answer (Not part) ≡ read_not (reading holds answer part)
  reading-Not part = ap (reading holds answer) (sym (rolls-Not part)) ∙ fold-roll-CfgExpr (Option Bool) (read_step holds answer) (CfgExpr-F.Not part)

  pub reading-Version : (text : List ℕ) → reading holds answer (Version text) ≡ answer text
  reading-Version text = ap (reading holds answer) (sym (rolls-Version text)) ∙ fold-roll-CfgExpr (Option Bool) (read_step holds answer) (CfgExpr-F.Version text)

pub atoms-Atom : (atom : CfgAtom) → atoms_of (Atom atom) ≡ atom ∷ []
atoms-Atom atom = ap atoms_of (sym (rolls-Atom atom)) ∙ fold-roll-CfgExpr (List CfgAtom) atoms_step (CfgExpr-F.Atom atom)

pub atoms-All : (parts : List CfgExpr) → atoms_of (All parts) ≡ flat_map (λ part. part) (map atoms_of parts)
atoms-All parts = ap atoms_of (sym (rolls-All parts)) ∙ fold-roll-CfgExpr (List CfgAtom) atoms_step (CfgExpr-F.All parts)

pub atoms-Any : (parts : List CfgExpr) → atoms_of (Any parts) ≡ flat_map (λ part. part) (map atoms_of parts)
atoms-Any parts = ap atoms_of (sym (rolls-Any parts)) ∙ fold-roll-CfgExpr (List CfgAtom) atoms_step (CfgExpr-F.Any parts)

pub atoms-Not : (part : CfgExpr) → atoms_of (Not part) ≡ atoms_of part
atoms-Not part = ap atoms_of (sym (rolls-Not part)) ∙ fold-roll-CfgExpr (List CfgAtom) atoms_step (CfgExpr-F.Not part)

pub versions-All : (parts : List CfgExpr) → versions_of (All parts) ≡ flat_map (λ part. part) (map versions_of parts)
versions-All parts = ap versions_of (sym (rolls-All parts)) ∙ fold-roll-CfgExpr (List (List ℕ)) versions_step (CfgExpr-F.All parts)

pub versions-Any : (parts : List CfgExpr) → versions_of (Any parts) ≡ flat_map (λ part. part) (map versions_of parts)
versions-Any parts = ap versions_of (sym (rolls-Any parts)) ∙ fold-roll-CfgExpr (List (List ℕ)) versions_step (CfgExpr-F.Any parts)

pub versions-Not : (part : CfgExpr) → versions_of (Not part) ≡ versions_of part
versions-Not part = ap versions_of (sym (rolls-Not part)) ∙ fold-roll-CfgExpr (List (List ℕ)) versions_step (CfgExpr-F.Not part)

pub versions-Version : (text : List ℕ) → versions_of (Version text) ≡ text ∷ []
versions-Version text = ap versions_of (sym (rolls-Version text)) ∙ fold-roll-CfgExpr (List (List ℕ)) versions_step (CfgExpr-F.Version text)

pub ruleset equations = (reading-Invalid, reading-Atom, reading-All, reading-Any, reading-Not, reading-Version)
