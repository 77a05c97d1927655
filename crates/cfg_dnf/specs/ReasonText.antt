-- How a reason is written.
use Rattle.std.specs.Prelude.{◌≡◌, ℕ, List, [], ◌∷◌, ◌++◌, codes, refl}
use Rattle.std.specs.Coded.{Coded, code_by, coded×, coded_list}
use Rattle.std.specs.List.Sorted.{IsStrictlySortedBy}
use Rattle.ra_cfg.specs.contracts.cfg_expr.CfgAtom as atom
use Rattle.ra_cfg.specs.declared.cfg_expr.CfgAtom.{CfgAtom}
use Rattle.ra_cfg.specs.Options.{atom_cmp}
use Rattle.ra_cfg.specs.Text.{atoms_text}
use Rattle.cfg_dnf.specs.Hints.{Reason, in_order}

-- `is` for one atom, `are` for more
abbrev pub verb : List CfgAtom → List ℕ
verb [] = []
verb (a ∷ []) = codes " is "
verb (a ∷ b ∷ rest) = codes " are "

-- atoms, `is` or `are`, and a word; nothing where there is no atom
abbrev pub clause_text : List ℕ → List CfgAtom → List ℕ
clause_text word [] = []
clause_text word (a ∷ rest) = atoms_text (a ∷ rest) ++ (verb (a ∷ rest) ++ word)

-- what stands between two clauses, if both have atoms
abbrev pub between : List CfgAtom → List CfgAtom → List ℕ
between [] disabled = []
between (a ∷ rest) [] = []
between (a ∷ rest) (b ∷ more) = codes " and "

-- the text of a reason: which atoms are enabled, and which are disabled, with ` and ` between where there are both
abbrev pub reason_text : List CfgAtom → List CfgAtom → List ℕ
reason_text enabled disabled = clause_text (codes "enabled") enabled ++ (between enabled disabled ++ clause_text (codes "disabled") disabled)

-- a reason is stored as the pair of its lists
abbrev pub reason_code : Coded Reason
reason_code =
    code_by (List CfgAtom × List CfgAtom) (coded× (coded_list atom.the_row.coded) (coded_list atom.the_row.coded)) (λ r. (r.enabled, r.disabled)) (λ p. record { enabled = p.0; disabled = p.1 }) (λ _. refl)

-- a reason has its atoms in order, each once
pub record IsReason (reason : Reason) : Type 0 where
  pub enabled : IsStrictlySortedBy atom_cmp reason.enabled
  pub disabled : IsStrictlySortedBy atom_cmp reason.disabled

-- a reason has these atoms, put in order, each once
pub record IsReasonOf (enabled disabled : List CfgAtom) (reason : Reason) : Type 0 where
  pub enabled_are : reason.enabled ≡ in_order enabled
  pub disabled_are : reason.disabled ≡ in_order disabled
