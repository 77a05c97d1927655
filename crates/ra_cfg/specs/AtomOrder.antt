-- The order of atoms is total, and only equal atoms tie.
use Rattle.std.specs.Prelude.{◌≡◌, refl}
use Rattle.std.proofs.Common.{ap, sym, ◌∙◌}
use Rattle.std.specs.Bool.{Decides}
use Rattle.std.specs.Ordering.{nat_cmp, ordering_then}
use Rattle.std.specs.declared.cmp.Ordering.{Ordering}
use Rattle.std.specs.declared.cmp.Ordering.TheVariants.{Less, Equal, Greater}
use Rattle.std.specs.Cmp.{IsTotalOrder, Equal-is, tied_itself}
use Rattle.std.specs.Cmp.Lexicographic.{slice_cmp}
use Rattle.std.specs.FinSet as set
use Rattle.ra_cfg.specs.contracts.cfg_expr.CfgAtomOrd.TheImpl.Laws as order_laws
use Rattle.ra_cfg.specs.contracts.cfg_expr.CfgAtomPartialEq.TheImpl as atom_eq
use Rattle.ra_cfg.specs.declared.cfg_expr.CfgAtom.{CfgAtom}
use Rattle.ra_cfg.specs.declared.cfg_expr.CfgAtom.TheVariants.{Flag, KeyValue}
use Rattle.ra_cfg.specs.Options.{atom_cmp}

pub atom_total : IsTotalOrder atom_cmp
atom_total = order_laws.total-law

both_equal : (a b : Ordering) → ordering_then a b ≡ Equal → (a ≡ Equal) × (b ≡ Equal)
both_equal Less b e = absurd cc
both_equal Equal b e = (refl, e)
both_equal Greater b e = absurd cc

pub same_text : set.IsAntisymmetric (slice_cmp nat_cmp)
same_text = set.slice_cmp-IsAntisymmetric set.nat_cmp-IsAntisymmetric

-- only equal atoms tie
pub same_atom : set.IsAntisymmetric atom_cmp
same_atom (Flag x) (Flag y) e = ap Flag (same_text x y e)
same_atom (Flag x) (KeyValue k v) e = absurd cc
same_atom (KeyValue k v) (Flag x) e = absurd cc
same_atom (KeyValue k v) (KeyValue l w) e =
    let parts = both_equal (slice_cmp nat_cmp k l) (slice_cmp nat_cmp v w) e in
    let key : k ≡ l = same_text k l parts.0 in
    let value : v ≡ w = same_text v w parts.1 in
    cc

-- the derived test of atoms decides whether they are equal
pub atom_eq_is : (a b : CfgAtom) → Decides ((atom_eq.ghosts).eq a b) (a ≡ b)
atom_eq_is a b = (
  λ e. same_atom a b ((Equal-is (atom_cmp a b)).0 (sym (order_laws.matches_eq-law a b) ∙ e)),
  λ e. order_laws.matches_eq-law a b ∙ (Equal-is (atom_cmp a b)).1 (ap (atom_cmp a) (sym e) ∙ tied_itself atom_total a),
)
