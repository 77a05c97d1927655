-- Options as lists in order, which are compared and hashed.
use Rattle.std.specs.Prelude.{◌≡◌, ℕ, Bool, true, ◌&&◌, ◌++◌, List, refl}
use Rattle.std.proofs.Common.{ap}
use Rattle.std.specs.Bool.{Decides}
use Rattle.std.specs.Cmp.{IsEquivalence, decided}
use Rattle.std.specs.Cmp.Lexicographic.{pointwise, pointwise_decides, slice_cmp}
use Rattle.std.specs.Coded.{Coded, code_by, coded×, coded_list, coded_ℕ, coded_bool}
use Rattle.std.specs.Hash as fed
use Rattle.std.specs.List.Sorted.{IsStrictlySortedBy}
use Rattle.std.specs.Map.{keys_of}
use Rattle.std.specs.Ordering.{nat_cmp}
use Rattle.std.specs.FinSet as set
use Rattle.std.specs.FinMap as map
use Rattle.ra_cfg.specs.contracts.cfg_expr.CfgAtom as atom
use Rattle.ra_cfg.specs.contracts.cfg_expr.CfgAtomPartialEq.TheImpl as atom_eq
use Rattle.ra_cfg.specs.contracts.cfg_expr.CfgAtomHash.TheImpl as atom_hash
use Rattle.ra_cfg.specs.declared.cfg_expr.CfgAtom.{CfgAtom}
use Rattle.ra_cfg.specs.AtomOrder.{atom_eq_is}
use Rattle.ra_cfg.specs.Options.{OptionSet, IsSettable, atom_cmp}
use Rattle.ra_cfg.specs.SameOptions.{same_answer, same_answer_is, both_decided}

-- the atoms and the answers, as lists
pub record Listing : Type 0 where
  pub atoms : List CfgAtom
  pub versions : List (List ℕ × Bool)

-- a listing is stored as the pair of its lists
abbrev pub listing_code : Coded Listing
listing_code =
    code_by (List CfgAtom × List (List ℕ × Bool)) (coded× (coded_list atom.the_row.coded) (coded_list (coded× (coded_list coded_ℕ) coded_bool))) (λ l. (l.atoms, l.versions)) (λ p. record { atoms = p.0; versions = p.1 }) (λ _. refl)

-- a listing is of some options: its atoms are in order, each once, the flag `true` is among them and no other reserved atom, and its
-- answers stand in the order of their texts
pub record IsOfOptions (listing : Listing) : Type 0 where
  pub sorted : IsStrictlySortedBy atom_cmp listing.atoms
  pub settable : IsSettable (set.from_list listing.atoms)
  pub answers : IsStrictlySortedBy (slice_cmp nat_cmp) (keys_of listing.versions)

-- a listing of options has their atoms in order, and their answers in the order of the texts
pub record IsListing (o : OptionSet) (listing : Listing) : Type 0 where
  pub sorted : IsStrictlySortedBy atom_cmp listing.atoms
  pub atoms : set.from_list listing.atoms ≡ o.atoms
  pub versions : listing.versions ≡ map.entries o.versions

-- whether two listings are equal
abbrev pub same_listing : Listing → Listing → Bool
same_listing l m = pointwise (atom_eq.ghosts).eq l.atoms m.atoms && pointwise same_answer l.versions m.versions

pub same_listing_is : (l m : Listing) → Decides (same_listing l m) (l ≡ m)
same_listing_is l m =
    let parts = both_decided (pointwise (atom_eq.ghosts).eq l.atoms m.atoms) (pointwise same_answer l.versions m.versions) (pointwise_decides atom_eq_is l.atoms m.atoms) (pointwise_decides same_answer_is l.versions m.versions) in
    (λ e i. record { atoms = (parts.0 e).0 i; versions = (parts.0 e).1 i }, λ e. parts.1 (ap (λ (k : Listing). k.atoms) e, ap (λ (k : Listing). k.versions) e))

pub same_listing_equiv : IsEquivalence same_listing
same_listing_equiv = decided same_listing same_listing_is

-- what a listing gives to a hash: its atoms, then its answers
abbrev pub listing_input : Listing → List (List ℕ)
listing_input l = fed.slice (atom_hash.ghosts).hash_input l.atoms ++ fed.slice (λ p. fed.str p.0 ++ fed.bool p.1) l.versions

-- equal listings give the same
pub same_listing_input : (l m : Listing) → same_listing l m ≡ true → listing_input l ≡ listing_input m
same_listing_input l m e = ap listing_input ((same_listing_is l m).0 e)
