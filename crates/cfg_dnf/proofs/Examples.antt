-- Worked examples of conjunctions and hints.
use Rattle.std.proofs.Common.{◌≡◌, true, false, [], ◌∷◌, codes, refl}
use Rattle.ra_cfg.specs.declared.cfg_expr.CfgAtom.{CfgAtom}
use Rattle.ra_cfg.specs.declared.cfg_expr.CfgAtom.TheVariants.{Flag}
use Rattle.ra_cfg.specs.declared.cfg_expr.CfgExpr.{All, Any, Not, Atom}
use Rattle.ra_cfg.specs.Options.{OptionSet}
use Rattle.cfg_dnf.specs.declared.literal.Leaf.TheVariants as leaf
use Rattle.cfg_dnf.specs.declared.literal.Literal.{Literal}
use Rattle.cfg_dnf.specs.declared.literal.Literal.TheVariants.{Plain, Negated}
use Rattle.cfg_dnf.specs.Conjunctions.{conjunctions}
use Rattle.cfg_dnf.specs.Hints.{holds, hint, gives_hint}
use Rattle.cfg_dnf.proofs.Equations.{conjunction_rules}

abbrev a : CfgAtom
a = Flag (codes "a")

abbrev b : CfgAtom
b = Flag (codes "b")

abbrev c : CfgAtom
c = Flag (codes "c")

abbrev on : CfgAtom → Literal
on atom = Plain (leaf.Atom atom)

abbrev off : CfgAtom → Literal
off atom = Negated (leaf.Atom atom)

-- `all(any(a, b), c)`: the choice of the first part varies slowest
all_of_any : conjunctions (All (Any (Atom a ∷ Atom b ∷ []) ∷ Atom c ∷ [])) ≡ (on a ∷ on c ∷ []) ∷ (on b ∷ on c ∷ []) ∷ []
all_of_any = simp conjunction_rules

-- `all(any(a, b), any(b, c))`
all_of_two : conjunctions (All (Any (Atom a ∷ Atom b ∷ []) ∷ Any (Atom b ∷ Atom c ∷ []) ∷ [])) ≡ (on a ∷ on b ∷ []) ∷ (on a ∷ on c ∷ []) ∷ (on b ∷ on b ∷ []) ∷ (on b ∷ on c ∷ []) ∷ []
all_of_two = simp conjunction_rules

-- `not(any(a, b))`
not_any : conjunctions (Not (Any (Atom a ∷ Atom b ∷ []))) ≡ (off a ∷ off b ∷ []) ∷ []
not_any = simp conjunction_rules

-- `any()` has no conjunction
any_of_none : conjunctions (Any []) ≡ []
any_of_none = simp conjunction_rules

-- `all()` has one, without a literal
all_of_none : conjunctions (All []) ≡ [] ∷ []
all_of_none = simp conjunction_rules

-- `all(a, not(a))`
all_of_both : conjunctions (All (Atom a ∷ Not (Atom a) ∷ [])) ≡ (on a ∷ off a ∷ []) ∷ []
all_of_both = simp conjunction_rules

-- an atom and its negation give no hint
no_hint : (options : OptionSet) → gives_hint options (on a ∷ off a ∷ []) ≡ false
no_hint options = refl

-- `all(a, not(b))` with `a` off and `b` on: enable a; disable b
hint_of_both : (options : OptionSet) → holds options a ≡ false → holds options b ≡ true → hint options (on a ∷ off b ∷ []) ≡ record { enabled = a ∷ []; disabled = b ∷ [] }
hint_of_both options is_off is_on = rw (is_off, is_on) refl

-- true literals alone give no hint
no_hint_of_true : (options : OptionSet) → holds options a ≡ true → gives_hint options (on a ∷ []) ≡ false
no_hint_of_true options is_on = rw is_on refl
