-- Taking in the atoms of false literals, part by part.
use Rattle.std.proofs.Common.{◌≡◌, ℕ, Bool, true, false, not, ◌||◌, ◌+◌, ◌<◌, List, [], ◌∷◌, ◌++◌, length, take, drop, get_or, Option, Some, None, is_some, IsTrue, ◌↔◌, refl, sym, ap, subst, ◌∙◌, append_assoc, cond}
use Rattle.std.specs.Option.{option_map}
use Rattle.std.specs.List.{list_any, filter, filter_map, cons_option}
use Rattle.std.specs.FinMap as finite
use Rattle.std.proofs.lemmas.List.{take_more, append-nil, take-append-drop, drop_more}
use Rattle.std.proofs.lemmas.List.Elements.{filter-append, filter_map-append}
use Rattle.ra_cfg.specs.declared.cfg_expr.CfgAtom.{CfgAtom}
use Rattle.ra_cfg.specs.declared.cfg_expr.CfgExpr.{CfgExpr, Version}
use Rattle.std.specs.FinSet as set
use Rattle.std.specs.Ordering.{eq_by_cmp}
use mathlib.Core.Bool.{true≢false}
use Rattle.ra_cfg.specs.AtomOrder.{atom_total}
use Rattle.ra_cfg.proofs.Reserved.{reserved_is, free_is}
use Rattle.ra_cfg.specs.Options.{OptionSet, atom_cmp, IsReserved, name_of}
use Rattle.cfg_dnf.specs.declared.literal.Leaf.{Leaf}
use Rattle.cfg_dnf.specs.declared.literal.Leaf.TheVariants as leaf
use Rattle.cfg_dnf.specs.declared.literal.Literal.{Literal}
use Rattle.cfg_dnf.specs.declared.counted.FalseAtoms.{FalseAtoms}
use Rattle.cfg_dnf.specs.Conjunctions.{literal}
use Rattle.cfg_dnf.specs.Form.{form, part_forms}
use Rattle.cfg_dnf.specs.Hints.{is_open, is_false, wants, wants_off, leaf_atom, plain_atom, negated_atom, is_among, contradicts, is_fixed}
use Rattle.cfg_dnf.specs.Leaves.{counted, all_counted}
use Rattle.cfg_dnf.specs.Gathering.{TakesIn, GathersSo, GathersIf, put_in}
use Rattle.cfg_dnf.proofs.Equations.{form-Version}
use Rattle.cfg_dnf.proofs.Leaves.{any_joined}

wants_joined : (options : OptionSet) (xs ys : List Literal) → wants options (xs ++ ys) ≡ wants options xs ++ wants options ys
wants_joined options xs ys = ap (filter_map plain_atom) (filter-append (is_false options) xs ys) ∙ filter_map-append plain_atom (filter (is_false options) xs) (filter (is_false options) ys)

wants_off_joined : (options : OptionSet) (xs ys : List Literal) → wants_off options (xs ++ ys) ≡ wants_off options xs ++ wants_off options ys
wants_off_joined options xs ys = ap (filter_map negated_atom) (filter-append (is_false options) xs ys) ∙ filter_map-append negated_atom (filter (is_false options) xs) (filter (is_false options) ys)

gathers_more : (options : OptionSet) (xs ys : List Literal) (old mid new : FalseAtoms) → GathersSo options xs old mid → GathersSo options ys mid new → GathersSo options (xs ++ ys) old new
gathers_more options xs ys old mid new first second = record {
  closed = any_joined (is_open options) xs ys ∙ ap (λ b. b || list_any (is_open options) ys) first.closed ∙ second.closed;
  taken = record {
    enabled = second.taken.enabled ∙ ap (λ l. l ++ wants_off options ys) first.taken.enabled ∙ append_assoc old.enabled.items (wants_off options xs) (wants_off options ys) ∙ ap (λ l. old.enabled.items ++ l) (sym (wants_off_joined options xs ys));
    disabled = second.taken.disabled ∙ ap (λ l. l ++ wants options ys) first.taken.disabled ∙ append_assoc old.disabled.items (wants options xs) (wants options ys) ∙ ap (λ l. old.disabled.items ++ l) (sym (wants_joined options xs ys));
  };
}

counted_joined : (negated : Bool) (xs : List CfgExpr) (part : CfgExpr) (ys : List CfgExpr) → all_counted (part_forms negated (xs ++ part ∷ ys)) ≡ all_counted (part_forms negated xs) ++ (counted (form part negated) ++ all_counted (part_forms negated ys))
counted_joined negated [] part ys = refl
counted_joined negated (x ∷ xs) part ys =
    ap (λ l. counted (form x negated) ++ l) (counted_joined negated xs part ys) ∙ sym (append_assoc (counted (form x negated)) (all_counted (part_forms negated xs)) (counted (form part negated) ++ all_counted (part_forms negated ys)))

-- one more part is taken in
pub gathers_part : (options : OptionSet) (negated : Bool) (parts : List CfgExpr) (i : ℕ) (part : CfgExpr) (b : Bool) (old mid new : FalseAtoms) → i < length parts → part ≡ get_or parts i part →
    GathersSo options (all_counted (part_forms negated (take i parts))) old mid → b ≡ true → GathersIf options (counted (form part negated)) mid new b →
    GathersSo options (all_counted (part_forms negated (take (i + 1) parts))) old new
gathers_part options negated parts i part b old mid new within is so_far told one =
    subst (λ l. GathersSo options l old new)
    (sym (ap (λ ps. all_counted (part_forms negated ps)) (take_more parts i part within ∙ ap (λ p. take i parts ++ p ∷ []) (sym is)) ∙ counted_joined negated (take i parts) part []
    ∙ ap (λ l. all_counted (part_forms negated (take i parts)) ++ l) (append-nil (counted (form part negated)))))
    (gathers_more options (all_counted (part_forms negated (take i parts))) (counted (form part negated)) old mid new so_far (subst (λ b. GathersIf options (counted (form part negated)) mid new b) told one))

-- a part has an open literal
pub opens : (options : OptionSet) (negated : Bool) (parts : List CfgExpr) (i : ℕ) (part : CfgExpr) (b : Bool) (mid new : FalseAtoms) → i < length parts → part ≡ get_or parts i part →
    b ≡ false → GathersIf options (counted (form part negated)) mid new b → list_any (is_open options) (all_counted (part_forms negated parts)) ≡ true
opens options negated parts i part b mid new within is told one =
    let found : list_any (is_open options) (counted (form part negated)) ≡ true = subst (λ b. GathersIf options (counted (form part negated)) mid new b) told one in
    ap (λ ps. list_any (is_open options) (all_counted (part_forms negated ps))) (sym (take-append-drop i parts) ∙ ap (λ d. take i parts ++ d) (drop_more parts i part within ∙ ap (λ p. p ∷ drop (i + 1) parts) (sym is)))
    ∙ ap (list_any (is_open options)) (counted_joined negated (take i parts) part (drop (i + 1) parts))
    ∙ any_joined (is_open options) (all_counted (part_forms negated (take i parts))) (counted (form part negated) ++ all_counted (part_forms negated (drop (i + 1) parts)))
    ∙ ap (λ b. list_any (is_open options) (all_counted (part_forms negated (take i parts))) || b) (any_joined (is_open options) (counted (form part negated)) (all_counted (part_forms negated (drop (i + 1) parts))) ∙ ap (λ b. b || list_any (is_open options) (all_counted (part_forms negated (drop (i + 1) parts)))) found)
    ∙ or_so (list_any (is_open options) (all_counted (part_forms negated (take i parts))))
  where
    or_so : (a : Bool) → (a || true) ≡ true
    or_so true = refl
    or_so false = refl

module _ (options : OptionSet) (text : List ℕ) where
  no_wants : (negated : Bool) → wants options (literal (leaf.Version text) negated ∷ []) ≡ []
  no_wants true = none (is_false options (literal (leaf.Version text) true))
    where
      none : (b : Bool) → filter_map plain_atom (cond b (literal (leaf.Version text) true ∷ []) []) ≡ []
      none true = refl
      none false = refl
  no_wants false = none (is_false options (literal (leaf.Version text) false))
    where
      none : (b : Bool) → filter_map plain_atom (cond b (literal (leaf.Version text) false ∷ []) []) ≡ []
      none true = refl
      none false = refl

  no_wants_off : (negated : Bool) → wants_off options (literal (leaf.Version text) negated ∷ []) ≡ []
  no_wants_off true = none (is_false options (literal (leaf.Version text) true))
    where
      none : (b : Bool) → filter_map negated_atom (cond b (literal (leaf.Version text) true ∷ []) []) ≡ []
      none true = refl
      none false = refl
  no_wants_off false = none (is_false options (literal (leaf.Version text) false))
    where
      none : (b : Bool) → filter_map negated_atom (cond b (literal (leaf.Version text) false ∷ []) []) ≡ []
      none true = refl
      none false = refl

  open_version : (negated : Bool) → list_any (is_open options) (literal (leaf.Version text) negated ∷ []) ≡ not (is_some (finite.get options.versions text))
  open_version true = told (finite.get options.versions text)
    where
      told : (o : Option Bool) → (not (is_some (option_map not o)) || false) ≡ not (is_some o)
      told None = refl
      told (Some b) = refl
  open_version false = told (finite.get options.versions text)
    where
      told : (o : Option Bool) → (not (is_some o) || false) ≡ not (is_some o)
      told None = refl
      told (Some b) = refl

  takes_none : (negated : Bool) (found : FalseAtoms) → TakesIn options (literal (leaf.Version text) negated ∷ []) found found
  takes_none negated found = record {
    enabled = sym (ap (λ l. found.enabled.items ++ l) (no_wants_off negated) ∙ append-nil found.enabled.items);
    disabled = sym (ap (λ l. found.disabled.items ++ l) (no_wants negated) ∙ append-nil found.disabled.items);
  }

  by_answer : (negated : Bool) (found : FalseAtoms) (b : Bool) → b ≡ is_some (finite.get options.versions text) → GathersIf options (literal (leaf.Version text) negated ∷ []) found found b
  by_answer negated found true is = record { closed = open_version negated ∙ ap not (sym is); taken = takes_none negated found }
  by_answer negated found false is = open_version negated ∙ ap not (sym is)

-- a version is open or not, and no atom is taken in
pub gathers_version : (options : OptionSet) (expr : CfgExpr) (text : List ℕ) (negated : Bool) (found : FalseAtoms) (b : Bool) → expr ≡ Version text → b ≡ is_some (finite.get options.versions text) → GathersIf options (counted (form expr negated)) found found b
gathers_version options expr text negated found b is told =
    subst (λ l. GathersIf options l found found b) (sym (ap (λ e. counted (form e negated)) is ∙ ap counted (form-Version negated text))) (by_answer options text negated found b told)

-- the atoms of more literals are taken in
pub takes_more : (options : OptionSet) (xs ys : List Literal) (old mid new : FalseAtoms) → TakesIn options xs old mid → TakesIn options ys mid new → TakesIn options (xs ++ ys) old new
takes_more options xs ys old mid new first second = record {
  enabled = second.enabled ∙ ap (λ l. l ++ wants_off options ys) first.enabled ∙ append_assoc old.enabled.items (wants_off options xs) (wants_off options ys) ∙ ap (λ l. old.enabled.items ++ l) (sym (wants_off_joined options xs ys));
  disabled = second.disabled ∙ ap (λ l. l ++ wants options ys) first.disabled ∙ append_assoc old.disabled.items (wants options xs) (wants options ys) ∙ ap (λ l. old.disabled.items ++ l) (sym (wants_joined options xs ys));
}

pub takes_one : (options : OptionSet) (literals : List Literal) (i : ℕ) (l : Literal) (old mid new : FalseAtoms) → i < length literals → l ≡ get_or literals i l → TakesIn options (take i literals) old mid → TakesIn options (l ∷ []) mid new → TakesIn options (take (i + 1) literals) old new
takes_one options literals i l old mid new within is so_far one =
    subst (λ ls. TakesIn options ls old new) (sym (take_more literals i l within ∙ ap (λ k. take i literals ++ k ∷ []) (sym is))) (takes_more options (take i literals) (l ∷ []) old mid new so_far one)

-- a leaf that is no atom has nothing to take in
pub takes_nothing : (options : OptionSet) (l : Leaf) (negated : Bool) (found : FalseAtoms) → leaf_atom l ≡ None → TakesIn options (literal l negated ∷ []) found found
takes_nothing options l negated found none = record {
  enabled = sym (ap (λ l. found.enabled.items ++ l) (no_off negated) ∙ append-nil found.enabled.items);
  disabled = sym (ap (λ l. found.disabled.items ++ l) (no_on negated) ∙ append-nil found.disabled.items);
}
  where
    cut : (atom_of : Literal → Option CfgAtom) (k : Literal) (b : Bool) → atom_of k ≡ None → filter_map atom_of (cond b (k ∷ []) []) ≡ []
    cut atom_of k true e = ap (λ o. cons_option o []) e
    cut atom_of k false e = refl

    no_on : (negated : Bool) → wants options (literal l negated ∷ []) ≡ []
    no_on true = cut plain_atom (literal l true) (is_false options (literal l true)) refl
    no_on false = cut plain_atom (literal l false) (is_false options (literal l false)) none

    no_off : (negated : Bool) → wants_off options (literal l negated ∷ []) ≡ []
    no_off true = cut negated_atom (literal l true) (is_false options (literal l true)) none
    no_off false = cut negated_atom (literal l false) (is_false options (literal l false)) refl

-- atoms are put in one after the other
pub put_more : (s : set.FinSet atom_cmp) (xs ys : List CfgAtom) → put_in s (xs ++ ys) ≡ put_in (put_in s xs) ys
put_more s [] ys = refl
put_more s (x ∷ xs) ys = put_more (set.insert s x) xs ys

pub put_one : (s t u : set.FinSet atom_cmp) (literals : List Literal) (i : ℕ) (l : Literal) → i < length literals → l ≡ get_or literals i l → t ≡ put_in s (filter_map plain_atom (take i literals)) → u ≡ put_in t (filter_map plain_atom (l ∷ [])) → u ≡ put_in s (filter_map plain_atom (take (i + 1) literals))
put_one s t u literals i l within is so_far one =
    one ∙ ap (λ t. put_in t (filter_map plain_atom (l ∷ []))) so_far ∙ sym (put_more s (filter_map plain_atom (take i literals)) (filter_map plain_atom (l ∷ [])))
    ∙ ap (put_in s) (sym (filter_map-append plain_atom (take i literals) (l ∷ [])))
    ∙ ap (λ ls. put_in s (filter_map plain_atom ls)) (sym (take_more literals i l within ∙ ap (λ k. take i literals ++ k ∷ []) (sym is)))

-- what is in a set that atoms were put in
pub put_has : (s : set.FinSet atom_cmp) (atoms : List CfgAtom) (a : CfgAtom) → set.contains (put_in s atoms) a ≡ (is_among atoms a || set.contains s a)
put_has s [] a = refl
put_has s (x ∷ xs) a = put_has (set.insert s x) xs a ∙ ap (λ b. is_among xs a || b) (set.contains-insert atom_total s x a) ∙ moved (is_among xs a) (eq_by_cmp atom_cmp a x) (set.contains s a)
  where
    moved : (p q r : Bool) → (p || (q || r)) ≡ ((q || p) || r)
    moved true true r = refl
    moved true false r = refl
    moved false true r = refl
    moved false false r = refl

or_none : (a : Bool) → (a || false) ≡ a
or_none true = refl
or_none false = refl

any_same : (t u : CfgAtom → Bool) → ((a : CfgAtom) → t a ≡ u a) → (atoms : List CfgAtom) → list_any t atoms ≡ list_any u atoms
any_same t u same [] = refl
any_same t u same (a ∷ rest) = (λ i. same a i || any_same t u same rest i)

-- whether literals contradict one another
pub contradicts_by : (literals : List Literal) (s : set.FinSet atom_cmp) (told : Bool) → s ≡ put_in set.empty (filter_map plain_atom literals) → told ≡ list_any (set.contains s) (filter_map negated_atom literals) → told ≡ contradicts literals
contradicts_by literals s told is h =
    h ∙ any_same (set.contains s) (is_among (filter_map plain_atom literals)) (λ a. ap (λ t. set.contains t a) is ∙ put_has set.empty (filter_map plain_atom literals) a ∙ ap (λ b. is_among (filter_map plain_atom literals) a || b) (set.contains-empty atom_cmp a) ∙ or_none (is_among (filter_map plain_atom literals) a)) (filter_map negated_atom literals)

-- one literal more
pub any_step : (test : CfgAtom → Bool) (literals : List Literal) (i : ℕ) (l : Literal) → i < length literals → l ≡ get_or literals i l → list_any test (filter_map negated_atom (drop i literals)) ≡ (list_any test (filter_map negated_atom (l ∷ [])) || list_any test (filter_map negated_atom (drop (i + 1) literals)))
any_step test literals i l within is =
    ap (λ ls. list_any test (filter_map negated_atom ls)) (drop_more literals i l within ∙ ap (λ k. k ∷ drop (i + 1) literals) (sym is))
    ∙ ap (list_any test) (filter_map-append negated_atom (l ∷ []) (drop (i + 1) literals)) ∙ any_joined test (filter_map negated_atom (l ∷ [])) (filter_map negated_atom (drop (i + 1) literals))

-- a test for reserved names
pub told_fixed : (a : CfgAtom) (told : Bool) → IsTrue told ↔ IsReserved (name_of a) → told ≡ is_fixed a
told_fixed a true h = sym (reserved_is (name_of a) (h.0 refl))
told_fixed a false h = sym (free_is (name_of a) (λ r. absurd (true≢false (sym (h.1 r)))))

-- whether a leaf is an atom of a set
pub in_atom : (s : set.FinSet atom_cmp) (l : Leaf) (a : CfgAtom) (told : Bool) → l ≡ leaf.Atom a → told ≡ set.contains s a → told ≡ list_any (set.contains s) (cons_option (leaf_atom l) [])
in_atom s l a told is h = h ∙ sym (or_none (set.contains s a)) ∙ ap (λ l. list_any (set.contains s) (cons_option (leaf_atom l) [])) (sym is)

-- a leaf that is an atom is put in
pub put_atom : (s t : set.FinSet atom_cmp) (l : Leaf) (a b : CfgAtom) → l ≡ leaf.Atom a → b ≡ a → t ≡ set.insert s b → t ≡ put_in s (cons_option (leaf_atom l) [])
put_atom s t l a b is same h = h ∙ ap (set.insert s) same ∙ ap (λ l. put_in s (cons_option (leaf_atom l) [])) (sym is)
