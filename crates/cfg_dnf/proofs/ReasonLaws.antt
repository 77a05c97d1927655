-- Reasons by recursion are reasons by conjunctions, and where all leaves have an answer there is one exactly where the predicate reads false.
use Rattle.std.proofs.Common.{◌≡◌, ◌↔◌, ℕ, Bool, true, false, not, ◌&&◌, ◌||◌, if◌then◌else◌, List, [], ◌∷◌, map, Option, Some, None, is_some, refl, sym, ap, subst, ◌∙◌}
use Rattle.std.specs.Option.{option_map, unwrap_or}
use Rattle.std.specs.List.{list_any, list_all, flat_map, filter_map, cons_option}
use Rattle.std.specs.Ordering.{eq_by_cmp}
use mathlib.Core.Bool.{true≢false}
use Rattle.std.specs.FinSet as set
use Rattle.std.specs.FinMap as finite
use Rattle.ra_cfg.specs.declared.cfg_expr.CfgAtom.{CfgAtom}
use Rattle.ra_cfg.specs.declared.cfg_expr.CfgExpr.{CfgExpr, CfgExpr-F, roll-CfgExpr}
use Rattle.ra_cfg.specs.declared.cfg_expr.CfgExpr.TheFolds.{fold-roll-CfgExpr, ind-CfgExpr, map-CfgExpr}
use Rattle.ra_cfg.specs.Options.{OptionSet, atom_cmp}
use Rattle.ra_cfg.specs.Reading.{read_all, read_any, read_not, read_step, reads_under}
use Rattle.cfg_dnf.specs.declared.literal.Leaf.TheVariants.{Atom, Version}
use Rattle.cfg_dnf.specs.declared.literal.Literal.{Literal}
use Rattle.cfg_dnf.specs.Conjunctions.{literal, conjunctions}
use Rattle.cfg_dnf.specs.Form.{Form, Lit, Sum, Product, Forms, End, More, form, form_step, forms}
use Rattle.cfg_dnf.specs.Hints.{holds, answer, is_open, is_true, plain_atom, negated_atom, wants, wants_off, is_among, reason_of, reason}
use Rattle.cfg_dnf.specs.Leaves.{passes, counted, all_counted, all_have}
use Rattle.cfg_dnf.specs.Reasons.{reason_by_leaves, answered_step, all_answered}
use Rattle.cfg_dnf.specs.Laws.{ReasonsByLeaves}
use Rattle.cfg_dnf.specs.Truth.{Free, within, beyond, truth, truth_step, all_true, any_true}
use Rattle.cfg_dnf.proofs.Agreement.{agrees, form_rolled}
use Rattle.cfg_dnf.proofs.InOrder.{same_in_order}
use Rattle.cfg_dnf.proofs.Leaves.{counts, any_flat, any_joined}
use Rattle.cfg_dnf.proofs.Standing.{first_so, second_so, both_so}
use Rattle.cfg_dnf.proofs.Truths.{truth_rolled, true_conjunction, form_truth, at_worst, worst}
use Rattle.cfg_dnf.proofs.Wanted.{among_wants, among_wants_off}

-- an atom is among those of literals where the literals pass a test
abbrev has_atom : (Literal → Option CfgAtom) → CfgAtom → Literal → Bool
has_atom atom_of a l = is_among (filter_map atom_of (l ∷ [])) a

or_moved : (a b c : Bool) → ((a || b) || c) ≡ (a || (b || c))
or_moved true b c = refl
or_moved false b c = refl

module _ (atom_of : Literal → Option CfgAtom) (a : CfgAtom) where
  one_more : (o : Option CfgAtom) (X : List CfgAtom) → is_among (cons_option o X) a ≡ (is_among (cons_option o []) a || is_among X a)
  one_more None X = refl
  one_more (Some b) X = ap (λ r. r || is_among X a) (sym (or_none (eq_by_cmp atom_cmp a b)))
    where
      or_none : (a : Bool) → (a || false) ≡ a
      or_none true = refl
      or_none false = refl

  -- an atom is among those of literals where one of them has it
  among_any : (ls : List Literal) → is_among (filter_map atom_of ls) a ≡ list_any (has_atom atom_of a) ls
  among_any [] = refl
  among_any (l ∷ ls) = one_more (atom_of l) (filter_map atom_of ls) ∙ ap (λ r. is_among (cons_option (atom_of l) []) a || r) (among_any ls)

module _ (options : OptionSet) (expr : CfgExpr) where
  -- a literal of the conjunctions passes a test where one that counts does
  counted_pass : (test : Literal → Bool) → list_any (list_any test) (conjunctions expr) ≡ list_any test (counted (form expr false))
  counted_pass test = ap (list_any (list_any test)) (agrees expr false) ∙ counts test (form expr false)

  same_among : (atom_of : Literal → Option CfgAtom) (a : CfgAtom) → is_among (filter_map atom_of (flat_map (λ conjunction. conjunction) (conjunctions expr))) a ≡ is_among (filter_map atom_of (counted (form expr false))) a
  same_among atom_of a =
      among_any atom_of a (flat_map (λ conjunction. conjunction) (conjunctions expr)) ∙ any_flat (has_atom atom_of a) (conjunctions expr) ∙ counted_pass (has_atom atom_of a) ∙ sym (among_any atom_of a (counted (form expr false)))

  same_reason : reason_of options (flat_map (λ conjunction. conjunction) (conjunctions expr)) ≡ reason_of options (counted (form expr false))
  same_reason i = record {
    enabled = same_in_order (wants_off options (flat_map (λ conjunction. conjunction) (conjunctions expr))) (wants_off options (counted (form expr false)))
        (λ a. among_wants_off options (flat_map (λ conjunction. conjunction) (conjunctions expr)) a ∙ ap (λ r. r && holds options a) (same_among negated_atom a) ∙ sym (among_wants_off options (counted (form expr false)) a)) i;
    disabled = same_in_order (wants options (flat_map (λ conjunction. conjunction) (conjunctions expr))) (wants options (counted (form expr false)))
        (λ a. among_wants options (flat_map (λ conjunction. conjunction) (conjunctions expr)) a ∙ ap (λ r. r && not (holds options a)) (same_among plain_atom a) ∙ sym (among_wants options (counted (form expr false)) a)) i;
  }

  -- a reason by the literals that count is one by the conjunctions
  pub same_reasons : reason options expr ≡ reason_by_leaves options (form expr false)
  same_reasons =
      ap (λ b. if b || list_any (list_all (is_true options)) (conjunctions expr) then None else Some (reason_of options (flat_map (λ conjunction. conjunction) (conjunctions expr)))) (counted_pass (is_open options))
      ∙ ap (λ b. if list_any (is_open options) (counted (form expr false)) || b then None else Some (reason_of options (flat_map (λ conjunction. conjunction) (conjunctions expr)))) (true_conjunction options expr)
      ∙ ap (λ r. if list_any (is_open options) (counted (form expr false)) || passes (is_true options) (form expr false) then None else Some r) same_reason

module _ (options : OptionSet) where
  -- whether each literal has an answer
  abbrev mutual
    closed : Form Literal → Bool
    closed (Lit l) = is_some (answer options l)
    closed (Sum fs) = all_closed fs
    closed (Product fs) = all_closed fs

    all_closed : Forms Literal → Bool
    all_closed End = true
    all_closed (More f fs) = closed f && all_closed fs

  only_if : (b : Bool) (xs : List Literal) → list_any (is_open options) xs ≡ false → list_any (is_open options) (if b then xs else []) ≡ false
  only_if true xs e = e
  only_if false xs e = refl

  mutual
    none_open : (f : Form Literal) → closed f ≡ true → list_any (is_open options) (counted f) ≡ false
    none_open (Lit l) e = ap (λ b. not b || false) e
    none_open (Sum fs) e = none_opens fs e
    none_open (Product fs) e = only_if (all_have fs) (all_counted fs) (none_opens fs e)

    none_opens : (fs : Forms Literal) → all_closed fs ≡ true → list_any (is_open options) (all_counted fs) ≡ false
    none_opens End e = refl
    none_opens (More f fs) e =
        any_joined (is_open options) (counted f) (all_counted fs)
        ∙ ap (λ r. r || list_any (is_open options) (all_counted fs)) (none_open f (first_so (closed f) (all_closed fs) e))
        ∙ none_opens fs (second_so (closed f) (all_closed fs) e)

-- a predicate whose leaves all have an answer has none that is open, and reads what it is as a boolean function
module _ (options : OptionSet) where
  abbrev Tells : CfgExpr → Type 0
  Tells e = all_answered options e ≡ true → ((negated : Bool) → closed options (form e negated) ≡ true) × ((free : Free) → reads_under options e ≡ Some (truth options e free))

  abbrev Known : Type 0
  Known = (e : CfgExpr) × Tells e

  abbrev plain : Known → CfgExpr
  plain k = k.0

  reading_rolled : (x : CfgExpr-F CfgExpr) → reads_under options (roll-CfgExpr x) ≡ read_step (set.contains options.atoms) (finite.get options.versions) (map-CfgExpr CfgExpr (Option Bool) (reads_under options) x)
  reading_rolled x = fold-roll-CfgExpr (Option Bool) (read_step (set.contains options.atoms) (finite.get options.versions)) x

  answered_rolled : (x : CfgExpr-F CfgExpr) → all_answered options (roll-CfgExpr x) ≡ answered_step options (map-CfgExpr CfgExpr Bool (all_answered options) x)
  answered_rolled x = fold-roll-CfgExpr Bool (answered_step options) x

  closed_parts : (negated : Bool) (ys : List Known) → list_all (λ part. part) (map (all_answered options) (map plain ys)) ≡ true → all_closed options (forms negated (map form (map plain ys))) ≡ true
  closed_parts negated [] e = refl
  closed_parts negated (y ∷ ys) e =
      both_so (closed options (form y.0 negated)) (all_closed options (forms negated (map form (map plain ys))))
      ((y.1 (first_so (all_answered options y.0) (list_all (λ part. part) (map (all_answered options) (map plain ys))) e)).0 negated)
      (closed_parts negated ys (second_so (all_answered options y.0) (list_all (λ part. part) (map (all_answered options) (map plain ys))) e))

  more_all : (b r : Bool) (rest : List (Option Bool)) → read_all rest ≡ Some r → read_all (Some b ∷ rest) ≡ Some (b && r)
  more_all true r rest e = e
  more_all false r rest e = refl

  more_any : (b r : Bool) (rest : List (Option Bool)) → read_any rest ≡ Some r → read_any (Some b ∷ rest) ≡ Some (b || r)
  more_any true r rest e = refl
  more_any false r rest e = e

  read_parts : (ys : List Known) (free : Free) → list_all (λ part. part) (map (all_answered options) (map plain ys)) ≡ true → read_all (map (reads_under options) (map plain ys)) ≡ Some (all_true (map (truth options) (map plain ys)) free)
  read_parts [] free e = refl
  read_parts (y ∷ ys) free e =
      ap (λ r. read_all (r ∷ map (reads_under options) (map plain ys))) ((y.1 (first_so (all_answered options y.0) (list_all (λ part. part) (map (all_answered options) (map plain ys))) e)).1 (within free))
      ∙ more_all (truth options y.0 (within free)) (all_true (map (truth options) (map plain ys)) (beyond free)) (map (reads_under options) (map plain ys))
      (read_parts ys (beyond free) (second_so (all_answered options y.0) (list_all (λ part. part) (map (all_answered options) (map plain ys))) e))

  read_some : (ys : List Known) (free : Free) → list_all (λ part. part) (map (all_answered options) (map plain ys)) ≡ true → read_any (map (reads_under options) (map plain ys)) ≡ Some (any_true (map (truth options) (map plain ys)) free)
  read_some [] free e = refl
  read_some (y ∷ ys) free e =
      ap (λ r. read_any (r ∷ map (reads_under options) (map plain ys))) ((y.1 (first_so (all_answered options y.0) (list_all (λ part. part) (map (all_answered options) (map plain ys))) e)).1 (within free))
      ∙ more_any (truth options y.0 (within free)) (any_true (map (truth options) (map plain ys)) (beyond free)) (map (reads_under options) (map plain ys))
      (read_some ys (beyond free) (second_so (all_answered options y.0) (list_all (λ part. part) (map (all_answered options) (map plain ys))) e))

  answered_either : (o : Option Bool) → is_some o ≡ true → is_some (option_map not o) ≡ true
  answered_either None e = e
  answered_either (Some b) e = refl

  answered_value : (o : Option Bool) (free : Bool) → is_some o ≡ true → o ≡ Some (unwrap_or o free)
  answered_value None free e = absurd cc
  answered_value (Some b) free e = refl

  closed_version : (text : List ℕ) (negated : Bool) → is_some (finite.get options.versions text) ≡ true → closed options (Lit (literal (Version text) negated)) ≡ true
  closed_version text true e = answered_either (finite.get options.versions text) e
  closed_version text false e = e

  closed_atom : (atom : CfgAtom) (negated : Bool) → closed options (Lit (literal (Atom atom) negated)) ≡ true
  closed_atom atom true = refl
  closed_atom atom false = refl

  layer : (y : CfgExpr-F Known) → answered_step options (map-CfgExpr CfgExpr Bool (all_answered options) (map-CfgExpr Known CfgExpr plain y)) ≡ true →
      ((negated : Bool) → closed options (form_step (map-CfgExpr CfgExpr (Bool → Form Literal) form (map-CfgExpr Known CfgExpr plain y)) negated) ≡ true)
      × ((free : Free) → read_step (set.contains options.atoms) (finite.get options.versions) (map-CfgExpr CfgExpr (Option Bool) (reads_under options) (map-CfgExpr Known CfgExpr plain y)) ≡ Some (truth_step options (map-CfgExpr CfgExpr (Free → Bool) (truth options) (map-CfgExpr Known CfgExpr plain y)) free))
  layer CfgExpr-F.Invalid e = absurd cc
  layer (CfgExpr-F.Atom atom) e = (closed_atom atom, λ free. refl)
  layer (CfgExpr-F.All ys) e = (closed_all ys e, λ free. read_parts ys free e)
    where
      closed_all : (ys : List Known) → list_all (λ part. part) (map (all_answered options) (map plain ys)) ≡ true → (negated : Bool) → closed options (form_step (map-CfgExpr CfgExpr (Bool → Form Literal) form (map-CfgExpr Known CfgExpr plain (CfgExpr-F.All ys))) negated) ≡ true
      closed_all ys e true = closed_parts true ys e
      closed_all ys e false = closed_parts false ys e
  layer (CfgExpr-F.Any ys) e = (closed_any ys e, λ free. read_some ys free e)
    where
      closed_any : (ys : List Known) → list_all (λ part. part) (map (all_answered options) (map plain ys)) ≡ true → (negated : Bool) → closed options (form_step (map-CfgExpr CfgExpr (Bool → Form Literal) form (map-CfgExpr Known CfgExpr plain (CfgExpr-F.Any ys))) negated) ≡ true
      closed_any ys e true = closed_parts true ys e
      closed_any ys e false = closed_parts false ys e
  layer (CfgExpr-F.Not y) e = (λ negated. (y.1 e).0 (not negated), λ free. ap read_not ((y.1 e).1 free))
  layer (CfgExpr-F.Version text) e = (λ negated. closed_version text negated e, λ free. answered_value (finite.get options.versions text) (free []) e)

  at_layer : (y : CfgExpr-F Known) → Tells (roll-CfgExpr (map-CfgExpr Known CfgExpr plain y))
  at_layer y e =
      let tells = layer y (sym (answered_rolled (map-CfgExpr Known CfgExpr plain y)) ∙ e) in (
        λ negated. ap (λ f. closed options (f negated)) (form_rolled (map-CfgExpr Known CfgExpr plain y)) ∙ tells.0 negated,
        λ free. reading_rolled (map-CfgExpr Known CfgExpr plain y) ∙ tells.1 free ∙ ap (λ t. Some (t free)) (sym (truth_rolled options (map-CfgExpr Known CfgExpr plain y))),
      )

  answered_tells : (e : CfgExpr) → Tells e
  answered_tells = ind-CfgExpr Tells (λ x y eq. subst (λ x. Tells (roll-CfgExpr x)) eq (at_layer y))

  -- with no open literal there is a reason where no conjunction is true
  reason_where : (f : Form Literal) → list_any (is_open options) (counted f) ≡ false → is_some (reason_by_leaves options f) ≡ not (passes (is_true options) f)
  reason_where f e = ap (λ b. is_some (if b || passes (is_true options) f then None else Some (reason_of options (counted f)))) e ∙ decided (passes (is_true options) f)
    where
      decided : (b : Bool) → is_some (if b then None else Some (reason_of options (counted f))) ≡ not b
      decided true = refl
      decided false = refl

  reason_reads : (e : CfgExpr) → all_answered options e ≡ true → is_some (reason options e) ≡ true ↔ (reads_under options e ≡ Some false)
  reason_reads e answered =
      let tells = answered_tells e answered in
      let where_true : is_some (reason options e) ≡ not (truth options e (worst (form e false))) =
      ap is_some (same_reasons options e) ∙ reason_where (form e false) (none_open options (form e false) (tells.0 false)) ∙ ap not (sym (at_worst options (form e false)) ∙ form_truth options e false (worst (form e false))) in
      both (truth options e (worst (form e false))) (is_some (reason options e)) (reads_under options e) where_true (tells.1 (worst (form e false)))
    where
      both : (t s : Bool) (r : Option Bool) → s ≡ not t → r ≡ Some t → (s ≡ true) ↔ (r ≡ Some false)
      both true s r hs hr = (λ e. absurd (true≢false (sym e ∙ hs)), λ e. absurd (true≢false (inside (sym hr ∙ e))))
        where
          inside : {a b : Bool} → Some a ≡ Some b → a ≡ b
          inside e = ap (λ o. unwrap_or o true) e
      both false s r hs hr = (λ e. hr, λ e. hs)

-- reasons by recursion
pub reasons_by_leaves : ReasonsByLeaves
reasons_by_leaves = record { same = same_reasons; reads_false = reason_reads }
