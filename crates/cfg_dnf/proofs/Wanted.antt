-- Which atoms a conjunction wants to change.
use Rattle.std.proofs.Common.{◌≡◌, Bool, true, false, not, ◌&&◌, ◌||◌, List, [], ◌∷◌, ◌⊎◌, inl, inr, Option, Some, None, refl, sym, ap, subst, ◌∙◌, cond}
use Rattle.std.specs.List.{list_any, filter, filter_map, cons_option}
use Rattle.std.specs.Ordering.{eq_by_cmp}
use Rattle.std.specs.Cmp.{Equal-is, tied_itself}
use Rattle.ra_cfg.specs.declared.cfg_expr.CfgAtom.{CfgAtom}
use Rattle.ra_cfg.specs.AtomOrder.{atom_total, same_atom}
use Rattle.ra_cfg.specs.Options.{OptionSet, atom_cmp}
use Rattle.ra_cfg.specs.Reading.{reads_true, reads_false}
use Rattle.cfg_dnf.specs.declared.literal.Leaf.TheVariants.{Atom, Invalid, Version}
use Rattle.cfg_dnf.specs.declared.literal.Literal.{Literal}
use Rattle.cfg_dnf.specs.declared.literal.Literal.TheVariants.{Plain, Negated}
use Rattle.cfg_dnf.specs.Hints.{holds, is_false, plain_atom, negated_atom, wants, wants_off, is_among}
use Rattle.cfg_dnf.specs.Laws.{Stands}
use Rattle.cfg_dnf.proofs.Standing.{no_both}

-- atoms that pass the test of equality are equal
pub is_equal : (a b : CfgAtom) → eq_by_cmp atom_cmp a b ≡ true → a ≡ b
is_equal a b e = same_atom a b ((Equal-is (atom_cmp a b)).0 e)

pub itself : (a : CfgAtom) → eq_by_cmp atom_cmp a a ≡ true
itself a = (Equal-is (atom_cmp a a)).1 (tied_itself atom_total a)

-- what a test says of all atoms it says of one among them
pub none_among : (test : CfgAtom → Bool) (atoms : List CfgAtom) (a : CfgAtom) → list_any test atoms ≡ false → is_among atoms a ≡ true → test a ≡ false
none_among test [] a e h = absurd cc
none_among test (b ∷ bs) a e h =
    elim (eq_by_cmp atom_cmp a b) as (λ x. eq_by_cmp atom_cmp a b ≡ x → (x || is_among bs a) ≡ true → test a ≡ false) [
      | true ↦ λ same k. ap test (is_equal a b same) ∙ first_none (test b) (list_any test bs) e
      | false ↦ λ other k. none_among test bs a (second_none (test b) (list_any test bs) e) k
    ] refl h
  where
    first_none : (a b : Bool) → (a || b) ≡ false → a ≡ false
    first_none true b e = absurd cc
    first_none false b e = refl

    second_none : (a b : Bool) → (a || b) ≡ false → b ≡ false
    second_none true b e = absurd cc
    second_none false b e = e

pub some_among : (test : CfgAtom → Bool) (atoms : List CfgAtom) (a : CfgAtom) → is_among atoms a ≡ true → test a ≡ true → list_any test atoms ≡ true
some_among test atoms a h t =
    elim (list_any test atoms) as (λ b. list_any test atoms ≡ b → b ≡ true) [
      | true ↦ λ e. refl
      | false ↦ λ e. no_both (test a) t (none_among test atoms a e h)
    ] refl

-- whether no one passes
pub none_pass : (test : CfgAtom → Bool) (atoms : List CfgAtom) → ((a : CfgAtom) → is_among atoms a ≡ true → test a ≡ false) → list_any test atoms ≡ false
none_pass test [] h = refl
none_pass test (b ∷ bs) h = none (test b) (list_any test bs) (h b (ap (λ x. x || is_among bs b) (itself b))) (none_pass test bs (λ a k. h a (second (eq_by_cmp atom_cmp a b) (is_among bs a) k)))
  where
    none : (a b : Bool) → a ≡ false → b ≡ false → (a || b) ≡ false
    none true b d e = absurd cc
    none false b d e = e

    second : (a b : Bool) → b ≡ true → (a || b) ≡ true
    second true b e = refl
    second false b e = e

-- a literal has no atom, or one that it wants to change where the test says so
module _ (options : OptionSet) (atom_of : Literal → Option CfgAtom) (changes : CfgAtom → Bool) where
  abbrev Kind : Literal → Type 0
  Kind l = (atom_of l ≡ None) ⊎ ((b : CfgAtom) × (atom_of l ≡ Some b) × (is_false options l ≡ changes b))

  skipped : (a : CfgAtom) (o : Option CfgAtom) (f : Bool) (X Y : List CfgAtom) → o ≡ None → is_among X a ≡ (is_among Y a && changes a) → is_among (cond f (cons_option o X) X) a ≡ (is_among (cons_option o Y) a && changes a)
  skipped a o f X Y e h =
      subst (λ o. is_among (cond f (cons_option o X) X) a ≡ (is_among (cons_option o Y) a && changes a)) (sym e)
      (elim f as (λ f. is_among (cond f X X) a ≡ (is_among Y a && changes a)) [ true ↦ h | false ↦ h ])

  by_tests : (q f x y c : Bool) → (q ≡ true → f ≡ c) → x ≡ (y && c) → (cond f (q || x) x) ≡ ((q || y) && c)
  by_tests true true x y c same h = same refl
  by_tests true false x y true same h = absurd (no_both false (same refl) refl)
  by_tests true false x true false same h = h
  by_tests true false x false false same h = h
  by_tests false true x y c same h = h
  by_tests false false x y c same h = h

  taken : (a b : CfgAtom) (o : Option CfgAtom) (f : Bool) (X Y : List CfgAtom) → o ≡ Some b → f ≡ changes b → is_among X a ≡ (is_among Y a && changes a) → is_among (cond f (cons_option o X) X) a ≡ (is_among (cons_option o Y) a && changes a)
  taken a b o f X Y e same h =
      subst (λ o. is_among (cond f (cons_option o X) X) a ≡ (is_among (cons_option o Y) a && changes a)) (sym e)
      (elim f as (λ f. f ≡ changes b → is_among (cond f (b ∷ X) X) a ≡ ((eq_by_cmp atom_cmp a b || is_among Y a) && changes a)) [
        | true ↦ λ s. by_tests (eq_by_cmp atom_cmp a b) true (is_among X a) (is_among Y a) (changes a) (λ q. s ∙ ap changes (sym (is_equal a b q))) h
        | false ↦ λ s. by_tests (eq_by_cmp atom_cmp a b) false (is_among X a) (is_among Y a) (changes a) (λ q. s ∙ ap changes (sym (is_equal a b q))) h
      ] same)

  filtered : (l : Literal) (ls : List Literal) (f : Bool) → filter_map atom_of (cond f (l ∷ filter (is_false options) ls) (filter (is_false options) ls)) ≡ cond f (cons_option (atom_of l) (filter_map atom_of (filter (is_false options) ls))) (filter_map atom_of (filter (is_false options) ls))
  filtered l ls true = refl
  filtered l ls false = refl

  among_changed : ((l : Literal) → Kind l) → (ls : List Literal) (a : CfgAtom) → is_among (filter_map atom_of (filter (is_false options) ls)) a ≡ (is_among (filter_map atom_of ls) a && changes a)
  among_changed kind [] a = refl
  among_changed kind (l ∷ ls) a =
      ap (λ atoms. is_among atoms a) (filtered l ls (is_false options l))
      ∙ elim (kind l) [
        | inl e ↦ skipped a (atom_of l) (is_false options l) (filter_map atom_of (filter (is_false options) ls)) (filter_map atom_of ls) e (among_changed kind ls a)
        | inr w ↦ taken a w.0 (atom_of l) (is_false options l) (filter_map atom_of (filter (is_false options) ls)) (filter_map atom_of ls) w.1 w.2 (among_changed kind ls a)
      ]

  -- an atom of a literal is among them
  among_atoms : (l : Literal) (ls : List Literal) (a : CfgAtom) → Stands l ls → atom_of l ≡ Some a → is_among (filter_map atom_of ls) a ≡ true
  among_atoms l [] a h e = absurd h
  among_atoms l (k ∷ ks) a h e = elim h [
    | inl same ↦ subst (λ o. is_among (cons_option o (filter_map atom_of ks)) a ≡ true) (sym (ap atom_of (sym same) ∙ e)) (ap (λ b. b || is_among (filter_map atom_of ks) a) (itself a))
    | inr later ↦ behind (atom_of k) (filter_map atom_of ks) (among_atoms l ks a later e)
  ]
    where
      behind : (o : Option CfgAtom) (atoms : List CfgAtom) → is_among atoms a ≡ true → is_among (cons_option o atoms) a ≡ true
      behind None atoms h = h
      behind (Some b) atoms h = second (eq_by_cmp atom_cmp a b) (is_among atoms a) h
        where
          second : (x y : Bool) → y ≡ true → (x || y) ≡ true
          second true y e = refl
          second false y e = e

  -- an atom among them is that of a literal
  atom_among : (ls : List Literal) (a : CfgAtom) → is_among (filter_map atom_of ls) a ≡ true → (l : Literal) × Stands l ls × (atom_of l ≡ Some a)
  atom_among [] a h = absurd cc
  atom_among (l ∷ ls) a h =
      elim (atom_of l) as (λ o. atom_of l ≡ o → is_among (cons_option o (filter_map atom_of ls)) a ≡ true → (k : Literal) × Stands k (l ∷ ls) × (atom_of k ≡ Some a)) [
        | None ↦ λ e k. let rest = atom_among ls a k in (rest.0, inr rest.1, rest.2)
        | Some b ↦ λ e k. elim (eq_by_cmp atom_cmp a b) as (λ x. eq_by_cmp atom_cmp a b ≡ x → (x || is_among (filter_map atom_of ls) a) ≡ true → (k : Literal) × Stands k (l ∷ ls) × (atom_of k ≡ Some a)) [
          | true ↦ λ same m. (l, inl refl, e ∙ ap Some (sym (is_equal a b same)))
          | false ↦ λ other m. let rest = atom_among ls a m in (rest.0, inr rest.1, rest.2)
        ] refl k
      ] refl h

told_false : (b : Bool) → reads_false (Some b) ≡ not b
told_false true = refl
told_false false = refl

pub told_true : (b : Bool) → reads_true (Some b) ≡ b
told_true true = refl
told_true false = refl

told_not : (b : Bool) → reads_false (Some (not b)) ≡ b
told_not true = refl
told_not false = refl

module _ (options : OptionSet) where
  plain_kind : (l : Literal) → Kind options plain_atom (λ b. not (holds options b)) l
  plain_kind (Plain (Atom b)) = inr (b, refl, told_false (holds options b))
  plain_kind (Plain Invalid) = inl refl
  plain_kind (Plain (Version text)) = inl refl
  plain_kind (Negated leaf) = inl refl

  negated_kind : (l : Literal) → Kind options negated_atom (holds options) l
  negated_kind (Negated (Atom b)) = inr (b, refl, told_not (holds options b))
  negated_kind (Negated Invalid) = inl refl
  negated_kind (Negated (Version text)) = inl refl
  negated_kind (Plain leaf) = inl refl

  -- what is wanted on is plain and off, and what is wanted off is negated and on
  pub among_wants : (ls : List Literal) (a : CfgAtom) → is_among (wants options ls) a ≡ (is_among (filter_map plain_atom ls) a && not (holds options a))
  among_wants = among_changed options plain_atom (λ b. not (holds options b)) plain_kind

  pub among_wants_off : (ls : List Literal) (a : CfgAtom) → is_among (wants_off options ls) a ≡ (is_among (filter_map negated_atom ls) a && holds options a)
  among_wants_off = among_changed options negated_atom (holds options) negated_kind

  pub among_plain : (ls : List Literal) (a : CfgAtom) → Stands (Plain (Atom a)) ls → is_among (filter_map plain_atom ls) a ≡ true
  among_plain ls a h = among_atoms options plain_atom (holds options) (Plain (Atom a)) ls a h refl

  pub among_negated : (ls : List Literal) (a : CfgAtom) → Stands (Negated (Atom a)) ls → is_among (filter_map negated_atom ls) a ≡ true
  among_negated ls a h = among_atoms options negated_atom (holds options) (Negated (Atom a)) ls a h refl

  same_plain : (l : Literal) (a : CfgAtom) → plain_atom l ≡ Some a → l ≡ Plain (Atom a)
  same_plain (Plain (Atom b)) a e = let same : b ≡ a = cc in ap (λ c. Plain (Atom c)) same
  same_plain (Plain Invalid) a e = absurd cc
  same_plain (Plain (Version text)) a e = absurd cc
  same_plain (Negated leaf) a e = absurd cc

  same_negated : (l : Literal) (a : CfgAtom) → negated_atom l ≡ Some a → l ≡ Negated (Atom a)
  same_negated (Negated (Atom b)) a e = let same : b ≡ a = cc in ap (λ c. Negated (Atom c)) same
  same_negated (Negated Invalid) a e = absurd cc
  same_negated (Negated (Version text)) a e = absurd cc
  same_negated (Plain leaf) a e = absurd cc

  pub plain_among : (ls : List Literal) (a : CfgAtom) → is_among (filter_map plain_atom ls) a ≡ true → Stands (Plain (Atom a)) ls
  plain_among ls a h = let w = atom_among options plain_atom (holds options) ls a h in subst (λ l. Stands l ls) (same_plain w.0 a w.2) w.1

  pub negated_among : (ls : List Literal) (a : CfgAtom) → is_among (filter_map negated_atom ls) a ≡ true → Stands (Negated (Atom a)) ls
  negated_among ls a h = let w = atom_among options negated_atom (holds options) ls a h in subst (λ l. Stands l ls) (same_negated w.0 a w.2) w.1
