-- The search for the first hint from a number on.
use Rattle.std.proofs.Common.{◌≡◌, ℕ, zero, suc, ◌+◌, ◌<◌, ◌≤◌, min, if◌then◌else◌, Bool, true, false, List, [], ◌∷◌, ◌++◌, length, map, take, drop, Some, None, inl, inr, refl, sym, ap, subst, ◌∙◌, add-one, arith}
use Rattle.std.proofs.lemmas.Bool.{lt-ltb, le-ltb}
use Rattle.std.proofs.lemmas.List.{drop_all, take-append-drop, length-map}
use Rattle.ra_cfg.specs.declared.cfg_expr.CfgExpr.{CfgExpr}
use Rattle.ra_cfg.specs.Diff.{Diff}
use Rattle.ra_cfg.specs.Options.{OptionSet}
use Rattle.cfg_dnf.specs.declared.literal.Literal.{Literal}
use Rattle.cfg_dnf.specs.Conjunctions.{conjunctions}
use Rattle.cfg_dnf.specs.Form.{form, paths, chosen, next}
use Rattle.cfg_dnf.specs.Hints.{hint_if}
use Rattle.cfg_dnf.specs.Laws.{head}
use Rattle.cfg_dnf.specs.Making.{MakesIf}
use Rattle.cfg_dnf.specs.Numbered.{number_limit, hint_or, first_hint, hint_from}
use Rattle.cfg_dnf.specs.Numbers.{IsAt, count, choices_at}
use Rattle.cfg_dnf.proofs.NumberLaws.{at_map, at_drop, order, counts, numbered}
use Rattle.cfg_dnf.proofs.Steps.{made_is, unmade_is}
use Rattle.cfg_dnf.proofs.Walk.{goes_on}
use Rattle.cfg_dnf.proofs.WalkLaws.{walks_in_order}

module _ (options : OptionSet) where
  -- a conjunction that gives a hint, and one that gives none
  first_here : (n : ℕ) (c : List Literal) (rest : List (List Literal)) (diff : Diff) → n < number_limit → Some diff ≡ hint_if options c → Some (record { number = n; hint = diff }) ≡ first_hint options n (c ∷ rest)
  first_here n c rest diff h is =
      ap (λ o. hint_or n o (first_hint options (suc n) rest)) is
      ∙ ap (λ b. if b then hint_or n (hint_if options c) (first_hint options (suc n) rest) else None) (sym (lt-ltb n number_limit h))

  first_behind : (n : ℕ) (c : List Literal) (rest : List (List Literal)) → n < number_limit → None ≡ hint_if options c → first_hint options (suc n) rest ≡ first_hint options n (c ∷ rest)
  first_behind n c rest h is =
      ap (λ o. hint_or n o (first_hint options (suc n) rest)) is
      ∙ ap (λ b. if b then hint_or n (hint_if options c) (first_hint options (suc n) rest) else None) (sym (lt-ltb n number_limit h))

  -- no number is left
  first_past : (n : ℕ) (cs : List (List Literal)) → number_limit ≤ n → None ≡ first_hint options n cs
  first_past n [] h = refl
  first_past n (c ∷ rest) h = ap (λ b. if b then hint_or n (hint_if options c) (first_hint options (suc n) rest) else None) (sym (le-ltb n number_limit h))

-- the first behind a number stands at the next one
head_at : {A : Type 0} (q : A) (m : ℕ) (xs : List A) → head (drop m xs) ≡ Some q → IsAt q m xs
head_at q zero [] e = absurd cc
head_at q (suc m) [] e = absurd cc
head_at q zero (y ∷ ys) e = let same : y ≡ q = cc in same
head_at q (suc m) (y ∷ ys) e = head_at q m ys e

none_at : {A : Type 0} (xs : List A) → head xs ≡ None → xs ≡ []
none_at [] e = refl
none_at (x ∷ xs) e = absurd cc

length_dropped : {A B : Type 0} (g : A → B) (m : ℕ) (xs : List A) → drop m xs ≡ [] → drop m (map g xs) ≡ []
length_dropped g zero [] e = refl
length_dropped g (suc m) [] e = refl
length_dropped g zero (x ∷ xs) e = absurd cc
length_dropped g (suc m) (x ∷ xs) e = length_dropped g m xs e

-- the search stands at the conjunction of a number, and none from the first number up to it gives a hint
pub record HasSearched (options : OptionSet) (expr : CfgExpr) (start n : ℕ) (choices : List ℕ) : Type 0 where
  pub at : IsAt choices n (paths (form expr false))
  pub same : first_hint options n (drop n (conjunctions expr)) ≡ hint_from options expr start

module _ (options : OptionSet) (expr : CfgExpr) (start : ℕ) where
  lists : map (chosen (form expr false)) (paths (form expr false)) ≡ conjunctions expr
  lists = walks_in_order.lists expr

  all_counted : length (conjunctions expr) ≡ count (form expr false)
  all_counted = ap length (sym lists) ∙ length-map (paths (form expr false)) (chosen (form expr false)) ∙ counts (form expr false)

  -- no conjunction has the number
  pub none_from : (found : ℕ) → found ≡ min (count (form expr false)) number_limit → found ≤ start → None ≡ hint_from options expr start
  none_from found is h = elim (order start number_limit) [
    | inl k ↦
        let past : count (form expr false) ≤ start = omega (arith, is, h, k) in
        let done : length (conjunctions expr) ≤ start = subst (λ n. n ≤ start) (sym all_counted) past in
        ap (first_hint options start) (sym (drop_all start (conjunctions expr) done))
    | inr k ↦ first_past options start (drop start (conjunctions expr)) k
  ]

  -- a conjunction has it
  pub number_inside : (found : ℕ) → found ≡ min (count (form expr false)) number_limit → start < found → start < count (form expr false)
  number_inside found is h = omega (arith, is, h)

  pub search_begins : (choices : List ℕ) → start < count (form expr false) → choices ≡ choices_at (form expr false) start → IsAt choices start (paths (form expr false))
  search_begins choices h is = subst (λ p. IsAt p start (paths (form expr false))) (sym is) (numbered (form expr false) start h)

  pub searched_first : (choices : List ℕ) → IsAt choices start (paths (form expr false)) → HasSearched options expr start start choices
  searched_first choices at = record { at = at; same = refl }

  module _ (n : ℕ) (choices : List ℕ) (so_far : HasSearched options expr start n choices) where
    here : drop n (conjunctions expr) ≡ chosen (form expr false) choices ∷ drop (suc n) (conjunctions expr)
    here = at_drop (chosen (form expr false) choices) n (conjunctions expr) (subst (IsAt (chosen (form expr false) choices) n) lists (at_map (chosen (form expr false)) choices n (paths (form expr false)) so_far.at))

    -- the conjunction gives a hint
    pub search_finds : (diff : Diff) → n < number_limit → Some diff ≡ hint_if options (chosen (form expr false) choices) → Some (record { number = n; hint = diff }) ≡ hint_from options expr start
    search_finds diff h is = first_here options n (chosen (form expr false) choices) (drop (suc n) (conjunctions expr)) diff h is ∙ ap (first_hint options n) (sym here) ∙ so_far.same

    -- no number is left
    pub search_stops : number_limit ≤ n → None ≡ hint_from options expr start
    search_stops h = first_past options n (drop n (conjunctions expr)) h ∙ so_far.same

    module _ (limited : n < number_limit) (none : None ≡ hint_if options (chosen (form expr false) choices)) where
      behind : first_hint options (suc n) (drop (suc n) (conjunctions expr)) ≡ hint_from options expr start
      behind = first_behind options n (chosen (form expr false) choices) (drop (suc n) (conjunctions expr)) limited none ∙ ap (first_hint options n) (sym here) ∙ so_far.same

      next_head : next (form expr false) choices ≡ head (drop (suc n) (paths (form expr false)))
      next_head = (goes_on (form expr false) (take n (paths (form expr false))) choices (drop (suc n) (paths (form expr false)))
          (sym (take-append-drop n (paths (form expr false))) ∙ ap (λ l. take n (paths (form expr false)) ++ l) (at_drop choices n (paths (form expr false)) so_far.at))).0

      -- the search goes on to the next conjunction
      pub search_goes_on : (made : List ℕ) (told : Bool) → told ≡ true → MakesIf [] made (next (form expr false) choices) told → HasSearched options expr start (n + 1) made
      search_goes_on made told e makes =
          subst (λ m. HasSearched options expr start m made) (sym (add-one n))
          (record { at = head_at made (suc n) (paths (form expr false)) (sym next_head ∙ made_is (form expr false) made (next (form expr false) choices) told e makes); same = behind })

      -- there is none
      pub search_ends : (made : List ℕ) (told : Bool) → told ≡ false → MakesIf [] made (next (form expr false) choices) told → None ≡ hint_from options expr start
      search_ends made told e makes =
          let past : drop (suc n) (paths (form expr false)) ≡ [] = none_at (drop (suc n) (paths (form expr false))) (sym next_head ∙ unmade_is (form expr false) made (next (form expr false) choices) told e makes) in
          ap (first_hint options (suc n)) (sym (length_dropped (chosen (form expr false)) (suc n) (paths (form expr false)) past) ∙ ap (drop (suc n)) lists) ∙ behind
