-- The steps of the walk.
use Rattle.std.proofs.Common.{◌≡◌, ℕ, suc, ◌<◌, ◌≤◌, Bool, true, false, if◌then◌else◌, List, [], ◌∷◌, ◌++◌, length, map, Option, Some, None, Result, refl, sym, ap, subst, ◌∙◌, append_assoc, cond, arith}
use Rattle.std.specs.List.{filter}
use Rattle.ra_cfg.specs.Diff.{Diff}
use Rattle.ra_cfg.specs.Options.{OptionSet}
use Rattle.cfg_dnf.specs.declared.enable_hints.WalkState.{WalkState}
use Rattle.cfg_dnf.specs.declared.enable_hints.WalkState.TheVariants.{Start, At, Ended}
use Rattle.cfg_dnf.specs.declared.literal.Literal.{Literal}
use Rattle.cfg_dnf.specs.Form.{Form, form, paths, chosen, first, next, behind}
use Rattle.cfg_dnf.specs.Hints.{gives_hint, hint, hint_if, hints_of, hints}
use Rattle.cfg_dnf.specs.Laws.{head}
use Rattle.cfg_dnf.specs.Making.{Made, Unmade, Makes, MakesIf}
use Rattle.cfg_dnf.specs.declared.enable_hints.EnableHints.{EnableHints}
use Rattle.cfg_dnf.specs.Walking.{ahead_by, ahead_of, left_of, StandsAt, StandsBy, IsStanding, IsAlong}
use Rattle.cfg_dnf.specs.Stepping.{wanted_by, wanted, GoesOn, Ends, most_by, most_left, GivesHint}
use Rattle.cfg_dnf.proofs.Agreement.{agrees}
use Rattle.ra_cfg.specs.declared.cfg_expr.CfgExpr.{CfgExpr}
use Rattle.cfg_dnf.proofs.Walk.{begins, goes_on, chooses}

-- a list whose first element there is
headed : (ps : List (List ℕ)) (q : List ℕ) → head ps ≡ Some q → (rest : List (List ℕ)) × (ps ≡ q ∷ rest)
headed [] q e = absurd cc
headed (p ∷ ps) q e = let same : p ≡ q = cc in (ps, ap (λ r. r ∷ ps) same)

unheaded : (ps : List (List ℕ)) → head ps ≡ None → ps ≡ []
unheaded [] e = refl
unheaded (p ∷ ps) e = absurd cc

module _ (f : Form Literal) where
  -- the walk goes to the next conjunction
  arrives : (before : List (List ℕ)) (q : List ℕ) (rest : List (List ℕ)) → paths f ≡ before ++ q ∷ rest → StandsAt f q × (behind q (paths f) ≡ rest)
  arrives before q rest e = (record { before = before; after = rest; split = e }, (goes_on f before q rest e).1)

  pub next_ahead : (state : WalkState) (choices q : List ℕ) → StandsBy f choices state → wanted_by f state choices ≡ Some q → StandsAt f q × (ahead_by f state choices ≡ q ∷ behind q (paths f))
  next_ahead Start choices q stands e =
      let one = headed (paths f) q (sym (begins f) ∙ e) in
      let there = arrives [] q one.0 one.1 in
      (there.0, one.1 ∙ ap (λ r. q ∷ r) (sym there.1))
  next_ahead At choices q stands e =
      let on = goes_on f stands.before choices stands.after stands.split in
      let one = headed stands.after q (sym on.0 ∙ e) in
      let there = arrives (stands.before ++ choices ∷ []) q one.0 (stands.split ∙ ap (λ a. stands.before ++ choices ∷ a) one.1 ∙ sym (append_assoc stands.before (choices ∷ []) (q ∷ one.0))) in
      (there.0, on.1 ∙ one.1 ∙ ap (λ r. q ∷ r) (sym there.1))
  next_ahead Ended choices q stands e = absurd cc

  pub none_ahead : (state : WalkState) (choices : List ℕ) → StandsBy f choices state → wanted_by f state choices ≡ None → ahead_by f state choices ≡ []
  none_ahead Start choices stands e = unheaded (paths f) (sym (begins f) ∙ e)
  none_ahead At choices stands e =
      let on = goes_on f stands.before choices stands.after stands.split in
      on.1 ∙ unheaded stands.after (sym on.0 ∙ e)
  none_ahead Ended choices stands e = refl

  -- the choices are made in place of those that there were
  pub from_start : {E : Type 0} (result : Result Bool E) (state : WalkState) (old new : List ℕ) → state ≡ Start → StandsBy f old state → Makes result old new (first f) → Makes result [] new (wanted_by f state old)
  from_start result state old new e stands makes =
      let none : old ≡ [] = subst (StandsBy f old) e stands in
      subst (λ s. Makes result [] new (wanted_by f s old)) (sym e) (subst (λ l. Makes result l new (first f)) none makes)

  pub from_at : {E : Type 0} (result : Result Bool E) (state : WalkState) (old new : List ℕ) → state ≡ At → Makes result [] new (next f old) → Makes result [] new (wanted_by f state old)
  from_at result state old new e makes = subst (λ s. Makes result [] new (wanted_by f s old)) (sym e) makes

  pub from_end : (state : WalkState) (old : List ℕ) → state ≡ Ended → StandsBy f old state → Unmade [] old (wanted_by f state old)
  from_end state old e stands = record { choices = []; left = subst (StandsBy f old) e stands; none = ap (λ s. wanted_by f s old) e }

  pub made_is : (new : List ℕ) (o : Option (List ℕ)) (told : Bool) → told ≡ true → MakesIf [] new o told → o ≡ Some new
  made_is new o told e makes = let made : Made [] new o = subst (MakesIf [] new o) e makes in made.are ∙ ap Some (sym made.left)

  pub unmade_is : (new : List ℕ) (o : Option (List ℕ)) (told : Bool) → told ≡ false → MakesIf [] new o told → o ≡ None
  unmade_is new o told e makes = let unmade : Unmade [] new o = subst (MakesIf [] new o) e makes in unmade.none

-- a conjunction that gives a hint, and one that gives none
pub hint_next : (options : OptionSet) (c : List Literal) (rest : List (List Literal)) (diff : Diff) → Some diff ≡ hint_if options c → hints_of options (c ∷ rest) ≡ diff ∷ hints_of options rest
hint_next options c rest diff e =
    elim (gives_hint options c) as (λ b. Some diff ≡ (if b then Some (hint options c) else None) → map (hint options) (cond b (c ∷ filter (gives_hint options) rest) (filter (gives_hint options) rest)) ≡ diff ∷ hints_of options rest) [
      | true ↦ λ e. let same : diff ≡ hint options c = cc in ap (λ d. d ∷ hints_of options rest) (sym same)
      | false ↦ λ e. absurd cc
    ] e

pub hint_none : (options : OptionSet) (c : List Literal) (rest : List (List Literal)) → None ≡ hint_if options c → hints_of options (c ∷ rest) ≡ hints_of options rest
hint_none options c rest e =
    elim (gives_hint options c) as (λ b. None ≡ (if b then Some (hint options c) else None) → map (hint options) (cond b (c ∷ filter (gives_hint options) rest) (filter (gives_hint options) rest)) ≡ hints_of options rest) [
      | true ↦ λ e. absurd cc
      | false ↦ λ e. refl
    ] e

pub goes_to : (old new : EnableHints) (told : Bool) → IsStanding old → IsAlong old new → new.state ≡ At → told ≡ true → MakesIf [] new.choices.items (wanted old) told → GoesOn old new
goes_to old new told stands along at e makes =
    let there = next_ahead (form old.expr.now false) old.state old.choices.items new.choices.items stands (made_is (form old.expr.now false) new.choices.items (wanted old) told e makes) in
    record {
      state = at;
      standing = subst (StandsBy (form new.expr.now false) new.choices.items) (sym at) (subst (λ f. StandsAt f new.choices.items) (λ i. form (sym along.expr i).now false) there.0);
      next = there.1 ∙ (λ i. new.choices.items ∷ ahead_by (form (sym along.expr i).now false) (sym at i) new.choices.items);
    }

pub ends_at : (old new : EnableHints) (made : List ℕ) (told : Bool) → IsStanding old → IsStanding new → told ≡ false → MakesIf [] made (wanted old) told → Ends old new
ends_at old new made told stands standing e makes = record {
  standing = standing;
  none = none_ahead (form old.expr.now false) old.state old.choices.items stands (unmade_is (form old.expr.now false) made (wanted old) told e makes);
}

along_then : (old mid new : EnableHints) → IsAlong old mid → IsAlong mid new → IsAlong old new
along_then old mid new first second = record { expr = second.expr ∙ first.expr; opts = second.opts ∙ first.opts }

-- the hints that are left where the walk goes on
left_step : (old new : EnableHints) → IsAlong old new → GoesOn old new → left_of old ≡ hints_of new.opts.now (chosen (form new.expr.now false) new.choices.items ∷ map (chosen (form new.expr.now false)) (ahead_of new))
left_step old new along goes = λ i. hints_of (sym along.opts i).now (map (chosen (form (sym along.expr i).now false)) (goes.next i))

fewer_by : (s : WalkState) (f : Form Literal) (choices q : List ℕ) (rest : List (List ℕ)) → ahead_by f s choices ≡ q ∷ rest → suc (length rest) < most_by s (length (ahead_by f s choices))
fewer_by Start f choices q rest e = let h : length (paths f) ≡ suc (length rest) = ap length e in omega arith
fewer_by At f choices q rest e = let h : length (behind choices (paths f)) ≡ suc (length rest) = ap length e in omega arith
fewer_by Ended f choices q rest e = absurd cc

fewer : (old new : EnableHints) → GoesOn old new → most_left new < most_left old
fewer old new goes =
    let now : most_left new ≡ suc (length (ahead_of new)) = ap (λ s. most_by s (length (ahead_of new))) goes.state in
    let h : suc (length (ahead_of new)) < most_left old = fewer_by old.state (form old.expr.now false) old.choices.items new.choices.items (ahead_of new) goes.next in
    omega arith

-- a walk that has come from another one without a hint between
pub record HasCome (start now : EnableHints) : Type 0 where
  pub standing : IsStanding now
  pub along : IsAlong start now
  pub left : left_of start ≡ left_of now
  pub most : most_left now ≤ most_left start

pub come_first : (start : EnableHints) → IsStanding start → HasCome start start
come_first start stands = record { standing = stands; along = record { expr = refl; opts = refl }; left = refl; most = omega arith }

module _ (start now new : EnableHints) (come : HasCome start now) (along : IsAlong now new) (goes : GoesOn now new) where
  pub along_on : IsAlong start new
  along_on = along_then start now new come.along along

  -- the next conjunction gives a hint
  pub gives_here : (diff : Diff) → Some diff ≡ hint_if new.opts.now (chosen (form new.expr.now false) new.choices.items) → GivesHint start diff new
  gives_here diff e = record {
    at = goes.state;
    here = e;
    standing = goes.standing;
    next = come.left ∙ left_step now new along goes ∙ hint_next new.opts.now (chosen (form new.expr.now false) new.choices.items) (map (chosen (form new.expr.now false)) (ahead_of new)) diff e;
    fewer = let h : most_left new < most_left now = fewer now new goes in let k : most_left now ≤ most_left start = come.most in omega arith;
  }

  -- it gives none
  pub comes_on : None ≡ hint_if new.opts.now (chosen (form new.expr.now false) new.choices.items) → HasCome start new
  comes_on e = record {
    standing = goes.standing;
    along = along_on;
    left = come.left ∙ left_step now new along goes ∙ hint_none new.opts.now (chosen (form new.expr.now false) new.choices.items) (map (chosen (form new.expr.now false)) (ahead_of new)) e;
    most = let h : most_left new < most_left now = fewer now new goes in let k : most_left now ≤ most_left start = come.most in omega arith;
  }

  pub less_ahead : length (ahead_of new) < length (ahead_of now)
  less_ahead = let h : length (ahead_of now) ≡ suc (length (ahead_of new)) = ap length goes.next in omega arith

  -- an error comes from a walk that has not ended
  pub not_ended : 0 < most_left start
  not_ended = let h : most_left new < most_left now = fewer now new goes in let k : most_left now ≤ most_left start = come.most in omega arith

-- no conjunction is left
pub none_left : (start now new : EnableHints) → HasCome start now → Ends now new → left_of start ≡ []
none_left start now new come ends = come.left ∙ (λ i. hints_of now.opts.now (map (chosen (form now.expr.now false)) (ends.none i)))

pub not_ended_yet : (start now : EnableHints) → HasCome start now → 0 < most_left now → 0 < most_left start
not_ended_yet start now come h = let k : most_left now ≤ most_left start = come.most in omega arith

-- in front of the conjunctions all hints are left
pub all_left : (walk : EnableHints) (expr : CfgExpr) (options : OptionSet) → walk.expr.now ≡ expr → walk.opts.now ≡ options → walk.state ≡ Start → left_of walk ≡ hints options expr
all_left walk expr options is given start =
    (λ i. hints_of (given i) (map (chosen (form (is i) false)) (ahead_by (form (is i) false) (start i) walk.choices.items)))
    ∙ ap (hints_of options) (chooses (form expr false) ∙ sym (agrees expr false))
