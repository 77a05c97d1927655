-- The text of a predicate, conjunction by conjunction.
use Rattle.std.proofs.Common.{◌≡◌, ℕ, suc, ◌<◌, Bool, true, false, List, [], ◌∷◌, ◌++◌, length, map, codes, refl, sym, ap, ◌∙◌, append_assoc, arith}
use Rattle.std.proofs.lemmas.List.{append-nil}
use Rattle.ra_cfg.specs.declared.cfg_expr.CfgExpr.{CfgExpr, CfgExpr-F, Version}
use Rattle.ra_cfg.specs.declared.cfg_expr.CfgExpr.TheVariants.{rolls-Version}
use Rattle.ra_cfg.specs.declared.cfg_expr.CfgExpr.TheFolds.{fold-roll-CfgExpr}
use Rattle.ra_cfg.specs.Text.{after_comma, expr_text, text_step, call_text, quoted, joined}
use Rattle.cfg_dnf.specs.declared.enable_hints.WalkState.TheVariants.{Start, At}
use Rattle.cfg_dnf.specs.declared.literal.Literal.{Literal}
use Rattle.cfg_dnf.specs.DnfText.{literal_text, conjunction_text, group_text, dnf_text, texts_ahead}
use Rattle.cfg_dnf.specs.Form.{Form, form, paths, chosen, first, next, behind}
use Rattle.cfg_dnf.specs.Making.{MakesIf}
use Rattle.cfg_dnf.specs.Walking.{StandsAt}
use Rattle.cfg_dnf.proofs.Agreement.{agrees}
use Rattle.cfg_dnf.proofs.Lists.{map_twice}
use Rattle.cfg_dnf.proofs.Steps.{next_ahead, none_ahead, made_is, unmade_is}
use Rattle.cfg_dnf.proofs.Walk.{chooses}

-- how a version is written
pub version_text : (text : List ℕ) → expr_text (Version text) ≡ call_text (codes "version(") (quoted text)
version_text text = ap expr_text (sym (rolls-Version text)) ∙ fold-roll-CfgExpr (List ℕ) text_step (CfgExpr-F.Version text)

-- the text so far, with those of the conjunctions from these choices on, is the first text with those from the first choices on
pub record SoText (f : Form Literal) (before : List ℕ) (start : List ℕ) (text : List ℕ) (choices : List ℕ) : Type 0 where
  pub standing : StandsAt f choices
  pub same : text ++ texts_ahead f (choices ∷ behind choices (paths f)) ≡ before ++ texts_ahead f (start ∷ behind start (paths f))

pub first_text : (f : Form Literal) (before start : List ℕ) → StandsAt f start → SoText f before start before start
first_text f before start stands = record { standing = stands; same = refl }

module _ (f : Form Literal) (before start text choices mid new more made : List ℕ) (so_far : SoText f before start text choices) (one : mid ≡ text ++ codes ", ") (two : new ≡ mid ++ more) (is : more ≡ conjunction_text (chosen f choices)) where
  new_is : new ≡ text ++ after_comma (conjunction_text (chosen f choices))
  new_is = two ∙ (λ i. one i ++ is i) ∙ append_assoc text (codes ", ") (conjunction_text (chosen f choices))

  split : (rest : List (List ℕ)) → new ++ texts_ahead f rest ≡ text ++ texts_ahead f (choices ∷ rest)
  split rest = ap (λ l. l ++ texts_ahead f rest) new_is ∙ append_assoc text (after_comma (conjunction_text (chosen f choices))) (texts_ahead f rest)

  -- one conjunction more
  pub text_goes_on : (told : Bool) → told ≡ true → MakesIf [] made (next f choices) told → SoText f before start new made
  text_goes_on told e makes =
      let there = next_ahead f At choices made so_far.standing (made_is f made (next f choices) told e makes) in
      record {
        standing = there.0;
        same = split (made ∷ behind made (paths f)) ∙ ap (λ rest. text ++ texts_ahead f (choices ∷ rest)) (sym there.1) ∙ so_far.same;
      }

  pub fewer_texts : (told : Bool) → told ≡ true → MakesIf [] made (next f choices) told → length (behind made (paths f)) < length (behind choices (paths f))
  fewer_texts told e makes =
      let there = next_ahead f At choices made so_far.standing (made_is f made (next f choices) told e makes) in
      let h : length (behind choices (paths f)) ≡ suc (length (behind made (paths f))) = ap length there.1 in
      omega arith

  -- no conjunction more
  pub text_ends : (told : Bool) → told ≡ false → MakesIf [] made (next f choices) told → new ≡ before ++ texts_ahead f (start ∷ behind start (paths f))
  text_ends told e makes =
      let none = none_ahead f At choices so_far.standing (unmade_is f made (next f choices) told e makes) in
      sym (append-nil new) ∙ split [] ∙ ap (λ rest. text ++ texts_ahead f (choices ∷ rest)) (sym none) ∙ so_far.same

module _ (e : CfgExpr) where
  texts : dnf_text e ≡ group_text (codes "any(") (map (λ p. conjunction_text (chosen (form e false) p)) (paths (form e false)))
  texts = ap (λ cs. group_text (codes "any(") (map conjunction_text cs)) (agrees e false ∙ sym (chooses (form e false))) ∙ ap (group_text (codes "any(")) (map_twice conjunction_text (chosen (form e false)) (paths (form e false)))

  pub text_none : (made : List ℕ) (told : Bool) → told ≡ false → MakesIf [] made (first (form e false)) told → codes "any()" ≡ dnf_text e
  text_none made told no_more makes =
      sym (texts ∙ ap (λ ps. group_text (codes "any(") (map (λ p. conjunction_text (chosen (form e false) p)) ps)) (none_ahead (form e false) Start [] refl (unmade_is (form e false) made (first (form e false)) told no_more makes)))

  module _ (q : List ℕ) (has : Bool) (has_first : has ≡ true) (makes_first : MakesIf [] q (first (form e false)) has) where
    there : StandsAt (form e false) q × (paths (form e false) ≡ q ∷ behind q (paths (form e false)))
    there = next_ahead (form e false) Start [] q refl (made_is (form e false) q (first (form e false)) has has_first makes_first)

    pub text_one : (t made : List ℕ) (told : Bool) → t ≡ conjunction_text (chosen (form e false) q) → told ≡ false → MakesIf [] made (next (form e false) q) told → t ≡ dnf_text e
    text_one t made told is no_more makes =
        is ∙ sym (texts ∙ ap (λ ps. group_text (codes "any(") (map (λ p. conjunction_text (chosen (form e false) p)) ps)) (there.1 ∙ ap (λ rest. q ∷ rest) (none_ahead (form e false) At q there.0 (unmade_is (form e false) made (next (form e false) q) told no_more makes))))

    module _ (r : List ℕ) (more : Bool) (has_more : more ≡ true) (makes_more : MakesIf [] r (next (form e false) q) more) where
      second : StandsAt (form e false) r × (behind q (paths (form e false)) ≡ r ∷ behind r (paths (form e false)))
      second = next_ahead (form e false) At q r there.0 (made_is (form e false) r (next (form e false) q) more has_more makes_more)

      pub stands_second : StandsAt (form e false) r
      stands_second = second.0

      pub text_many : (t u v : List ℕ) → t ≡ conjunction_text (chosen (form e false) q) → u ≡ t ++ texts_ahead (form e false) (r ∷ behind r (paths (form e false))) → v ≡ call_text (codes "any(") u → v ≡ dnf_text e
      text_many t u v is whole outer =
          outer ∙ ap (call_text (codes "any(")) (whole ∙ ap (λ t. t ++ texts_ahead (form e false) (r ∷ behind r (paths (form e false)))) is)
          ∙ sym (texts ∙ ap (λ ps. group_text (codes "any(") (map (λ p. conjunction_text (chosen (form e false) p)) ps)) (there.1 ∙ ap (λ rest. q ∷ rest) second.1))

-- none or several texts stand in brackets
pub group_more : (word : List ℕ) (literals : List Literal) → (length literals ≡ 1 → ⊥) → group_text word (map literal_text literals) ≡ call_text word (joined (map literal_text literals))
group_more word [] more = refl
group_more word (a ∷ []) more = absurd (more refl)
group_more word (a ∷ b ∷ rest) more = refl
