-- What stands behind the argument of a placeholder of inline assembly: what stands at a place is found there, and what is found stands there.
use Rattle.std.proofs.Common.{◌≡◌, ℕ, ◌+◌, cond, List, [], ◌∷◌, ◌++◌, Some, refl, ap, ◌∙◌, sym, subst, arith}
use Rattle.std.specs.Option.{option_map, option_and_then}
use Rattle.std.specs.Char.{len_utf8}
use Rattle.std.proofs.lemmas.Option.{same_Some}
use Rattle.text_cut.specs.Runs.{size}
use Rattle.text_cut.specs.Place.{Place, place, first, Took}
use Rattle.text_cut.specs.Rules.{Spells, Reads}
use Rattle.text_cut.proofs.Rules.{took_none, took_one, took_both}
use Rattle.text_cut.proofs.OptionLaws.{chosen, mapped}
use Rattle.fmt_parse.specs.Tokens.{IsName, starts_name, is_colon}
use Rattle.fmt_parse.specs.Spec.{SpecParts, typed_parts, plain_parts}
use Rattle.fmt_parse.specs.Asm.{IsModifier, IsModified}
use Rattle.fmt_parse.specs.ReadTokens.{name_at}
use Rattle.fmt_parse.specs.ReadAsm.{named_type, modifier_at, behind_asm_colon, modified_at}
use Rattle.fmt_parse.proofs.Tokens.{name_front, name_found, NameIs, name_is}
use Rattle.fmt_parse.proofs.Flags.{range_is}

-- The modifier

modifier_found : (at : ℕ) (text : List ℕ) (v : SpecParts) (rest : List ℕ) → IsModifier at text v rest → modifier_at (place at (text ++ rest)) ≡ Some (v, place (at + size text) rest)
unfolding modifier_at
modifier_found at [] v rest h =
    ap (λ b. cond b (option_map (named_type (place at rest)) (name_at (place at rest))) (Some (plain_parts at, place at rest))) h.0
    ∙ (ap (λ (w : SpecParts). Some (w, place at rest)) (sym h.1)
    ∙ ap (λ n. Some (v, place n rest)) (omega arith))
modifier_found at (c ∷ text) v rest h =
    ap (λ b. cond b (option_map (named_type (place at (c ∷ (text ++ rest)))) (name_at (place at (c ∷ (text ++ rest))))) (Some (plain_parts at, place at (c ∷ (text ++ rest))))) (name_front (c ∷ text) rest h.0.begins)
    ∙ (ap (λ o. option_map (named_type (place at (c ∷ (text ++ rest)))) o) (name_found at (c ∷ text) rest h.0)
    ∙ ap (λ (w : SpecParts). Some (w, place (at + size (c ∷ text)) rest)) (sym h.1))

-- a name that stands at a place is the modifier
named_is : (p e : Place) → NameIs p e → Spells IsModifier p (named_type p e)
named_is p e is = by_text is.text is.name is.took
  where
    by_text : (text : List ℕ) → IsName text e.left → Took p e text → Spells IsModifier p (named_type p e)
    by_text [] name took = absurd (let b = name.begins in cc)
    by_text (c ∷ text) name took = record { text = c ∷ text; took = took; rule = (name, ap typed_parts (range_is p e (c ∷ text) took)) }

modifier_is : (p : Place) (r : SpecParts × Place) → modifier_at p ≡ Some r → Spells IsModifier p r
unfolding modifier_at
modifier_is p r found = chosen (starts_name p.left) (option_map (named_type p) (name_at p)) (Some (plain_parts p.at, p)) (Some r) found
    (λ begins found. mapped (named_type p) (name_at p) r found
    (λ e is same. subst (λ z. Spells IsModifier p z) same (named_is p e (name_is p e is))))
    (λ none same. subst (λ z. Spells IsModifier p z) (same_Some _ _ same) (record { text = []; took = took_none p; rule = (none, refl) }))

modifier_reads : Reads IsModifier modifier_at
modifier_reads = record { found = modifier_found; is = modifier_is }

-- The colon in front of it

modified_found : (at : ℕ) (text : List ℕ) (v : SpecParts) (rest : List ℕ) → IsModified at text v rest → modified_at (place at (text ++ rest)) ≡ Some (v, place (at + size text) rest)
unfolding modified_at
modified_found at [] v rest h =
    ap (λ b. cond b (option_and_then behind_asm_colon (first (place at rest))) (Some (plain_parts at, place at rest))) h.0
    ∙ (ap (λ (w : SpecParts). Some (w, place at rest)) (sym h.1)
    ∙ ap (λ n. Some (v, place n rest)) (omega arith))
modified_found at (c ∷ text) v rest h =
    ap (λ b. cond b (modifier_at (place (at + len_utf8 c) (text ++ rest))) (Some (plain_parts at, place at (c ∷ (text ++ rest))))) h.0
    ∙ (modifier_reads.found (at + len_utf8 c) text v rest h.1
    ∙ ap (λ n. Some (v, place n rest)) (omega arith))

modified_in : (at : ℕ) (cs : List ℕ) (r : SpecParts × Place) → modified_at (place at cs) ≡ Some r → Spells IsModified (place at cs) r
unfolding modified_at
modified_in at [] r found = subst (λ z. Spells IsModified (place at []) z) (same_Some _ _ found) (record { text = []; took = took_none (place at []); rule = (refl, refl) })
modified_in at (c ∷ cs) r found = chosen (is_colon c) (modifier_at (place (at + len_utf8 c) cs)) (Some (plain_parts at, place at (c ∷ cs))) (Some r) found
    (λ colon found.
    let is = modifier_reads.is (place (at + len_utf8 c) cs) r found in
    record {
      text = c ∷ is.text;
      took = took_both (place at (c ∷ cs)) (place (at + len_utf8 c) cs) r.1 (c ∷ []) is.text (took_one at c cs) is.took;
      rule = (colon, is.rule);
    })
    (λ no_colon same. subst (λ z. Spells IsModified (place at (c ∷ cs)) z) (same_Some _ _ same) (record { text = []; took = took_none (place at (c ∷ cs)); rule = (no_colon, refl) }))

pub modified_reads : Reads IsModified modified_at
modified_reads = record { found = modified_found; is = λ p r e. modified_in p.at p.left r e }
