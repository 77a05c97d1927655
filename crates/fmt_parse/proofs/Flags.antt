-- Fill and alignment, and the type: what stands at a place is found there, and what is found stands there.
use Rattle.std.proofs.Common.{◌≡◌, ℕ, ◌+◌, inl, inr, Bool, true, false, cond, List, [], ◌∷◌, ◌++◌, Option, Some, None, refl, ap, ◌∙◌, sym, subst, arith}
use Rattle.std.specs.Option.{option_map, option_and_then}
use Rattle.std.specs.Char.{len_utf8}
use Rattle.std.proofs.lemmas.Bool.Decides.{nat_tests}
use Rattle.std.proofs.lemmas.Option.{same_Some}
use Rattle.text_cut.specs.Runs.{starts, size}
use Rattle.text_cut.specs.Place.{Place, place, first, Took}
use Rattle.text_cut.specs.Rules.{Spells, Reads}
use Rattle.text_cut.proofs.Rules.{took_none, took_one, took_both}
use Rattle.text_cut.proofs.OptionLaws.{chosen, mapped}
use Rattle.fmt_parse.specs.declared.piece.Alignment.{Alignment}
use Rattle.fmt_parse.specs.declared.piece.Alignment.TheVariants.{Unknown}
use Rattle.fmt_parse.specs.Tokens.{range, is_question, is_x, is_align, starts_name, IsName}
use Rattle.fmt_parse.specs.Spec.{IsAlign, align_of, hex_of, Typed, IsNoType, IsQuestion, IsHexQuestion, IsHex, IsNamedType, IsType}
use Rattle.fmt_parse.specs.ReadTokens.{between, name_at}
use Rattle.fmt_parse.specs.ReadSpec.{align_at, filled_at, question_at, hex_at, name_type_at, type_at}
use Rattle.fmt_parse.proofs.Tokens.{name_front, name_found, NameIs, name_is}

abbrev Aligned : Type 0
Aligned = Option ℕ × Alignment

align_found : (at : ℕ) (text : List ℕ) (v : Aligned) (rest : List ℕ) → IsAlign at text v rest → align_at (place at (text ++ rest)) ≡ Some (v, place (at + size text) rest)
unfolding align_at
align_found at [] v rest h =
    ap (λ b. cond b (option_and_then filled_at (first (place at rest))) (cond (starts is_align rest) (option_map (λ (r : ℕ × Place). ((None, align_of r.0), r.1)) (first (place at rest))) (Some ((None, Unknown), place at rest)))) h.0
    ∙ (ap (λ b. cond b (option_map (λ (r : ℕ × Place). ((None, align_of r.0), r.1)) (first (place at rest))) (Some ((None, Unknown), place at rest))) h.1
    ∙ (ap (λ (w : Aligned). Some (w, place at rest)) (sym h.2)
    ∙ ap (λ n. Some (v, place n rest)) (omega arith)))
align_found at (c ∷ []) v rest h =
    ap (λ b. cond b (option_and_then filled_at (first (place at (c ∷ rest)))) (cond (is_align c) (Some ((None, align_of c), place (at + len_utf8 c) rest)) (Some ((None, Unknown), place at (c ∷ rest))))) h.0
    ∙ (ap (λ b. cond b (Some ((None, align_of c), place (at + len_utf8 c) rest)) (Some ((None, Unknown), place at (c ∷ rest)))) h.1
    ∙ (ap (λ (w : Aligned). Some (w, place (at + len_utf8 c) rest)) (sym h.2)
    ∙ ap (λ n. Some (v, place n rest)) (omega arith)))
align_found at (c ∷ d ∷ []) v rest h =
    ap (λ b. cond b (Some ((Some c, align_of d), place (at + len_utf8 c + len_utf8 d) rest)) (cond (is_align c) (Some ((None, align_of c), place (at + len_utf8 c) (d ∷ rest))) (Some ((None, Unknown), place at (c ∷ d ∷ rest))))) h.0
    ∙ (ap (λ (w : Aligned). Some (w, place (at + len_utf8 c + len_utf8 d) rest)) (sym h.1)
    ∙ ap (λ n. Some (v, place n rest)) (omega arith))
align_found at (c ∷ d ∷ e ∷ text) v rest h = absurd h

align_in : (at : ℕ) (cs : List ℕ) (r : Aligned × Place) → align_at (place at cs) ≡ Some r → Spells IsAlign (place at cs) r
unfolding align_at
align_in at [] r found = subst (λ z. Spells IsAlign (place at []) z) (same_Some _ _ found) (record { text = []; took = took_none (place at []); rule = (refl, refl, refl) })
align_in at (c ∷ []) r found = chosen (is_align c) (Some ((None, align_of c), place (at + len_utf8 c) [])) (Some ((None, Unknown), place at (c ∷ []))) (Some r) found
    (λ t same. subst (λ z. Spells IsAlign (place at (c ∷ [])) z) (same_Some _ _ same) (record { text = c ∷ []; took = took_one at c []; rule = (refl, t, refl) }))
    (λ t same. subst (λ z. Spells IsAlign (place at (c ∷ [])) z) (same_Some _ _ same) (record { text = []; took = took_none (place at (c ∷ [])); rule = (refl, t, refl) }))
align_in at (c ∷ d ∷ cs) r found = chosen (is_align d) (Some ((Some c, align_of d), place (at + len_utf8 c + len_utf8 d) cs)) (cond (is_align c) (Some ((None, align_of c), place (at + len_utf8 c) (d ∷ cs))) (Some ((None, Unknown), place at (c ∷ d ∷ cs)))) (Some r) found
    (λ t same. subst (λ z. Spells IsAlign (place at (c ∷ d ∷ cs)) z) (same_Some _ _ same) (record {
      text = c ∷ d ∷ [];
      took = took_both (place at (c ∷ d ∷ cs)) (place (at + len_utf8 c) (d ∷ cs)) (place (at + len_utf8 c + len_utf8 d) cs) (c ∷ []) (d ∷ []) (took_one at c (d ∷ cs)) (took_one (at + len_utf8 c) d cs);
      rule = (t, refl);
    }))
    (λ second more. chosen (is_align c) (Some ((None, align_of c), place (at + len_utf8 c) (d ∷ cs))) (Some ((None, Unknown), place at (c ∷ d ∷ cs))) (Some r) more
    (λ t same. subst (λ z. Spells IsAlign (place at (c ∷ d ∷ cs)) z) (same_Some _ _ same) (record { text = c ∷ []; took = took_one at c (d ∷ cs); rule = (second, t, refl) }))
    (λ t same. subst (λ z. Spells IsAlign (place at (c ∷ d ∷ cs)) z) (same_Some _ _ same) (record { text = []; took = took_none (place at (c ∷ d ∷ cs)); rule = (second, t, refl) })))

pub align_reads : Reads IsAlign align_at
align_reads = record { found = align_found; is = λ p r e. align_in p.at p.left r e }

-- Types

-- the range of what stands between two places
pub range_is : (p e : Place) (text : List ℕ) → Took p e text → between p e ≡ range p.at text
range_is p e text took = ap (λ n. record { start = p.at; end = n }) took.ends

abbrev type_by : Place → Bool → Bool → Bool → Option (Typed × Place)
type_by p question x name = cond question (question_at p) (cond x (hex_at p) (cond name (name_type_at p) (Some ((None, between p p), p))))

none_found : (at : ℕ) (v : Typed) (rest : List ℕ) → IsNoType at v rest → type_at (place at rest) ≡ Some (v, place (at + 0) rest)
unfolding type_at
none_found at v rest h =
    ap (λ b. type_by (place at rest) b (starts is_x rest) (starts_name rest)) h.no_question
    ∙ (ap (λ b. type_by (place at rest) false b (starts_name rest)) h.no_x
    ∙ (ap (λ b. type_by (place at rest) false false b) h.no_name
    ∙ (ap (λ n. Some ((None, record { start = at; end = n }), place at rest)) (omega arith)
    ∙ (ap (λ (w : Typed). Some (w, place at rest)) (sym h.value)
    ∙ ap (λ n. Some (v, place n rest)) (omega arith)))))

question_found : (at c : ℕ) (text : List ℕ) (v : Typed) (rest : List ℕ) → IsQuestion at c text v → type_at (place at ((c ∷ text) ++ rest)) ≡ Some (v, place (at + size (c ∷ text)) rest)
unfolding type_at
question_found at c text v rest h =
    ap (λ b. type_by (place at (c ∷ (text ++ rest))) b (is_x c) (starts_name (c ∷ (text ++ rest)))) h.is
    ∙ (ap (λ l. Some ((None, record { start = at; end = at + len_utf8 c }), place (at + len_utf8 c) (l ++ rest))) h.alone
    ∙ (ap (λ n. Some ((None, record { start = at; end = n }), place (at + len_utf8 c) rest)) (omega arith)
    ∙ (ap (λ (w : Typed). Some (w, place (at + len_utf8 c) rest)) (sym h.value)
    ∙ ap (λ n. Some (v, place n rest)) (let sized = ap size h.alone in omega (arith, sized)))))

abbrev hexed : ℕ → ℕ → List ℕ → Bool → Option (Typed × Place)
hexed at c cs question = cond question (option_map (λ (s : ℕ × Place). ((Some (hex_of c), between (place (at + len_utf8 c) cs) s.1), s.1)) (first (place (at + len_utf8 c) cs))) (Some ((None, record { start = at; end = at + len_utf8 c }), place (at + len_utf8 c) cs))

hex_question_found : (at c : ℕ) (text : List ℕ) (v : Typed) (rest : List ℕ) → IsHexQuestion at c text v → type_at (place at ((c ∷ text) ++ rest)) ≡ Some (v, place (at + size (c ∷ text)) rest)
unfolding type_at hex_at
hex_question_found at c text v rest h =
    ap (λ b. type_by (place at (c ∷ (text ++ rest))) b (is_x c) (starts_name (c ∷ (text ++ rest)))) h.no_question
    ∙ (ap (λ b. type_by (place at (c ∷ (text ++ rest))) false b (starts_name (c ∷ (text ++ rest)))) h.hex
    ∙ (ap (λ l. hexed at c (l ++ rest) (starts is_question (l ++ rest))) h.question
    ∙ (ap (λ n. Some ((Some (hex_of c), record { start = at + len_utf8 c; end = n }), place (at + len_utf8 c + len_utf8 63) rest)) (omega arith)
    ∙ (ap (λ (w : Typed). Some (w, place (at + len_utf8 c + len_utf8 63) rest)) (sym h.value)
    ∙ ap (λ n. Some (v, place n rest)) (let sized = ap size h.question in omega (arith, sized))))))

hex_found : (at c : ℕ) (text : List ℕ) (v : Typed) (rest : List ℕ) → IsHex at c text v rest → type_at (place at ((c ∷ text) ++ rest)) ≡ Some (v, place (at + size (c ∷ text)) rest)
unfolding type_at hex_at
hex_found at c text v rest h =
    ap (λ b. type_by (place at (c ∷ (text ++ rest))) b (is_x c) (starts_name (c ∷ (text ++ rest)))) h.no_question
    ∙ (ap (λ b. type_by (place at (c ∷ (text ++ rest))) false b (starts_name (c ∷ (text ++ rest)))) h.hex
    ∙ (ap (λ l. hexed at c (l ++ rest) (starts is_question (l ++ rest))) h.alone
    ∙ (ap (λ b. hexed at c rest b) h.no_more
    ∙ (ap (λ n. Some ((None, record { start = at; end = n }), place (at + len_utf8 c) rest)) (omega arith)
    ∙ (ap (λ (w : Typed). Some (w, place (at + len_utf8 c) rest)) (sym h.value)
    ∙ ap (λ n. Some (v, place n rest)) (let sized = ap size h.alone in omega (arith, sized)))))))

named_found : (at c : ℕ) (text : List ℕ) (v : Typed) (rest : List ℕ) → IsNamedType at c text v rest → type_at (place at ((c ∷ text) ++ rest)) ≡ Some (v, place (at + size (c ∷ text)) rest)
unfolding type_at name_type_at
named_found at c text v rest h =
    ap (λ b. type_by (place at (c ∷ (text ++ rest))) b (is_x c) (starts_name (c ∷ (text ++ rest)))) h.no_question
    ∙ (ap (λ b. type_by (place at (c ∷ (text ++ rest))) false b (starts_name (c ∷ (text ++ rest)))) h.no_hex
    ∙ (ap (λ b. type_by (place at (c ∷ (text ++ rest))) false false b) (name_front (c ∷ text) rest h.name.begins)
    ∙ (ap (λ o. option_map (λ (e : Place). ((None, between (place at (c ∷ (text ++ rest))) e), e)) o) (name_found at (c ∷ text) rest h.name)
    ∙ ap (λ (w : Typed). Some (w, place (at + size (c ∷ text)) rest)) (sym h.value))))

type_found : (at : ℕ) (text : List ℕ) (v : Typed) (rest : List ℕ) → IsType at text v rest → type_at (place at (text ++ rest)) ≡ Some (v, place (at + size text) rest)
type_found at [] v rest h = none_found at v rest h
type_found at (c ∷ text) v rest (inl h) = question_found at c text v rest h
type_found at (c ∷ text) v rest (inr (inl h)) = hex_question_found at c text v rest h
type_found at (c ∷ text) v rest (inr (inr (inl h))) = hex_found at c text v rest h
type_found at (c ∷ text) v rest (inr (inr (inr h))) = named_found at c text v rest h

question_is : (d : ℕ) → is_question d ≡ true → d ≡ 63
question_is d e = grind (arith, nat_tests)

no_type : (at : ℕ) (cs : List ℕ) → starts is_question cs ≡ false → starts is_x cs ≡ false → starts_name cs ≡ false → Spells IsType (place at cs) ((None, between (place at cs) (place at cs)), place at cs)
no_type at cs a b c = record {
  text = [];
  took = took_none (place at cs);
  rule = record { no_question = a; no_x = b; no_name = c; value = ap (λ n. (None, record { start = at; end = n })) (omega arith) };
}

question_in : (at c : ℕ) (cs : List ℕ) → is_question c ≡ true → Spells IsType (place at (c ∷ cs)) ((None, between (place at (c ∷ cs)) (place (at + len_utf8 c) cs)), place (at + len_utf8 c) cs)
question_in at c cs is = record {
  text = c ∷ [];
  took = took_one at c cs;
  rule = inl (record { is = is; alone = refl; value = ap (λ r. (None, r)) (range_is (place at (c ∷ cs)) (place (at + len_utf8 c) cs) (c ∷ []) (took_one at c cs)) });
}

hex_end : (at c : ℕ) (cs : List ℕ) → is_question c ≡ false → is_x c ≡ true → starts is_question cs ≡ false → Spells IsType (place at (c ∷ cs)) ((None, between (place at (c ∷ cs)) (place (at + len_utf8 c) cs)), place (at + len_utf8 c) cs)
hex_end at c cs no_question hex no_more = record {
  text = c ∷ [];
  took = took_one at c cs;
  rule = inr (inr (inl (record { no_question = no_question; hex = hex; alone = refl; no_more = no_more; value = ap (λ r. (None, r)) (range_is (place at (c ∷ cs)) (place (at + len_utf8 c) cs) (c ∷ []) (took_one at c cs)) })));
}

hex_more : (at c d : ℕ) (cs : List ℕ) → is_question c ≡ false → is_x c ≡ true → d ≡ 63 → Spells IsType (place at (c ∷ d ∷ cs)) ((Some (hex_of c), between (place (at + len_utf8 c) (d ∷ cs)) (place (at + len_utf8 c + len_utf8 d) cs)), place (at + len_utf8 c + len_utf8 d) cs)
hex_more at c d cs no_question hex is = record {
  text = c ∷ d ∷ [];
  took = took_both (place at (c ∷ d ∷ cs)) (place (at + len_utf8 c) (d ∷ cs)) (place (at + len_utf8 c + len_utf8 d) cs) (c ∷ []) (d ∷ []) (took_one at c (d ∷ cs)) (took_one (at + len_utf8 c) d cs);
  rule = inr (inl (record {
    no_question = no_question;
    hex = hex;
    question = ap (λ x. x ∷ []) is;
    value = ap (λ r. (Some (hex_of c), r)) (range_is (place (at + len_utf8 c) (d ∷ cs)) (place (at + len_utf8 c + len_utf8 d) cs) (d ∷ []) (took_one (at + len_utf8 c) d cs) ∙ ap (λ x. range (at + len_utf8 c) (x ∷ [])) is);
  }));
}

hex_in : (at c : ℕ) (cs : List ℕ) (r : Typed × Place) → is_question c ≡ false → is_x c ≡ true → hex_at (place at (c ∷ cs)) ≡ Some r → Spells IsType (place at (c ∷ cs)) r
unfolding hex_at
hex_in at c [] r no_question hex found = subst (λ z. Spells IsType (place at (c ∷ [])) z) (same_Some _ _ found) (hex_end at c [] no_question hex refl)
hex_in at c (d ∷ cs) r no_question hex found = chosen (is_question d) (Some ((Some (hex_of c), between (place (at + len_utf8 c) (d ∷ cs)) (place (at + len_utf8 c + len_utf8 d) cs)), place (at + len_utf8 c + len_utf8 d) cs)) (Some ((None, between (place at (c ∷ d ∷ cs)) (place (at + len_utf8 c) (d ∷ cs))), place (at + len_utf8 c) (d ∷ cs))) (Some r) found
    (λ t same. subst (λ z. Spells IsType (place at (c ∷ d ∷ cs)) z) (same_Some _ _ same) (hex_more at c d cs no_question hex (question_is d t)))
    (λ t same. subst (λ z. Spells IsType (place at (c ∷ d ∷ cs)) z) (same_Some _ _ same) (hex_end at c (d ∷ cs) no_question hex t))

same_head : {x y : ℕ} {xs ys : List ℕ} → x ∷ xs ≡ y ∷ ys → x ≡ y
same_head e = cc

name_text : (p e : Place) (c : ℕ) (cs : List ℕ) → p.left ≡ c ∷ cs → is_question c ≡ false → is_x c ≡ false → NameIs p e → Spells IsType p ((None, between p e), e)
name_text p e c cs there no_question no_hex is = by_text is.text is.took is.name where
  by_text : (text : List ℕ) → Took p e text → IsName text e.left → Spells IsType p ((None, between p e), e)
  by_text [] took name = absurd (let b = name.begins in cc)
  by_text (d ∷ text) took name =
      let head : d ≡ c = same_head (sym took.there ∙ there) in
      record {
        text = d ∷ text;
        took = took;
        rule = inr (inr (inr (record {
          no_question = ap is_question head ∙ no_question;
          no_hex = ap is_x head ∙ no_hex;
          name = name;
          value = ap (λ r. (None, r)) (range_is p e (d ∷ text) took);
        })));
      }

type_in : (at : ℕ) (cs : List ℕ) (r : Typed × Place) → type_at (place at cs) ≡ Some r → Spells IsType (place at cs) r
unfolding type_at name_type_at
type_in at [] r found = subst (λ z. Spells IsType (place at []) z) (same_Some _ _ found) (no_type at [] refl refl refl)
type_in at (c ∷ cs) r found = chosen (is_question c) (question_at (place at (c ∷ cs))) (cond (is_x c) (hex_at (place at (c ∷ cs))) (cond (starts_name (c ∷ cs)) (name_type_at (place at (c ∷ cs))) (Some ((None, between (place at (c ∷ cs)) (place at (c ∷ cs))), place at (c ∷ cs))))) (Some r) found
    (λ question same. subst (λ z. Spells IsType (place at (c ∷ cs)) z) (same_Some _ _ same) (question_in at c cs question))
    (λ no_question rest. chosen (is_x c) (hex_at (place at (c ∷ cs))) (cond (starts_name (c ∷ cs)) (name_type_at (place at (c ∷ cs))) (Some ((None, between (place at (c ∷ cs)) (place at (c ∷ cs))), place at (c ∷ cs)))) (Some r) rest
    (λ hex found. hex_in at c cs r no_question hex found)
    (λ no_hex rest. chosen (starts_name (c ∷ cs)) (name_type_at (place at (c ∷ cs))) (Some ((None, between (place at (c ∷ cs)) (place at (c ∷ cs))), place at (c ∷ cs))) (Some r) rest
    (λ name found. mapped (λ (e : Place). ((None, between (place at (c ∷ cs)) e), e)) (name_at (place at (c ∷ cs))) r found
    (λ e is same. subst (λ z. Spells IsType (place at (c ∷ cs)) z) same (name_text (place at (c ∷ cs)) e c cs refl no_question no_hex (name_is (place at (c ∷ cs)) e is))))
    (λ no_name same. subst (λ z. Spells IsType (place at (c ∷ cs)) z) (same_Some _ _ same) (no_type at (c ∷ cs) no_question no_hex no_name))))

pub type_reads : Reads IsType type_at
type_reads = record { found = type_found; is = λ p r e. type_in p.at p.left r e }
