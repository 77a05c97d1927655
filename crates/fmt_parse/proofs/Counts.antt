-- Counts: what stands at a place is found there, and what is found stands there.
use Rattle.std.proofs.Common.{◌≡◌, ℕ, ◌+◌, ◌⊎◌, inl, inr, Bool, true, false, cond, List, [], ◌∷◌, ◌++◌, Option, Some, None, refl, ap, ◌∙◌, sym, subst, arith, append_assoc}
use Rattle.std.specs.Option.{option_map, option_and_then}
use Rattle.std.specs.Char.{len_utf8, is_ascii_digit}
use Rattle.std.proofs.lemmas.Bool.{and_from, and_parts}
use Rattle.std.proofs.lemmas.Bool.Decides.{nat_tests}
use Rattle.std.proofs.lemmas.Option.{same_Some, option_and_then_some}
use Rattle.unicode_ident.specs.Ident.{is_xid_continue}
use Rattle.text_cut.specs.Runs.{starts, behind, size}
use Rattle.text_cut.specs.Place.{Place, place, first, Took}
use Rattle.text_cut.specs.Rules.{Spells, Reads}
use Rattle.text_cut.proofs.Sizes.{size_append}
use Rattle.text_cut.proofs.Runs.{behind_of}
use Rattle.text_cut.proofs.Rules.{took_none, took_one, took_both}
use Rattle.text_cut.proofs.OptionLaws.{chosen, mapped, none_some}
use Rattle.fmt_parse.specs.declared.piece.Count.TheVariants as count
use Rattle.fmt_parse.specs.Tokens.{range, IsInt, IsName, starts_name, is_dollar, is_dot, is_star}
use Rattle.fmt_parse.specs.Spec.{Counted, no_count, starts_dollar_name, IsNoCount, IsNumber, IsParam, IsNamedCount, IsCount, is_counted, IsStarred, IsCounted, IsPrecision}
use Rattle.fmt_parse.specs.ReadTokens.{between, int_at, name_at}
use Rattle.fmt_parse.specs.ReadSpec.{numbered, number_count_at, dollar_behind, name_count_at, count_at, starred, if_counted, precise_at, behind_dot, precision_at}
use Rattle.fmt_parse.proofs.Tokens.{starts_front, int_reads, name_front, name_found, NameIs, name_is}
use Rattle.fmt_parse.proofs.Flags.{range_is}

dollar_is : (d : ℕ) → is_dollar d ≡ true → d ≡ 36
dollar_is d e = grind (arith, nat_tests)

abbrev count_by : Place → Bool → Bool → Option (Counted × Place)
count_by p digit name = cond digit (number_count_at p) (cond name (name_count_at p) (Some (no_count, p)))

no_count_found : (at : ℕ) (text : List ℕ) (v : Counted) (rest : List ℕ) → IsNoCount text v rest → count_at (place at (text ++ rest)) ≡ Some (v, place (at + size text) rest)
unfolding count_at
no_count_found at text v rest h =
    subst (λ l. count_at (place at (l ++ rest)) ≡ Some (v, place (at + size l) rest)) (sym h.empty)
    (ap (λ b. count_by (place at rest) b (starts_dollar_name rest)) h.no_digit
    ∙ (ap (λ b. count_by (place at rest) false b) h.no_name
    ∙ (ap (λ (w : Counted). Some (w, place at rest)) (sym h.value)
    ∙ ap (λ n. Some (v, place n rest)) (omega arith))))

-- a number that is found, with what `numbered` makes of what is behind it
number_behind : (at : ℕ) (text : List ℕ) (n : ℕ) (rest : List ℕ) → IsInt at text n rest → count_at (place at (text ++ rest)) ≡ numbered (place at (text ++ rest)) (n, place (at + size text) rest)
unfolding count_at number_count_at
number_behind at text n rest h =
    ap (λ b. count_by (place at (text ++ rest)) b (starts_dollar_name (text ++ rest))) (starts_front is_ascii_digit text rest h.some)
    ∙ ap (λ o. option_and_then (numbered (place at (text ++ rest))) o) (int_reads.found at text n rest h)

number_found : (at : ℕ) (text : List ℕ) (v : Counted) (rest : List ℕ) → IsNumber at text v rest → count_at (place at (text ++ rest)) ≡ Some (v, place (at + size text) rest)
number_found at text v rest h =
    number_behind at text h.number rest h.int
    ∙ (ap (λ b. cond b (option_map (λ (d : ℕ × Place). ((count.IsParam h.number, Some (range at text)), d.1)) (first (place (at + size text) rest))) (Some ((count.Is h.number, Some (range at text)), place (at + size text) rest))) h.no_dollar
    ∙ ap (λ (w : Counted). Some (w, place (at + size text) rest)) (sym h.value))

param_found : (at : ℕ) (text : List ℕ) (v : Counted) (rest : List ℕ) → IsParam at text v rest → count_at (place at (text ++ rest)) ≡ Some (v, place (at + size text) rest)
param_found at text v rest h =
    let cut : text ++ rest ≡ h.digits ++ 36 ∷ rest = ap (λ l. l ++ rest) h.whole ∙ append_assoc h.digits (36 ∷ []) rest in
    ap (λ l. count_at (place at l)) cut
    ∙ (number_behind at h.digits h.number (36 ∷ rest) h.int
    ∙ (ap (λ (w : Counted). Some (w, place (at + size h.digits + len_utf8 36) rest)) (sym h.value)
    ∙ ap (λ n. Some (v, place n rest)) (let sized = ap size h.whole in omega (arith, sized, size_append h.digits (36 ∷ [])))))

named_found : (at : ℕ) (text : List ℕ) (v : Counted) (rest : List ℕ) → IsNamedCount at text v rest → count_at (place at (text ++ rest)) ≡ Some (v, place (at + size text) rest)
unfolding count_at name_count_at
named_found at text v rest h =
    let cut : text ++ rest ≡ h.name ++ 36 ∷ rest = ap (λ l. l ++ rest) h.whole ∙ append_assoc h.name (36 ∷ []) rest in
    ap (λ l. count_at (place at l)) cut
    ∙ (ap (λ b. count_by (place at (h.name ++ 36 ∷ rest)) b (starts_dollar_name (h.name ++ 36 ∷ rest))) (no_digit h.name h.no_digit h.is)
    ∙ (ap (λ b. count_by (place at (h.name ++ 36 ∷ rest)) false b) (dollar_name h.name h.is)
    ∙ (ap (λ o. option_and_then (dollar_behind (place at (h.name ++ 36 ∷ rest))) o) (name_found at h.name (36 ∷ rest) h.is)
    ∙ (ap (λ (w : Counted). Some (w, place (at + size h.name + len_utf8 36) rest)) (sym h.value)
    ∙ ap (λ n. Some (v, place n rest)) (let sized = ap size h.whole in omega (arith, sized, size_append h.name (36 ∷ [])))))))
  where
    no_digit : (name : List ℕ) → starts is_ascii_digit name ≡ false → IsName name (36 ∷ rest) → starts is_ascii_digit (name ++ 36 ∷ rest) ≡ false
    no_digit [] e is = absurd (let b = is.begins in cc)
    no_digit (c ∷ name) e is = e

    dollar_name : (name : List ℕ) → IsName name (36 ∷ rest) → starts_dollar_name (name ++ 36 ∷ rest) ≡ true
    dollar_name [] is = absurd (let b = is.begins in cc)
    dollar_name (c ∷ name) is = and_from (starts_name ((c ∷ name) ++ 36 ∷ rest)) (starts is_dollar (behind is_xid_continue (name ++ 36 ∷ rest))) (name_front (c ∷ name) (36 ∷ rest) is.begins) (ap (λ l. starts is_dollar l) (behind_of is_xid_continue name (36 ∷ rest) is.longest))

count_found : (at : ℕ) (text : List ℕ) (v : Counted) (rest : List ℕ) → IsCount at text v rest → count_at (place at (text ++ rest)) ≡ Some (v, place (at + size text) rest)
count_found at text v rest (inl h) = no_count_found at text v rest h
count_found at text v rest (inr (inl h)) = number_found at text v rest h
count_found at text v rest (inr (inr (inl h))) = param_found at text v rest h
count_found at text v rest (inr (inr (inr h))) = named_found at text v rest h

-- where a count begins with digits

number_end : (p : Place) (n : ℕ) (e : Place) → Spells IsInt p (n, e) → starts is_dollar e.left ≡ false → Spells IsCount p ((count.Is n, Some (between p e)), e)
number_end p n e is no_dollar = record {
  text = is.text;
  took = is.took;
  rule = inr (inl (record { number = n; int = is.rule; no_dollar = no_dollar; value = ap (λ r. (count.Is n, Some r)) (range_is p e is.text is.took) }));
}

param_end : (p : Place) (n : ℕ) (e d : Place) → Spells IsInt p (n, e) → Took e d (36 ∷ []) → Spells IsCount p ((count.IsParam n, Some (between p e)), d)
param_end p n e d is dollar = record {
  text = is.text ++ 36 ∷ [];
  took = took_both p e d is.text (36 ∷ []) is.took dollar;
  rule = inr (inr (inl (record {
    digits = is.text;
    number = n;
    whole = refl;
    int = subst (λ l. IsInt p.at is.text n l) dollar.there is.rule;
    value = ap (λ r. (count.IsParam n, Some r)) (range_is p e is.text is.took);
  })));
}

-- the `$` that stands at a place
dollar_took : (e : Place) (d : ℕ) (behind : Place) → first e ≡ Some (d, behind) → starts is_dollar e.left ≡ true → Took e behind (36 ∷ [])
dollar_took e d behind found is = in_text e.at e.left found is where
  in_text : (at : ℕ) (cs : List ℕ) → first (place at cs) ≡ Some (d, behind) → starts is_dollar cs ≡ true → Took (place at cs) behind (36 ∷ [])
  in_text at [] found is = absurd (none_some (d, behind) found)
  in_text at (c ∷ cs) found is =
      let same : (c, place (at + len_utf8 c) cs) ≡ (d, behind) = same_Some _ _ found in
      subst (λ (z : ℕ × Place). Took (place at (c ∷ cs)) z.1 (36 ∷ [])) same (subst (λ x. Took (place at (c ∷ cs)) (place (at + len_utf8 c) cs) (x ∷ [])) (dollar_is c is) (took_one at c cs))

numbered_is : (p : Place) (n : ℕ × Place) (r : Counted × Place) → Spells IsInt p n → numbered p n ≡ Some r → Spells IsCount p r
numbered_is p n r is found = chosen (starts is_dollar n.1.left) (option_map (λ (d : ℕ × Place). ((count.IsParam n.0, Some (between p n.1)), d.1)) (first n.1)) (Some ((count.Is n.0, Some (between p n.1)), n.1)) (Some r) found
    (λ dollar found. mapped (λ (d : ℕ × Place). ((count.IsParam n.0, Some (between p n.1)), d.1)) (first n.1) r found
    (λ d there same. subst (λ z. Spells IsCount p z) same (param_end p n.0 n.1 d.1 is (dollar_took n.1 d.0 d.1 there dollar))))
    (λ no_dollar same. subst (λ z. Spells IsCount p z) (same_Some _ _ same) (number_end p n.0 n.1 is no_dollar))

-- where a count begins with a name

name_end : (p e d : Place) → NameIs p e → starts is_ascii_digit p.left ≡ false → Took e d (36 ∷ []) → Spells IsCount p ((count.IsName (between p e), Some (between p e)), d)
name_end p e d is no_digit dollar = record {
  text = is.text ++ 36 ∷ [];
  took = took_both p e d is.text (36 ∷ []) is.took dollar;
  rule = inr (inr (inr (record {
    name = is.text;
    whole = refl;
    no_digit = not_digit is.text is.name is.took.there;
    is = subst (λ l. IsName is.text l) dollar.there is.name;
    value = ap (λ r. (count.IsName r, Some r)) (range_is p e is.text is.took);
  })));
} where
  not_digit : (text : List ℕ) → IsName text e.left → p.left ≡ text ++ e.left → starts is_ascii_digit text ≡ false
  not_digit [] name there = absurd (let b = name.begins in cc)
  not_digit (c ∷ text) name there = ap (starts is_ascii_digit) (sym there) ∙ no_digit

-- behind a name the `$` stands that was looked for
dollar_there : (p e : Place) → NameIs p e → starts_dollar_name p.left ≡ true → starts is_dollar e.left ≡ true
dollar_there p e is ahead = by_text is.text is.name is.took.there where
  by_text : (text : List ℕ) → IsName text e.left → p.left ≡ text ++ e.left → starts is_dollar e.left ≡ true
  by_text [] name there = absurd (let b = name.begins in cc)
  by_text (c ∷ text) name there =
      let seen : starts_dollar_name ((c ∷ text) ++ e.left) ≡ true = ap starts_dollar_name (sym there) ∙ ahead in
      let dollar = (and_parts (starts_name ((c ∷ text) ++ e.left)) (starts is_dollar (behind is_xid_continue (text ++ e.left))) seen).1 in
      ap (λ l. starts is_dollar l) (sym (behind_of is_xid_continue text e.left name.longest)) ∙ dollar

named_is : (p e : Place) (r : Counted × Place) → NameIs p e → starts is_ascii_digit p.left ≡ false → starts_dollar_name p.left ≡ true → dollar_behind p e ≡ Some r → Spells IsCount p r
named_is p e r is no_digit ahead found = mapped (λ (d : ℕ × Place). ((count.IsName (between p e), Some (between p e)), d.1)) (first e) r found
    (λ d there same. subst (λ z. Spells IsCount p z) same (name_end p e d.1 is no_digit (dollar_took e d.0 d.1 there (dollar_there p e is ahead))))

no_count_is : (p : Place) → starts is_ascii_digit p.left ≡ false → starts_dollar_name p.left ≡ false → Spells IsCount p (no_count, p)
no_count_is p no_digit no_name = record { text = []; took = took_none p; rule = inl (record { empty = refl; no_digit = no_digit; no_name = no_name; value = refl }) }

count_is : (p : Place) (r : Counted × Place) → count_at p ≡ Some r → Spells IsCount p r
unfolding count_at number_count_at name_count_at
count_is p r found = chosen (starts is_ascii_digit p.left) (option_and_then (numbered p) (int_at p)) (cond (starts_dollar_name p.left) (option_and_then (dollar_behind p) (name_at p)) (Some (no_count, p))) (Some r) found
    (λ digit found. option_and_then_some (numbered p) (int_at p) r found (λ n is rest. numbered_is p n r (int_reads.is p n is) rest))
    (λ no_digit found. chosen (starts_dollar_name p.left) (option_and_then (dollar_behind p) (name_at p)) (Some (no_count, p)) (Some r) found
    (λ ahead found. option_and_then_some (dollar_behind p) (name_at p) r found (λ e is rest. named_is p e r (name_is p e is) no_digit ahead rest))
    (λ no_name same. subst (λ z. Spells IsCount p z) (same_Some _ _ same) (no_count_is p no_digit no_name)))

pub count_reads : Reads IsCount count_at
count_reads = record { found = count_found; is = count_is }

-- Precision

module _ (number : ℕ) where
  star_found : (at : ℕ) (text : List ℕ) (v : Counted) (rest : List ℕ) → IsStarred number at text v → precise_at number (place at (text ++ rest)) ≡ Some (v, place (at + size text) rest)
  unfolding precise_at
  star_found at text v rest h =
      subst (λ l. precise_at number (place at (l ++ rest)) ≡ Some (v, place (at + size l) rest)) (sym h.is)
      (ap (λ n. Some ((count.IsStar number, Some (record { start = at; end = n })), place n rest)) (omega arith)
      ∙ ap (λ (w : Counted). Some (w, place (at + size (42 ∷ [])) rest)) (ap (λ l. (count.IsStar number, Some (range at l))) (sym h.is) ∙ sym h.value))

  counted_found : (at : ℕ) (text : List ℕ) (v : Counted) (rest : List ℕ) → IsCounted at text v rest → precise_at number (place at (text ++ rest)) ≡ Some (v, place (at + size text) rest)
  unfolding precise_at
  counted_found at text v rest h =
      ap (λ b. cond b (option_map (starred number (place at (text ++ rest))) (first (place at (text ++ rest)))) (option_and_then if_counted (count_at (place at (text ++ rest))))) h.no_star
      ∙ (ap (λ o. option_and_then if_counted o) (count_found at text v rest h.is)
      ∙ ap (λ b. cond b (Some (v, place (at + size text) rest)) None) h.some)

  precise_found : (at : ℕ) (text : List ℕ) (v : Counted) (rest : List ℕ) → IsStarred number at text v ⊎ IsCounted at text v rest → precise_at number (place at (text ++ rest)) ≡ Some (v, place (at + size text) rest)
  precise_found at text v rest (inl h) = star_found at text v rest h
  precise_found at text v rest (inr h) = counted_found at text v rest h

  precision_found : (at : ℕ) (text : List ℕ) (v : Counted) (rest : List ℕ) → IsPrecision number at text v rest → precision_at number (place at (text ++ rest)) ≡ Some (v, place (at + size text) rest)
  unfolding precision_at
  precision_found at [] v rest h =
      ap (λ b. cond b (option_and_then (behind_dot number) (first (place at rest))) (Some (no_count, place at rest))) h.0
      ∙ (ap (λ (w : Counted). Some (w, place at rest)) (sym h.1)
      ∙ ap (λ n. Some (v, place n rest)) (omega arith))
  precision_found at (c ∷ text) v rest h =
      ap (λ b. cond b (precise_at number (place (at + len_utf8 c) (text ++ rest))) (Some (no_count, place at (c ∷ (text ++ rest))))) h.0
      ∙ (precise_found (at + len_utf8 c) text v rest h.1
      ∙ ap (λ n. Some (v, place n rest)) (omega arith))

  -- what is precise at a place
  record PreciseIs (p : Place) (r : Counted × Place) : Type 0 where
    text : List ℕ
    took : Took p r.1 text
    is : IsStarred number p.at text r.0 ⊎ IsCounted p.at text r.0 r.1.left

  star_in : (at : ℕ) (cs : List ℕ) (r : Counted × Place) → starts is_star cs ≡ true → option_map (starred number (place at cs)) (first (place at cs)) ≡ Some r → PreciseIs (place at cs) r
  star_in at [] r is found = absurd (cc)
  star_in at (c ∷ cs) r is found = subst (λ z. PreciseIs (place at (c ∷ cs)) z) (same_Some _ _ found) (record {
    text = c ∷ [];
    took = took_one at c cs;
    is = inl (record { is = ap (λ x. x ∷ []) (star_is c is); value = ap (λ r. (count.IsStar number, Some r)) (range_is (place at (c ∷ cs)) (place (at + len_utf8 c) cs) (c ∷ []) (took_one at c cs)) });
  }) where
    star_is : (d : ℕ) → is_star d ≡ true → d ≡ 42
    star_is d e = grind (arith, nat_tests)

  counted_is : (p : Place) (r : Counted × Place) → starts is_star p.left ≡ false → Spells IsCount p r → is_counted r.0.0 ≡ true → PreciseIs p r
  counted_is p r no_star s some = record {
    text = s.text;
    took = s.took;
    is = inr (record { no_star = ap (starts is_star) (sym s.took.there) ∙ no_star; some = some; is = s.rule });
  }

  precise_is : (p : Place) (r : Counted × Place) → precise_at number p ≡ Some r → PreciseIs p r
  unfolding precise_at
  precise_is p r found = chosen (starts is_star p.left) (option_map (starred number p) (first p)) (option_and_then if_counted (count_at p)) (Some r) found
      (λ star found. star_in p.at p.left r star found)
      (λ no_star found. option_and_then_some if_counted (count_at p) r found
      (λ s is rest. chosen (is_counted s.0.0) (Some s) None (Some r) rest
      (λ some same. subst (λ z. PreciseIs p z) (same_Some _ _ same) (counted_is p s no_star (count_is p s is) some))
      (λ other none. absurd (none_some r none))))

  precision_in : (at : ℕ) (cs : List ℕ) (r : Counted × Place) → precision_at number (place at cs) ≡ Some r → Spells (IsPrecision number) (place at cs) r
  unfolding precision_at
  precision_in at [] r found = subst (λ z. Spells (IsPrecision number) (place at []) z) (same_Some _ _ found) (record { text = []; took = took_none (place at []); rule = (refl, refl) })
  precision_in at (c ∷ cs) r found = chosen (is_dot c) (precise_at number (place (at + len_utf8 c) cs)) (Some (no_count, place at (c ∷ cs))) (Some r) found
      (λ dot found.
      let is = precise_is (place (at + len_utf8 c) cs) r found in
      record {
        text = c ∷ is.text;
        took = took_both (place at (c ∷ cs)) (place (at + len_utf8 c) cs) r.1 (c ∷ []) is.text (took_one at c cs) is.took;
        rule = (dot, is.is);
      })
      (λ no_dot same. subst (λ z. Spells (IsPrecision number) (place at (c ∷ cs)) z) (same_Some _ _ same) (record { text = []; took = took_none (place at (c ∷ cs)); rule = (no_dot, refl) }))

  pub precision_reads : Reads (IsPrecision number) (precision_at number)
  precision_reads = record { found = precision_found; is = λ p r e. precision_in p.at p.left r e }
