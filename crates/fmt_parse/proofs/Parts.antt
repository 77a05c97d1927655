-- The parts of a placeholder: what stands at a place is found there, and what is found stands there.
use Rattle.std.proofs.Common.{◌≡◌, ℕ, ◌+◌, inl, inr, Bool, true, false, cond, List, [], ◌∷◌, ◌++◌, Option, Some, None, refl, ap, ◌∙◌, sym, subst, arith, append_assoc}
use Rattle.std.specs.Option.{option_map, option_and_then}
use Rattle.std.specs.Char.{len_utf8, is_ascii_digit, is_whitespace}
use Rattle.std.proofs.lemmas.Bool.Decides.{nat_tests}
use Rattle.std.proofs.lemmas.Option.{same_Some}
use Rattle.text_cut.specs.Runs.{starts, front, size, IsLongest}
use Rattle.text_cut.specs.Place.{Place, place, first, past, Took}
use Rattle.text_cut.specs.Rules.{Spells, Reads}
use Rattle.text_cut.proofs.Sizes.{size_append}
use Rattle.text_cut.proofs.Runs.{front_is}
use Rattle.text_cut.proofs.Rules.{took_none, took_one, took_both, both_reads, one_reads, past_is, past_run}
use Rattle.text_cut.proofs.OptionLaws.{chosen, mapped, none_some}
use Rattle.fmt_parse.specs.declared.piece.Position.TheVariants as position
use Rattle.fmt_parse.specs.Tokens.{IsInt, IsName, starts_name, is_close, is_colon}
use Rattle.fmt_parse.specs.Spec.{sign_test, sign_of, hash_test, zero_test, flag, SpecParts, AreParts, plain_parts, IsFormat}
use Rattle.fmt_parse.specs.Pieces.{Written, IsNoArg, IsNumberArg, IsNameArg, IsArg, IsEnd, IsInner}
use Rattle.fmt_parse.specs.ReadTokens.{between, int_at, name_at}
use Rattle.fmt_parse.specs.ReadSpec.{parts_at, behind_colon, format_at}
use Rattle.fmt_parse.specs.ReadPieces.{number_arg_at, name_arg_at, arg_at, closing_brace, end_at, inner_at}
use Rattle.fmt_parse.proofs.Tokens.{starts_front, int_reads, name_front, name_found, NameIs, name_is}
use Rattle.fmt_parse.proofs.Flags.{range_is, align_reads, type_reads}
use Rattle.fmt_parse.proofs.Counts.{count_reads, precision_reads}

-- Argument

abbrev arg_by : Place → Bool → Bool → Option (Written × Place)
arg_by p digit name = cond digit (number_arg_at p) (cond name (name_arg_at p) (Some ((None, between p p), p)))

no_arg_found : (at : ℕ) (text : List ℕ) (v : Written) (rest : List ℕ) → IsNoArg at text v rest → arg_at (place at (text ++ rest)) ≡ Some (v, place (at + size text) rest)
unfolding arg_at
no_arg_found at text v rest h =
    subst (λ l. arg_at (place at (l ++ rest)) ≡ Some (v, place (at + size l) rest)) (sym h.empty)
    (ap (λ b. arg_by (place at rest) b (starts_name rest)) h.no_digit
    ∙ (ap (λ b. arg_by (place at rest) false b) h.no_name
    ∙ (ap (λ n. Some ((None, record { start = at; end = n }), place at rest)) (omega arith)
    ∙ (ap (λ (w : Written). Some (w, place at rest)) (sym h.value)
    ∙ ap (λ n. Some (v, place n rest)) (omega arith)))))

number_arg_found : (at : ℕ) (text : List ℕ) (v : Written) (rest : List ℕ) → IsNumberArg at text v rest → arg_at (place at (text ++ rest)) ≡ Some (v, place (at + size text) rest)
unfolding arg_at number_arg_at
number_arg_found at text v rest h =
    ap (λ b. arg_by (place at (text ++ rest)) b (starts_name (text ++ rest))) (starts_front is_ascii_digit text rest h.int.some)
    ∙ (ap (λ o. option_map (λ (r : ℕ × Place). ((Some (position.Is r.0), between (place at (text ++ rest)) r.1), r.1)) o) (int_reads.found at text h.number rest h.int)
    ∙ ap (λ (w : Written). Some (w, place (at + size text) rest)) (sym h.value))

name_arg_found : (at : ℕ) (text : List ℕ) (v : Written) (rest : List ℕ) → IsNameArg at text v rest → arg_at (place at (text ++ rest)) ≡ Some (v, place (at + size text) rest)
unfolding arg_at name_arg_at
name_arg_found at text v rest h =
    ap (λ b. arg_by (place at (text ++ rest)) b (starts_name (text ++ rest))) (not_digit text h.no_digit h.name)
    ∙ (ap (λ b. arg_by (place at (text ++ rest)) false b) (name_front text rest h.name.begins)
    ∙ (ap (λ o. option_map (λ (e : Place). ((Some (position.Named (between (place at (text ++ rest)) e)), between (place at (text ++ rest)) e), e)) o) (name_found at text rest h.name)
    ∙ ap (λ (w : Written). Some (w, place (at + size text) rest)) (sym h.value)))
  where
    not_digit : (name : List ℕ) → starts is_ascii_digit name ≡ false → IsName name rest → starts is_ascii_digit (name ++ rest) ≡ false
    not_digit [] e is = absurd (let b = is.begins in cc)
    not_digit (c ∷ name) e is = e

arg_found : (at : ℕ) (text : List ℕ) (v : Written) (rest : List ℕ) → IsArg at text v rest → arg_at (place at (text ++ rest)) ≡ Some (v, place (at + size text) rest)
arg_found at text v rest (inl h) = no_arg_found at text v rest h
arg_found at text v rest (inr (inl h)) = number_arg_found at text v rest h
arg_found at text v rest (inr (inr h)) = name_arg_found at text v rest h

number_arg_is : (p : Place) (n : ℕ × Place) → Spells IsInt p n → Spells IsArg p ((Some (position.Is n.0), between p n.1), n.1)
number_arg_is p n is = record {
  text = is.text;
  took = is.took;
  rule = inr (inl (record { number = n.0; int = is.rule; value = ap (λ r. (Some (position.Is n.0), r)) (range_is p n.1 is.text is.took) }));
}

name_arg_is : (p e : Place) → starts is_ascii_digit p.left ≡ false → NameIs p e → Spells IsArg p ((Some (position.Named (between p e)), between p e), e)
name_arg_is p e no_digit is = record {
  text = is.text;
  took = is.took;
  rule = inr (inr (record { no_digit = not_digit is.text is.name is.took.there; name = is.name; value = ap (λ r. (Some (position.Named r), r)) (range_is p e is.text is.took) }));
} where
  not_digit : (text : List ℕ) → IsName text e.left → p.left ≡ text ++ e.left → starts is_ascii_digit text ≡ false
  not_digit [] name there = absurd (let b = name.begins in cc)
  not_digit (c ∷ text) name there = ap (starts is_ascii_digit) (sym there) ∙ no_digit

no_arg_is : (p : Place) → starts is_ascii_digit p.left ≡ false → starts_name p.left ≡ false → Spells IsArg p ((None, between p p), p)
no_arg_is p no_digit no_name = record {
  text = [];
  took = took_none p;
  rule = inl (record { empty = refl; no_digit = no_digit; no_name = no_name; value = ap (λ r. (None, r)) (range_is p p [] (took_none p)) });
}

arg_is : (p : Place) (r : Written × Place) → arg_at p ≡ Some r → Spells IsArg p r
unfolding arg_at number_arg_at name_arg_at
arg_is p r found = chosen (starts is_ascii_digit p.left) (option_map (λ (r : ℕ × Place). ((Some (position.Is r.0), between p r.1), r.1)) (int_at p)) (cond (starts_name p.left) (option_map (λ (e : Place). ((Some (position.Named (between p e)), between p e), e)) (name_at p)) (Some ((None, between p p), p))) (Some r) found
    (λ digit found. mapped (λ (r : ℕ × Place). ((Some (position.Is r.0), between p r.1), r.1)) (int_at p) r found
    (λ n is same. subst (λ z. Spells IsArg p z) same (number_arg_is p n (int_reads.is p n is))))
    (λ no_digit found. chosen (starts_name p.left) (option_map (λ (e : Place). ((Some (position.Named (between p e)), between p e), e)) (name_at p)) (Some ((None, between p p), p)) (Some r) found
    (λ name found. mapped (λ (e : Place). ((Some (position.Named (between p e)), between p e), e)) (name_at p) r found
    (λ e is same. subst (λ z. Spells IsArg p z) same (name_arg_is p e no_digit (name_is p e is))))
    (λ no_name same. subst (λ z. Spells IsArg p z) (same_Some _ _ same) (no_arg_is p no_digit no_name)))

arg_reads : Reads IsArg arg_at
arg_reads = record { found = arg_found; is = arg_is }

-- Format

module _ (number : ℕ) where
  parts_reads : Reads (AreParts number) (parts_at number)
  parts_reads =
      both_reads _ _ _ _ align_reads
      (both_reads _ _ _ _ (one_reads sign_test sign_of None)
      (both_reads _ _ _ _ (one_reads hash_test flag false)
      (both_reads _ _ _ _ (one_reads zero_test flag false)
      (both_reads _ _ _ _ count_reads
      (both_reads _ _ _ _ (precision_reads number) type_reads)))))

  format_found : (at : ℕ) (text : List ℕ) (v : SpecParts) (rest : List ℕ) → IsFormat number at text v rest → format_at number (place at (text ++ rest)) ≡ Some (v, place (at + size text) rest)
  unfolding format_at
  format_found at [] v rest h =
      ap (λ b. cond b (option_and_then (behind_colon number) (first (place at rest))) (Some (plain_parts at, place at rest))) h.0
      ∙ (ap (λ (w : SpecParts). Some (w, place at rest)) (sym h.1)
      ∙ ap (λ n. Some (v, place n rest)) (omega arith))
  format_found at (c ∷ text) v rest h =
      ap (λ b. cond b (parts_at number (place (at + len_utf8 c) (text ++ rest))) (Some (plain_parts at, place at (c ∷ (text ++ rest))))) h.0
      ∙ (parts_reads.found (at + len_utf8 c) text v rest h.1
      ∙ ap (λ n. Some (v, place n rest)) (omega arith))

  format_in : (at : ℕ) (cs : List ℕ) (r : SpecParts × Place) → format_at number (place at cs) ≡ Some r → Spells (IsFormat number) (place at cs) r
  unfolding format_at
  format_in at [] r found = subst (λ z. Spells (IsFormat number) (place at []) z) (same_Some _ _ found) (record { text = []; took = took_none (place at []); rule = (refl, refl) })
  format_in at (c ∷ cs) r found = chosen (is_colon c) (parts_at number (place (at + len_utf8 c) cs)) (Some (plain_parts at, place at (c ∷ cs))) (Some r) found
      (λ colon found.
      let is = parts_reads.is (place (at + len_utf8 c) cs) r found in
      record {
        text = c ∷ is.text;
        took = took_both (place at (c ∷ cs)) (place (at + len_utf8 c) cs) r.1 (c ∷ []) is.text (took_one at c cs) is.took;
        rule = (colon, is.rule);
      })
      (λ no_colon same. subst (λ z. Spells (IsFormat number) (place at (c ∷ cs)) z) (same_Some _ _ same) (record { text = []; took = took_none (place at (c ∷ cs)); rule = (no_colon, refl) }))

  pub format_reads : Reads (IsFormat number) (format_at number)
  format_reads = record { found = format_found; is = λ p r e. format_in p.at p.left r e }

-- End

end_found : (at : ℕ) (text : List ℕ) (v : Unit {0}) (rest : List ℕ) → IsEnd at text v rest → end_at (place at (text ++ rest)) ≡ Some (v, place (at + size text) rest)
unfolding end_at
end_found at text v rest h =
    let cut : text ++ rest ≡ h.blanks ++ 125 ∷ rest = ap (λ l. l ++ rest) h.whole ∙ append_assoc h.blanks (125 ∷ []) rest in
    ap (λ l. closing_brace (past is_whitespace (place at l))) cut
    ∙ (ap (λ e. closing_brace e) (past_run is_whitespace h.blanks (125 ∷ rest) at h.longest)
    ∙ ap (λ n. Some (v, place n rest)) (let sized = ap size h.whole in omega (arith, sized, size_append h.blanks (125 ∷ []))))

closed_in : (at : ℕ) (cs : List ℕ) (r : Unit {0} × Place) → closing_brace (place at cs) ≡ Some r → Took (place at cs) r.1 (125 ∷ [])
closed_in at [] r found = absurd (none_some r found)
closed_in at (c ∷ cs) r found = chosen (is_close c) (Some (tt, place (at + len_utf8 c) cs)) None (Some r) found
    (λ close same. subst (λ (z : Unit {0} × Place). Took (place at (c ∷ cs)) z.1 (125 ∷ [])) (same_Some _ _ same) (subst (λ x. Took (place at (c ∷ cs)) (place (at + len_utf8 c) cs) (x ∷ [])) (close_is c close) (took_one at c cs)))
    (λ other none. absurd (none_some r none))
  where
    close_is : (d : ℕ) → is_close d ≡ true → d ≡ 125
    close_is d e = grind (arith, nat_tests)

end_is : (p : Place) (r : Unit {0} × Place) → end_at p ≡ Some r → Spells IsEnd p r
unfolding end_at
end_is p r found =
    let e : Place = past is_whitespace p in
    let close : Took e r.1 (125 ∷ []) = closed_in (past is_whitespace p).at (past is_whitespace p).left r found in
    record {
      text = front is_whitespace p.left ++ 125 ∷ [];
      took = took_both p (past is_whitespace p) r.1 (front is_whitespace p.left) (125 ∷ []) (past_is is_whitespace p) close;
      rule = record { blanks = front is_whitespace p.left; whole = refl; longest = subst (λ l. IsLongest is_whitespace (front is_whitespace p.left) l) close.there (front_is is_whitespace p.left) };
    }

end_reads : Reads IsEnd end_at
end_reads = record { found = end_found; is = end_is }

-- all that stands behind an opening brace, where the options are read
pub inner_reads : (Options : ℕ → List ℕ → SpecParts → List ℕ → Type 0) (options_at : Place → Option (SpecParts × Place)) → Reads Options options_at → Reads (IsInner Options) (inner_at options_at)
inner_reads Options options_at options_read = both_reads _ _ _ _ arg_reads (both_reads _ _ _ _ options_read end_reads)
