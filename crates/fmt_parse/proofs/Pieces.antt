-- Pieces: what stands at a place is found there, and what is found stands there.
use Rattle.std.proofs.Common.{◌≡◌, ℕ, ◌+◌, ◌<◌, inl, inr, Bool, true, false, cond, not, ◌||◌, List, [], ◌∷◌, ◌++◌, length, Option, Some, None, refl, ap, ◌∙◌, sym, subst, arith}
use Rattle.std.specs.Option.{option_map}
use Rattle.std.specs.Char.{len_utf8}
use Rattle.std.proofs.lemmas.Bool.Decides.{nat_tests}
use Rattle.std.proofs.lemmas.Option.{same_Some}
use Rattle.text_cut.specs.Runs.{starts, tail, front, size}
use Rattle.text_cut.specs.Place.{Place, place, past, Took}
use Rattle.text_cut.specs.Rules.{Spells, Reads}
use Rattle.text_cut.specs.Reading.{Spelled, texts, items, ReadsPieces, StepsBy}
use Rattle.text_cut.proofs.Lists.{items_more}
use Rattle.text_cut.proofs.Runs.{front_is}
use Rattle.text_cut.proofs.Rules.{took_one, took_both, past_is, past_run}
use Rattle.text_cut.proofs.OptionLaws.{chosen, mapped, none_some}
use Rattle.fmt_parse.specs.declared.piece.Piece.{Piece}
use Rattle.fmt_parse.specs.declared.piece.Piece.TheVariants.{Lit, NextArgument}
use Rattle.fmt_parse.specs.Tokens.{range, is_open, is_close}
use Rattle.fmt_parse.specs.Spec.{SpecParts, IsFormat}
use Rattle.fmt_parse.specs.ReadSpec.{format_at}
use Rattle.fmt_parse.specs.Pieces.{takes, taken, Inner, IsInner, placeholder, IsPlaceholder, is_plain, IsPlainText, IsDoubled, IsAnyPiece, IsPiece}
use Rattle.fmt_parse.specs.ReadTokens.{between}
use Rattle.fmt_parse.specs.ReadPieces.{inner_at, made, placeholder_at, doubled_at, plain_text_at, piece_at, format_piece_at}
use Rattle.fmt_parse.proofs.Tokens.{starts_front, starts_run}
use Rattle.fmt_parse.proofs.Flags.{range_is}
use Rattle.fmt_parse.proofs.Parts.{inner_reads, format_reads}

-- the rule of the options, its reader, and the number of the next argument
module _ (Options : ℕ → List ℕ → SpecParts → List ℕ → Type 0) (options_at : Place → Option (SpecParts × Place)) (options_read : Reads Options options_at) (number : ℕ) where
  abbrev piece_by : Place → Bool → Bool → Bool → Bool → Option (Piece × Place)
  piece_by p plain opens again closes = cond plain (Some (plain_text_at p)) (cond opens (cond again (doubled_at p) (placeholder_at options_at number p)) (cond closes (doubled_at p) None))

  plain_text_found : (at : ℕ) (text : List ℕ) (v : Piece) (rest : List ℕ) → IsPlainText at text v rest → piece_at options_at number (place at (text ++ rest)) ≡ Some (v, place (at + size text) rest)
  unfolding piece_at
  plain_text_found at text v rest h =
      ap (λ b. piece_by (place at (text ++ rest)) b (starts is_open (text ++ rest)) (starts is_open (tail (text ++ rest))) (starts is_close (tail (text ++ rest)))) (starts_front is_plain text rest h.some)
      ∙ (ap (λ e. Some (Lit (between (place at (text ++ rest)) e), e)) (past_run is_plain text rest at h.longest)
      ∙ ap (λ w. Some (w, place (at + size text) rest)) (sym h.value))

  doubled_open : (at : ℕ) (rest : List ℕ) → piece_at options_at number (place at (123 ∷ 123 ∷ rest)) ≡ Some (Lit (range at (123 ∷ [])), place (at + size (123 ∷ 123 ∷ [])) rest)
  unfolding piece_at doubled_at
  doubled_open at rest = ap (λ n. Some (Lit (record { start = at; end = n }), place (n + len_utf8 123) rest)) (omega arith) ∙ ap (λ n. Some (Lit (range at (123 ∷ [])), place n rest)) (omega arith)

  doubled_close : (at : ℕ) (rest : List ℕ) → piece_at options_at number (place at (125 ∷ 125 ∷ rest)) ≡ Some (Lit (range at (125 ∷ [])), place (at + size (125 ∷ 125 ∷ [])) rest)
  unfolding piece_at doubled_at
  doubled_close at rest = ap (λ n. Some (Lit (record { start = at; end = n }), place (n + len_utf8 125) rest)) (omega arith) ∙ ap (λ n. Some (Lit (range at (125 ∷ [])), place n rest)) (omega arith)

  doubled_by : (brace at : ℕ) (text : List ℕ) (v : Piece) (rest : List ℕ) → piece_at options_at number (place at (brace ∷ brace ∷ rest)) ≡ Some (Lit (range at (brace ∷ [])), place (at + size (brace ∷ brace ∷ [])) rest) → IsDoubled brace at text v → piece_at options_at number (place at (text ++ rest)) ≡ Some (v, place (at + size text) rest)
  doubled_by brace at text v rest found h =
      subst (λ l. piece_at options_at number (place at (l ++ rest)) ≡ Some (v, place (at + size l) rest)) (sym h.is)
      (found ∙ ap (λ w. Some (w, place (at + size (brace ∷ brace ∷ [])) rest)) (sym h.value))

  placeholder_here : (at : ℕ) (inner rest : List ℕ) (parts : Inner) → starts is_open (inner ++ rest) ≡ false → IsInner Options (at + 1) inner parts rest
      → piece_at options_at number (place at (123 ∷ (inner ++ rest))) ≡ Some (NextArgument (placeholder number (range at (123 ∷ inner)) parts), place (at + size (123 ∷ inner)) rest)
  unfolding piece_at placeholder_at
  placeholder_here at inner rest parts single is =
      ap (λ b. piece_by (place at (123 ∷ (inner ++ rest))) false true b (starts is_close (inner ++ rest))) single
      ∙ (ap (λ n. option_map (made number (place at (123 ∷ (inner ++ rest)))) (inner_at options_at (place n (inner ++ rest)))) (omega arith)
      ∙ (ap (λ o. option_map (made number (place at (123 ∷ (inner ++ rest)))) o) ((inner_reads Options options_at options_read).found (at + 1) inner parts rest is)
      ∙ ap (λ n. Some (NextArgument (placeholder number (record { start = at; end = n }) parts), place n rest)) (omega arith)))

  placeholder_found : (at : ℕ) (text : List ℕ) (v : Piece) (rest : List ℕ) → IsPlaceholder Options number at text v rest → piece_at options_at number (place at (text ++ rest)) ≡ Some (v, place (at + size text) rest)
  placeholder_found at text v rest h =
      let value : v ≡ NextArgument (placeholder number (range at (123 ∷ h.inner)) h.parts) = h.value ∙ ap (λ l. NextArgument (placeholder number (range at l) h.parts)) h.whole in
      subst (λ l. piece_at options_at number (place at (l ++ rest)) ≡ Some (v, place (at + size l) rest)) (sym h.whole)
      (placeholder_here at h.inner rest h.parts h.single h.is ∙ ap (λ w. Some (w, place (at + size (123 ∷ h.inner)) rest)) (sym value))

  piece_found : (at : ℕ) (text : List ℕ) (v : Piece) (rest : List ℕ) → IsAnyPiece Options number at text v rest → piece_at options_at number (place at (text ++ rest)) ≡ Some (v, place (at + size text) rest)
  piece_found at text v rest (inl h) = plain_text_found at text v rest h
  piece_found at text v rest (inr (inl h)) = doubled_by 123 at text v rest (doubled_open at rest) h
  piece_found at text v rest (inr (inr (inl h))) = doubled_by 125 at text v rest (doubled_close at rest) h
  piece_found at text v rest (inr (inr (inr h))) = placeholder_found at text v rest h

  abbrev Spelt : Place → Piece × Place → Type 0
  Spelt p r = Spells (IsAnyPiece Options number) p r

  plain_text_is : (p : Place) → starts is_plain p.left ≡ true → Spelt p (plain_text_at p)
  plain_text_is p plain = record {
    text = front is_plain p.left;
    took = past_is is_plain p;
    rule = inl (record {
      some = starts_run is_plain p.left ∙ plain;
      longest = front_is is_plain p.left;
      value = ap Lit (range_is p (past is_plain p) (front is_plain p.left) (past_is is_plain p));
    });
  }

  open_is : (c : ℕ) → is_open c ≡ true → c ≡ 123
  open_is c e = grind (arith, nat_tests)

  close_is : (c : ℕ) → is_close c ≡ true → c ≡ 125
  close_is c e = grind (arith, nat_tests)

  closes : (c : ℕ) → is_plain c ≡ false → is_open c ≡ false → c ≡ 125
  closes c e f = close_is c (by_tests (is_open c) (is_close c) e f) where
    by_tests : (a b : Bool) → not (a || b) ≡ false → a ≡ false → b ≡ true
    by_tests true b e f = absurd (cc)
    by_tests false true e f = refl
    by_tests false false e f = absurd (cc)

  -- a brace and the same one behind it
  twice : (at brace c d : ℕ) (cs : List ℕ) → c ≡ brace → d ≡ brace → ((text : List ℕ) (v : Piece) → IsDoubled brace at text v → IsAnyPiece Options number at text v cs)
      → Spelt (place at (c ∷ d ∷ cs)) (Lit (between (place at (c ∷ d ∷ cs)) (place (at + len_utf8 c) (d ∷ cs))), place (at + len_utf8 c + len_utf8 d) cs)
  twice at brace c d cs first_is second_is rule = record {
    text = c ∷ d ∷ [];
    took = took_both (place at (c ∷ d ∷ cs)) (place (at + len_utf8 c) (d ∷ cs)) (place (at + len_utf8 c + len_utf8 d) cs) (c ∷ []) (d ∷ []) (took_one at c (d ∷ cs)) (took_one (at + len_utf8 c) d cs);
    rule = rule (c ∷ d ∷ []) (Lit (between (place at (c ∷ d ∷ cs)) (place (at + len_utf8 c) (d ∷ cs)))) (record {
      is = ap (λ x. x ∷ d ∷ []) first_is ∙ ap (λ x. brace ∷ x ∷ []) second_is;
      value = ap Lit (range_is (place at (c ∷ d ∷ cs)) (place (at + len_utf8 c) (d ∷ cs)) (c ∷ []) (took_one at c (d ∷ cs)) ∙ ap (λ x. range at (x ∷ [])) first_is);
    });
  }

  placeholder_is : (at c : ℕ) (cs : List ℕ) (r : Piece × Place) → c ≡ 123 → starts is_open cs ≡ false → placeholder_at options_at number (place at (c ∷ cs)) ≡ Some r → Spelt (place at (c ∷ cs)) r
  unfolding placeholder_at
  placeholder_is at c cs r opens single found = mapped (made number (place at (c ∷ cs))) (inner_at options_at (place (at + len_utf8 c) cs)) r found
      (λ s there same. subst (λ z. Spelt (place at (c ∷ cs)) z) same (by_inner s ((inner_reads Options options_at options_read).is (place (at + len_utf8 c) cs) s there)))
    where
      by_inner : (s : Inner × Place) → Spells (IsInner Options) (place (at + len_utf8 c) cs) s → Spelt (place at (c ∷ cs)) (made number (place at (c ∷ cs)) s)
      by_inner s is =
          let took : Took (place at (c ∷ cs)) s.1 (c ∷ is.text) = took_both (place at (c ∷ cs)) (place (at + len_utf8 c) cs) s.1 (c ∷ []) is.text (took_one at c cs) is.took in
          let one : at + len_utf8 c ≡ at + 1 = ap (λ x. at + len_utf8 x) opens ∙ omega arith in
          record {
            text = c ∷ is.text;
            took = took;
            rule = inr (inr (inr (record {
              inner = is.text;
              parts = s.0;
              whole = ap (λ x. x ∷ is.text) opens;
              single = ap (starts is_open) (sym is.took.there) ∙ single;
              is = subst (λ n. IsInner Options n is.text s.0 s.1.left) one is.rule;
              value = ap (λ r. NextArgument (placeholder number r s.0)) (range_is (place at (c ∷ cs)) s.1 (c ∷ is.text) took);
            })));
          }

  piece_in : (at : ℕ) (cs : List ℕ) (r : Piece × Place) → piece_at options_at number (place at cs) ≡ Some r → Spelt (place at cs) r
  unfolding piece_at doubled_at
  piece_in at [] r found = absurd (none_some r found)
  piece_in at (c ∷ []) r found = chosen (is_plain c) (Some (plain_text_at (place at (c ∷ [])))) (cond (is_open c) (placeholder_at options_at number (place at (c ∷ []))) None) (Some r) found
      (λ plain same. subst (λ z. Spelt (place at (c ∷ [])) z) (same_Some _ _ same) (plain_text_is (place at (c ∷ [])) plain))
      (λ no_plain found. chosen (is_open c) (placeholder_at options_at number (place at (c ∷ []))) None (Some r) found
      (λ opens found. placeholder_is at c [] r (open_is c opens) refl found)
      (λ other none. absurd (none_some r none)))
  piece_in at (c ∷ d ∷ cs) r found = chosen (is_plain c) (Some (plain_text_at (place at (c ∷ d ∷ cs)))) (cond (is_open c) (cond (is_open d) (doubled_at (place at (c ∷ d ∷ cs))) (placeholder_at options_at number (place at (c ∷ d ∷ cs)))) (cond (is_close d) (doubled_at (place at (c ∷ d ∷ cs))) None)) (Some r) found
      (λ plain same. subst (λ z. Spelt (place at (c ∷ d ∷ cs)) z) (same_Some _ _ same) (plain_text_is (place at (c ∷ d ∷ cs)) plain))
      (λ no_plain found. chosen (is_open c) (cond (is_open d) (doubled_at (place at (c ∷ d ∷ cs))) (placeholder_at options_at number (place at (c ∷ d ∷ cs)))) (cond (is_close d) (doubled_at (place at (c ∷ d ∷ cs))) None) (Some r) found
      (λ opens found. chosen (is_open d) (doubled_at (place at (c ∷ d ∷ cs))) (placeholder_at options_at number (place at (c ∷ d ∷ cs))) (Some r) found
      (λ again same. subst (λ z. Spelt (place at (c ∷ d ∷ cs)) z) (same_Some _ _ same) (twice at 123 c d cs (open_is c opens) (open_is d again) (λ text v h. inr (inl h))))
      (λ single found. placeholder_is at c (d ∷ cs) r (open_is c opens) single found))
      (λ no_open found. chosen (is_close d) (doubled_at (place at (c ∷ d ∷ cs))) None (Some r) found
      (λ again same. subst (λ z. Spelt (place at (c ∷ d ∷ cs)) z) (same_Some _ _ same) (twice at 125 c d cs (closes c no_plain no_open) (close_is d again) (λ text v h. inr (inr (inl h)))))
      (λ other none. absurd (none_some r none))))

  piece_some : (at : ℕ) (text : List ℕ) (v : Piece) (rest : List ℕ) → IsAnyPiece Options number at text v rest → 0 < length text
  piece_some at [] v rest (inl h) = absurd (let b = h.some in cc)
  piece_some at [] v rest (inr (inl h)) = absurd (let b = h.is in cc)
  piece_some at [] v rest (inr (inr (inl h))) = absurd (let b = h.is in cc)
  piece_some at [] v rest (inr (inr (inr h))) = absurd (let b = h.whole in cc)
  piece_some at (c ∷ text) v rest h = omega arith

-- the arguments that a text takes so far
abbrev pub taken_by : List (Spelled Piece) → ℕ
taken_by spelled = taken (items spelled)

-- pieces are read as the grammar says, where the options depend on the arguments that are taken so far
pub read_by : (state_of : List (Spelled Piece) → ℕ) (Options : ℕ → ℕ → List ℕ → SpecParts → List ℕ → Type 0) (options_at : ℕ → Place → Option (SpecParts × Place)) → ((number : ℕ) → Reads (Options number) (options_at number))
    → ReadsPieces (λ front text piece rest. IsAnyPiece (Options (state_of front)) (state_of front) (size (texts front)) text piece rest) state_of (λ number. piece_at (options_at number) number)
read_by state_of Options options_at options_read = record {
  found = λ front text v rest h. piece_found (Options (state_of front)) (options_at (state_of front)) (options_read (state_of front)) (state_of front) (size (texts front)) text v rest h;
  is = λ front left r e. let s = piece_in (Options (state_of front)) (options_at (state_of front)) (options_read (state_of front)) (state_of front) (size (texts front)) left r e in record { text = s.text; took = s.took; rule = s.rule };
  some = λ front text v rest h. piece_some (Options (state_of front)) (options_at (state_of front)) (options_read (state_of front)) (state_of front) (size (texts front)) text v rest h;
}

-- pieces of format texts
pub pieces_read : ReadsPieces IsPiece taken_by format_piece_at
pieces_read = read_by taken_by IsFormat format_at format_reads

pub taken_more : (pieces : List Piece) (piece : Piece) → taken (pieces ++ piece ∷ []) ≡ taken pieces + takes piece
taken_more [] piece = omega arith
taken_more (p ∷ pieces) piece = omega (arith, taken_more pieces piece)

-- each piece takes its arguments
pub steps : StepsBy taken_by (λ n piece. n + takes piece)
steps = record { more = λ spelled s. ap taken (items_more spelled s) ∙ taken_more (items spelled) s.item }
