-- The tokens that are left of a line, token by token.
use Rattle.std.proofs.Common.{◌≡◌, ℕ, zero, suc, ◌≤◌, ◌<◌, List, [], ◌∷◌, length, Option, Some, None, MatchOption, IfSome, refl, ap, ◌∙◌, sym, arith}
use Rattle.std.specs.Option.{option_map}
use Rattle.text_cut.specs.Place.{Place}
use Rattle.text_cut.specs.Many.{then_many, many_within, many_at}
use Rattle.std.proofs.lemmas.Option.{same_Some}
use Rattle.text_cut.proofs.OptionLaws.{none_some}
use Rattle.text_cut.proofs.Many.{many_none, piece_shorter}
use Rattle.script_tokens.specs.Tokens.{Tok, IsTok}
use Rattle.script_tokens.specs.ReadTokens.{tok_at}
use Rattle.script_tokens.specs.Ahead.{tok_of, toks_at, end_at, ahead, end, uncons}
use Rattle.script_tokens.specs.declared.token.Token.{Token}
use Rattle.text_cut.specs.Seen.{seen}
use Rattle.text_cut.specs.declared.cursor.Cursor.{Cursor}
use Rattle.script_tokens.proofs.Tokens.{toks_read, toks_ignore_front}

-- less is left behind a token
pub tok_shorter : (p : Place) (r : Tok × Place) → tok_at p ≡ Some r → length r.1.left < length p.left
tok_shorter p r found = piece_shorter IsTok toks_ignore_front tok_at toks_read p r found

-- where nothing is left, no token stands
no_tok : (p : Place) (o : Option (Tok × Place)) → tok_at p ≡ o → length p.left ≤ 0 → tok_at p ≡ None
no_tok p None found short = found
no_tok p (Some r) found short = absurd (omega (arith, short, tok_shorter p r found))

-- where there may be enough tokens, it does not matter how many more there may be
within_same : (most other : ℕ) (p : Place) → length p.left ≤ most → length p.left ≤ other → many_within tok_at most p ≡ many_within tok_at other p
within_same zero other p enough also =
    let none : tok_at p ≡ None = no_tok p (tok_at p) refl enough in
    sym (many_none tok_at p other none)
within_same (suc most) zero p enough also =
    let none : tok_at p ≡ None = no_tok p (tok_at p) refl also in
    many_none tok_at p (suc most) none
within_same (suc most) (suc other) p enough also = by_found (tok_at p) refl (λ e fits fits_too. within_same most other e fits fits_too)
  where
    by_found : (o : Option (Tok × Place)) → tok_at p ≡ o → ((e : Place) → length e.left ≤ most → length e.left ≤ other → many_within tok_at most e ≡ many_within tok_at other e)
        → then_many o (λ e. many_within tok_at most e) p ≡ then_many o (λ e. many_within tok_at other e) p
    by_found None found go = refl
    by_found (Some r) found go =
        ap (λ (m : List Tok × Place). (r.0 ∷ m.0, m.1)) (go r.1 (omega (arith, enough, tok_shorter p r found)) (omega (arith, also, tok_shorter p r found)))

-- all tokens from a place on are the first and those behind it
many_first : (p : Place) (r : Tok × Place) → tok_at p ≡ Some r → many_at tok_at p ≡ (r.0 ∷ (many_at tok_at r.1).0, (many_at tok_at r.1).1)
many_first p r found = by_room (length p.left) refl
  where
    by_room : (room : ℕ) → length p.left ≡ room → many_within tok_at room p ≡ (r.0 ∷ (many_at tok_at r.1).0, (many_at tok_at r.1).1)
    by_room zero same = absurd (omega (arith, same, tok_shorter p r found))
    by_room (suc most) same =
        ap (λ o. then_many o (λ e. many_within tok_at most e) p) found
        ∙ ap (λ (m : List Tok × Place). (r.0 ∷ m.0, m.1)) (within_same most (length r.1.left) r.1 (omega (arith, same, tok_shorter p r found)) (omega arith))

-- the first token, and those behind it
pub toks_first : (p : Place) (r : Tok × Place) → tok_at p ≡ Some r → toks_at p ≡ r.0 ∷ toks_at r.1
unfolding toks_at
toks_first p r found = ap (λ (m : List Tok × Place). m.0) (many_first p r found)

-- the end of a line is that behind its first token
pub end_first : (p : Place) (r : Tok × Place) → tok_at p ≡ Some r → end_at p ≡ end_at r.1
unfolding end_at
end_first p r found = ap (λ (m : List Tok × Place). m.1) (many_first p r found)

-- no token is left where none stands
pub toks_none : (p : Place) → tok_at p ≡ None → toks_at p ≡ []
unfolding toks_at
toks_none p none = ap (λ (m : List Tok × Place). m.0) (many_none tok_at p (length p.left) none)

-- there the end of the line is the place itself
pub end_none : (p : Place) → tok_at p ≡ None → end_at p ≡ p
unfolding end_at
end_none p none = ap (λ (m : List Tok × Place). m.1) (many_none tok_at p (length p.left) none)

-- a token that is found here is the first of those that are left
pub ahead_found : (here : Cursor) (o : Option (Token × Cursor)) → option_map (λ r. (tok_of r.0, seen r.1)) o ≡ tok_at (seen here) → option_map (λ r. (tok_of r.0, ahead r.1)) o ≡ uncons (ahead here)
ahead_found here None found = ap uncons (sym (toks_none (seen here) (sym found)))
ahead_found here (Some r) found = ap uncons (sym (toks_first (seen here) (tok_of r.0, seen r.1) (sym found)))

-- the line ends behind it where it ended before; where none is found, it ends here
pub end_found : (here : Cursor) (o : Option (Token × Cursor)) → option_map (λ r. (tok_of r.0, seen r.1)) o ≡ tok_at (seen here) → MatchOption o (end here ≡ seen here) (λ r. end r.1 ≡ end here)
end_found here None found = end_none (seen here) (sym found)
end_found here (Some r) found = sym (end_first (seen here) (tok_of r.0, seen r.1) (sym found))

-- fewer tokens are left behind it
pub fewer_left : (here : Cursor) (o : Option (Token × Cursor)) → option_map (λ r. (tok_of r.0, ahead r.1)) o ≡ uncons (ahead here) → IfSome o (λ r. length (ahead r.1) < length (ahead here))
fewer_left here None found = tt
fewer_left here (Some r) found = by_list (ahead here) found
  where
    by_list : (toks : List Tok) → Some (tok_of r.0, ahead r.1) ≡ uncons toks → length (ahead r.1) < length toks
    by_list [] same = absurd (none_some _ (sym same))
    by_list (tok ∷ toks) same = omega (arith, ap (λ (s : Tok × List Tok). length s.1) (same_Some _ _ same))
