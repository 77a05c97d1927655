-- As many values as stand at the front of a list of tokens, value by value.
use Rattle.std.proofs.Common.{◌≡◌, ℕ, zero, suc, ◌≤◌, ◌<◌, List, [], ◌∷◌, ◌++◌, length, Option, Some, None, refl, ap, ◌∙◌, sym, append_assoc, append-nil, arith}
use Rattle.script_tokens.specs.Tokens.{Tok}
use Rattle.script_tokens.specs.Many.{then_many, many_within, many, ManySoFar}

-- nothing is read where the reader finds nothing
many_none : {V : Type 0} (read : List Tok → Option (V × List Tok)) (most : ℕ) (toks : List Tok) → read toks ≡ None → many_within read most toks ≡ ([], toks)
many_none read zero toks none = refl
many_none read (suc most) toks none = ap (λ o. then_many o (many_within read most) toks) none

-- nothing is read yet
pub many_begins : {V : Type 0} (read : List Tok → Option (V × List Tok)) (start : List Tok) → ManySoFar read start [] start
many_begins read start = record { most = length start; enough = omega arith; same = refl }

-- nothing more is read
pub many_ends : {V : Type 0} (read : List Tok → Option (V × List Tok)) (start : List Tok) (values : List V) (toks : List Tok) → read toks ≡ None → ManySoFar read start values toks → many read start ≡ (values, toks)
many_ends read start values toks none so_far =
    so_far.same ∙ (ap (λ (r : List _ × List Tok). (values ++ r.0, r.1)) (many_none read so_far.most toks none) ∙ ap (λ l. (l, toks)) (append-nil values))

-- one more value is read
pub many_pushed : {V : Type 0} (read : List Tok → Option (V × List Tok)) (start : List Tok) (values : List V) (toks : List Tok) (v : V) (after : List Tok) → read toks ≡ Some (v, after) → length after < length toks
    → ManySoFar read start values toks → ManySoFar read start (values ++ v ∷ []) after
many_pushed {V} read start values toks v after found fewer so_far = by_most so_far.most so_far.enough so_far.same
  where
    by_most : (most : ℕ) → length toks ≤ most → many read start ≡ (values ++ (many_within read most toks).0, (many_within read most toks).1) → ManySoFar read start (values ++ v ∷ []) after
    by_most zero enough same = absurd (omega (arith, enough, fewer))
    by_most (suc most) enough same = record {
      most = most;
      enough = omega (arith, enough, fewer);
      same = same ∙ (ap (λ (o : Option (V × List Tok)). (values ++ (then_many o (many_within read most) toks).0, (then_many o (many_within read most) toks).1)) found
          ∙ ap (λ l. (l, (many_within read most after).1)) (sym (append_assoc values (v ∷ []) (many_within read most after).0)));
    }

pub ruleset manys = (many_begins, many_ends, many_pushed)
