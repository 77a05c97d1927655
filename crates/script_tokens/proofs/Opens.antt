-- Where strings begin: where none can begin, none is found.
use Rattle.std.proofs.Common.{◌≡◌, ℕ, ◌+◌, false, true, List, [], ◌∷◌, ◌++◌, replicate, Option, Some, None, ap, is_some, ◌∙◌, refl, append_assoc}
use Rattle.text_cut.specs.Place.{Place, place, Took}
use Rattle.syn_trees.specs.StringToken.{OpensRaw, Quoting, Plain, Raw, IsQuoted, raw_end}
use Rattle.syn_trees.specs.ReadString.{start_at, raw_start}
use Rattle.syn_trees.specs.ReadQuoted.{Str, str_at}
use Rattle.syn_trees.proofs.RawStarts.{start_found, StartIs, raw_start_is}
use Rattle.syn_trees.proofs.Quotes.{StrIs, str_is}
use Rattle.script_tokens.specs.ReadTokens.{opens_raw}

-- no string begins with this text
pub record OpensNone (text : List ℕ) : Type 0 where
  pub no_plain : (more : List ℕ) → text ≡ 34 ∷ more → ⊥
  pub no_raw : (more : List ℕ) → text ≡ 114 ∷ more → OpensRaw more → ⊥

quoted_opens : (p e : Place) (quoting : Quoting) (token inside : List ℕ) → OpensNone p.left → IsQuoted quoting token inside → Took p e token → ⊥
quoted_opens p e Plain token inside none quoted took = none.no_plain _ (took.there ∙ ap (λ l. l ++ e.left) quoted.whole)
quoted_opens p e (Raw marks) token inside none quoted took = none.no_raw _ (took.there ∙ ap (λ l. l ++ e.left) quoted.whole)
    (record { marks = marks; more = (inside ++ raw_end marks) ++ e.left; few = quoted.few; is = append_assoc (replicate marks 35) (34 ∷ (inside ++ raw_end marks)) e.left })

-- no string is found where none begins
pub str_none : (p : Place) → OpensNone p.left → str_at p ≡ None
str_none p none = by_found (str_at p) refl
  where
    by_found : (o : Option (Str × Place)) → str_at p ≡ o → str_at p ≡ None
    by_found None e = e
    by_found (Some r) e = let is : StrIs p r = str_is p r e in absurd (quoted_opens p r.1 is.quoting is.token is.inside none is.quoted is.took)

-- and no raw string's start
pub opens_none : (p : Place) → OpensNone p.left → opens_raw p ≡ false
opens_none p none = by_start (raw_start p) refl
  where
    by_start : (o : Option (ℕ × Place)) → raw_start p ≡ o → opens_raw p ≡ false
    by_start None e = ap is_some e
    by_start (Some start) e =
        let is : StartIs p start = raw_start_is p start e in
        absurd (none.no_raw ((replicate start.0 35 ++ 34 ∷ []) ++ start.1.left) is.took.there
        (record { marks = start.0; more = start.1.left; few = is.few; is = append_assoc (replicate start.0 35) (34 ∷ []) start.1.left }))

-- an `r` in front of a raw string's start opens one
pub raw_opens : (at : ℕ) (rest : List ℕ) → OpensRaw rest → opens_raw (place at (114 ∷ rest)) ≡ true
raw_opens at rest is = ap (λ l. is_some (start_at (place (at + 1) l))) is.is ∙ ap is_some (start_found is.marks (at + 1) is.more is.few)
