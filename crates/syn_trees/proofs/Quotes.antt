-- String tokens with what stands between their quotes: they are found, whatever follows them, and what is found stands there.
use Rattle.std.proofs.Common.{◌≡◌, ℕ, ◌+◌, List, ◌++◌, Option, Some, None, refl, ap, ◌∙◌, sym, subst}
use Rattle.std.specs.Option.{option_map}
use Rattle.std.specs.Str.{IsUtf8, chars, encode_utf8_all}
use Rattle.std.proofs.lemmas.Str.{encodes-chars}
use Rattle.text_cut.specs.Runs.{size}
use Rattle.text_cut.specs.Place.{Place, place, Took, IsBehind}
use Rattle.text_cut.proofs.OptionLaws.{mapped}
use Rattle.syn_trees.specs.StringToken.{Quoting, IsQuoted}
use Rattle.syn_trees.specs.Literal.{opening}
use Rattle.syn_trees.specs.ReadString.{Found, between, token_at, token_end}
use Rattle.syn_trees.specs.ReadQuoted.{Str, str_between, str_at}
use Rattle.syn_trees.proofs.Tokens.{found_from, parts_found, token_found, PartsAre, parts_are}
use Rattle.syn_trees.proofs.Values.{between_took}

-- the end of a token that is found is the place behind it
end_is : (quoting : Quoting) (token inside rest : List ℕ) (at : ℕ) → IsQuoted quoting token inside → (found_from quoting (at + opening quoting) inside rest).end ≡ place (at + size token) rest
end_is quoting token inside rest at is =
    let there : token_end (place at (token ++ rest)) ≡ Some (place (at + size token) rest) = token_found token rest at (record { quoting = quoting; inside = inside; quoted = is }) in
    ap end_or (sym (ap (λ o. option_map (λ (found : Found). found.end) o) (parts_found quoting token inside rest at is)) ∙ there)
  where
    end_or : Option Place → Place
    end_or None = place 0 rest
    end_or (Some e) = e

-- the quotes of a token that is found
pub quotes_behind : (p : Place) (found : Found) → Some found ≡ token_at p → IsBehind found.from found.to
quotes_behind p found there = let parts : PartsAre p found = parts_are p found (sym there) in record { text = parts.inside; took = parts.between }

-- a token is found whole, with the text between its quotes
pub str_found : (quoting : Quoting) (token inside rest : List ℕ) (at : ℕ) → IsQuoted quoting token inside → str_at (place at (token ++ rest)) ≡ Some (record { text = encode_utf8_all token; inside = encode_utf8_all inside }, place (at + size token) rest)
str_found quoting token inside rest at is =
    let here : Place = place at (token ++ rest) in
    let end : Place = place (at + size token) rest in
    let found : Found = found_from quoting (at + opening quoting) inside rest in
    let ends : found.end ≡ end = end_is quoting token inside rest at is in
    ap (λ o. option_map (str_between here) o) (parts_found quoting token inside rest at is)
    ∙ (ap (λ e. Some (record { text = encode_utf8_all (between here e); inside = encode_utf8_all (between found.from found.to) }, e)) ends
    ∙ (ap (λ l. Some (record { text = encode_utf8_all l; inside = encode_utf8_all (between found.from found.to) }, end)) (between_took here end token (record { there = refl; ends = refl }))
    ∙ ap (λ l. Some (record { text = encode_utf8_all token; inside = encode_utf8_all l }, end)) (between_took found.from found.to inside (record { there = refl; ends = refl }))))

-- a token stands between two places, and r.0 are its bytes
pub record StrIs (p : Place) (r : Str × Place) : Type 0 where
  pub quoting : Quoting
  pub token : List ℕ
  pub inside : List ℕ
  pub quoted : IsQuoted quoting token inside
  pub took : Took p r.1 token
  pub bytes : r.0 ≡ record { text = encode_utf8_all token; inside = encode_utf8_all inside }

-- where a token is found, it stands
pub str_is : (p : Place) (r : Str × Place) → str_at p ≡ Some r → StrIs p r
str_is p r there = mapped (str_between p) (token_at p) r there
    (λ found is same. let parts : PartsAre p found = parts_are p found is in
    subst (λ z. StrIs p z) same (record {
      quoting = parts.quoting;
      token = parts.token;
      inside = parts.inside;
      quoted = parts.quoted;
      took = parts.took;
      bytes = λ i. record {
        text = encode_utf8_all (between_took p found.end parts.token parts.took i);
        inside = encode_utf8_all (between_took found.from found.to parts.inside parts.between i);
      };
    }))

-- a token that is found ends behind its begin
pub token_behind : (p : Place) (found : Found) → Some found ≡ token_at p → IsBehind p found.end
token_behind p found there = let parts : PartsAre p found = parts_are p found (sym there) in record { text = parts.token; took = parts.took }

text_bytes : (p e : Place) (text : List ℕ) → IsUtf8 text → Took p e (chars text) → text ≡ encode_utf8_all (between p e)
text_bytes p e text utf8 took = sym (encodes-chars text utf8) ∙ ap encode_utf8_all (sym (between_took p e (chars text) took))

-- a token and the text between its quotes are read
pub str_read : (p : Place) (found : Found) (text inside : List ℕ) → IsUtf8 text → IsUtf8 inside → Some found ≡ token_at p → Took p found.end (chars text) → Took found.from found.to (chars inside)
    → Some (record { text = text; inside = inside }, found.end) ≡ str_at p
str_read p found text inside utf8 inside_utf8 there took between_quotes =
    ap (λ l. Some (record { text = l; inside = inside }, found.end)) (text_bytes p found.end text utf8 took)
    ∙ (ap (λ l. Some (record { text = encode_utf8_all (between p found.end); inside = l }, found.end)) (text_bytes found.from found.to inside inside_utf8 between_quotes)
    ∙ ap (λ o. option_map (str_between p) o) there)
