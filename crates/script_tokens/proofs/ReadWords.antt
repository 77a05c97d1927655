-- Words: what stands in a text is found there, and what is found stands there.
use Rattle.std.proofs.Common.{◌≡◌, ℕ, ◌+◌, true, false, cond, List, [], ◌∷◌, ◌++◌, Some, None, refl, ap, ◌∙◌, subst}
use Rattle.std.specs.Str.{encode_utf8_all}
use Rattle.std.proofs.lemmas.Option.{same_Some}
use Rattle.text_cut.specs.Runs.{starts, front, size, AllPass}
use Rattle.text_cut.specs.Place.{Place, place, past, Took}
use Rattle.text_cut.proofs.Runs.{front_of, front_is}
use Rattle.text_cut.proofs.Rules.{past_is, past_run}
use Rattle.text_cut.proofs.OptionLaws.{chosen, none_some}
use Rattle.script_tokens.specs.Words.{begins_word, continues_word, IsWord}
use Rattle.script_tokens.specs.ReadTokens.{word_at}
use Rattle.script_tokens.proofs.Characters.{word_begins, word_continues, begins_continues}

-- a word is found where no word goes on behind it
pub word_read : (word rest : List ℕ) (at : ℕ) → IsWord word → starts continues_word rest ≡ false → word_at (place at (word ++ rest)) ≡ Some (encode_utf8_all word, place (at + size word) rest)
word_read word rest at is stops =
    let continues : AllPass continues_word word = word_continues word is in
    ap (λ b. cond b (Some (encode_utf8_all (front continues_word (word ++ rest)), past continues_word (place at (word ++ rest)))) None) (word_begins word rest is)
    ∙ (ap (λ l. Some (encode_utf8_all l, past continues_word (place at (word ++ rest)))) (front_of continues_word word rest (record { pass = continues; stops = stops }))
    ∙ ap (λ p. Some (encode_utf8_all word, p)) (past_run continues_word word rest at (record { pass = continues; stops = stops })))

-- a word stands between two places
pub record WordIs (here : Place) (r : List ℕ × Place) : Type 0 where
  pub word : List ℕ
  pub is : IsWord word
  pub value : r.0 ≡ encode_utf8_all word
  pub took : Took here r.1 word

front_word : (cs : List ℕ) → starts begins_word cs ≡ true → IsWord (front continues_word cs)
front_word [] e = absurd (cc)
front_word (c ∷ cs) e = rw (begins_continues c e) (e, (front_is continues_word cs).pass)

-- where a word is found, it stands
pub word_is : (here : Place) (r : List ℕ × Place) → word_at here ≡ Some r → WordIs here r
word_is here r found = chosen (starts begins_word here.left) (Some (encode_utf8_all (front continues_word here.left), past continues_word here)) None (Some r) found
    (λ begins same. subst (λ z. WordIs here z) (same_Some _ _ same)
    (record { word = front continues_word here.left; is = front_word here.left begins; value = refl; took = past_is continues_word here }))
    (λ other none. absurd (none_some r none))
