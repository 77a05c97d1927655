-- Raw tokens: where one stands its end is found, and what is found is its end.
use Rattle.std.proofs.Common.{◌≡◌, ℕ, suc, ◌+◌, ◌-◌, ◌≤◌, ◌<◌, cond, nat_eq, List, [], ◌∷◌, ◌++◌, length, drop, replicate, Option, Some, None, refl, ap, ◌∙◌, sym, subst, append_assoc, length-append, arith}
use Rattle.std.specs.Char.{len_utf8}
use Rattle.std.proofs.lemmas.Option.{same_Some}
use Rattle.text_cut.specs.Runs.{size}
use Rattle.text_cut.specs.Place.{Place, place, Took}
use Rattle.text_cut.specs.Rules.{word_in, past_word}
use Rattle.text_cut.proofs.Lists.{longer_begins}
use Rattle.text_cut.proofs.OptionLaws.{chosen, none_some}
use Rattle.text_cut.proofs.Rules.{took_none, took_one, took_both, word_found, word_is}
use Rattle.syn_trees.specs.StringToken.{raw_end}
use Rattle.syn_trees.specs.ReadString.{or_behind, raw_in}

-- a word is its first character, and the rest behind it
pub first_then : (d : ℕ) (word : List ℕ) (p e : Place) → past_word (d ∷ []) p ≡ Some e → past_word (d ∷ word) p ≡ past_word word e
first_then d word p e found = by_left p.at p.left found
  where
    by_left : (at : ℕ) (cs : List ℕ) → word_in (d ∷ []) at cs ≡ Some e → word_in (d ∷ word) at cs ≡ past_word word e
    by_left at [] there = absurd (none_some e there)
    by_left at (c ∷ cs) there = chosen (nat_eq c d) (Some (place (at + len_utf8 c) cs)) None (Some e) there
        (λ same is. ap (λ t. cond t (word_in word (at + len_utf8 c) cs) None) same ∙ ap (λ q. past_word word q) (same_Some _ _ is))
        (λ other none. absurd (none_some e none))

-- so many marks are one mark, and one less behind it
pub mark_then : (marks counter : ℕ) (p e : Place) → counter < marks → past_word (35 ∷ []) p ≡ Some e → past_word (replicate (marks - (counter + 1)) 35) e ≡ past_word (replicate (marks - counter) 35) p
mark_then marks counter p e within found =
    sym (first_then 35 (replicate (marks - (counter + 1)) 35) p e found) ∙ ap (λ n. past_word (replicate n 35) p) (one_less (marks - counter) (omega (arith, within)))
  where
    one_less : (left : ℕ) → suc (marks - (counter + 1)) ≡ left → suc (marks - (counter + 1)) ≡ left
    one_less left e = e

-- no end stands before the last of a text
abbrev NoEnd : ℕ → List ℕ → Type 0
NoEnd marks inside = (front more : List ℕ) → inside ++ raw_end marks ≡ front ++ (raw_end marks ++ more) → length inside ≤ length front

-- in front of the last end none is found
none_here : (marks at c : ℕ) (cs rest : List ℕ) (o : Option Place) → NoEnd marks (c ∷ cs) → word_in (raw_end marks) at ((c ∷ cs) ++ (raw_end marks ++ rest)) ≡ o → o ≡ None
none_here marks at c cs rest None first found = refl
none_here marks at c cs rest (Some e) first found =
    let there : (c ∷ cs) ++ (raw_end marks ++ rest) ≡ raw_end marks ++ e.left = (word_is (raw_end marks) at ((c ∷ cs) ++ (raw_end marks ++ rest)) e found).there in
    let cut : (c ∷ cs) ++ raw_end marks ≡ raw_end marks ++ drop (length (raw_end marks)) ((c ∷ cs) ++ raw_end marks) =
    longer_begins ((c ∷ cs) ++ raw_end marks) rest (raw_end marks) e.left (append_assoc (c ∷ cs) (raw_end marks) rest ∙ there) (omega (arith, length-append (c ∷ cs) (raw_end marks))) in
    absurd (omega (arith, first [] (drop (length (raw_end marks)) ((c ∷ cs) ++ raw_end marks)) cut))

abbrev raw_ends_at : ℕ → ℕ → List ℕ → Option (Place × Place)
raw_ends_at marks at rest = Some (place at (raw_end marks ++ rest), place (at + size (raw_end marks)) rest)

no_further : (at : ℕ) → at ≡ at + 0
no_further at = omega arith

one_further : (at n m : ℕ) → (at + n) + m ≡ at + (n + m)
one_further at n m = omega arith

-- what stands between the quotes is passed
pub raw_found : (marks : ℕ) (inside rest : List ℕ) (at : ℕ) → ((front more : List ℕ) → inside ++ raw_end marks ≡ front ++ (raw_end marks ++ more) → length inside ≤ length front)
    → raw_in marks at (inside ++ (raw_end marks ++ rest)) ≡ Some (place (at + size inside) (raw_end marks ++ rest), place ((at + size inside) + size (raw_end marks)) rest)
raw_found marks [] rest at first =
    ap (λ o. or_behind (place at (raw_end marks ++ rest)) o (raw_in marks (at + 1) (replicate marks 35 ++ rest))) (word_found (raw_end marks) at rest)
    ∙ ap (λ (n : ℕ). raw_ends_at marks n rest) (no_further at)
raw_found marks (c ∷ cs) rest at first =
    ap (λ o. or_behind (place at ((c ∷ cs) ++ (raw_end marks ++ rest))) o (raw_in marks (at + len_utf8 c) (cs ++ (raw_end marks ++ rest)))) (none_here marks at c cs rest (word_in (raw_end marks) at ((c ∷ cs) ++ (raw_end marks ++ rest))) first refl)
    ∙ (raw_found marks cs rest (at + len_utf8 c) (λ front more e. omega (arith, first (c ∷ front) more (ap (λ l. c ∷ l) e)))
    ∙ ap (λ (n : ℕ). raw_ends_at marks n rest) (one_further at (len_utf8 c) (size cs)))

-- an end that was found: what stands in front of it, with no end in it
pub record RawIs (marks : ℕ) (here : Place) (r : Place × Place) : Type 0 where
  pub inside : List ℕ
  pub first : (front more : List ℕ) → inside ++ raw_end marks ≡ front ++ (raw_end marks ++ more) → length inside ≤ length front
  pub before : Took here r.0 inside
  pub ending : Took r.0 r.1 (raw_end marks)

ends_here : (marks at c : ℕ) (cs : List ℕ) (e : Place) → word_in (raw_end marks) at (c ∷ cs) ≡ Some e → RawIs marks (place at (c ∷ cs)) (place at (c ∷ cs), e)
ends_here marks at c cs e found = record {
  inside = [];
  first = λ front more same. omega arith;
  before = took_none (place at (c ∷ cs));
  ending = word_is (raw_end marks) at (c ∷ cs) e found;
}

-- one more character in front, at which no end stands
first_more : (marks at c : ℕ) (cs inside left : List ℕ) → word_in (raw_end marks) at (c ∷ cs) ≡ None → cs ≡ inside ++ (raw_end marks ++ left) → NoEnd marks inside → NoEnd marks (c ∷ inside)
first_more marks at c cs inside left none there first [] more same =
    let whole : c ∷ cs ≡ raw_end marks ++ (more ++ left) =
    ap (λ l. c ∷ l) there ∙ (sym (append_assoc (c ∷ inside) (raw_end marks) left) ∙ (ap (λ l. l ++ left) same ∙ append_assoc (raw_end marks) more left)) in
    absurd (none_some _ (sym none ∙ (ap (λ l. word_in (raw_end marks) at l) whole ∙ word_found (raw_end marks) at (more ++ left))))
first_more marks at c cs inside left none there first (d ∷ front) more same = omega (arith, first front more (ap (λ l. drop 1 l) same))

ends_behind : (marks at c : ℕ) (cs : List ℕ) (r : Place × Place) → word_in (raw_end marks) at (c ∷ cs) ≡ None → RawIs marks (place (at + len_utf8 c) cs) r → RawIs marks (place at (c ∷ cs)) r
ends_behind marks at c cs r none is = record {
  inside = c ∷ is.inside;
  first = first_more marks at c cs is.inside r.1.left none (is.before.there ∙ ap (λ l. is.inside ++ l) is.ending.there) is.first;
  before = took_both (place at (c ∷ cs)) (place (at + len_utf8 c) cs) r.0 (c ∷ []) is.inside (took_one at c cs) is.before;
  ending = is.ending;
}

by_word : (marks at c : ℕ) (cs : List ℕ) (r : Place × Place) (o : Option Place) → word_in (raw_end marks) at (c ∷ cs) ≡ o → or_behind (place at (c ∷ cs)) o (raw_in marks (at + len_utf8 c) cs) ≡ Some r
    → (raw_in marks (at + len_utf8 c) cs ≡ Some r → RawIs marks (place (at + len_utf8 c) cs) r) → RawIs marks (place at (c ∷ cs)) r
by_word marks at c cs r None none found more = ends_behind marks at c cs r none (more found)
by_word marks at c cs r (Some e) there found more = subst (λ z. RawIs marks (place at (c ∷ cs)) z) (same_Some _ _ found) (ends_here marks at c cs e there)

in_is : (marks at : ℕ) (cs : List ℕ) (r : Place × Place) → raw_in marks at cs ≡ Some r → RawIs marks (place at cs) r
in_is marks at [] r found = absurd (none_some r found)
in_is marks at (c ∷ cs) r found = by_word marks at c cs r (word_in (raw_end marks) at (c ∷ cs)) refl found (λ more. in_is marks (at + len_utf8 c) cs r more)

-- what is found is an end
pub raw_is : (marks : ℕ) (here : Place) (r : Place × Place) → raw_in marks here.at here.left ≡ Some r → RawIs marks here r
raw_is marks here r found = in_is marks here.at here.left r found
