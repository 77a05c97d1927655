-- Which places are behind which: where `text_between` may be called.
use Rattle.std.proofs.Common.{◌≡◌, ℕ, ◌+◌, Bool, List, [], ◌∷◌, ◌++◌, Option, Some, sym, subst}
use Rattle.std.specs.Char.{len_utf8}
use Rattle.std.proofs.lemmas.Option.{same_Some}
use Rattle.text_cut.specs.Runs.{front}
use Rattle.text_cut.specs.Place.{Place, place, first_in, first, past, IsBehind}
use Rattle.text_cut.specs.Rules.{Reads, past_word}
use Rattle.text_cut.proofs.OptionLaws.{none_some}
use Rattle.text_cut.proofs.Rules.{took_none, took_one, took_both, past_is, word_is}

-- a place is behind itself
pub behind_same : (p : Place) → IsBehind p p
behind_same p = record { text = []; took = took_none p }

-- and behind what the place before it is behind of
pub behind_both : (p e d : Place) → IsBehind p e → IsBehind e d → IsBehind p d
behind_both p e d a b = record { text = a.text ++ b.text; took = took_both p e d a.text b.text a.took b.took }

first_behind : (at : ℕ) (cs : List ℕ) (r : ℕ × Place) → first_in at cs ≡ Some r → IsBehind (place at cs) r.1
first_behind at [] r e = absurd (none_some r e)
first_behind at (c ∷ cs) r e = subst (λ (s : ℕ × Place). IsBehind (place at (c ∷ cs)) s.1) (same_Some _ _ e) (record { text = c ∷ []; took = took_one at c cs })

-- behind a character
pub behind_first : (p : Place) (c : ℕ) (e : Place) → first p ≡ Some (c, e) → IsBehind p e
behind_first p c e found = first_behind p.at p.left (c, e) found

-- behind a longest run
pub behind_run : (p : ℕ → Bool) (here e : Place) → e ≡ past p here → IsBehind here e
behind_run p here e same = subst (λ d. IsBehind here d) (sym same) (record { text = front p here.left; took = past_is p here })

-- behind a word
pub behind_word : (word : List ℕ) (here e : Place) → past_word word here ≡ Some e → IsBehind here e
behind_word word here e found = record { text = word; took = word_is word here.at here.left e found }

-- behind what a reader reads
pub behind_read : {X : Type 0} (A : ℕ → List ℕ → X → List ℕ → Type 0) (f : Place → Option (X × Place)) → Reads A f → (p : Place) (r : X × Place) → f p ≡ Some r → IsBehind p r.1
behind_read A f reads p r found = let s = reads.is p r found in record { text = s.text; took = s.took }

-- behind the character that a text begins with
pub behind_char : (at n c : ℕ) (text rest : List ℕ) → n ≡ len_utf8 c → text ≡ c ∷ rest → IsBehind (place at text) (place (at + n) rest)
behind_char at n c text rest long e = subst (λ l. IsBehind (place at l) (place (at + n) rest)) (sym e) (subst (λ m. IsBehind (place at (c ∷ rest)) (place (at + m) rest)) (sym long) (record { text = c ∷ []; took = took_one at c rest }))

-- behind the place, and behind what is behind it
pub ruleset behinds = (behind_same, behind_both)
