-- Readers find what their rules say, and only that.
use Rattle.std.proofs.Common.{◌≡◌, ℕ, ◌+◌, Bool, List, [], ◌∷◌, ◌++◌, Option, Some, None, refl, ap, eq-eqb, ◌∙◌, sym, subst, append_assoc, nat_eq, arith}
use Rattle.std.specs.Option.{option_map}
use Rattle.std.specs.Char.{len_utf8}
use Rattle.std.proofs.lemmas.Bool.Decides.{nat_tests}
use Rattle.std.proofs.lemmas.List.{append_cancel_right}
use Rattle.std.proofs.lemmas.Option.{option_and_then_some, same_Some}
use Rattle.text_cut.specs.Runs.{front, size, IsLongest}
use Rattle.text_cut.specs.Place.{Place, place, past, Took}
use Rattle.text_cut.specs.Rules.{Spells, Reads, Both, paired, both_at, IsOne, one_in, one_at, IsWord, word_in, past_word, word_at, IsRun, run_at}
use Rattle.text_cut.proofs.Sizes.{size_append}
use Rattle.text_cut.proofs.Runs.{front_behind, front_is, front_of, behind_of}
use Rattle.text_cut.proofs.OptionLaws.{mapped, chosen, none_some}

-- nothing stands between a place and itself
pub took_none : (p : Place) → Took p p []
took_none p = record { there = refl; ends = omega arith }

-- one character stands between a place and the next
pub took_one : (at c : ℕ) (cs : List ℕ) → Took (place at (c ∷ cs)) (place (at + len_utf8 c) cs) (c ∷ [])
took_one at c cs = record { there = refl; ends = omega arith }

-- one text, and behind it another
pub took_both : (p e d : Place) (text more : List ℕ) → Took p e text → Took e d more → Took p d (text ++ more)
took_both p e d text more a b = record {
  there = a.there ∙ (ap (λ l. text ++ l) b.there ∙ sym (append_assoc text more d.left));
  ends = omega (arith, a.ends, b.ends, size_append text more);
}

-- the text between two places is the only one
pub took_same : (p e : Place) (text other : List ℕ) → Took p e text → Took p e other → text ≡ other
took_same p e text other a b = append_cancel_right text other e.left (sym a.there ∙ b.there)

-- a text in front of what the second place has left stands between the two, if any does
pub took_as : (p e : Place) (text other : List ℕ) → Took p e text → p.left ≡ other ++ e.left → Took p e other
took_as p e text other took there = subst (λ l. Took p e l) (append_cancel_right text other e.left (sym took.there ∙ there)) took

both_found : {X Y : Type 0} (A : ℕ → List ℕ → X → List ℕ → Type 0) (B : ℕ → List ℕ → Y → List ℕ → Type 0) (f : Place → Option (X × Place)) (g : Place → Option (Y × Place)) → Reads A f → Reads B g → (at : ℕ) (former latter : List ℕ) (v : X × Y) (rest : List ℕ) → A at former v.0 (latter ++ rest) → B (at + size former) latter v.1 rest → both_at f g (place at ((former ++ latter) ++ rest)) ≡ Some (v, place (at + size (former ++ latter)) rest)
both_found A B f g a b at former latter v rest x y =
    rw (append_assoc former latter rest, a.found at former v.0 (latter ++ rest) x, b.found (at + size former) latter v.1 rest y)
    (ap (λ n. Some (v, place n rest)) (omega (arith, size_append former latter)))

both_is : {X Y : Type 0} (A : ℕ → List ℕ → X → List ℕ → Type 0) (B : ℕ → List ℕ → Y → List ℕ → Type 0) (p : Place) (x : X × Place) (y : Y × Place) → Spells A p x → Spells B x.1 y → Spells (Both A B) p ((x.0, y.0), y.1)
both_is A B p x y sx sy = record {
  text = sx.text ++ sy.text;
  took = took_both p x.1 y.1 sx.text sy.text sx.took sy.took;
  rule = record {
    former_text = sx.text;
    latter_text = sy.text;
    whole = refl;
    former = subst (λ l. A p.at sx.text x.0 l) sy.took.there sx.rule;
    latter = subst (λ n. B n sy.text y.0 y.1.left) sx.took.ends sy.rule;
  };
}

-- a reader behind another
pub both_reads : {X Y : Type 0} (A : ℕ → List ℕ → X → List ℕ → Type 0) (B : ℕ → List ℕ → Y → List ℕ → Type 0) (f : Place → Option (X × Place)) (g : Place → Option (Y × Place)) → Reads A f → Reads B g → Reads (Both A B) (both_at f g)
both_reads {X} {Y} A B f g a b = record {
  found = λ at text v rest h. subst (λ l. both_at f g (place at (l ++ rest)) ≡ Some (v, place (at + size l) rest)) (sym h.whole) (both_found A B f g a b at h.former_text h.latter_text v rest h.former h.latter);
  is = λ p r e. option_and_then_some (paired g) (f p) r e
      (λ x fx h. mapped (λ (s : Y × Place). ((x.0, s.0), s.1)) (g x.1) r h
      (λ y gy same. subst (λ z. Spells (Both A B) p z) same (both_is A B p x y (a.is p x fx) (b.is x.1 y gy))));
}

one_found : {X : Type 0} (test : ℕ → List ℕ → Bool) (make : ℕ → X) (none : X) (at : ℕ) (text : List ℕ) (v : X) (rest : List ℕ) → IsOne test make none at text v rest → one_at test make none (place at (text ++ rest)) ≡ Some (v, place (at + size text) rest)
one_found test make none at [] v [] h = rw h.1 (ap (λ n. Some (none, place n [])) (omega arith))
one_found test make none at [] v (c ∷ rest) h = rw (h.0, h.1) (ap (λ n. Some (none, place n (c ∷ rest))) (omega arith))
one_found test make none at (c ∷ []) v rest h = rw (h.0, h.1) (ap (λ n. Some (make c, place n rest)) (omega arith))
one_found test make none at (c ∷ d ∷ text) v rest h = absurd h

one_is : {X : Type 0} (test : ℕ → List ℕ → Bool) (make : ℕ → X) (none : X) (at : ℕ) (cs : List ℕ) (r : X × Place) → one_in test make none at cs ≡ Some r → Spells (IsOne test make none) (place at cs) r
one_is test make none at [] r e = subst (λ z. Spells (IsOne test make none) (place at []) z) (same_Some _ _ e) (record { text = []; took = took_none (place at []); rule = (refl, refl) })
one_is test make none at (c ∷ cs) r e = chosen (test c cs) (Some (make c, place (at + len_utf8 c) cs)) (Some (none, place at (c ∷ cs))) (Some r) e
    (λ t same. subst (λ z. Spells (IsOne test make none) (place at (c ∷ cs)) z) (same_Some _ _ same) (record { text = c ∷ []; took = took_one at c cs; rule = (t, refl) }))
    (λ t same. subst (λ z. Spells (IsOne test make none) (place at (c ∷ cs)) z) (same_Some _ _ same) (record { text = []; took = took_none (place at (c ∷ cs)); rule = (t, refl) }))

-- the reader of one character or none
pub one_reads : {X : Type 0} (test : ℕ → List ℕ → Bool) (make : ℕ → X) (none : X) → Reads (IsOne test make none) (one_at test make none)
one_reads test make none = record { found = one_found test make none; is = λ p r e. one_is test make none p.at p.left r e }

-- a word is found where it stands
pub word_found : (word : List ℕ) (at : ℕ) (rest : List ℕ) → word_in word at (word ++ rest) ≡ Some (place (at + size word) rest)
word_found [] at rest = ap (λ n. Some (place n rest)) (omega arith)
word_found (d ∷ word) at rest = rw (eq-eqb d d refl) (word_found word (at + len_utf8 d) rest ∙ ap (λ n. Some (place n rest)) (omega arith))

-- where a word is found, it stands
pub word_is : (word : List ℕ) (at : ℕ) (cs : List ℕ) (e : Place) → word_in word at cs ≡ Some e → Took (place at cs) e word
word_is [] at cs e h = subst (λ z. Took (place at cs) z []) (same_Some _ _ h) (took_none (place at cs))
word_is (d ∷ word) at [] e h = absurd (none_some e h)
word_is (d ∷ word) at (c ∷ cs) e h = chosen (nat_eq c d) (word_in word (at + len_utf8 c) cs) None (Some e) h
    (λ t next. let same : c ≡ d = grind (arith, nat_tests) in
    subst (λ x. Took (place at (c ∷ cs)) e (x ∷ word)) same (took_both (place at (c ∷ cs)) (place (at + len_utf8 c) cs) e (c ∷ []) word (took_one at c cs) (word_is word (at + len_utf8 c) cs e next)))
    (λ t next. absurd (none_some e next))

-- the reader of a word
pub word_reads : (word : List ℕ) → Reads (IsWord word) (word_at word)
word_reads word = record {
  found = λ at text v rest h. subst (λ l. word_at word (place at (l ++ rest)) ≡ Some (v, place (at + size l) rest)) (sym h) (ap (λ o. option_map (λ e. (v, e)) o) (word_found word at rest));
  is = λ p r e. mapped (λ (x : Place). (tt, x)) (past_word word p) r e
      (λ x there same. subst (λ z. Spells (IsWord word) p z) same (record { text = word; took = word_is word p.at p.left x there; rule = refl }));
}

-- a longest run stands between a place and the place past it
pub past_is : (p : ℕ → Bool) (here : Place) → Took here (past p here) (front p here.left)
past_is p here = record { there = front_behind p here.left; ends = refl }

-- the place past a run that is the longest
pub past_run : (p : ℕ → Bool) (run rest : List ℕ) (at : ℕ) → IsLongest p run rest → past p (place at (run ++ rest)) ≡ place (at + size run) rest
past_run p run rest at longest = rw (front_of p run rest longest, behind_of p run rest longest) refl

-- the reader of a longest run
pub run_reads : (p : ℕ → Bool) → Reads (IsRun p) (run_at p)
run_reads p = record {
  found = λ at text v rest h. rw (front_of p text rest h.longest, behind_of p text rest h.longest, h.value) refl;
  is = λ here r e. subst (λ z. Spells (IsRun p) here z) (same_Some _ _ e) (record { text = front p here.left; took = past_is p here; rule = record { longest = front_is p here.left; value = refl } });
}
