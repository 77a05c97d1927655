-- The starts of raw tokens: where one stands it is found, whatever follows it, and what is found stands there.
use Rattle.std.proofs.Common.{◌≡◌, ℕ, zero, suc, ◌+◌, ◌-◌, ◌≤◌, true, cond, nat_eq, nat_le, Bool, List, [], ◌∷◌, ◌++◌, replicate, Some, None, refl, ap, le-leb, ◌∙◌, sym, subst, arith}
use Rattle.std.specs.Option.{option_map}
use Rattle.std.proofs.lemmas.Bool.{eqb-true, leb-true}
use Rattle.std.proofs.lemmas.Option.{option_and_then_some}
use Rattle.text_cut.specs.Runs.{front, size, AllPass}
use Rattle.text_cut.specs.Place.{Place, place, past, Took}
use Rattle.text_cut.specs.Rules.{past_word}
use Rattle.text_cut.proofs.OptionLaws.{mapped, chosen, none_some}
use Rattle.text_cut.proofs.Rules.{took_both, past_is, word_is, past_run}
use Rattle.text_cut.proofs.Runs.{front_is}
use Rattle.syn_trees.specs.ReadString.{start_between, start_at, raw_start}

abbrev is_mark : ℕ → Bool
is_mark c = nat_eq c 35

marks_pass : (marks : ℕ) → AllPass is_mark (replicate marks 35)
marks_pass zero = tt
marks_pass (suc marks) = (refl, marks_pass marks)

pub marks_size : (marks : ℕ) → size (replicate marks 35) ≡ marks
marks_size zero = refl
marks_size (suc marks) = omega (arith, marks_size marks)

one_more : (n : ℕ) → 1 + n ≡ suc n
one_more n = omega arith

-- marks are as many as they take bytes
marks_same : (run : List ℕ) → AllPass is_mark run → replicate (size run) 35 ≡ run
marks_same [] are = refl
marks_same (c ∷ run) are = subst (λ d. replicate (size (d ∷ run)) 35 ≡ d ∷ run) (sym (eqb-true c 35 are.0)) (ap (λ (n : ℕ). replicate n 35) (one_more (size run)) ∙ ap (λ l. 35 ∷ l) (marks_same run are.1))

-- the place past so many marks
past_marks : (marks at : ℕ) (rest : List ℕ) → past is_mark (place at (replicate marks 35 ++ (34 ∷ rest))) ≡ place (at + marks) (34 ∷ rest)
past_marks marks at rest =
    past_run is_mark (replicate marks 35) (34 ∷ rest) at (record { pass = marks_pass marks; stops = refl }) ∙ ap (λ n. place (at + n) (34 ∷ rest)) (marks_size marks)

few_marks : (marks other : ℕ) → other ≡ marks → marks ≤ 255 → nat_le other 255 ≡ true
few_marks marks other same few = le-leb other 255 (omega (arith, same, few))

-- a start is found behind its `r`
pub start_found : (marks at : ℕ) (more : List ℕ) → marks ≤ 255 → start_at (place at (replicate marks 35 ++ (34 ∷ more))) ≡ Some (marks, place ((at + marks) + 1) more)
start_found marks at more few =
    let count : (at + marks) - at ≡ marks = omega arith in
    ap (λ p. start_between (place at (replicate marks 35 ++ (34 ∷ more))) p) (past_marks marks at more)
    ∙ (ap (λ b. cond b (Some ((at + marks) - at, place ((at + marks) + 1) more)) None) (few_marks marks ((at + marks) - at) count few)
    ∙ ap (λ n. Some (n, place ((at + marks) + 1) more)) count)

-- a start of so many `#` stands between two places
pub record StartIs (p : Place) (start : ℕ × Place) : Type 0 where
  pub few : start.0 ≤ 255
  pub took : Took p start.1 (114 ∷ (replicate start.0 35 ++ 34 ∷ []))

-- what is found behind an `r` is a start
behind_letter : (p b : Place) (start : ℕ × Place) → Took p b (114 ∷ []) → start_at b ≡ Some start → StartIs p start
behind_letter p b start letter there =
    let m : Place = past is_mark b in
    let run : List ℕ = front is_mark b.left in
    let count : m.at - b.at ≡ size run = omega arith in
    let same : replicate (m.at - b.at) 35 ≡ run = ap (λ n. replicate n 35) count ∙ marks_same run (front_is is_mark b.left).pass in
    chosen (nat_le (m.at - b.at) 255) (option_map (λ q. (m.at - b.at, q)) (past_word (34 ∷ []) m)) None (Some start) there
    (λ few behind. mapped (λ (q : Place). (m.at - b.at, q)) (past_word (34 ∷ []) m) start behind
    (λ q quote is. subst (λ s. StartIs p s) is (record {
      few = leb-true (m.at - b.at) 255 few;
      took = took_both p b q (114 ∷ []) (replicate (m.at - b.at) 35 ++ 34 ∷ []) letter
          (subst (λ l. Took b q (l ++ 34 ∷ [])) (sym same) (took_both b m q run (34 ∷ []) (past_is is_mark b) (word_is (34 ∷ []) m.at m.left q quote)));
    })))
    (λ many none. absurd (none_some start none))

-- what is found is a start
pub raw_start_is : (p : Place) (start : ℕ × Place) → raw_start p ≡ Some start → StartIs p start
raw_start_is p start there = option_and_then_some start_at (past_word (114 ∷ []) p) start there
    (λ b letter is. behind_letter p b start (word_is (114 ∷ []) p.at p.left b letter) is)
