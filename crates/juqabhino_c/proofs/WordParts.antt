-- The words of a text that is not empty are its parts.
use Rattle.std.proofs.Common.{◌≡◌, ◌≢◌, ◌≤◌, ℕ, ◌==◌, List, [], ◌∷◌, length, map, take, Bor, refl, ap, ◌∙◌, sym}
use Rattle.std.proofs.lemmas.List.{take_all}
use Rattle.std.specs.List.{slice_split}
use Rattle.juqabhino_c.specs.Words.{words_of}

pub words_are : (text : List ℕ) → length text ≢ 0 → words_of text ≡ slice_split (λ c. c == 32) text
words_are [] some = absurd (some refl)
words_are (b ∷ text) some = refl

-- the words that were pushed are all the parts
pub all_pushed : (text : List ℕ) (words : List (List ℕ)) (parts : List (Bor (List ℕ))) (n : ℕ) → length text ≢ 0 → map (λ x. x.now) parts ≡ slice_split (λ c. c == 32) text
    → words ≡ map (λ x. x.now) (take n parts) → length parts ≤ n → words ≡ words_of text
all_pushed text words parts n some split pushed all = pushed ∙ (ap (map (λ x. x.now)) (take_all n parts all) ∙ (split ∙ sym (words_are text some)))
