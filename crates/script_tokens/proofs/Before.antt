-- Tokens in front of the end of a line are tokens whatever follows that.
use Rattle.std.proofs.Common.{◌≡◌, ℕ, List, [], ◌∷◌, ◌++◌, replicate, refl, ap, cond, ◌∙◌, append_assoc}
use Rattle.text_cut.specs.Runs.{AllPass, is_blank}
use Rattle.text_cut.specs.Reading.{Spelled, texts, AreSpelled}
use Rattle.syn_trees.specs.declared.token_tree.Spacing.TheVariants.{Alone, Joint}
use Rattle.script_tokens.specs.Words.{continues_word}
use Rattle.script_tokens.proofs.RawStarts.{InFront, raw_in, starts_before}
use Rattle.syn_trees.specs.StringToken.{OpensRaw}
use Rattle.script_tokens.specs.Tokens.{Kind, Mark, Tok, is_mark, Spelling, AsWord, AsNumeral, AsText, AsMark, Opening, Closing, kind_by, IsTok}

opens_before : (xs after more other : List ℕ) → AllPass is_blank after → OpensRaw (xs ++ (after ++ 10 ∷ more)) → OpensRaw (xs ++ (after ++ 10 ∷ other))
opens_before xs after more other are opens =
    let front : InFront xs opens.marks = raw_in xs after more opens.marks opens.more are opens.is in
    record {
      marks = opens.marks;
      more = front.rest ++ (after ++ 10 ∷ other);
      few = opens.few;
      is = ap (λ l. l ++ (after ++ 10 ∷ other)) front.is ∙ append_assoc (replicate opens.marks 35) (34 ∷ front.rest) (after ++ 10 ∷ other);
    }

-- the same token, where something else follows
record SpelledAs (text other : List ℕ) (kind : Kind) : Type 0 where
  spelling : Spelling text other
  same : kind ≡ kind_by spelling

spelling_before : (text xs after more other : List ℕ) → AllPass is_blank after → (spelling : Spelling text (xs ++ (after ++ 10 ∷ more))) → SpelledAs text (xs ++ (after ++ 10 ∷ other)) (kind_by spelling)
spelling_before text xs after more other are (AsWord is) = record {
  spelling = AsWord (record { word = is.word; ends = starts_before continues_word xs after other more ∙ is.ends; no_raw = λ e opens. is.no_raw e (opens_before xs after other more are opens) });
  same = refl;
}
spelling_before text xs after more other are (AsNumeral is) = record {
  spelling = AsNumeral (record { digit = is.digit; more = is.more; whole = is.whole; is_digit = is.is_digit; longest = record { pass = is.longest.pass; stops = starts_before continues_word xs after other more ∙ is.longest.stops } });
  same = refl;
}
spelling_before text xs after more other are (AsText inside is) = record { spelling = AsText inside is; same = refl }
spelling_before text xs after more other are (AsMark c is mark) = record { spelling = AsMark c is mark; same = ap (λ b. Mark c (cond b Joint Alone)) (starts_before is_mark xs after more other) }
spelling_before text xs after more other are (Opening k is) = record { spelling = Opening k is; same = refl }
spelling_before text xs after more other are (Closing k is) = record { spelling = Closing k is; same = refl }

tok_before : (front : List (Spelled Tok)) (text : List ℕ) (tok : Tok) (xs after more other : List ℕ) → AllPass is_blank after → IsTok front text tok (xs ++ (after ++ 10 ∷ more)) → IsTok front text tok (xs ++ (after ++ 10 ∷ other))
tok_before front text tok xs after more other are is =
    let there : SpelledAs is.bare (xs ++ (after ++ 10 ∷ other)) (kind_by is.spelling) = spelling_before is.bare xs after more other are is.spelling in
    record { blanks = is.blanks; bare = is.bare; whole = is.whole; are_blanks = is.are_blanks; spelling = there.spelling; spaced = is.spaced; kind = is.kind ∙ there.same }

pub toks_before : (front ss : List (Spelled Tok)) (after more other : List ℕ) → AllPass is_blank after → AreSpelled IsTok front ss (after ++ 10 ∷ more) → AreSpelled IsTok front ss (after ++ 10 ∷ other)
toks_before front [] after more other blanks are = tt
toks_before front (s ∷ ss) after more other blanks are =
    (tok_before front s.text s.item (texts ss) after more other blanks are.0, toks_before (front ++ s ∷ []) ss after more other blanks are.1)
