-- Items of a text, for any grammar on tokens: each is found where it stands, and stands where it is found.
use Rattle.std.proofs.Common.{◌≡◌, ℕ, ◌+◌, ◌<◌, List, [], ◌∷◌, ◌++◌, length, Option, Some, None, option_map, refl, ap, ◌∙◌, sym, subst, append_assoc}
use Rattle.std.proofs.lemmas.Option.{same_Some}
use Rattle.text_cut.specs.Runs.{size, AllPass, is_blank}
use Rattle.text_cut.specs.Place.{Place, place}
use Rattle.text_cut.specs.Rules.{Spells}
use Rattle.text_cut.specs.Reading.{Spelled, texts, ReadsPieces, IgnoresRest}
use Rattle.text_cut.proofs.OptionLaws.{mapped}
use Rattle.script_tokens.specs.Words.{IsComment}
use Rattle.script_tokens.specs.Tokens.{Mark, Tok, spacing, are_some, AsMark}
use Rattle.script_tokens.specs.ReadTokens.{tok_at}
use Rattle.script_tokens.specs.Ahead.{toks_at, end_at}
use Rattle.script_tokens.specs.Lines.{IsBlankLine, past_line, past_blank_line}
use Rattle.script_tokens.specs.Items.{SkipsBlankLines, IsTaken, IsItem, ended, taken_at, or_blank, item_at}
use Rattle.script_tokens.proofs.Ahead.{toks_none, toks_first}
use Rattle.script_tokens.proofs.Tokens.{tok_found, none_at_line_end}
use Rattle.script_tokens.proofs.Lines.{LineFound, line_found, LineIs, line_is, line_some, blank_whole, blank_found, BlankIs, blank_is, blank_some}

-- a comment's `#` is a token
hash_found : (blanks rest : List ℕ) (at : ℕ) → AllPass is_blank blanks
    → tok_at (place at ((blanks ++ 35 ∷ []) ++ rest)) ≡ Some (record { spaced = are_some blanks; kind = Mark 35 (spacing rest) }, place (at + size (blanks ++ 35 ∷ [])) rest)
hash_found blanks rest at are =
    tok_found [] (blanks ++ 35 ∷ []) (record { spaced = are_some blanks; kind = Mark 35 (spacing rest) }) rest at
    (record { blanks = blanks; bare = 35 ∷ []; whole = refl; are_blanks = are; spelling = AsMark 35 refl refl; spaced = refl; kind = refl })

-- a grammar takes nothing of a line without meaning
blank_taken : {I : Type 0} (item_of : List Tok → Option I) → SkipsBlankLines item_of → (blanks comment rest : List ℕ) (at : ℕ) → AllPass is_blank blanks → IsComment comment
    → item_of (toks_at (place at (blanks ++ (comment ++ 10 ∷ rest)))) ≡ None
blank_taken item_of skips blanks [] rest at are is =
    ap item_of (toks_none (place at (blanks ++ 10 ∷ rest)) (none_at_line_end (blanks ++ 10 ∷ rest) at (record { blanks = blanks; more = rest; are_blanks = are; whole = refl }))) ∙ skips.no_tokens
blank_taken item_of skips blanks (c ∷ cs) rest at are is =
    let behind : List ℕ = cs ++ 10 ∷ rest in
    let there : blanks ++ (c ∷ cs ++ 10 ∷ rest) ≡ (blanks ++ 35 ∷ []) ++ behind = ap (λ d. blanks ++ (d ∷ behind)) is.0 ∙ sym (append_assoc blanks (35 ∷ []) behind) in
    ap (λ l. item_of (toks_at (place at l))) there
    ∙ (ap item_of (toks_first (place at ((blanks ++ 35 ∷ []) ++ behind)) _ (hash_found blanks behind at are))
    ∙ skips.comment (are_some blanks) (spacing behind) (toks_at (place (at + size (blanks ++ 35 ∷ [])) behind)))

-- a line without meaning is found
none_found : {I : Type 0} (item_of : List Tok → Option I) → SkipsBlankLines item_of → (text rest : List ℕ) (at : ℕ) → IsBlankLine text → item_at item_of (place at (text ++ rest)) ≡ Some (None, place (at + size text) rest)
none_found item_of skips text rest at is =
    let here : Place = place at (text ++ rest) in
    let taken : item_of (toks_at here) ≡ None = ap (λ l. item_of (toks_at (place at l))) (blank_whole text rest is) ∙ blank_taken item_of skips is.blanks is.comment rest at is.are_blanks is.is in
    ap (λ o. or_blank (ended o (past_line (end_at here))) (past_blank_line here)) taken ∙ ap (λ e. or_blank None e) (blank_found text rest at is)

-- an item is found
some_found : {I : Type 0} (item_of : List Tok → Option I) (text rest : List ℕ) (item : I) (at : ℕ) → IsTaken item_of text item → item_at item_of (place at (text ++ rest)) ≡ Some (Some item, place (at + size text) rest)
some_found item_of text rest item at is =
    let here : Place = place at (text ++ rest) in
    let line : LineFound text is.toks rest at = line_found text is.toks rest at is.line in
    ap (λ o. or_blank (ended o (past_line (end_at here))) (past_blank_line here)) (ap item_of line.toks_are ∙ is.taken)
    ∙ ap (λ e. or_blank (ended (Some item) e) (past_blank_line here)) line.line_ends

-- what is found without an item stands
blank_spells : {I S : Type 0} (state_of : List (Spelled (Option I)) → S) (item_of : S → List Tok → Option I) (before : List (Spelled (Option I))) (p : Place) (r : Option I × Place)
    → option_map (λ e. (None, e)) (past_blank_line p) ≡ Some r → Spells (λ at. IsItem state_of item_of before) p r
blank_spells {I} state_of item_of before p r found = mapped (λ (e : Place). (None, e)) (past_blank_line p) r found
    (λ e there same. let is : BlankIs p e = blank_is p e there in
    subst (λ z. Spells (λ at. IsItem state_of item_of before) p z) same (record { text = is.text; took = is.took; rule = is.line }))

-- what is found stands
item_is : {I S : Type 0} (state_of : List (Spelled (Option I)) → S) (item_of : S → List Tok → Option I) (before : List (Spelled (Option I))) (p : Place) (r : Option I × Place)
    → item_at (item_of (state_of before)) p ≡ Some r → Spells (λ at. IsItem state_of item_of before) p r
item_is {I} state_of item_of before p r found = by_item (item_of (state_of before) (toks_at p)) (past_line (end_at p)) refl refl found
  where
    by_item : (o : Option I) (end : Option Place) → item_of (state_of before) (toks_at p) ≡ o → past_line (end_at p) ≡ end → or_blank (ended o end) (past_blank_line p) ≡ Some r
        → Spells (λ at. IsItem state_of item_of before) p r
    by_item None end taken ends same = blank_spells state_of item_of before p r same
    by_item (Some item) None taken ends same = blank_spells state_of item_of before p r same
    by_item (Some item) (Some e) taken ends same =
        let line : LineIs p e (toks_at p) = line_is p e ends in
        subst (λ z. Spells (λ at. IsItem state_of item_of before) p z) (same_Some _ _ same) (record {
          text = line.text;
          took = line.took;
          rule = record { toks = toks_at p; line = line.line; taken = taken };
        })

-- an item that was taken stands there, whatever else would
pub item_taken : {I : Type 0} (item_of : List Tok → Option I) (p : Place) (r : I × Place) → taken_at item_of p ≡ Some r → item_at item_of p ≡ Some (Some r.0, r.1)
item_taken item_of p r taken = ap (λ o. or_blank o (past_blank_line p)) taken

-- where no item was taken, and no line without meaning stands, nothing stands
pub nothing_there : {I : Type 0} (item_of : List Tok → Option I) (p : Place) → taken_at item_of p ≡ None → past_blank_line p ≡ None → item_at item_of p ≡ None
nothing_there item_of p taken blank = ap (λ o. or_blank o (past_blank_line p)) taken ∙ ap (λ e. or_blank None e) blank

-- a line without meaning that was found stands there, whatever else would
pub blank_there : {I : Type 0} (item_of : List Tok → Option I) → SkipsBlankLines item_of → (p e : Place) → past_blank_line p ≡ Some e → item_at item_of p ≡ Some (None, e)
blank_there {I} item_of skips p e found =
    let is : BlankIs p e = blank_is p e found in
    ap (λ l. item_at item_of (place p.at l)) is.took.there ∙ (none_found item_of skips is.text e.left p.at is.line ∙ ap (λ n. or_blank {I = I} None (Some (place n e.left))) (sym is.took.ends))

module _ {I S : Type 0} (state_of : List (Spelled (Option I)) → S) (item_of : S → List Tok → Option I) (skips : (state : S) → SkipsBlankLines (item_of state)) where
  item_found : (before : List (Spelled (Option I))) (text : List ℕ) (v : Option I) (rest : List ℕ) (at : ℕ) → IsItem state_of item_of before text v rest
      → item_at (item_of (state_of before)) (place at (text ++ rest)) ≡ Some (v, place (at + size text) rest)
  item_found before text None rest at is = none_found (item_of (state_of before)) (skips (state_of before)) text rest at is
  item_found before text (Some item) rest at is = some_found (item_of (state_of before)) text rest item at is

  item_some : (before : List (Spelled (Option I))) (text : List ℕ) (v : Option I) (rest : List ℕ) → IsItem state_of item_of before text v rest → 0 < length text
  item_some before text None rest is = blank_some text is
  item_some before text (Some item) rest is = line_some text is.toks is.line

  -- items are read as the rule says, and only they
  pub items_read : ReadsPieces (IsItem state_of item_of) state_of (λ state. item_at (item_of state))
  items_read = record {
    found = λ before text v rest is. item_found before text v rest (size (texts before)) is;
    is = λ before left r found. item_is state_of item_of before (place (size (texts before)) left) r found;
    some = item_some;
  }

  same_anywhere : (before : List (Spelled (Option I))) (text : List ℕ) (v : Option I) (rest other : List ℕ) → IsItem state_of item_of before text v rest → IsItem state_of item_of before text v other
  same_anywhere before text None rest other is = is
  same_anywhere before text (Some item) rest other is = is

  -- an item is one whatever follows it
  pub items_ignore_rest : IgnoresRest (IsItem state_of item_of)
  items_ignore_rest = record { same = same_anywhere }
