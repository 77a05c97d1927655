-- Lines: where one stands it is found, and what is found stands there; a text is at most one list of tokens.
use Rattle.std.proofs.Common.{◌≡◌, ℕ, ◌+◌, ◌<◌, true, false, Bool, ◌==◌, cond, List, [], ◌∷◌, ◌++◌, length, Some, refl, ap, ◌∙◌, sym, subst, append_assoc, length-append, arith}
use Rattle.std.proofs.lemmas.Bool.Decides.{nat_tests}
use Rattle.text_cut.specs.Runs.{starts, front, size, AllPass, is_blank}
use Rattle.text_cut.specs.Place.{Place, place, past, Took}
use Rattle.text_cut.specs.Reading.{texts, items, AreSpelled}
use Rattle.text_cut.specs.Many.{many_at, ManyAre}
use Rattle.text_cut.proofs.Many.{many_found, many_are}
use Rattle.text_cut.proofs.Rules.{took_none, took_both, word_found, word_is, past_is, past_run}
use Rattle.text_cut.proofs.Runs.{front_is}
use Rattle.text_cut.proofs.Sizes.{size_append}
use Rattle.script_tokens.specs.Words.{is_in_line, IsComment}
use Rattle.script_tokens.specs.Tokens.{Tok, IsTok}
use Rattle.script_tokens.specs.ReadTokens.{tok_at}
use Rattle.script_tokens.specs.Ahead.{toks_at, end_at}
use Rattle.script_tokens.specs.Lines.{IsLine, IsBlankLine, past_feed, past_line, past_comment, past_blank_line}
use Rattle.script_tokens.proofs.Tokens.{toks_read, toks_ignore_front, none_at_line_end}
use Rattle.script_tokens.proofs.Before.{toks_before}

-- the tokens of a line, the place behind them, and the place behind the line
pub record LineFound (text : List ℕ) (toks : List Tok) (rest : List ℕ) (at : ℕ) : Type 0 where
  pub toks_are : toks_at (place at (text ++ rest)) ≡ toks
  pub line_ends : past_line (end_at (place at (text ++ rest))) ≡ Some (place (at + size text) rest)

line_whole : (text rest : List ℕ) (toks : List Tok) → (is : IsLine text toks) → text ++ rest ≡ texts is.spelled ++ (is.after ++ 10 ∷ rest)
line_whole text rest toks is =
    ap (λ l. l ++ rest) is.whole ∙ (append_assoc (texts is.spelled) (is.after ++ 10 ∷ []) rest ∙ ap (λ l. texts is.spelled ++ l) (append_assoc is.after (10 ∷ []) rest))

many_line : (text : List ℕ) (toks : List Tok) (rest : List ℕ) (at : ℕ) → (is : IsLine text toks) → many_at tok_at (place at (text ++ rest)) ≡ (items is.spelled, place (at + size (texts is.spelled)) (is.after ++ 10 ∷ rest))
many_line text toks rest at is =
    ap (λ l. many_at tok_at (place at l)) (line_whole text rest toks is)
    ∙ many_found IsTok toks_ignore_front tok_at toks_read is.spelled (is.after ++ 10 ∷ rest) at
    (toks_before [] is.spelled is.after [] rest is.are_blanks is.are)
    (λ n. none_at_line_end (is.after ++ 10 ∷ rest) n (record { blanks = is.after; more = rest; are_blanks = is.are_blanks; whole = refl }))

-- blanks and a line feed are passed
pub feed_found : (blanks rest : List ℕ) (at : ℕ) → AllPass is_blank blanks → past_line (place at (blanks ++ 10 ∷ rest)) ≡ Some (place ((at + size blanks) + size (10 ∷ [])) rest)
feed_found blanks rest at are =
    ap past_feed (past_run is_blank blanks (10 ∷ rest) at (record { pass = are; stops = refl })) ∙ word_found (10 ∷ []) (at + size blanks) rest

-- a line is found, whatever follows it
pub line_found : (text : List ℕ) (toks : List Tok) (rest : List ℕ) (at : ℕ) → IsLine text toks → LineFound text toks rest at
unfolding toks_at end_at
line_found text toks rest at is =
    let many = many_line text toks rest at is in
    record {
      toks_are = ap (λ (m : List Tok × Place). m.0) many ∙ sym is.values;
      line_ends = ap (λ (m : List Tok × Place). past_line m.1) many
          ∙ (feed_found is.after rest (at + size (texts is.spelled)) is.are_blanks
          ∙ ap (λ n. Some (place n rest)) (omega (arith, ap size is.whole, size_append (texts is.spelled) (is.after ++ 10 ∷ []), size_append is.after (10 ∷ []))));
    }

-- a text is at most one list of tokens
pub one_line : (text : List ℕ) (toks others : List Tok) → IsLine text toks → IsLine text others → toks ≡ others
one_line text toks others is also = sym (line_found text toks [] 0 is).toks_are ∙ (line_found text others [] 0 also).toks_are

-- a line stands between two places
pub record LineIs (here e : Place) (toks : List Tok) : Type 0 where
  pub text : List ℕ
  pub took : Took here e text
  pub line : IsLine text toks

-- where tokens are found in front of the end of a line, that line stands
pub line_is : (here e : Place) → past_line (end_at here) ≡ Some e → LineIs here e (toks_at here)
unfolding toks_at end_at
line_is here e found =
    let are : ManyAre IsTok here (many_at tok_at here) = many_are IsTok toks_ignore_front tok_at toks_read here in
    let stop : Place = (many_at tok_at here).1 in
    let blanks : List ℕ = front is_blank stop.left in
    let feed : Took (past is_blank stop) e (10 ∷ []) = word_is (10 ∷ []) (past is_blank stop).at (past is_blank stop).left e found in
    let behind : stop.left ≡ blanks ++ 10 ∷ e.left = (past_is is_blank stop).there ∙ ap (λ l. blanks ++ l) feed.there in
    record {
      text = texts are.spelled ++ (blanks ++ 10 ∷ []);
      took = took_both here stop e (texts are.spelled) (blanks ++ 10 ∷ []) are.took (took_both stop (past is_blank stop) e blanks (10 ∷ []) (past_is is_blank stop) feed);
      line = record {
        spelled = are.spelled;
        after = blanks;
        whole = refl;
        are_blanks = (front_is is_blank stop.left).pass;
        are = toks_before [] are.spelled blanks e.left [] (front_is is_blank stop.left).pass (subst (λ l. AreSpelled IsTok [] are.spelled l) behind are.are);
        values = are.values;
      };
    }

-- no line is empty
pub line_some : (text : List ℕ) (toks : List Tok) → IsLine text toks → 0 < length text
line_some text toks is = omega (arith, ap length is.whole, length-append (texts is.spelled) (is.after ++ 10 ∷ []), length-append is.after (10 ∷ []))

-- a comment's first character goes on with its line
mark_in_line : (c : ℕ) → c ≡ 35 → is_in_line c ≡ true
mark_in_line c e = grind (arith, nat_tests)

-- nothing, or a comment, is passed
comment_found : (comment rest : List ℕ) (at : ℕ) → IsComment comment → past_comment (place at (comment ++ 10 ∷ rest)) ≡ place (at + size comment) (10 ∷ rest)
comment_found [] rest at is = ap (λ n. place n (10 ∷ rest)) (number at)
  where
    number : (n : ℕ) → n ≡ n + 0
    number n = omega arith
comment_found (c ∷ cs) rest at is =
    let here = place at (c ∷ (cs ++ 10 ∷ rest)) in
    ap (λ b. cond b (past is_in_line here) here) (marked c is.0) ∙ past_run is_in_line (c ∷ cs) (10 ∷ rest) at (record { pass = (mark_in_line c is.0, is.1); stops = refl })
  where
    marked : (c : ℕ) → c ≡ 35 → (c == 35) ≡ true
    marked c e = grind (arith, nat_tests)

-- nothing, or a comment, stands in front of the place behind it
record CommentIs (here : Place) : Type 0 where
  text : List ℕ
  is : IsComment text
  took : Took here (past_comment here) text

front_comment : (cs : List ℕ) → starts (λ c. c == 35) cs ≡ true → IsComment (front is_in_line cs)
front_comment [] e = tt
front_comment (c ∷ cs) e =
    let mark : c ≡ 35 = grind (arith, nat_tests) in
    rw (mark_in_line c mark) (mark, (front_is is_in_line cs).pass)

comment_is : (here : Place) → CommentIs here
comment_is here = by_test (starts (λ c. c == 35) here.left) refl
  where
    by_test : (t : Bool) → starts (λ c. c == 35) here.left ≡ t → CommentIs here
    by_test true e = record {
      text = front is_in_line here.left;
      is = front_comment here.left e;
      took = subst (λ p. Took here p (front is_in_line here.left)) (sym (ap (λ b. cond b (past is_in_line here) here) e)) (past_is is_in_line here);
    }
    by_test false e = record { text = []; is = tt; took = subst (λ p. Took here p []) (sym (ap (λ b. cond b (past is_in_line here) here) e)) (took_none here) }

comment_begins : (comment rest : List ℕ) → IsComment comment → starts is_blank (comment ++ 10 ∷ rest) ≡ false
comment_begins [] rest is = refl
comment_begins (c ∷ comment) rest is = ap is_blank is.0

-- a line without meaning in front of what follows it
pub blank_whole : (text rest : List ℕ) → (is : IsBlankLine text) → text ++ rest ≡ is.blanks ++ (is.comment ++ 10 ∷ rest)
blank_whole text rest is =
    ap (λ l. l ++ rest) is.whole ∙ (append_assoc is.blanks (is.comment ++ 10 ∷ []) rest ∙ ap (λ l. is.blanks ++ l) (append_assoc is.comment (10 ∷ []) rest))

-- a line without meaning is found
pub blank_found : (text rest : List ℕ) (at : ℕ) → IsBlankLine text → past_blank_line (place at (text ++ rest)) ≡ Some (place (at + size text) rest)
blank_found text rest at is =
    ap (λ l. past_blank_line (place at l)) (blank_whole text rest is)
    ∙ (ap (λ p. past_feed (past_comment p)) (past_run is_blank is.blanks (is.comment ++ 10 ∷ rest) at (record { pass = is.are_blanks; stops = comment_begins is.comment rest is.is }))
    ∙ (ap past_feed (comment_found is.comment rest (at + size is.blanks) is.is)
    ∙ (word_found (10 ∷ []) ((at + size is.blanks) + size is.comment) rest
    ∙ ap (λ n. Some (place n rest)) (omega (arith, ap size is.whole, size_append is.blanks (is.comment ++ 10 ∷ []), size_append is.comment (10 ∷ []))))))

-- a line without meaning stands between two places
pub record BlankIs (here e : Place) : Type 0 where
  pub text : List ℕ
  pub took : Took here e text
  pub line : IsBlankLine text

-- where one is found, it stands
pub blank_is : (here e : Place) → past_blank_line here ≡ Some e → BlankIs here e
blank_is here e found =
    let begin = past is_blank here in
    let comment : CommentIs begin = comment_is begin in
    let stop = past_comment begin in
    record {
      text = front is_blank here.left ++ (comment.text ++ 10 ∷ []);
      took = took_both here begin e (front is_blank here.left) (comment.text ++ 10 ∷ []) (past_is is_blank here)
          (took_both begin stop e comment.text (10 ∷ []) comment.took (word_is (10 ∷ []) stop.at stop.left e found));
      line = record { blanks = front is_blank here.left; comment = comment.text; whole = refl; are_blanks = (front_is is_blank here.left).pass; is = comment.is };
    }

-- neither is such a line empty
pub blank_some : (text : List ℕ) → IsBlankLine text → 0 < length text
blank_some text is = omega (arith, ap length is.whole, length-append is.blanks (is.comment ++ 10 ∷ []), length-append is.comment (10 ∷ []))
