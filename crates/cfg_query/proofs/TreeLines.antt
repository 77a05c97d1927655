-- A line is token trees exactly where the reader finds them, and behind them the end of the text.
use Rattle.std.proofs.Common.{◌≡◌, ℕ, ◌+◌, List, [], ◌∷◌, ◌++◌, Option, Some, None, refl, ap, ◌∙◌, sym, subst, append-nil, length, ◌≢◌, ◌<◌, arith}
use Rattle.std.proofs.lemmas.Option.{same_Some, none-some}
use Rattle.std.specs.Str.{IsUtf8, chars}
use Rattle.text_cut.specs.Runs.{size}
use Rattle.text_cut.specs.Place.{Place, place}
use Rattle.text_cut.proofs.Parts.{chars_size}
use Rattle.text_cut.proofs.Sizes.{size_append, size_some}
use Rattle.syn_trees.specs.declared.token_tree.TokenTree.{TokenTree}
use Rattle.script_tokens.specs.Tokens.{Tok}
use Rattle.script_tokens.specs.Ahead.{toks_at, end_at}
use Rattle.script_tokens.specs.Lines.{IsLine, past_line}
use Rattle.script_tokens.specs.Readers.{◌>>=◌, whole, whole_by}
use Rattle.script_tokens.specs.Items.{ended, taken_at}
use Rattle.script_tokens.proofs.Lines.{LineFound, line_found, LineIs, line_is}
use Rattle.script_grammar.specs.Trees.{trees}
use Rattle.cfg_query.specs.Predicate.{AreTrees, TellsTrees}

-- as many trees as stand there, as what a grammar reads
abbrev pub trees_of : List Tok → Option (List TokenTree × List Tok)
trees_of toks = Some (trees toks)

-- trees that are all of a line are found
found : (line : List ℕ) (parts : List TokenTree) → AreTrees line parts → taken_at (whole_by trees_of) (place 0 line) ≡ Some (parts, place (0 + size line) [])
found line parts are =
    let found : LineFound line are.toks [] 0 = line_found line are.toks [] 0 are.is_line in
    ap (λ l. taken_at (whole_by trees_of) (place 0 l)) (sym (append-nil line))
    ∙ (ap (λ t. ended (trees_of t >>= λ r. whole r) (past_line (end_at (place 0 (line ++ []))))) found.toks_are
    ∙ (ap (λ r. ended (whole r) (past_line (end_at (place 0 (line ++ []))))) are.all
    ∙ ap (λ e. ended (Some parts) e) found.line_ends))

-- where nothing is left in size, nothing is left
none_left : (left : List ℕ) → size left ≡ 0 → left ≡ []
none_left [] same = refl
none_left (c ∷ left) same = absurd (omega (arith, same, size_some (c ∷ left) (some left)))
  where
    some : (left : List ℕ) → 0 < length (c ∷ left)
    some left = omega arith

-- trees that are found, with the end of the text behind their line, are all of it
is_all : (line : List ℕ) (parts : List TokenTree) (e : Place) → taken_at (whole_by trees_of) (place 0 line) ≡ Some (parts, e) → e.at ≡ size line → AreTrees line parts
is_all line parts e found there = by_read (trees toks).0 (trees toks).1 (past_line (end_at here)) refl refl found
  where
    here : Place
    here = place 0 line

    toks : List Tok
    toks = toks_at here

    by_read : (read : List TokenTree) (left : List Tok) (end : Option Place) → ◌≡◌ {A = List TokenTree × List Tok} (trees toks) (read, left) → past_line (end_at here) ≡ end
        → ended (whole {V = List TokenTree} (read, left)) end ≡ Some (parts, e) → AreTrees line parts
    by_read read [] None is ends same = absurd (none-some _ same)
    by_read read [] (Some f) is ends same =
        let both : ◌≡◌ {A = List TokenTree × Place} (read, f) (parts, e) = same_Some _ _ same in
        let stands : LineIs here f toks = line_is here f ends in
        let at : f.at ≡ size line = ap (λ (r : List TokenTree × Place). r.1.at) both ∙ there in
        let empty : f.left ≡ [] = none_left f.left (omega (arith, at, stands.took.ends, ap size stands.took.there, size_append stands.text f.left)) in
        let whole_line : line ≡ stands.text = stands.took.there ∙ (ap (λ l. stands.text ++ l) empty ∙ append-nil stands.text) in
        record {
          toks = toks;
          is_line = subst (λ l. IsLine l toks) (sym whole_line) stands.line;
          all = is ∙ ap (λ (t : List TokenTree). (t, [])) (ap (λ (r : List TokenTree × Place). r.0) both);
        }
    by_read read (tok ∷ left) None is ends same = absurd (none-some _ same)
    by_read read (tok ∷ left) (Some f) is ends same = absurd (none-some _ same)

module _ (text : List ℕ) (utf8 : IsUtf8 text) (here : Place) (begins : here ≡ place 0 (chars text)) where
  there : {r : Option (List TokenTree × Place)} → r ≡ taken_at (whole_by trees_of) here → r ≡ taken_at (whole_by trees_of) (place 0 (chars text))
  there told = told ∙ ap (taken_at (whole_by trees_of)) begins

  -- where nothing is found, it is no token trees
  pub none_told : None ≡ taken_at (whole_by trees_of) here → TellsTrees (chars text) None
  none_told none parts are = none-some _ (there none ∙ found (chars text) parts are)

  -- where something follows the trees' line, it is none either
  pub more_told : (read : List TokenTree) (e : Place) → Some (read, e) ≡ taken_at (whole_by trees_of) here → e.at ≢ length text → TellsTrees (chars text) None
  more_told read e told some parts are =
      some (omega (arith, ap (λ (r : List TokenTree × Place). r.1.at) (same_Some _ _ (there told ∙ found (chars text) parts are)), chars_size text utf8))

  -- where nothing follows it, it is these
  pub all_told : (read : List TokenTree) (e : Place) → Some (read, e) ≡ taken_at (whole_by trees_of) here → e.at ≡ length text → AreTrees (chars text) read
  all_told read e told last = is_all (chars text) read e (sym (there told)) (last ∙ sym (chars_size text utf8))
