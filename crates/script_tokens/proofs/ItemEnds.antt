-- What a grammar read of a line, in front of the line's end or of something else.
use Rattle.std.proofs.Common.{◌≡◌, List, [], ◌∷◌, Option, Some, None, refl, ap, ◌∙◌, sym}
use Rattle.text_cut.specs.Place.{Place}
use Rattle.text_cut.specs.Seen.{seen}
use Rattle.text_cut.specs.declared.cursor.Cursor.{Cursor}
use Rattle.text_cut.proofs.OptionLaws.{none_some}
use Rattle.script_tokens.specs.Tokens.{Tok}
use Rattle.script_tokens.specs.Ahead.{ahead, end}
use Rattle.script_tokens.specs.Lines.{past_line, line_ended}
use Rattle.script_tokens.specs.Readers.{◌>>=◌, whole, whole_by}
use Rattle.script_tokens.specs.Found.{Stands}
use Rattle.script_tokens.specs.Items.{ended, taken_at}

-- what stands at a cursor, by what a grammar makes of its tokens and by the end of its line
by_parts : {I : Type 0} (read : List Tok → Option (I × List Tok)) (here : Cursor) (taken : Option (I × List Tok)) (stop : Place) → read (ahead here) ≡ taken → end here ≡ stop
    → taken_at (whole_by read) (seen here) ≡ ended (taken >>= λ r. whole r) (past_line stop)
by_parts read here taken stop found same =
    ap (λ o. ended (o >>= λ r. whole r) (past_line (end here))) found ∙ ap (λ e. ended (taken >>= λ r. whole r) (past_line e)) same

-- nothing was read
pub item_none : {I : Type 0} (read : List Tok → Option (I × List Tok)) (here : Cursor) → read (ahead here) ≡ None → taken_at (whole_by read) (seen here) ≡ None
item_none read here none = by_parts read here None (end here) none refl

-- an item was read, and its line ends behind it
pub item_ended : {I : Type 0} (read : List Tok → Option (I × List Tok)) (here after : Cursor) (item : I) (e : Place) → Stands read here item after → Some e ≡ line_ended (ahead after) (end after) → taken_at (whole_by read) (seen here) ≡ Some (item, e)
item_ended {I} read here after item e stands ends = by_parts read here (Some (item, ahead after)) (end after) stands.is (sym stands.same_line) ∙ by_left (ahead after) ends
  where
    by_left : (left : List Tok) → Some e ≡ line_ended left (end after) → ended (whole {V = I} (item, left)) (past_line (end after)) ≡ Some (item, e)
    by_left [] ends = ap (λ o. ended (Some item) o) (sym ends)
    by_left (tok ∷ left) ends = absurd (none_some e (sym ends))

-- an item was read, and its line does not end behind it
pub item_goes_on : {I : Type 0} (read : List Tok → Option (I × List Tok)) (here after : Cursor) (item : I) → Stands read here item after → None ≡ line_ended (ahead after) (end after) → taken_at (whole_by read) (seen here) ≡ None
item_goes_on {I} read here after item stands ends = by_parts read here (Some (item, ahead after)) (end after) stands.is (sym stands.same_line) ∙ by_left (ahead after) ends
  where
    by_left : (left : List Tok) → None ≡ line_ended left (end after) → ended (whole {V = I} (item, left)) (past_line (end after)) ≡ None
    by_left [] ends = ap (λ o. ended (Some item) o) (sym ends)
    by_left (tok ∷ left) ends = refl

pub ruleset ends = (item_none, item_ended, item_goes_on)
