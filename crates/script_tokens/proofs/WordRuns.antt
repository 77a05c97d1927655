-- The text of a run of characters.
use Rattle.std.proofs.Common.{◌≡◌, ℕ, Bool, List, ap, ◌∙◌, sym, subst}
use Rattle.std.specs.Str.{IsUtf8, chars, encode_utf8_all}
use Rattle.std.proofs.lemmas.Str.{encodes-chars}
use Rattle.text_cut.specs.Runs.{front}
use Rattle.text_cut.specs.Place.{Place, past, Took, IsBehind}
use Rattle.text_cut.proofs.Rules.{past_is, took_same}

-- the end of a run is behind its begin
pub run_behind : (p : ℕ → Bool) (here end : Place) → end ≡ past p here → IsBehind here end
run_behind p here end same = record { text = front p here.left; took = subst (λ e. Took here e (front p here.left)) (sym same) (past_is p here) }

-- the bytes of a run
pub run_bytes : (p : ℕ → Bool) (here end : Place) (text : List ℕ) → IsUtf8 text → end ≡ past p here → Took here end (chars text) → text ≡ encode_utf8_all (front p here.left)
run_bytes p here end text utf8 same took =
    sym (encodes-chars text utf8) ∙ ap (λ l. encode_utf8_all l) (took_same here end (chars text) (front p here.left) took (subst (λ e. Took here e (front p here.left)) (sym same) (past_is p here)))
