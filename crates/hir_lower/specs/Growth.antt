-- A log of names grows: the laws that captures are asked for.
use Rattle.std.specs.Prelude.{◌≡◌, ℕ, List, [], ◌∷◌, ◌++◌, refl}
use Rattle.std.proofs.Common.{sym, ap, ◌∙◌, subst, append_assoc, append-nil}
use Rattle.hir_fmt.specs.Log.{Entry, Usage, Made}
use Rattle.hir_lower.specs.declared.name_log.NameLog.{NameLog}
use Rattle.hir_lower.specs.Captures.{behind, AreNumbered, number_behind}
use Rattle.hir_lower.specs.NameLog.{entries_of, GrowsLog}

-- entries behind others
numbered_append : (place : ℕ) (entries more : List Entry) → AreNumbered place entries → AreNumbered (number_behind place entries) more → AreNumbered place (entries ++ more)
numbered_append place [] more first second = second
numbered_append place (Usage name span ∷ entries) more first second = numbered_append place entries more first second
numbered_append place (Made name span id ∷ entries) more first second = (first.0, numbered_append (behind place) entries more first.1 second)

-- the index behind all of them
pub number_append : (place : ℕ) (entries more : List Entry) → number_behind (number_behind place entries) more ≡ number_behind place (entries ++ more)
number_append place [] more = refl
number_append place (Usage name span ∷ entries) more = number_append place entries more
number_append place (Made name span id ∷ entries) more = number_append (behind place) entries more

-- nothing more is told
pub grows_self : (a : NameLog) → GrowsLog a a
grows_self a = record { added = []; logged = sym (append-nil (entries_of a)); numbered = tt; next = refl }

-- what is told in two steps
pub grows_on : (a b c : NameLog) → GrowsLog a b → GrowsLog b c → GrowsLog a c
grows_on a b c first second = record {
  added = first.added ++ second.added;
  logged = second.logged ∙ ap (λ l. l ++ second.added) first.logged ∙ append_assoc (entries_of a) first.added second.added;
  numbered = numbered_append a.next first.added second.added first.numbered (subst (λ n. AreNumbered n second.added) first.next second.numbered);
  next = second.next ∙ ap (λ n. number_behind n second.added) first.next ∙ number_append a.next first.added second.added;
}
