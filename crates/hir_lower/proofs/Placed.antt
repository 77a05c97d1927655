-- The expressions of names are placed, one behind the other.
use Rattle.std.proofs.Common.{◌≡◌, ℕ, ◌+◌, ◌≤◌, List, [], ◌∷◌, ◌++◌, length, refl, ap, ◌∙◌, sym, subst, arith}
use Rattle.sym_core.specs.declared.files.AstPtr.{AstPtr}
use Rattle.hir_store.proofs.Grown.{longer}
use Rattle.hir_fmt.specs.Log.{Entry, Usage, Made}
use Rattle.hir_build.specs.Frame.{Frame}
use Rattle.hir_build.specs.Building.{Builds, Outgrows}
use Rattle.hir_build.specs.Captures.{capture_origin}
use Rattle.hir_build.specs.Placed.{Placed}
use Rattle.hir_build.proofs.Builds.{builds_none, builds_then, builds_within, outgrows_later}
use Rattle.hir_build.proofs.Placed.{placed_later}
use Rattle.hir_store.specs.Tree.{Path}
use Rattle.std.specs.Prelude.{None}
use Rattle.hir_lower.specs.Captures.{made_count, source_in, AreMade, AreNumbered, number_behind, next_index, Places}
use Rattle.hir_lower.specs.Growth.{number_append}
use Rattle.hir_lower.proofs.Entries.{made_append, numbered_front, numbered_behind}

-- what was made stays so in a builder that built more
pub made_later : (old new : Frame) (template : AstPtr) (from : ℕ) (most lets : ℕ) (entries : List Entry) → Builds old new most lets → AreMade old template from entries → AreMade new template from entries
made_later old new template from most lets [] built made = tt
made_later old new template from most lets (Usage name span ∷ entries) built made = made_later old new template from most lets entries built made
made_later old new template from most lets (Made name span id ∷ entries) built made = (
  record {
    placed = subst (λ file. Placed new.store id (Path name) (capture_origin file None (source_in template span) ∷ [])) (sym built.file) (placed_later old.store new.store built.grows id _ _ made.0.placed);
    later = made.0.later;
  },
  made_later old new template from most lets entries built made.1,
)

-- what stands behind a place stands behind one in front of it
made_from : (frame : Frame) (template : AstPtr) (from less : ℕ) (entries : List Entry) → less ≤ from → AreMade frame template from entries → AreMade frame template less entries
made_from frame template from less [] le made = tt
made_from frame template from less (Usage name span ∷ entries) le made = made_from frame template from less entries le made
made_from frame template from less (Made name span id ∷ entries) le made = (record { placed = made.0.placed; later = omega (arith, le, made.0.later) }, made_from frame template from less entries le made.1)

both_made : (frame : Frame) (template : AstPtr) (from : ℕ) (entries more : List Entry) → AreMade frame template from entries → AreMade frame template from more → AreMade frame template from (entries ++ more)
both_made frame template from [] more first second = second
both_made frame template from (Usage name span ∷ entries) more first second = both_made frame template from entries more first second
both_made frame template from (Made name span id ∷ entries) more first second = (first.0, both_made frame template from entries more first.1 second)

pub places_none : (template : AstPtr) (frame : Frame) → Places template frame [] frame
places_none template frame = record { made = tt; next = refl; builds = builds_none frame }

-- two steps, one behind the other
pub places_then : {template : AstPtr} {a b c : Frame} {entries more : List Entry} → Places template a entries b → Places template b more c → Places template a (entries ++ more) c
places_then {template} {a} {b} {c} {entries} {more} first second = record {
  made = both_made c template (length a.store.exprs) entries more
      (made_later b c template (length a.store.exprs) (made_count more) 0 entries second.builds first.made)
      (made_from c template (length b.store.exprs) (length a.store.exprs) more (longer a.store b.store first.builds.grows) second.made);
  next = second.next ∙ ap (λ n. number_behind n more) first.next ∙ number_append _ entries more;
  builds = subst (λ n. Builds a c n 0) (sym (made_append entries more)) (builds_then first.builds second.builds);
}

-- one more entry, with entries behind it
module _ {template : AstPtr} {a b : Frame} {entries all : List Entry} (entry : Entry) (rest : List Entry) (around : all ≡ (entries ++ entry ∷ []) ++ rest) (first : Places template a entries b) where
  pub numbered_next : AreNumbered (next_index a) all → AreNumbered (next_index b) (entry ∷ [])
  numbered_next numbered =
      let front : AreNumbered (next_index a) (entries ++ entry ∷ []) = numbered_front (next_index a) (entries ++ entry ∷ []) rest (subst (λ es. AreNumbered (next_index a) es) around numbered) in
      subst (λ n. AreNumbered n (entry ∷ [])) (sym first.next) (numbered_behind (next_index a) entries (entry ∷ []) front)

  fits : made_count entries + made_count (entry ∷ []) ≤ made_count all
  fits = omega (arith, ap made_count around, made_append (entries ++ entry ∷ []) rest, made_append entries (entry ∷ []))

  pub builds_next : {c : Frame} → Builds b c (made_count (entry ∷ [])) 0 → Builds a c (made_count all) 0
  builds_next second = builds_within (builds_then first.builds second) fits (omega arith)

  pub outgrows_next : Outgrows b.store (made_count (entry ∷ [])) 0 → Outgrows a.store (made_count all) 0
  outgrows_next full = outgrows_later (made_count (entry ∷ [])) 0 (made_count all) 0 first.builds full fits (omega arith)
