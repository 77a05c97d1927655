-- How many names the text of a call captures.
use Rattle.std.proofs.Common.{◌≡◌, List, [], ◌∷◌, length, map, Some, inl, inr, refl, ap, ◌∙◌, arith}
use Rattle.std.proofs.lemmas.Option.{same_Some}
use Rattle.std.specs.Map.{keys_of}
use Rattle.hir_fmt.specs.declared.format_args.FormatArguments.{FormatArguments}
use Rattle.hir_fmt.specs.declared.format_args.FormatArgs.{FormatArgs}
use Rattle.hir_fmt.specs.Log.{Entry, Usage, Made}
use Rattle.hir_fmt.specs.References.{references_of}
use Rattle.hir_fmt.specs.Walk.{told_by, asked_names}
use Rattle.hir_fmt.specs.Parsed.{Makes}
use Rattle.hir_fmt.proofs.Names.{asked_told}
use Rattle.hir_build.specs.Frame.{Frame}
use Rattle.hir_build.specs.Building.{Builds, Outgrows}
use Rattle.hir_build.proofs.Builds.{builds_none}
use Rattle.hir_lower.specs.declared.captures.Template.{Template}
use Rattle.hir_lower.specs.Captures.{made_count}
use Rattle.hir_lower.specs.Parsing.{CapturesSome, BuildsCaptures, OutgrowsCaptures}

asked_count : (entries : List Entry) → made_count entries ≡ length (asked_names (map told_by entries))
asked_count [] = refl
asked_count (Usage name span ∷ entries) = asked_count entries
asked_count (Made name span id ∷ entries) = omega (arith, asked_count entries)

-- an expression is made for each name that the text captures
module _ (template : Template) (args : FormatArguments) (fmt : FormatArgs) (entries : List Entry) where
  captures_some : Makes template.literal.now template.is_direct template.ptr args (Some []) (Some entries) fmt → CapturesSome template args (made_count entries)
  captures_some (inl made) = inr (record {
    source = made.source;
    pieces = made.pieces;
    is = made.is;
    all = ap made_count (same_Some _ _ made.made_is.logged) ∙ asked_count made.made_is.entries
        ∙ ap (λ ts. length (asked_names ts)) made.made_is.told
        ∙ ap length (asked_told template.is_direct (keys_of args.names) (references_of made.source made.pieces));
  })
  captures_some (inr nothing) = inl (ap made_count (same_Some _ _ nothing.kept))

  pub builds_some : (old new : Frame) → Makes template.literal.now template.is_direct template.ptr args (Some []) (Some entries) fmt → Builds old new (made_count entries) 0 → BuildsCaptures template args old new
  builds_some old new makes built = record { count = made_count entries; some = captures_some makes; builds = built }

  pub outgrows_some : (old : Frame) → Makes template.literal.now template.is_direct template.ptr args (Some []) (Some entries) fmt → Outgrows old.store (made_count entries) 0 → OutgrowsCaptures template args old.store
  outgrows_some old makes outgrows = record { count = made_count entries; some = captures_some makes; outgrows = outgrows }

-- nothing is built
pub builds_nothing : (template : Template) (args : FormatArguments) (frame : Frame) → BuildsCaptures template args frame frame
builds_nothing template args frame = record { count = 0; some = inl refl; builds = builds_none frame }
