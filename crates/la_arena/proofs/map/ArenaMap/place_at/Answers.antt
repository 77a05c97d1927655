use Rattle.std.proofs.Common.{◌<◌, length, slice_set, Some, refl, ◌∙◌, ap, sym, subst}
use Rattle.std.proofs.lemmas.Option.{same_Some}
use Rattle.std.proofs.lemmas.List.{get_or-set_same}
use Rattle.la_arena.proofs.EntryLemmas.{set_twice}
use Rattle.la_arena.proofs.map.ArenaMap.place_at.Goals as goal

pub returns : goal.returns
returns g c =
    let slots = c.self.inside.slots.items in
    let asked : c.args.index < length c.args.self.now = c.requires.within in
    let within = subst (λ s. c.args.index < length s) (sym c.self.view_is) asked in
    let placed = get_or-set_same slots c.args.index c.replace.new.self _ within in (
      (refl, λ w. set_twice slots _ _ (Some w) ∙ ap (λ s. slice_set s c.args.index (Some w)) c.self.view_is),
      record { writes_back = tt; value = same_Some _ _ (sym c.value_mut_at.ensures.value ∙ placed ∙ c.in-None.ensures.after) },
    )
