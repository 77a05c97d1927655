use Rattle.std.proofs.Common.{refl}
use Rattle.la_arena.proofs.EntryLemmas.{occupied_written, occupied_IsWritten}
use Rattle.la_arena.proofs.map.entry.OccupiedEntry.get_mut.Goals as goal

pub returns : goal.returns
returns g c =
    let e = c.args.self.now in (
      (refl, λ w. occupied_written e w _),
      record { writes_back = tt; value = c.value_mut_at.ensures.value; written = occupied_IsWritten e },
    )
