-- The pairs of the code, as those of the definitions.
use Rattle.std.specs.Prelude.{List, map}
use Rattle.code_meaning.specs.Value.{Use, By, AsCount}
use Rattle.template_bytes.specs.Canonical.{trait_of}
use Rattle.template_bytes.specs.Pairs.{Pair}
use Rattle.template_bytes.specs.declared.pair.Pair.{Pair as PairCode}
use Rattle.template_bytes.specs.declared.pair.Usage.{Usage}
use Rattle.template_bytes.specs.declared.pair.Usage.TheVariants as usage

abbrev pub shown_use : Usage → Use
shown_use (usage.Trait by) = By (trait_of by)
shown_use usage.Count = AsCount

abbrev pub shown_pair : PairCode → Pair
shown_pair pair = record { argument = pair.argument; usage = shown_use pair.usage }

abbrev pub shown_pairs : List PairCode → List Pair
shown_pairs pairs = map shown_pair pairs
