use Rattle.std.proofs.Common.{ap, length, arith}
use Rattle.std.proofs.lemmas.List.{length-map}
use Rattle.template_bytes.specs.ShownPairs.{shown_pair}
use Rattle.template_bytes.proofs.ShownPairLaws.{inserted, inserted_place}
use Rattle.template_bytes.proofs.pairs.Pairs.insert.Goals as goal

pub returns-then-len-gt-MOST_PAIRS-clause-full : goal.returns-then-len-gt-MOST_PAIRS-clause-full
returns-then-len-gt-MOST_PAIRS-clause-full c refused =
    let keys = ap length (inserted c.self.inside.set.keys c.insert_full.new.self.keys c.args.pair _ c.in_ok-place.ensures.keys c.self.view_is) in
    omega (arith, keys, length-map c.insert_full.new.self.keys shown_pair)

pub returns-clause-pairs : goal.returns-clause-pairs
returns-clause-pairs c = inserted c.self.inside.set.keys c.insert_full.new.self.keys c.args.pair _ c.in_ok-place.ensures.keys c.self.view_is

pub returns-clause-place : goal.returns-clause-place
returns-clause-place c more = inserted_place c.self.inside.set.keys c.insert_full.new.self.keys c.args.pair _ more c.in_ok-place.ensures.keys c.in_ok-place.ensures.index
