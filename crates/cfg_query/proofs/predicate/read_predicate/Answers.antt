use Rattle.std.proofs.Common.{rules, ◌≡◌, [], ◌∷◌, ◌++◌, subst, arith}
use Rattle.std.specs.Str.{IsUtf8, chars}
use Rattle.cfg_query.specs.Predicate.{TellsTrees}
use Rattle.cfg_query.proofs.PredicateTexts.{no_predicate, a_predicate}
use Rattle.cfg_query.proofs.predicate.read_predicate.Goals as goal

pub returns-in_default-2-clause-refused : goal.returns-in_default-2-clause-refused
returns-in_default-2-clause-refused c =
    let utf8 : IsUtf8 c.args.bytes.now = search rules in
    let is : c.as_str.result.now ≡ c.args.bytes.now ++ 10 ∷ [] = search rules in
    (omega (arith, c.if-bytes-gt-MAX_SCRIPT_LEN.false), no_predicate c.args.bytes.now c.as_str.result.now utf8 is (subst (TellsTrees (chars c.as_str.result.now)) c.in_default-2.is c.in_ok-trees.ensures))

pub returns-clause-said : goal.returns-clause-said
returns-clause-said c =
    let utf8 : IsUtf8 c.args.bytes.now = search rules in
    let is : c.as_str.result.now ≡ c.args.bytes.now ++ 10 ∷ [] = search rules in
    record {
      fits = omega (arith, c.if-bytes-gt-MAX_SCRIPT_LEN.false);
      is = a_predicate c.args.bytes.now c.as_str.result.now utf8 is c.in-Some.trees _ (subst (TellsTrees (chars c.as_str.result.now)) c.in-Some.is c.in_ok-trees.ensures) (search rules);
    }
