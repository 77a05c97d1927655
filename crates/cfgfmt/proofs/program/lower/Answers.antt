use Rattle.std.proofs.Common.{Err, ap, ◌∙◌, subst}
use Rattle.hir_build.specs.Building.{Outgrows}
use Rattle.hir_lower.specs.Collector.{frame_of}
use Rattle.hir_lower.specs.Lowered.{AreMost, AreOutcomes, Lowers, most_lets}
use Rattle.script.specs.Script.{contents}
use Rattle.cfgfmt.specs.Session.{script_around}
use Rattle.cfgfmt.proofs.Refusals.{many_outgrow}
use Rattle.cfgfmt.proofs.Stands.{stands}
use Rattle.cfgfmt.proofs.program.lower.Goals as goal

pub returns-in-Err-ArenaFull-clause-refused : goal.returns-in-Err-ArenaFull-clause-refused
returns-in-Err-ArenaFull-clause-refused c =
    let said = contents c.args.script in
    many_outgrow said c.script_collector-collector.result.store c.script_collector-collector.ensures.empty
    (subst (λ calls. (most : _) → AreMost said.options (script_around said) calls most → Outgrows c.script_collector-collector.result.store most (most_lets said.options calls)) c.deref.ensures.value
    (subst (λ around. (most : _) → AreMost said.options around c.deref.result.now most → Outgrows c.script_collector-collector.result.store most (most_lets said.options c.deref.result.now))
    (stands said c.script_collector-collector.result c.script_collector-collector.ensures.file c.script_collector-collector.ensures.limit c.script_collector-collector.ensures.items)
    (c.in-Err-ArenaFull.ensures.full (ap Err c.in-Err-ArenaFull.field-0-is))))

pub returns-clause-outcomes : goal.returns-clause-outcomes
returns-clause-outcomes c =
    let said = contents c.args.script in
    subst (λ calls. AreOutcomes said.options (script_around said) c.collect_gated.new.self.store calls c.in-Ok.outcomes.items) c.deref.ensures.value
    (subst (λ around. AreOutcomes said.options around c.collect_gated.new.self.store c.deref.result.now c.in-Ok.outcomes.items)
    (stands said c.script_collector-collector.result c.script_collector-collector.ensures.file c.script_collector-collector.ensures.limit c.script_collector-collector.ensures.items)
    c.in-Ok.ensures.outcomes)

pub returns-clause-lowered : goal.returns-clause-lowered
returns-clause-lowered c =
    let said = contents c.args.script in
    record {
      before = c.script_collector-collector.result;
      was_empty = c.script_collector-collector.ensures.empty;
      none_fresh = c.script_collector-collector.ensures.fresh;
      lowers =
          subst (λ calls. Lowers said.options (script_around said) calls c.in-Ok.outcomes.items (frame_of c.script_collector-collector.result) (frame_of c.collect_gated.new.self)) c.deref.ensures.value
          (subst (λ around. Lowers said.options around c.deref.result.now c.in-Ok.outcomes.items (frame_of c.script_collector-collector.result) (frame_of c.collect_gated.new.self))
          (stands said c.script_collector-collector.result c.script_collector-collector.ensures.file c.script_collector-collector.ensures.limit c.script_collector-collector.ensures.items)
          c.in-Ok.ensures.lowers);
      stands = record {
        file = c.collect_gated.ensures.stays.file ∙ c.script_collector-collector.ensures.file;
        limit = c.collect_gated.ensures.stays.limit ∙ c.script_collector-collector.ensures.limit;
        items = c.collect_gated.ensures.stays.items ∙ c.script_collector-collector.ensures.items;
      };
    }
