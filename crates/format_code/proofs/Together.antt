-- The code of a format call runs, and means what its pieces write.
use Rattle.std.specs.Prelude.{◌≡◌, Bool, true, false, cond, List, ◌++◌, length, Some, map, refl}
use Rattle.code_meaning.specs.Write.{Write}
use Rattle.code_meaning.specs.Value.{At, Arguments, FromText}
use Rattle.template_bytes.specs.Canonical.{Reference}
use Rattle.template_bytes.specs.Pairs.{pairs_of}
use Rattle.format_code.specs.Code.{event_of, argument_tree, with_arguments, text_code, has_placeholder, text_of, values_of, write_with}
use Rattle.format_code.specs.Laws.{Evaluates, FormatRuns}
use Rattle.format_code.proofs.Runs.{runs_once, text_runs}
use Rattle.format_code.proofs.Means.{means_writes, text_means}
use Rattle.format_code.proofs.Within.{pairs_within}

-- a template or a text, by whether there is a placeholder
pub format_runs : FormatRuns
format_runs items there n args writes below bytes canonical orphans = by (has_placeholder pieces) refl
  where
    pieces : List (Write Reference)
    pieces = map (write_with Some) writes

    by : (b : Bool) → has_placeholder pieces ≡ b
        → Evaluates (cond b (with_arguments items n (map argument_tree args) (pairs_of pieces) bytes (map argument_tree orphans)) (text_code items (map argument_tree args) (text_of pieces)))
        (cond b (map event_of args ++ map event_of orphans) (map event_of args)) (map (write_with At) writes)
    by true is = record {
      value = Arguments bytes (values_of (pairs_of pieces));
      runs = runs_once items there n args (pairs_of pieces) (pairs_within (length args) writes below) bytes orphans;
      means = means_writes writes bytes (canonical is);
    }
    by false is = record {
      value = FromText (text_of pieces);
      runs = text_runs items there.arguments args (text_of pieces);
      means = text_means writes is;
    }
