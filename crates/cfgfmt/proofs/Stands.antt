-- Where the calls of a script stand.
use Rattle.std.specs.Prelude.{◌≡◌, refl}
use Rattle.hir_expander.specs.Table.{resolved, expanded}
use Rattle.hir_lower.specs.Collector.{Collector, around}
use Rattle.script.specs.Contents.{Contents}
use Rattle.cfgfmt.specs.Session.{script_file, script_around}

-- a collector in the script's file with the script's limit and items, beside the script's macros, stands where the calls of the script do
pub stands : (contents : Contents) (collector : Collector) → collector.file ≡ script_file → collector.limit ≡ contents.limit → collector.items ≡ contents.items
    → around (λ file call. resolved contents.macros call) (expanded contents.macros) collector ≡ script_around contents
stands contents collector file limit items = rw (file, limit, items) refl
