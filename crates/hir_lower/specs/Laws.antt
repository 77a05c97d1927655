-- What holds of all calls.
use Rattle.std.specs.Prelude.{◌≡◌, ℕ, List}
use Rattle.ra_cfg.specs.Options.{OptionSet}
use Rattle.gated_calls.specs.declared.call.GatedCall.{GatedCall}
use Rattle.format_code.specs.FormatCall.{Surroundings}
use Rattle.hir_lower.specs.Lowered.{AreMost}

-- for calls, wherever they stand, there is exactly one number that is the most that they place
pub record HaveMost : Type 0 where
  pub some : (options : OptionSet) (around : Surroundings) (calls : List GatedCall) → (most : ℕ) × AreMost options around calls most
  pub one : (options : OptionSet) (around : Surroundings) (calls : List GatedCall) (most other : ℕ) → AreMost options around calls most → AreMost options around calls other → most ≡ other
