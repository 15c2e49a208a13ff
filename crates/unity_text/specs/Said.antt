-- Inner: what the code keeps of a line: numbers that do not fit 32 bits are cut off at 2^32; Text.antt says what a line says. Assumes nothing.
use Rattle.std.specs.Prelude.{List, ℕ, Option as Answer, Some, None}
use Rattle.std.proofs.Math.Option.{Option, none, some}
use Rattle.text_forms.specs.decimal.Decimal.{saturated}
use Rattle.unity_table.specs.declared.Weights.{Weights}
use Rattle.unity_table.specs.Unity.{weights_of}

abbrev pub cut : Weights → Weights
cut a = record { greatest = saturated a.greatest; silent = saturated a.silent; total = saturated a.total }

-- nothing is kept of a line that is not in form
abbrev pub said_of : Option (List ℕ) → Answer Weights
said_of none = None
said_of (some ns) = Some (cut (weights_of ns))
