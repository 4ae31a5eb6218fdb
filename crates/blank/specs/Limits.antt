-- F and N against the limits.
use Rattle.std.specs.Prelude.{ℕ, ◌+◌, ◌≤◌}
use Rattle.layout.specs.Place.{data_start}
use Rattle.model.specs.Frame.{FrameLength, SlotCapacity}

pub record Limits (f n : ℕ) : Type 0 where
  pub long : FrameLength f
  pub slots : SlotCapacity n
  pub room : data_start n + 8 ≤ f
