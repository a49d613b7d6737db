-- The clock: a 32-bit millisecond counter that wraps (document 01, "Setup, clock and store"). Assumes nothing.
use Rattle.std.specs.Prelude.{ℕ, ◌+◌, ◌-◌, ◌%◌, ◌^◌, Bool, nat_le}

-- "The step is the new tick less the last accepted one, modulo 2^32"
abbrev pub wrap_sub : ℕ → ℕ → ℕ
wrap_sub a b = (a + 2 ^ 32 - b) % 2 ^ 32

-- "a step of 2^31 or more is refused"
abbrev pub late_step : ℕ
late_step = 2147483648

unfoldable pub late : ℕ → ℕ → Bool
late now last = nat_le late_step (wrap_sub now last)
