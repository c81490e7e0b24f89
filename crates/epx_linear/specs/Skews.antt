-- Clocks that differ: calls are taken to return later, by as much as the clocks may differ.
use Rattle.std.specs.Prelude.{ℕ, ◌+◌, ◌-◌, ◌^◌, min, option_map}
use Rattle.epx_linear.specs.declared.client_call.ClientCall.{ClientCall}

-- the greatest time, 2^64 - 1: no call is invoked after it
abbrev pub latest_time : ℕ
latest_time = 2 ^ 64 - 1

-- a time that is later by a skew, but not after the latest time
abbrev pub later_time : ℕ → ℕ → ℕ
later_time skew t = min (t + skew) latest_time

-- the call, returned later by a skew, but not after the latest time
abbrev pub later_by : ℕ → ClientCall → ClientCall
later_by skew c = record c { returned = option_map (later_time skew) c.returned }
