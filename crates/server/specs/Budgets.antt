-- What several kinds of server have in common.
use Rattle.std.specs.Prelude.{ℕ, ◌-◌, ◌*◌, ◌%◌, Bool, cond, ◌==◌}
use Rattle.server.specs.Kind.{Terms}
use Rattle.server.specs.Rounding.{ceil_div}

-- whether a period starts at the tick
abbrev pub starts : Terms → ℕ → Bool
starts t tick = tick % t.period == 0

-- what is held after a tick: a tick run takes 1
abbrev pub after_tick : ℕ → Bool → ℕ
after_tick held ran = cond ran (held - 1) held

-- one budget for each period in n ticks, the last period counted in full
abbrev pub per_period : Terms → ℕ → ℕ
per_period t n = ceil_div n t.period * t.budget
