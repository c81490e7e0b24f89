-- Limits of logs.
use Rattle.std.specs.Prelude.{ℕ}

-- the greatest number of logs: 64
abbrev pub max_logs : ℕ
max_logs = 64

-- the greatest length of a log, in bytes: 64 MiB
abbrev pub max_log_bytes : ℕ
max_log_bytes = 67108864

-- the greatest number of distinct instances that logs may name: 2^20
abbrev pub max_instances : ℕ
max_instances = 1048576
