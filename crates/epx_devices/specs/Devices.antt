-- Facts on the results of calls on a source or a sink.
use Rattle.std.specs.Prelude.{ℕ, ◌<◌, Bool, ◌||◌, is_err, List, length, Result, IfOk}

-- whether a device has failed: it had failed before, or this call returned an error
abbrev pub failed_after : {T E : Type 0} → Bool → Result T E → Bool
failed_after before r = before || is_err r

-- if the call succeeds and the part is not empty, it accepts at least one byte
abbrev pub AcceptsSome : {E : Type 0} → Result ℕ E → List ℕ → Type 0
AcceptsSome r part = IfOk r (λ n. 0 < length part → 0 < n)
