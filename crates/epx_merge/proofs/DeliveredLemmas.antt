-- What the sources delivered that are read one after another.
use Rattle.std.proofs.Common.{◌≡◌, ◌++◌, ◌<◌, ◌≤◌, ℕ, zero, suc, List, [], ◌∷◌, length, get_or, set}
use Rattle.std.proofs.Common.{All, Some, ap, ◌∙◌, subst, inr, arith}
use Rattle.epx_types.proofs.Common.{length-set, get_or-set_same, slice_get_within, slice_get-get_or}
use Rattle.epx_types.proofs.Common.{get_or_from_slice_get, max_log_bytes}
use Rattle.epx_types.specs.declared.fault.Fault.{Fault}
use Rattle.epx_merge.specs.Refusals.{NoneTooLong}
use Rattle.epx_devices.specs.Deliveries.{DeliversAll, IsLogStop}
use Rattle.epx_devices.specs.Models.{SourceModel}
use Rattle.epx_merge.specs.DeliveredLogs.{FirstDeliver, StopsReading}
use Rattle.epx_merge.specs.between.SourceReadings.{AreDeliveredUpTo}

module _ {S : Type 0} (D : SourceModel S) where
  -- one more source is read
  pub FirstDeliver-step : (first now : List S) (read : List (List ℕ)) (n : ℕ) (d later : S)
      (log : List ℕ) → length read ≡ n → n < length first → length now ≡ length first
      → FirstDeliver D first now read → DeliversAll D (get_or first n d) later log
      → FirstDeliver D first (set now n later) (read ++ log ∷ [])
  FirstDeliver-step [] now read n d later log count l many h all = absurd (omega arith)
  FirstDeliver-step (s ∷ first) [] read n d later log count l many h all = absurd (omega arith)
  FirstDeliver-step (s ∷ first) (t ∷ now) [] zero d later log count l many h all = (all, tt)
  FirstDeliver-step (s ∷ first) (t ∷ now) [] (suc n) d later log count l many h all =
      absurd (omega arith)
  FirstDeliver-step (s ∷ first) (t ∷ now) (r ∷ read) zero d later log count l many h all =
      absurd (omega arith)
  FirstDeliver-step (s ∷ first) (t ∷ now) (r ∷ read) (suc n) d later log count l many h all =
      let rest = FirstDeliver-step first now read n d later log in
      (h.0, rest (omega arith) (omega arith) (omega arith) h.1 all)

  -- reading one more source does not change those read already
  pub FirstDeliver-unchanged : (first now : List S) (read : List (List ℕ)) (n : ℕ) (later : S)
      → length read ≤ n → FirstDeliver D first now read
      → FirstDeliver D first (set now n later) read
  FirstDeliver-unchanged first now [] n later few h = tt
  FirstDeliver-unchanged [] now (log ∷ read) n later few h = absurd h
  FirstDeliver-unchanged (s ∷ first) [] (log ∷ read) n later few h = absurd h
  FirstDeliver-unchanged (s ∷ first) (t ∷ now) (log ∷ read) zero later few h = absurd (omega arith)
  FirstDeliver-unchanged (s ∷ first) (t ∷ now) (log ∷ read) (suc n) later few h =
      (h.0, FirstDeliver-unchanged first now read n later (omega arith) h.1)

none_too_long : (read : List (List ℕ)) → All (λ bytes. length bytes ≤ max_log_bytes) read
    → NoneTooLong read
none_too_long read h k bytes there =
    let here = get_or_from_slice_get read k bytes bytes there in
    subst (λ b. length b ≤ max_log_bytes) here (h k bytes (slice_get_within read k bytes there))

-- reading source number n stopped with this fault
module _ {S : Type 0} (D : SourceModel S) (first now : List S) (n : ℕ) (logs : List (List ℕ)) where
  pub StopsReading-log_stop : AreDeliveredUpTo D first now n logs → n < length first
      → (d later : S) (fault : Fault) → get_or now n d ≡ get_or first n d
      → IsLogStop D n (get_or now n d) later fault → StopsReading D first (set now n later) fault
  StopsReading-log_stop h l d later fault same stopped =
      let within : n < length (set now n later) =
      omega (arith, l, h.read.as_many, length-set now n later) in
      let is = slice_get-get_or (set now n later) n later within in
      let here = get_or-set_same now n later later (omega (arith, l, h.read.as_many)) in
      inr (record {
        log = n;
        before = record {
          within = l;
          logs = logs;
          as_many = h.read.count;
          whole =
              FirstDeliver-unchanged D first now logs n later (omega (arith, h.read.count))
              h.delivered;
          short = none_too_long logs h.read.short;
        };
        first = get_or first n d;
        last = later;
        was = slice_get-get_or first n d l;
        is = is ∙ ap Some here;
        stopped = subst (λ (s : S). IsLogStop D n s later fault) same stopped;
      })
