-- How reading all sources ends, by how far it is.
use Rattle.std.proofs.Common.{◌≡◌, ◌↔◌, ◌+◌, ◌++◌, ◌∷◌, [], ◌<◌, ◌≤◌, ℕ, true, false, List, length}
use Rattle.std.proofs.Common.{drop, get_or, set, All, Result, Ok, Err, IsErrOf, IfSome, IfOk, OnOk}
use Rattle.std.proofs.Common.{IfErr, MatchResult, Vec, Global, inl, inr, refl, sym, subst}
use Rattle.epx_types.proofs.Common.{IsAtEnd, max_logs, max_log_bytes}
use Rattle.epx_types.specs.declared.fault.Fault.{Fault}
use Rattle.epx_types.specs.declared.fault.Fault.TheVariants.{TooManyLogs, LogTooLong, Read, Memory}
use Rattle.epx_types.specs.declared.fault.Fault.TheVariants.{Write}
use Rattle.epx_devices.specs.Deliveries.{DeliversAll, IsLogStop}
use Rattle.epx_devices.specs.Models.{SourceModel}
use Rattle.epx_devices.specs.between.LogParts.{EndsLog}
use Rattle.epx_devices.specs.Transfers.{IsReadLogFault, ConsumesUpTo, ConsumesExactly}
use Rattle.epx_merge.specs.between.SourceReadings.{AreDeliveredUpTo, EndsReading, EndsMaking}
use Rattle.epx_merge.proofs.ConsumedLemmas.{EachConsumesUpTo-refl}
use Rattle.epx_merge.proofs.DeliveredLemmas.{FirstDeliver-step, StopsReading-log_stop}
use Rattle.epx_merge.proofs.ReturnedFaultLemmas.{iff-not_failed, iff-neither, max_logs-not_below}
use Rattle.epx_merge.proofs.ReturnedFaultLemmas.{IsErrOf-not_ok, StopsAt-not_ok}
use Rattle.epx_merge.proofs.ReturnedFaultLemmas.{IsErrOf-input_not_write}
use Rattle.epx_merge.proofs.ReturnedFaultLemmas.{IsErrOf-input_not_too_many, StopsAt-input}
use Rattle.epx_merge.proofs.ReturnedFaultLemmas.{IsErrOf-differs}
use Rattle.epx_merge.proofs.ReturnedFaultLemmas.{StopsAt-not_too_many, StopsAt-not_memory}
use Rattle.epx_merge.proofs.SourceLemmas.{length-source_logs, get_or-next_source, FirstAreRead-none}
use Rattle.epx_merge.proofs.SourceLemmas.{IsErrOf-ok_not_failed, FirstAreRead-step}
use Rattle.epx_merge.proofs.SourceLemmas.{IsReadingRefusal-log_fault, drop-set_next}
use Rattle.epx_merge.proofs.SourceLemmas.{EachConsumesUpTo-further, FitLimits-all_read}
use Rattle.epx_merge.proofs.SourceLemmas.{length-all_read, All-at_end, AreBytesOf-all_read}
use Rattle.epx_merge.proofs.SourceLemmas.{has_failed-none, IsErrOf-iff_failed}

module _ {S : Type 0} (D : SourceModel S) (first : List S) where
  -- no source is read yet
  pub AreDeliveredUpTo-none : All (λ s. D.has_failed s ≡ false) first
      → AreDeliveredUpTo D first first 0 []
  AreDeliveredUpTo-none well = record {
    read = FirstAreRead-none D first well;
    delivered = tt;
  }

  pub EndsReading-too_many : All (λ s. D.has_failed s ≡ false) first → max_logs < length first
      → EndsReading D first first (Err TooManyLogs)
  EndsReading-too_many well many = record {
    bytes = tt;
    delivered = tt;
    fit = tt;
    refusal = λ logs are.
        subst (λ n. max_logs < n) (sym (length-source_logs D first logs are)) many;
    stopped = inl many;
    nothing_written = IsErrOf-differs TooManyLogs Write (λ same. cc same);
    place = λ log stops. absurd (StopsAt-not_too_many log stops);
    sources = record {
      read = λ k source there. iff-not_failed _ _
          (IsErrOf-differs TooManyLogs (Read k) (λ same. cc same))
          (has_failed-none D _ _ _ _ (FirstAreRead-none D first well) k source there);
      taken = EachConsumesUpTo-refl D (max_log_bytes + 1) first;
      ended = tt;
      no_further = λ log stops. refl;
      too_many = (λ is. many, λ more. refl);
      none_read = λ is. refl;
    };
  }

  module _ (now : List S) (n : ℕ) (logs : List (List ℕ))
      (h : AreDeliveredUpTo D first now n logs) (few : length first ≤ max_logs) where
    pub EndsReading-memory : EndsReading D first now (Err Memory)
    EndsReading-memory = record {
      bytes = tt;
      delivered = tt;
      fit = tt;
      refusal = λ logs are. tt;
      stopped = inl tt;
      nothing_written = IsErrOf-differs Memory Write (λ same. cc same);
      place = λ log stops. absurd (StopsAt-not_memory log stops);
      sources = record {
        read =
            λ k source there. iff-not_failed _ _ (IsErrOf-differs Memory (Read k) (λ same. cc same))
            (has_failed-none D _ _ _ _ h.read k source there);
        taken = h.read.taken;
        ended = tt;
        no_further = λ log stops. absurd (StopsAt-not_memory log stops);
        too_many = iff-neither _ _ (IsErrOf-differs Memory TooManyLogs (λ same. cc same))
            (max_logs-not_below (length first) few);
        none_read = λ is. absurd (IsErrOf-differs Memory TooManyLogs (λ same. cc same) is);
      };
    }

    pub EndsReading-delivered : length first ≤ n
        → EndsReading D first now (Ok logs)
    EndsReading-delivered all = record {
      bytes = λ given are. AreBytesOf-all_read D _ _ _ _ h.read all given are;
      delivered = record {
        as_many = length-all_read D _ _ _ _ h.read all;
        whole = h.delivered;
      };
      fit = FitLimits-all_read D _ _ _ _ h.read all few;
      refusal = tt;
      stopped = tt;
      nothing_written = IsErrOf-not_ok _ Write;
      place = λ log stops. absurd (StopsAt-not_ok _ log stops);
      sources = record {
        read = λ k source there. iff-not_failed _ _ (IsErrOf-not_ok _ (Read k))
            (has_failed-none D _ _ _ _ h.read k source there);
        taken = h.read.taken;
        ended = All-at_end D _ _ _ _ h.read all;
        no_further = λ log stops. absurd (StopsAt-not_ok _ log stops);
        too_many = iff-neither _ _ (IsErrOf-not_ok _ TooManyLogs)
            (max_logs-not_below (length first) few);
        none_read = λ is. absurd (IsErrOf-not_ok _ TooManyLogs is);
      };
    }

    module _ (within : n < length first) (next later : S) where
      -- the next source is read
      one_delivered : {T : Type 0} (x : T)
          → IsErrOf (Ok x) (Read n) ↔ (D.has_failed later ≡ true) → (bytes : List ℕ)
          → IfSome (D.remaining (get_or now n next)) (λ all. bytes ≡ all)
          → length bytes ≤ max_log_bytes
          → ConsumesUpTo (D.remaining (get_or now n next)) (D.remaining later) (max_log_bytes + 1)
          → IsAtEnd (D.remaining later) → DeliversAll D (get_or now n next) later bytes
          → AreDeliveredUpTo D first (set now n later) (n + 1) (logs ++ bytes ∷ [])
      one_delivered x failed bytes given short taken ended whole =
          let well = IsErrOf-ok_not_failed D (D.has_failed later) x n failed in
          let same = get_or-next_source D _ _ _ _ h.read next in
          record {
            read = FirstAreRead-step D _ _ _ _ h.read within next later well bytes given short taken
                ended;
            delivered = FirstDeliver-step D first now logs n next later bytes h.read.count within
                h.read.as_many h.delivered
                (subst (λ s. DeliversAll D s later bytes) same whole);
          }

      -- reading the next source stops
      stopped_at : {T : Type 0} (fault : Fault) → IsReadLogFault n fault
          → (IsErrOf {T = T} (Err fault) (LogTooLong n)
          → ConsumesExactly (D.remaining (get_or now n next)) (D.remaining later)
          (max_log_bytes + 1))
          → IsLogStop D n (get_or now n next) later fault
          → IsErrOf {T = T} (Err fault) (Read n) ↔ (D.has_failed later ≡ true)
          → ConsumesUpTo (D.remaining (get_or now n next)) (D.remaining later) (max_log_bytes + 1)
          → EndsReading D first (set now n later) (Err fault)
      stopped_at fault of_log long stops failed taken = record {
        bytes = tt;
        delivered = tt;
        fit = tt;
        refusal = IsReadingRefusal-log_fault D _ _ _ _ h.read within few next
            (D.remaining later) fault of_log long;
        stopped = StopsReading-log_stop D _ _ _ _ h within next later fault
            (get_or-next_source D _ _ _ _ h.read next) stops;
        nothing_written = IsErrOf-input_not_write n fault of_log;
        place = λ k stops. subst (λ m. m < length first)
            (sym (StopsAt-input n fault of_log k stops)) within;
        sources = record {
          read = IsErrOf-iff_failed D _ _ _ _ h.read within later fault of_log failed;
          taken = EachConsumesUpTo-further D _ _ _ _ h.read next later taken;
          ended = tt;
          no_further = λ k stops. subst
              (λ m. drop (m + 1) (set now n later) ≡ drop (m + 1) first)
              (sym (StopsAt-input n fault of_log k stops))
              (drop-set_next D _ _ _ _ h.read later);
          too_many = iff-neither _ _ (IsErrOf-input_not_too_many n fault of_log)
              (max_logs-not_below (length first) few);
          none_read = λ is. absurd (IsErrOf-input_not_too_many n fault of_log is);
        };
      }

      -- the result of reading the next source
      pub AreDeliveredUpTo-next_read : (result : Result (Vec ℕ Global) Fault)
          → IfOk result (λ b. IfSome (D.remaining (get_or now n next)) (λ all. b.items ≡ all))
          → IfOk result (λ b. DeliversAll D (get_or now n next) later b.items)
          → OnOk result (IsAtEnd (D.remaining later))
          → IfOk result (λ b. length b.items ≤ max_log_bytes)
          → IfErr result (IsReadLogFault n)
          → IfErr result (IsLogStop D n (get_or now n next) later)
          → IsErrOf result (Read n) ↔ (D.has_failed later ≡ true)
          → (IsErrOf result (LogTooLong n)
          → ConsumesExactly (D.remaining (get_or now n next)) (D.remaining later)
          (max_log_bytes + 1))
          → ConsumesUpTo (D.remaining (get_or now n next)) (D.remaining later) (max_log_bytes + 1)
          → MatchResult result
          (λ b. AreDeliveredUpTo D first (set now n later) (n + 1) (logs ++ b.items ∷ []))
          (λ f. EndsReading D first (set now n later) (Err f))
      AreDeliveredUpTo-next_read (Ok b) given whole ended short of_log stops failed long taken =
          one_delivered b failed b.items given short taken ended whole
      AreDeliveredUpTo-next_read (Err f) given whole ended short of_log stops failed long taken =
          stopped_at f of_log long stops failed taken

      -- the result of reading the next source, by how reading its log ended
      pub AreDeliveredUpTo-next_log : (result : Result (List ℕ) Fault)
          → EndsLog D n (get_or now n next) later result → MatchResult result
          (λ bytes. AreDeliveredUpTo D first (set now n later) (n + 1) (logs ++ bytes ∷ []))
          (λ f. EndsReading D first (set now n later) (Err f))
      AreDeliveredUpTo-next_log (Ok b) e =
          one_delivered b e.failed b e.bytes e.fits e.no_further e.ended e.delivered
      AreDeliveredUpTo-next_log (Err f) e =
          stopped_at f e.faults e.too_long e.stops e.failed e.no_further

module _ {S : Type 0} (D : SourceModel S) (old new : List S) where
  -- all sources are read before something is made of their logs
  pub EndsMaking-made : {T : Type 0} (Made : List (List ℕ) → Result T Fault → Type 0)
      (logs : List (List ℕ)) (result : Result T Fault)
      → EndsReading D old new (Ok logs) → Made logs result → EndsMaking D Made old new result
  EndsMaking-made Made logs (Ok made) read is = (logs, read, is)
  EndsMaking-made Made logs (Err fault) read is = inr (logs, read, is)
