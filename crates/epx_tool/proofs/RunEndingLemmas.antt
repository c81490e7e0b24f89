-- How a run ends, by how reading its sources ended and by what it wrote.
use Rattle.std.proofs.Common.{◌≡◌, ◌↔◌, ◌<◌, ◌≤◌, ◌||◌, ℕ, Bool, true, false, List, length, Result}
use Rattle.std.proofs.Common.{Ok, Err, IsErrOf, refl, sym, subst, inr, arith}
use Rattle.epx_types.proofs.Common.{slice_get_within, on_ok_weaker, Appends, OnOk, IfErr, IsErr}
use Rattle.epx_types.specs.declared.fault.Fault.{Fault}
use Rattle.epx_types.specs.declared.fault.Fault.TheVariants.{TooManyLogs, Read, Write}
use Rattle.std.proofs.lemmas.Result.{IfErr-weaker}
use Rattle.epx_devices.specs.Devices.{failed_after}
use Rattle.epx_devices.specs.Transfers.{AppendsPrefix}
use Rattle.epx_tool.specs.RunEndings.{SinkRun, WritesAnswer, sink_run}
use Rattle.epx_merge.specs.SourceEndings.{LeavesSources}
use Rattle.epx_tool.specs.Sources.{LeavesInput}
use Rattle.epx_merge.proofs.ConsumedLemmas.{length-consumed}
use Rattle.epx_tool.proofs.ReturnedFaultLemmas.{IsErrOf-again, IsErrOf-again_iff, StopsAt-again}
use Rattle.epx_tool.proofs.ReturnedFaultLemmas.{HasRead}
use Rattle.epx_merge.proofs.ReturnedFaultLemmas.{iff-not_failed, IsErrOf-not_ok}
use Rattle.epx_tool.proofs.ReturnedFaultLemmas.{IsErrOf-other_iff, drop-past_end, IsErrOf-write_iff}
use Rattle.epx_tool.proofs.ReturnedFaultLemmas.{OnOk-always, Keeps-refl}
use Rattle.epx_devices.specs.Models.{SinkModel, SourceModel}

-- a device that had not failed has failed exactly where this call returned an error
pub IsErr-iff_failed : {T E : Type 0} (before now : Bool) (result : Result T E) → before ≡ false
    → now ≡ failed_after before result → IsErr result ↔ (now ≡ true)
IsErr-iff_failed before now (Ok x) well is =
    let same : now ≡ false = subst (λ b. now ≡ b || false) well is in
    (λ bad. absurd (cc bad), λ yes. absurd (cc (same, yes)))
IsErr-iff_failed before now (Err fault) well is =
    (λ bad. subst (λ b. now ≡ b || true) well is, λ yes. refl)

-- ---- the sources

module _ {S T V : Type 0} (D : SourceModel S) (old new : List S) where
  -- the fault of the reading is returned
  pub LeavesSources-again : (fault : Fault)
      → LeavesSources {T = T} D old new (Err fault) → LeavesSources {T = V} D old new (Err fault)
  LeavesSources-again fault h = record {
    read = λ log source there. IsErrOf-again_iff fault (Read log) _ (h.read log source there);
    taken = h.taken;
    ended = tt;
    no_further = λ log stops. h.no_further log (StopsAt-again fault log stops);
    too_many = IsErrOf-again_iff fault TooManyLogs _ h.too_many;
    none_read = λ is. h.none_read (IsErrOf-again fault TooManyLogs is);
  }

  -- the sources were read, and what is returned is no fault of theirs
  pub LeavesSources-after : (n : ℕ) (x : T) (result : Result V Fault) → length old ≤ n
      → HasRead n result
      → LeavesSources D old new (Ok x) → LeavesSources D old new result
  LeavesSources-after n x result all has h =
      let many : length new ≡ length old = length-consumed D _ old new h.taken in record {
        read = λ log source there. IsErrOf-other_iff result x (Read log) _
            (λ is. let far = has.not_stopped log (inr is) in
            omega (arith, far, all, many, slice_get_within new log source there))
            (h.read log source there);
        taken = h.taken;
        ended = OnOk-always result _ h.ended;
        no_further = λ log stops. let far = has.not_stopped log stops in
            drop-past_end new old log many (omega (arith, far, all, many));
        too_many = IsErrOf-other_iff result x TooManyLogs _ has.not_too_many h.too_many;
        none_read = λ is. absurd (has.not_too_many is);
      }

module _ {I T V : Type 0} (E : SourceModel I) (first last : I) (count : ℕ) where
  pub LeavesInput-again : (fault : Fault)
      → LeavesInput {T = T} E first last count (Err fault)
      → LeavesInput {T = V} E first last count (Err fault)
  LeavesInput-again fault h = record {
    read = IsErrOf-again_iff fault (Read count) _ h.read;
    taken = h.taken;
    ended = tt;
    untouched = λ log stops lower. h.untouched log (StopsAt-again fault log stops) lower;
    none_read = λ is. h.none_read (IsErrOf-again fault TooManyLogs is);
  }

  pub LeavesInput-after : (n : ℕ) (x : T) (result : Result V Fault) → count < n → HasRead n result
      → LeavesInput E first last count (Ok x) → LeavesInput E first last count result
  LeavesInput-after n x result all has h = record {
    read = IsErrOf-other_iff result x (Read count) _
        (λ is. let far = has.not_stopped count (inr is) in omega (arith, far, all)) h.read;
    taken = h.taken;
    ended = OnOk-always result _ h.ended;
    untouched = λ log stops lower. let far = has.not_stopped log stops in
        absurd (omega (arith, far, all, lower));
    none_read = λ is. absurd (has.not_too_many is);
  }

-- ---- the sink

module _ {Given T : Type 0} (OfKnown : (Given → Type 0) → Type 0)
    (Answer : Given → List ℕ → Type 0) (IsFault : Given → Fault → Type 0)
    (Delivered : (List ℕ → Type 0) → Type 0) (Ends : Fault → Type 0) (W : SinkModel T)
    (was : T) where
  -- nothing was written
  pub WritesAnswer-nothing : (fault : Fault) → W.has_failed was ≡ false
      → ¬ IsErrOf {T = Unit {0}} (Err fault) Write → OfKnown (λ given. IsFault given fault)
      → Ends fault
      → WritesAnswer OfKnown Answer IsFault Delivered Ends (sink_run W was was) (Err fault)
  WritesAnswer-nothing fault well other refusal refused = record {
    text = tt;
    answered = tt;
    flushed = tt;
    refusal = refusal;
    refused = λ _. refused;
    nothing = λ _. Keeps-refl (W.contents was);
    prefix = λ is. absurd (other is);
    part = λ is. absurd (other is);
    written = iff-not_failed _ _ other well;
  }

  -- the text was written, whole or in part
  pub WritesAnswer-text : (now : T) (text : List ℕ) (done : Result (Unit {0}) Fault)
      → ((P : Given → Type 0) → ((given : Given) → Answer given text → P given) → OfKnown P)
      → ((Written : List ℕ → Type 0) → Written text → Delivered Written)
      → ((given : Given) → Answer given text → IsFault given Write)
      → OnOk done (Appends (W.contents was) (W.contents now) text)
      → OnOk done (W.is_flushed now ≡ true)
      → IfErr done (λ fault. fault ≡ Write) → IsErr done ↔ (W.has_failed now ≡ true)
      → AppendsPrefix (W.contents was) (W.contents now) text
      → WritesAnswer OfKnown Answer IsFault Delivered Ends (sink_run W was now) done
  WritesAnswer-text now text done known delivered faulty bytes flushed faults failed prefix =
      record {
        text = on_ok_weaker done (λ written. known _ (λ given is. (text, is, written))) bytes;
        answered = on_ok_weaker done (λ written. delivered _ written) bytes;
        flushed = flushed;
        refusal = IfErr-weaker done _ _ (λ fault is. known _
            (λ given answer. subst (IsFault given) (sym is) (faulty given answer))) faults;
        refused = IfErr-weaker done _ _ (λ fault is other. absurd (other is)) faults;
        nothing = IfErr-weaker done _ _ (λ fault is other. absurd (other is)) faults;
        prefix = λ is. known _ (λ given answer. (text, answer, prefix));
        part = λ is. delivered _ prefix;
        written = IsErrOf-write_iff done _ faults failed;
      }

-- a text that was written whole, as a weaker answer
module _ {Given : Type 0} (OfKnown : (Given → Type 0) → Type 0)
    (Answer Weaker : Given → List ℕ → Type 0) (IsFault IsOther : Given → Fault → Type 0)
    (Delivered Others : (List ℕ → Type 0) → Type 0) (Ends Stops : Fault → Type 0)
    (sink : SinkRun) where
  pub WritesAnswer-weaker :
      (((P Q : Given → Type 0) → ((given : Given) → P given → Q given) → OfKnown P
      → OfKnown Q)) → ((given : Given) (text : List ℕ) → Answer given text → Weaker given text)
      → (Delivered (Appends sink.before sink.after) → Others (Appends sink.before sink.after))
      → WritesAnswer OfKnown Answer IsFault Delivered Ends sink (Ok tt)
      → WritesAnswer OfKnown Weaker IsOther Others Stops sink (Ok tt)
  WritesAnswer-weaker known weaker delivered run = record {
    text = known _ _ (λ given h. (h.0, weaker given h.0 h.1, h.2)) run.text;
    answered = delivered run.answered;
    flushed = run.flushed;
    refusal = tt;
    refused = tt;
    nothing = tt;
    prefix = λ is. absurd (IsErrOf-not_ok tt Write is);
    part = λ is. absurd (IsErrOf-not_ok tt Write is);
    written = run.written;
  }
