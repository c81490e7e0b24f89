-- The loop invariants of the two transfers.
use Rattle.std.proofs.Common.{◌≡◌, ℕ, ◌+◌, ◌-◌, ◌≤◌, Bool, false, List, [], ◌∷◌, ◌++◌, length, take}
use Rattle.std.proofs.Common.{drop, flat_map, Option, refl, sym, ap, ◌∙◌, subst, arith, append-nil}
use Rattle.std.proofs.Common.{true, None, Some, Ok, Err, rules, IfSome, Result}
use Rattle.epx_types.proofs.Common.{MatchResult, common_steps, max_log_bytes, Appends, Consumes}
use Rattle.epx_types.proofs.Common.{IsAtEnd}
use Rattle.epx_types.specs.declared.fault.Fault.{Fault}
use Rattle.epx_types.specs.declared.fault.Fault.TheVariants.{LogTooLong, Memory}
use Rattle.std.proofs.lemmas.Grind.{flat_map-append}
use Rattle.epx_devices.specs.Deliveries.{ReadStep, AreReads, Delivers}
use Rattle.epx_devices.specs.declared.transfer.LogPart.{LogPart}
use Rattle.epx_devices.specs.between.LogParts.{EndsLog, EndsPart, IsFrontOfLog, IsReadUpTo}
use Rattle.epx_devices.specs.Models.{SinkModel, SourceModel}
use Rattle.epx_devices.proofs.KnownBytesLemmas.{Appends-trans, Consumes-trans, take-more}

-- the sink has accepted the first n bytes, and no further call has failed
pub record IsWritten {S : Type 0} (D : SinkModel S) (first now : S) (bytes : List ℕ) (n : ℕ) : Type
    0 where
  pub whole : D.has_failed now ≡ D.has_failed first
  pub within : n ≤ length bytes
  pub appended : Appends (D.contents first) (D.contents now) (take n bytes)

pub Consumes-nil : (o : Option (List ℕ)) → Consumes o o []
Consumes-nil None = tt
Consumes-nil (Some xs) = refl

pub IfSome-at_end : (a b : Option (List ℕ)) (bytes : List ℕ) → Consumes a b bytes → IsAtEnd b
    → IfSome a (λ all. bytes ≡ all)
IfSome-at_end None b bytes consumed ended = tt
IfSome-at_end (Some xs) None bytes consumed ended = absurd consumed
IfSome-at_end (Some xs) (Some ys) bytes consumed ended =
    sym (consumed ∙ ap (λ rest. bytes ++ rest) ended ∙ append-nil bytes)

-- the bytes from n on, as a slice
pub take-rest : (n : ℕ) (xs : List ℕ) → take (length xs - n) (drop n xs) ≡ drop n xs
take-rest n xs = grind (arith, common_steps)

pub IsWritten-step : {S : Type 0} (D : SinkModel S) (first now later : S) (bytes : List ℕ) (n k : ℕ)
    → IsWritten D first now bytes n → k ≤ length (take (length bytes - n) (drop n bytes))
    → Appends (D.contents now) (D.contents later) (take k (take (length bytes - n) (drop n bytes)))
    → D.has_failed later ≡ D.has_failed first → IsWritten D first later bytes (n + k)
IsWritten-step D first now later bytes n k sofar few appended whole =
    let all = Appends-trans (D.contents first) (D.contents now) (D.contents later) (take n bytes)
    (take k (drop n bytes)) sofar.appended (rw take-rest at appended) in
    record {
      whole = whole;
      within = grind (arith, common_steps);
      appended = rw take-more at all;
    }

module _ {S : Type 0} (D : SourceModel S) where
  abbrev returned_by : List (ReadStep S) → List ℕ
  returned_by steps = flat_map (λ (r : ReadStep S). r.bytes) steps

  AreReads-append : (first now : S) (steps : List (ReadStep S)) (next : ReadStep S)
      → AreReads D first steps now → D.reads now next.room next.bytes next.next
      → AreReads D first (steps ++ next ∷ []) next.next
  AreReads-append first now [] next before read =
      (subst (λ (s : S). D.reads s next.room next.bytes next.next) (sym before) read, refl)
  AreReads-append first now (r ∷ steps) next before read =
      (before.0, AreReads-append r.next now steps next before.1 read)

  -- one more read returned a part of the bytes
  pub delivered-then : (first now later : S) (bytes part : List ℕ) (room : ℕ)
      → Delivers D first now bytes → D.reads now room part later
      → Delivers D first later (bytes ++ part)
  delivered-then first now later bytes part room sofar read =
      let next : ReadStep S = record { room = room; bytes = part; next = later } in
      let all = flat_map-append (λ (r : ReadStep S). r.bytes) sofar.steps (next ∷ []) in
      let last = ap (λ bs. returned_by sofar.steps ++ bs) (append-nil part) in
      record {
        steps = sofar.steps ++ next ∷ [];
        in_turn = AreReads-append first now sofar.steps next sofar.in_turn read;
        returned = ap (λ bs. bs ++ part) sofar.returned ∙ sym (all ∙ last);
      }

  pub IsReadUpTo-step : (first now later : S) (bytes part : List ℕ) (room : ℕ)
      → IsReadUpTo D first now bytes → Consumes (D.remaining now) (D.remaining later) part
      → D.reads now room part later
      → length bytes + length part ≤ max_log_bytes + 1 → D.has_failed later ≡ false
      → IsReadUpTo D first later (bytes ++ part)
  IsReadUpTo-step first now later bytes part room sofar consumed read few whole = record {
    whole = whole;
    consumed = Consumes-trans (D.remaining first) _ (D.remaining later) bytes part sofar.consumed
        consumed;
    delivered = delivered-then first now later bytes part room sofar.delivered read;
    few = grind (arith, common_steps);
  }

  pub IsReadUpTo-none : (now : S) → D.has_failed now ≡ false → IsReadUpTo D now now []
  IsReadUpTo-none now whole = record {
    whole = whole;
    consumed = Consumes-nil (D.remaining now);
    delivered = record { steps = []; in_turn = refl; returned = refl };
    few = omega arith;
  }

  -- ---- how reading ends, once these bytes are read
  module _ (log : ℕ) (first now later : S) (bytes : List ℕ)
      (sofar : IsReadUpTo D first now bytes) where
    pub EndsLog-too_long : length bytes ≡ max_log_bytes + 1
        → EndsLog D log first now (Err (LogTooLong log))
    EndsLog-too_long many = record {
      bytes = tt;
      delivered = tt;
      ended = tt;
      fits = tt;
      faults = refl;
      stops = (refl, (bytes, sofar.delivered, many));
      failed = search (rules, sofar.whole);
      too_long = λ is. (bytes, sofar.consumed, many);
      no_further = (bytes, sofar.consumed, sofar.few);
    }

    pub EndsLog-out_of_memory : EndsLog D log first now (Err Memory)
    EndsLog-out_of_memory = record {
      bytes = tt;
      delivered = tt;
      ended = tt;
      fits = tt;
      faults = tt;
      stops = tt;
      failed = search (rules, sofar.whole);
      too_long = search rules;
      no_further = (bytes, sofar.consumed, sofar.few);
    }

  -- no part has more bytes than a log may have, so such a part is the last
  pub EndsLog-from_part : (log : ℕ) (first now : S) (head : List ℕ) (result : Result LogPart Fault)
      → EndsPart D log first now head (max_log_bytes + 1) result
      → MatchResult result (λ part. EndsLog D log first now (Ok (head ++ part.bytes.items)))
      (λ fault. EndsLog D log first now (Err fault))
  EndsLog-from_part log first now head (Err fault) ends = ends
  EndsLog-from_part log first now head (Ok part) ends = all part.is_last ends where
    all : (is_last : Bool) → IsFrontOfLog D log first now
        (length head + (max_log_bytes + 1)) (head ++ part.bytes.items) is_last
        → EndsLog D log first now (Ok (head ++ part.bytes.items))
    all true is = is
    all false is = absurd (omega (arith, is.1, is.2))
