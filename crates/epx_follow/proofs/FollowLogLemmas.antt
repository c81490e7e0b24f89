-- Following logs one after another.
use Rattle.std.proofs.Common.{◌≡◌, inl, inr, ◌∙◌, ◌+◌, ◌<◌, ℕ, Bool, List, [], ◌∷◌, ◌++◌, Option}
use Rattle.std.proofs.Common.{Some, Result, Ok, Err, IfOk, ap, append-nil, arith, get_or, length}
use Rattle.std.proofs.Common.{refl, set}
use Rattle.std.proofs.Common.{drop, drop-set-lt, slice_get, subst, sym}
use Rattle.std.proofs.lemmas.Grind.{drop_more_same}
use Rattle.epx_types.proofs.Common.{Appends, IfErr, get_or-drop, get_or-set_same, length-append}
use Rattle.epx_types.proofs.Common.{length-set, slice_get-get_or}
use Rattle.epx_types.specs.declared.fault.Fault.{Fault}
use Rattle.epx_devices.proofs.KnownBytesLemmas.{Appends-trans}
use Rattle.epx_devices.specs.Deliveries.{DeliversAll}
use Rattle.epx_devices.specs.Models.{SourceModel}
use Rattle.epx_merge.proofs.DeliveredLemmas.{FirstDeliver-step, FirstDeliver-unchanged}
use Rattle.epx_merge.specs.DeliveredLogs.{EachDelivers, FirstDeliver, IsOfNoSource}
use Rattle.epx_follow.specs.Following.{FollowerView, at_next_log}
use Rattle.epx_follow.specs.FollowingStops.{AppendsSome, StopsAtEnd, StopsFollowing, StopsWithin}
use Rattle.epx_follow.specs.InputEnds.{EndsInput, IsFollowed}
use Rattle.epx_follow.specs.LogsTaken.{TakesLogs}
use Rattle.epx_follow.specs.inner.PartsTaken.{TakesBytes}
use Rattle.epx_follow.proofs.LogsTakenLemmas.{TakesLogs-push, Appends-nothing, AppendsSome-append}
use Rattle.epx_follow.proofs.LogsTakenLemmas.{StopsAmong-after}

-- ---- a stop after the text of other logs

module _ (was out more : Option (List ℕ)) (text : List ℕ) (before : Appends was out text) where
  within_after : {S : Type 0} (D : SourceModel S) (each : Bool) (log : ℕ) (first last : S)
      (v : FollowerView) (fault : Fault) → StopsWithin D each log first last v fault [] out more
      → StopsWithin D each log first last v fault text was more
  within_after D each log first last v fault (lines, inl (read, among)) =
      (lines, inl (read, StopsAmong-after each v _ fault was out more text before among))
  within_after D each log first last v fault (lines, inr (stopped, taken)) = (
    lines,
    inr (
      stopped,
      (taken.0, taken.1, taken.2, Appends-trans was out more text taken.1 before taken.3),
    ),
  )

  end_after : (v : FollowerView) (fault : Fault) → StopsAtEnd v fault [] out more
      → StopsAtEnd v fault text was more
  end_after v fault (inl (refused, appended)) =
      inl (
        refused,
        subst (Appends was more) (append-nil text)
            (Appends-trans was out more text [] before appended),
      )
  end_after v fault (inr (is, rest)) =
      inr (
        is,
        (
          rest.0,
          rest.1,
          rest.2,
          subst (λ t. AppendsSome t rest.1 was more) (append-nil text)
              (AppendsSome-append was out more text [] rest.1 before rest.3),
        ),
      )

-- ---- logs that are followed

-- the first n sources are read to their ends, their logs are followed, and their text is written
pub record AreFollowed {S : Type 0} (D : SourceModel S) (start : FollowerView) (each : Bool)
    (first now : List S) (n : ℕ) (v : FollowerView) (was out : Option (List ℕ)) : Type 0 where
  pub many : length now ≡ length first
  pub unread : drop n now ≡ drop n first
  pub logs : List (List ℕ)
  pub text : List ℕ
  pub count : length logs ≡ n
  pub whole : FirstDeliver D first now logs
  pub lines : TakesLogs each start logs v text
  pub appended : Appends was out text

module _ {S : Type 0} (D : SourceModel S) (start : FollowerView) (each : Bool) (first : List S)
  where
    pub AreFollowed-none : (was : Option (List ℕ))
        → AreFollowed D start each first first 0 start was was
    AreFollowed-none was = record {
      many = refl;
      unread = refl;
      logs = [];
      text = [];
      count = refl;
      whole = tt;
      lines = (refl, refl);
      appended = Appends-nothing was;
    }

    pub StopsFollowing-too_many : (was : Option (List ℕ)) (fault : Fault)
        → IsOfNoSource (length first) fault
        → StopsFollowing D start each first first fault was was
    StopsFollowing-too_many was fault many = record {
      logs = [];
      whole = tt;
      taken = start;
      text = [];
      lines = (refl, refl);
      stopped = inl (many, Appends-nothing was);
    }

    module _ (now : List S) (n : ℕ) (v : FollowerView) (was out : Option (List ℕ))
        (sofar : AreFollowed D start each first now n v was out) where
      -- the next source is as it was
      pub get_or-next : (d : S) → get_or now n d ≡ get_or first n d
      get_or-next d =
          let none : n + 0 ≡ n = omega arith in
          ap (λ k. get_or now k d) (sym none) ∙ sym (get_or-drop n now 0 d)
          ∙ ap (λ ss. get_or ss 0 d) sofar.unread ∙ get_or-drop n first 0 d
          ∙ ap (λ k. get_or first k d) none

      pub AreFollowed-step : (d later : S) (bytes : List ℕ) (u : FollowerView)
          (more : Option (List ℕ)) → n < length first
          → DeliversAll D (get_or now n d) later bytes → TakesBytes each v bytes u out more
          → AreFollowed D start each first (set now n later) (n + 1) (at_next_log u) was more
      AreFollowed-step d later bytes u more l all taken = record {
        many = length-set now n later ∙ sofar.many;
        unread = drop-set-lt (n + 1) now n later (omega arith)
            ∙ drop_more_same now first n sofar.unread;
        logs = sofar.logs ++ bytes ∷ [];
        text = sofar.text ++ taken.0;
        count = omega (arith, length-append sofar.logs (bytes ∷ []), sofar.count);
        whole = FirstDeliver-step D first now sofar.logs n d later bytes sofar.count l sofar.many
            sofar.whole (subst (λ s. DeliversAll D s later bytes) (get_or-next d) all);
        lines = TakesLogs-push each start v u sofar.logs bytes sofar.text taken.0 sofar.lines
            taken.1;
        appended = Appends-trans was out more sofar.text taken.0 sofar.appended taken.2;
      }

      pub StopsFollowing-next_log : (d later : S) (fault : Fault) (more : Option (List ℕ))
          → n < length first
          → StopsWithin D each n (get_or now n d) later v fault [] out more
          → StopsFollowing D start each first (set now n later) fault was more
      StopsFollowing-next_log d later fault more l stops =
          let within : n < length (set now n later) =
          omega (arith, l, sofar.many, length-set now n later) in
          let is = slice_get-get_or (set now n later) n later within in
          let here = get_or-set_same now n later later (omega (arith, l, sofar.many)) in
          record {
            logs = sofar.logs;
            whole =
                FirstDeliver-unchanged D first now sofar.logs n later (omega (arith, sofar.count))
                sofar.whole;
            taken = v;
            text = sofar.text;
            lines = sofar.lines;
            stopped = inr (inl (
              get_or first n d,
              later,
              ap (slice_get first) sofar.count ∙ slice_get-get_or first n d l,
              ap (slice_get (set now n later)) sofar.count ∙ is ∙ ap Some here,
              subst (λ k. StopsWithin D each k (get_or first n d) later v fault sofar.text was more)
                  (sym sofar.count)
                  (within_after was out more sofar.text sofar.appended D each n (get_or first n d)
                  later v fault (subst (λ s. StopsWithin D each n s later v fault [] out more)
                  (get_or-next d) stops)),
            ));
          }

      -- no source is left
      module _ (more : Option (List ℕ)) (all : n ≡ length first) where
        pub StopsFollowing-at_end : {X : Type 0} (r : Result X Fault)
            → IfErr r (λ fault. StopsAtEnd v fault [] out more)
            → IfErr r (λ fault. StopsFollowing D start each first now fault was more)
        StopsFollowing-at_end (Ok last) stops = tt
        StopsFollowing-at_end (Err fault) stops = record {
          logs = sofar.logs;
          whole = sofar.whole;
          taken = v;
          text = sofar.text;
          lines = sofar.lines;
          stopped = inr (inr (
            sofar.count ∙ all,
            end_after was out more sofar.text sofar.appended v fault stops,
          ));
        }

        pub IsFollowed-all : (r : Result FollowerView Fault)
            → IfOk r (λ last. (rest : List ℕ) × EndsInput v last rest × Appends out more rest)
            → IfOk r (λ last. (logs : List (List ℕ)) × (text : List ℕ)
            × EachDelivers D first now logs × IsFollowed start each logs last text
            × Appends was more text)
        IsFollowed-all (Err fault) ends = tt
        IsFollowed-all (Ok last) ends = (
          sofar.logs,
          sofar.text ++ ends.0,
          record { as_many = sofar.count ∙ all; whole = sofar.whole },
          record {
            taken = v;
            batches = sofar.text;
            rest = ends.0;
            lines = sofar.lines;
            ended = ends.1;
            printed = refl;
          },
          Appends-trans was out more sofar.text ends.0 sofar.appended ends.2,
        )
