-- Lines and logs that are taken after others, and where they stop.
use Rattle.std.proofs.Common.{◌≡◌, inl, inr, ◌∙◌, ℕ, Bool, true, false, List, [], ◌∷◌, ◌++◌}
use Rattle.std.proofs.Common.{Option, None, Some, Result, Ok, Err, ap, append-nil, append_assoc}
use Rattle.std.proofs.Common.{arith, length, refl, subst, subst₂, sym, take}
use Rattle.epx_types.proofs.Common.{Appends}
use Rattle.epx_types.specs.declared.fault.Fault.{Fault}
use Rattle.epx_types.specs.declared.fault.Why.{Why}
use Rattle.epx_types.specs.declared.place.Place.{Place}
use Rattle.epx_devices.proofs.KnownBytesLemmas.{Appends-trans}
use Rattle.epx_lines.specs.Lines.{lines_of}
use Rattle.epx_lines.specs.Meaning.{is_blank, meaning_of}
use Rattle.epx_lines.specs.declared.Line.{Line}
use Rattle.epx_lines.specs.declared.Line.TheVariants.{Blank, Entry}
use Rattle.epx_follow.specs.Following.{FollowerView, at_next_log, joined, passed}
use Rattle.epx_follow.specs.FollowingStops.{AppendsSome, StopsAmong, StopsAtLine}
use Rattle.epx_follow.specs.LinesTaken.{EndsIf, TakesAs, TakesLine}
use Rattle.epx_follow.specs.LogsTaken.{TakesLines, TakesLogs}

-- ---- what is appended

pub Appends-nothing : (o : Option (List ℕ)) → Appends o o []
Appends-nothing None = tt
Appends-nothing (Some xs) = sym (append-nil xs)

-- some text and a part of the next one, after an earlier text
pub AppendsSome-append : (was mid now : Option (List ℕ)) (first text next : List ℕ)
    → Appends was mid first → AppendsSome text next mid now
    → AppendsSome (first ++ text) next was now
AppendsSome-append was mid now first text next before h = (
  h.0,
  subst (Appends was now) (sym (append_assoc first text (take h.0 next)))
      (Appends-trans was mid now first (text ++ take h.0 next) before h.1),
)

-- ---- lines after others

-- no byte, no line
pub lines_of-empty : (bytes : List ℕ) → length bytes ≡ 0 → lines_of bytes ≡ []
lines_of-empty [] none = refl
lines_of-empty (b ∷ bs) none = absurd (omega (arith, none))

pub TakesLines-one : (each : Bool) (v w : FollowerView) (line text : List ℕ)
    → TakesLine each line v w text → TakesLines each v (line ∷ []) w text
TakesLines-one each v w line text h = (w, text, [], h, (refl, refl), sym (append-nil text))

pub TakesLines-append : (each : Bool) (v w u : FollowerView) (xs ys : List (List ℕ))
    (first rest : List ℕ) → TakesLines each v xs w first → TakesLines each w ys u rest
    → TakesLines each v (xs ++ ys) u (first ++ rest)
TakesLines-append each v w u [] ys first rest h k =
    subst₂ (λ (a : FollowerView) (t : List ℕ). TakesLines each a ys u (t ++ rest))
    (sym h.0) (sym h.1) k
TakesLines-append each v w u (x ∷ xs) ys first rest h k = (
  h.0,
  h.1,
  h.2 ++ rest,
  h.3,
  TakesLines-append each h.0 w u xs ys h.2 rest h.4 k,
  ap (λ t. t ++ rest) h.5 ∙ append_assoc h.1 h.2 rest,
)

pub TakesLogs-push : (each : Bool) (v w u : FollowerView) (logs : List (List ℕ)) (log : List ℕ)
    (first rest : List ℕ) → TakesLogs each v logs w first
    → TakesLines each w (lines_of log) u rest
    → TakesLogs each v (logs ++ log ∷ []) (at_next_log u) (first ++ rest)
TakesLogs-push each v w u [] log first rest h k = (
  u,
  rest,
  [],
  subst (λ (a : FollowerView). TakesLines each a (lines_of log) u rest) (sym h.0) k,
  (refl, refl),
  ap (λ t. t ++ rest) h.1 ∙ sym (append-nil rest),
)
TakesLogs-push each v w u (l ∷ logs) log first rest h k = (
  h.0,
  h.1,
  h.2 ++ rest,
  h.3,
  TakesLogs-push each (at_next_log h.0) w u logs log h.2 rest h.4 k,
  ap (λ t. t ++ rest) h.5 ∙ append_assoc h.1 h.2 rest,
)

-- logs that are taken after others, where the first ones end
pub TakesLogs-split : (each : Bool) (v w : FollowerView) (logs more : List (List ℕ))
    (text : List ℕ) → TakesLogs each v (logs ++ more) w text
    → (u : FollowerView) × (first : List ℕ) × (rest : List ℕ) × TakesLogs each v logs u first
    × TakesLogs each u more w rest × (text ≡ first ++ rest)
TakesLogs-split each v w [] more text h = (v, [], text, (refl, refl), h, refl)
TakesLogs-split each v w (log ∷ logs) more text h =
    let k = TakesLogs-split each (at_next_log h.0) w logs more h.2 h.4 in (
      k.0,
      h.1 ++ k.1,
      k.2,
      (h.0, h.1, k.1, h.3, k.3, refl),
      k.4,
      h.5 ∙ ap (λ t. h.1 ++ t) k.5 ∙ sym (append_assoc h.1 k.1 k.2),
    )

-- ---- where lines stop

pub StopsAtLine-later : (each : Bool) (v : FollowerView) (line : List ℕ) (fault : Fault)
    (was mid now : Option (List ℕ)) (first text : List ℕ) → Appends was mid first
    → StopsAtLine each v line fault text mid now
    → StopsAtLine each v line fault (first ++ text) was now
StopsAtLine-later each v line fault was mid now first text before (inl (refused, appended)) =
    inl (refused, Appends-trans was mid now first text before appended)
StopsAtLine-later each v line fault was mid now first text before (inr (is, h)) =
    inr (is, (h.0, h.1, h.2, AppendsSome-append was mid now first text h.1 before h.3))

-- a line after others stops it
pub StopsAmong-line : (each : Bool) (v w : FollowerView) (xs ys all : List (List ℕ)) (line : List ℕ)
    (fault : Fault) (was mid now : Option (List ℕ)) (first : List ℕ)
    → TakesLines each v xs w first → Appends was mid first
    → StopsAtLine each w line fault [] mid now → all ≡ xs ++ line ∷ ys
    → StopsAmong each v all fault [] was now
StopsAmong-line each v w xs ys all line fault was mid now first taken before stopped cut = record {
  before = xs;
  line = line;
  after = ys;
  cut = cut;
  then = w;
  batches = first;
  taken = taken;
  stopped = subst (λ t. StopsAtLine each w line fault t was now) (append-nil first)
      (StopsAtLine-later each w line fault was mid now first [] before stopped);
}

-- one of some lines after others stops it
pub StopsAmong-later : (each : Bool) (v w : FollowerView) (xs ys : List (List ℕ)) (fault : Fault)
    (was mid now : Option (List ℕ)) (first : List ℕ) → TakesLines each v xs w first
    → Appends was mid first → StopsAmong each w ys fault [] mid now
    → StopsAmong each v (xs ++ ys) fault [] was now
StopsAmong-later each v w xs ys fault was mid now first taken before h = record {
  before = xs ++ h.before;
  line = h.line;
  after = h.after;
  cut = ap (λ ls. xs ++ ls) h.cut ∙ sym (append_assoc xs h.before (h.line ∷ h.after));
  then = h.then;
  batches = first ++ h.batches;
  taken = TakesLines-append each v w h.then xs h.before first h.batches taken h.taken;
  stopped = StopsAtLine-later each h.then h.line fault was mid now first h.batches before h.stopped;
}

-- one of some lines stops it once the text of other logs is written
pub StopsAmong-after : (each : Bool) (v : FollowerView) (lines : List (List ℕ)) (fault : Fault)
    (was mid now : Option (List ℕ)) (text : List ℕ) → Appends was mid text
    → StopsAmong each v lines fault [] mid now → StopsAmong each v lines fault text was now
StopsAmong-after each v lines fault was mid now text before h = record {
  before = h.before;
  line = h.line;
  after = h.after;
  cut = h.cut;
  then = h.then;
  batches = h.batches;
  taken = h.taken;
  stopped = StopsAtLine-later each h.then h.line fault was mid now text h.batches before h.stopped;
}

-- ---- lines of one log

log_if : (ends : Bool) (v w : FollowerView) (text : List ℕ) → EndsIf ends v w text
    → w.next.log ≡ v.next.log
log_if true v w text h = ap (λ (p : Place). p.log) h.next
log_if false v w text h = ap (λ (u : FollowerView). u.next.log) h.0

log_as : (each blank : Bool) (m : Result Line Why) (v w : FollowerView) (text : List ℕ)
    → TakesAs each blank m v w text → w.next.log ≡ v.next.log
log_as each true m v w text h = ap (λ (p : Place). p.log) h.next
log_as each false (Ok Blank) v w text h = log_if each (passed v) w text h
log_as each false (Ok (Entry e)) v w text h = log_if each (joined v e) w text h
log_as each false (Err why) v w text h = absurd h

-- lines end no log
pub TakesLines-same_log : (each : Bool) (v w : FollowerView) (lines : List (List ℕ)) (text : List ℕ)
    → TakesLines each v lines w text → w.next.log ≡ v.next.log
TakesLines-same_log each v w [] text h = sym (ap (λ (u : FollowerView). u.next.log) h.0)
TakesLines-same_log each v w (line ∷ lines) text h =
    TakesLines-same_log each h.0 w lines h.2 h.4
    ∙ log_as each (is_blank line) (meaning_of line) v h.0 h.1 h.3
