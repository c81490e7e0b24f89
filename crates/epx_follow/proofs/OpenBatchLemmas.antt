-- What a follower holds after a line, and what a line that is not blank does to it, with and
-- without the end of its batch.
use Rattle.std.proofs.Common.{◌≡◌, ◌≢◌, ◌⊎◌, inl, inr, ◌∙◌, ◌+◌, ◌++◌, ◌∷◌, ℕ, Bool, true, false}
use Rattle.std.proofs.Common.{List, [], length, Contains, IfErr, IfOk, Option, Ok, Err, Result}
use Rattle.std.proofs.Common.{ap, ap₂}
use Rattle.std.proofs.Common.{append-nil, append_assoc, refl, subst, subst₂, sym}
use Rattle.epx_types.proofs.Common.{BTreeMap, Instance, length-append}
use Rattle.epx_types.specs.declared.fault.Fault.{Fault}
use Rattle.epx_types.specs.declared.fault.Fault.TheVariants.{Memory, BadLine, Write}
use Rattle.epx_types.specs.declared.fault.Why.{Why}
use Rattle.epx_types.specs.declared.id.Id.{Id}
use Rattle.epx_types.specs.declared.place.Place.{Place}
use Rattle.epx_executor.specs.Commits.{ExecutorView}
use Rattle.epx_devices.proofs.KnownBytesLemmas.{Appends-trans}
use Rattle.epx_lines.specs.between.Faults.{IsFaultOf}
use Rattle.epx_lines.specs.Lines.{lines_of}
use Rattle.epx_lines.specs.Meaning.{is_blank, meaning_of}
use Rattle.epx_lines.specs.declared.Line.{Line}
use Rattle.epx_lines.specs.declared.LineFault.{LineFault}
use Rattle.epx_lines.specs.declared.Line.TheVariants.{Blank, Entry}
use Rattle.std.specs.Io.KnownBytes.{Appends}
use Rattle.epx_follow.specs.declared.held_lines.HeldLines.{HeldLines}
use Rattle.epx_follow.specs.Following.{FollowerView, joined, next_line}
use Rattle.epx_follow.specs.FollowingStops.{StopsAmong}
use Rattle.epx_follow.specs.LinesTaken.{EndsIf, RefusesAs, RefusesIf, RefusesLine}
use Rattle.epx_follow.specs.LinesTaken.{TakesAs, TakesLine}
use Rattle.epx_follow.specs.LogsTaken.{TakesLines}
use Rattle.epx_follow.specs.inner.FirstPlaces.{place_in}
use Rattle.epx_follow.specs.inner.HeldLines.{AreHeld, AreNewlyHeld, HoldsEntry, IsHeld}
use Rattle.epx_follow.specs.inner.HeldLines.{passed_lines, view_of}
use Rattle.epx_follow.specs.inner.OpenBatches.{BatchGoesOn, HoldsBytes, IsReadOf, RefusesText}
use Rattle.epx_follow.specs.inner.PartsTaken.{TakesBytes}
use Rattle.epx_follow.proofs.HeldLineLemmas.{AreHeld-passed}
use Rattle.epx_follow.proofs.HoldLemmas.{AreHeld-now, joined-now, shown}
use Rattle.epx_follow.proofs.LogsTakenLemmas.{TakesLines-append, Appends-nothing, lines_of-empty}
use Rattle.epx_follow.proofs.LogsTakenLemmas.{TakesLines-one}
use Rattle.epx_follow.proofs.LogsTakenLemmas.{StopsAmong-later, StopsAmong-line}

-- ---- what is held

-- no batch is open
module _ (v : ExecutorView) (places : BTreeMap Id Place) (next : Place) (h : HeldLines)
    (new : AreNewlyHeld places next h) where
  abbrev begun : FollowerView
  begun = shown v.done v.store (place_in places) v.pending [] [] next false

  pub view_of-begun : view_of v h ≡ begun
  view_of-begun =
      ap (λ (ps : BTreeMap Id Place). shown v.done v.store (place_in ps) v.pending
      h.batch_places.items h.batch.items h.next h.is_open) new.0
      ∙ ap₂ (λ (ps : List Place) (es : List Instance). shown v.done v.store (place_in places)
      v.pending ps es h.next h.is_open) new.2 new.1
      ∙ ap₂ (λ (p : Place) (is_open : Bool). shown v.done v.store (place_in places) v.pending [] []
      p is_open) new.3 new.4

  pub IsHeld-begun : AreHeld (place_in places) begun → IsHeld v h
  IsHeld-begun held = (
    subst₂ (λ (ps : BTreeMap Id Place) (w : FollowerView). AreHeld (place_in ps) w) (sym new.0)
        (sym view_of-begun) held,
    ap length new.2 ∙ sym (ap length new.1),
  )

-- a line without an instance came
pub IsHeld-passed : (v : ExecutorView) (h now : HeldLines) → IsHeld v h → now ≡ passed_lines h
    → IsHeld v now
IsHeld-passed v h now held is =
    subst (IsHeld v) (sym is) (AreHeld-passed (place_in h.places) (view_of v h) held.0, held.1)

-- a line of an instance that is not executed came
module _ (v : ExecutorView) (old new : HeldLines) (e : Instance) (held : IsHeld v old)
    (left : ¬ Contains v.done e.id) (h : HoldsEntry old e new) where
  now_shown : shown v.done v.store (place_in old.places) v.pending new.batch_places.items
      new.batch.items (next_line old.next) true ≡ view_of v new
  now_shown = ap (λ (ps : BTreeMap Id Place). shown v.done v.store (place_in ps) v.pending
      new.batch_places.items new.batch.items (next_line old.next) true) (sym h.places)
      ∙ ap₂ (λ (p : Place) (is_open : Bool). shown v.done v.store (place_in new.places)
      v.pending new.batch_places.items new.batch.items p is_open) (sym h.next) (sym h.is_open)

  pub IsHeld-entry : IsHeld v new
  IsHeld-entry = (
    subst₂ (λ (ps : BTreeMap Id Place) (w : FollowerView). AreHeld (place_in ps) w)
        (sym h.places) now_shown
        (AreHeld-now v.done v.store (place_in old.places) v.pending old.batch_places.items
        new.batch_places.items old.batch.items new.batch.items old.next old.is_open e held.0 held.1
        left h.batch_places h.batch),
    ap length h.batch_places ∙ length-append old.batch_places.items (old.next ∷ [])
        ∙ ap (λ (n : ℕ). n + 1) held.1 ∙ sym (length-append old.batch.items (e ∷ []))
        ∙ sym (ap length h.batch),
  )

  pub view_of-joined : view_of v new ≡ joined (view_of v old) e
  view_of-joined = sym now_shown
      ∙ joined-now v.done v.store (place_in old.places) v.pending old.batch_places.items
      new.batch_places.items old.batch.items new.batch.items old.next old.is_open e held.0 held.1
      left h.batch_places h.batch

-- ---- what a line does

-- the line is taken, and with it the batch ends or stays open
pub TakesLine-goes_on : (each : Bool) (line : List ℕ) (v w u : FollowerView) (text : List ℕ)
    → is_blank line ≡ false → BatchGoesOn line v w → EndsIf each w u text
    → TakesLine each line v u text
TakesLine-goes_on each line v w u text filled (Blank, means, is) h =
    subst₂ (λ b m. TakesAs each b m v u text) (sym filled) (sym means)
    (subst (λ (x : FollowerView). EndsIf each x u text) is h)
TakesLine-goes_on each line v w u text filled (Entry e, means, is) h =
    subst₂ (λ b m. TakesAs each b m v u text) (sym filled) (sym means)
    (subst (λ (x : FollowerView). EndsIf each x u text) is h)

-- what was read of it, as a reader of lines says
pub IsReadOf-result : (line : List ℕ) (read : Result Line LineFault)
    → IfOk read (λ l. meaning_of line ≡ Ok l)
    → IfErr read (λ fault. IsFaultOf fault (meaning_of line)) → IsReadOf line read
IsReadOf-result line (Ok l) good bad = good
IsReadOf-result line (Err fault) good bad = bad

-- or the line is refused
memory_refuses : (each : Bool) (v : FollowerView) → RefusesIf each v Memory
memory_refuses false v = refl
memory_refuses true v = inl refl

pub RefusesLine-text : (each : Bool) (line : List ℕ) (v : FollowerView) (fault : Fault)
    → is_blank line ≡ false → RefusesText line v.next fault → RefusesLine each line v fault
RefusesLine-text each line v fault filled h =
    subst (λ b. RefusesAs each b (meaning_of line) v fault) (sym filled)
    (by_meaning (meaning_of line) h)
  where
    by_meaning : (m : Result Line Why) → (fault ≡ Memory)
        ⊎ ((why : Why) × (m ≡ Err why) × (fault ≡ BadLine v.next why))
        → RefusesAs each false m v fault
    by_meaning (Ok Blank) (inl memory) =
        subst (RefusesIf each _) (sym memory) (memory_refuses each _)
    by_meaning (Ok (Entry e)) (inl memory) = inl memory
    by_meaning (Err why) (inl memory) = inl memory
    by_meaning m (inr (why, is, named)) =
        subst (λ r. RefusesAs each false r v fault) (sym is) (inr named)

-- which is no fault of the output
pub RefusesText-not_write : (line : List ℕ) (place : Place) (fault : Fault)
    → RefusesText line place fault
    → fault ≢ Write
RefusesText-not_write line place fault (inl memory) write =
    let same : Memory ≡ Write = sym memory ∙ write in cc same
RefusesText-not_write line place fault (inr (why, means, named)) write =
    let same : BadLine place why ≡ Write = sym named ∙ write in cc same

-- ---- lines one after another

-- the first lines of the bytes are taken, these bytes are left, and the text is written
abbrev pub TakesTo : Bool → FollowerView → List ℕ → FollowerView → List ℕ → Option (List ℕ)
    → Option (List ℕ) → Type 0
TakesTo each v bytes w rest was now = (done : List (List ℕ)) × (text : List ℕ)
    × (lines_of bytes ≡ done ++ lines_of rest) × TakesLines each v done w text
    × Appends was now text

-- with the next line
pub TakesTo-line : (each : Bool) (v w u : FollowerView) (bytes rest line more : List ℕ)
    (was mid now : Option (List ℕ)) (text : List ℕ) → TakesTo each v bytes w rest was mid
    → lines_of rest ≡ line ∷ lines_of more → TakesLine each line w u text → Appends mid now text
    → TakesTo each v bytes u more was now
TakesTo-line each v w u bytes rest line more was mid now text so_far cut taken written = (
  so_far.0 ++ line ∷ [],
  so_far.1 ++ text,
  so_far.2 ∙ ap (λ ls. so_far.0 ++ ls) cut
      ∙ sym (append_assoc so_far.0 (line ∷ []) (lines_of more)),
  TakesLines-append each v w u so_far.0 (line ∷ []) so_far.1 text so_far.3
      (TakesLines-one each w u line text taken),
  Appends-trans was mid now so_far.1 text so_far.4 written,
)

-- with the lines that end no batch
pub TakesTo-held : (each : Bool) (v w u : FollowerView) (bytes rest others : List ℕ)
    (was now : Option (List ℕ)) → TakesTo each v bytes w rest was now
    → HoldsBytes each w rest u others → TakesTo each v bytes u others was now
TakesTo-held each v w u bytes rest others was now so_far h = (
  so_far.0 ++ h.0,
  so_far.1,
  so_far.2 ∙ ap (λ ls. so_far.0 ++ ls) h.1 ∙ sym (append_assoc so_far.0 h.0 (lines_of others)),
  subst (λ (t : List ℕ). TakesLines each v (so_far.0 ++ h.0) u t) (append-nil so_far.1)
      (TakesLines-append each v w u so_far.0 h.0 so_far.1 [] so_far.3 h.2),
  so_far.4,
)

-- all lines are taken
pub TakesBytes-to_end : (each : Bool) (v w : FollowerView) (bytes rest : List ℕ)
    (was now : Option (List ℕ)) → TakesTo each v bytes w rest was now → length rest ≡ 0
    → TakesBytes each v bytes w was now
TakesBytes-to_end each v w bytes rest was now h none = (
  h.1,
  subst (λ (ls : List (List ℕ)). TakesLines each v ls w h.1) (sym (h.2
      ∙ ap (λ ls. h.0 ++ ls) (lines_of-empty rest none) ∙ append-nil h.0)) h.3,
  h.4,
)

-- ---- lines that end no batch

pub HoldsBytes-none : (each : Bool) (v : FollowerView) (bytes : List ℕ)
    → HoldsBytes each v bytes v bytes
HoldsBytes-none each v bytes = ([], refl, (refl, refl))

pub HoldsBytes-step : (each : Bool) (v w u : FollowerView) (bytes rest line more : List ℕ)
    → HoldsBytes each v bytes w rest → lines_of rest ≡ line ∷ lines_of more
    → TakesLine each line w u [] → HoldsBytes each v bytes u more
HoldsBytes-step each v w u bytes rest line more h cut taken = (
  h.0 ++ line ∷ [],
  h.1 ∙ ap (λ ls. h.0 ++ ls) cut ∙ sym (append_assoc h.0 (line ∷ []) (lines_of more)),
  TakesLines-append each v w u h.0 (line ∷ []) [] [] h.2 (TakesLines-one each w u line [] taken),
)

-- one of them is refused
pub StopsAmong-held : (each : Bool) (v w : FollowerView) (bytes rest line more : List ℕ)
    (fault : Fault)
    (was : Option (List ℕ)) → HoldsBytes each v bytes w rest
    → lines_of rest ≡ line ∷ lines_of more → RefusesLine each line w fault
    → StopsAmong each v (lines_of bytes) fault [] was was
StopsAmong-held each v w bytes rest line more fault was h cut refused =
    StopsAmong-line each v w h.0 (lines_of more) (lines_of bytes) line fault was was was [] h.2
    (Appends-nothing was) (inl (refused, Appends-nothing was))
    (h.1 ∙ ap (λ ls. h.0 ++ ls) cut)

-- after others that are taken
pub StopsAmong-taken : (each : Bool) (v w : FollowerView) (bytes rest : List ℕ) (fault : Fault)
    (was mid now : Option (List ℕ)) → TakesTo each v bytes w rest was mid
    → StopsAmong each w (lines_of rest) fault [] mid now
    → StopsAmong each v (lines_of bytes) fault [] was now
StopsAmong-taken each v w bytes rest fault was mid now so_far stops =
    subst (λ (ls : List (List ℕ)). StopsAmong each v ls fault [] was now) (sym so_far.2)
    (StopsAmong-later each v w so_far.0 (lines_of rest) fault was mid now so_far.1 so_far.3
    so_far.4 stops)
