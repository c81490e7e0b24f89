-- Following a log part by part.
use Rattle.std.proofs.Common.{◌≡◌, inl, inr, ◌∙◌, ◌<◌, ◌+◌, ℕ, Bool, List, [], ◌++◌, Option, ap}
use Rattle.std.proofs.Common.{append-nil, append_assoc, length, refl, subst, sym}
use Rattle.epx_types.proofs.Common.{length-append}
use Rattle.epx_types.specs.declared.fault.Fault.{Fault}
use Rattle.epx_types.specs.declared.fault.Fault.TheVariants.{LogTooLong, Read}
use Rattle.epx_devices.proofs.KnownBytesLemmas.{Appends-trans}
use Rattle.epx_devices.proofs.TransferLemmas.{delivered-then}
use Rattle.epx_devices.specs.Deliveries.{Delivers, DeliversAll}
use Rattle.epx_devices.specs.Models.{SourceModel}
use Rattle.epx_lines.specs.Lines.{lines_of}
use Rattle.epx_merge.proofs.OnwardLemmas.{lines_of-append}
use Rattle.epx_merge.specs.LogParts.{EndsLine}
use Rattle.epx_follow.specs.Following.{FollowerView}
use Rattle.epx_follow.specs.FollowingStops.{ReadsLines, StopsAmong, StopsWithin}
use Rattle.epx_follow.specs.FollowingStops.{most_followed_bytes}
use Rattle.epx_follow.specs.LogsTaken.{TakesLines}
use Rattle.epx_follow.specs.inner.PartsTaken.{StopsInPart, TakesBytes, TakesPart}
use Rattle.epx_follow.proofs.LogsTakenLemmas.{TakesLines-append, Appends-nothing}
use Rattle.epx_follow.proofs.LogsTakenLemmas.{StopsAmong-later}

-- the last bytes of lines end a line, or there are none
ends_line : (xs ys : List ℕ) → EndsLine xs → EndsLine ys → EndsLine (xs ++ ys)
ends_line xs ys first (inl none) =
    subst EndsLine (sym (ap (λ zs. xs ++ zs) none ∙ append-nil xs)) first
ends_line xs ys first (inr last) =
    inr (xs ++ last.0, ap (λ zs. xs ++ zs) last.1 ∙ sym (append_assoc xs last.0 _))

-- the lines of more bytes are taken after those of whole lines
pub TakesBytes-append : (each : Bool) (v w u : FollowerView) (xs ys : List ℕ)
    (was mid now : Option (List ℕ)) → EndsLine xs → TakesBytes each v xs w was mid
    → TakesBytes each w ys u mid now → TakesBytes each v (xs ++ ys) u was now
TakesBytes-append each v w u xs ys was mid now whole h k = (
  h.0 ++ k.0,
  subst (λ ls. TakesLines each v ls u (h.0 ++ k.0)) (sym (lines_of-append xs ys whole))
      (TakesLines-append each v w u (lines_of xs) (lines_of ys) h.0 k.0 h.1 k.1),
  Appends-trans was mid now h.0 k.0 h.2 k.2,
)

-- one of the lines of more bytes stops it
pub StopsAmong-append : (each : Bool) (v w : FollowerView) (xs ys : List ℕ) (fault : Fault)
    (was mid now : Option (List ℕ)) → EndsLine xs → TakesBytes each v xs w was mid
    → StopsAmong each w (lines_of ys) fault [] mid now
    → StopsAmong each v (lines_of (xs ++ ys)) fault [] was now
StopsAmong-append each v w xs ys fault was mid now whole h stops =
    subst (λ ls. StopsAmong each v ls fault [] was now) (sym (lines_of-append xs ys whole))
    (StopsAmong-later each v w (lines_of xs) (lines_of ys) fault was mid now h.0 h.1 h.2 stops)

-- Reads of the source returned these whole lines, which are taken, and the beginning of one more
pub record IsFollowedTo {S : Type 0} (D : SourceModel S) (each : Bool) (first now : S)
    (v w : FollowerView) (begun : List ℕ) (was out : Option (List ℕ)) : Type 0 where
  pub lines : List ℕ
  pub whole : EndsLine lines
  pub delivered : Delivers D first now (lines ++ begun)
  pub taken : TakesBytes each v lines w was out

-- nothing is read yet
pub IsFollowedTo-nothing : {S : Type 0} (D : SourceModel S) (each : Bool) (first : S)
    (v : FollowerView) (begun : List ℕ) (was : Option (List ℕ)) → begun ≡ []
    → (h : IsFollowedTo D each first first v v begun was was) × (length (h.lines ++ begun) ≡ 0)
IsFollowedTo-nothing D each first v begun was none = (
  record {
    lines = [];
    whole = inl refl;
    delivered = record { steps = []; in_turn = refl; returned = none };
    taken = ([], (refl, refl), Appends-nothing was);
  },
  ap length none,
)

-- how many bytes are read where those of one more part come after the others
pub length-read : (lines begun part : List ℕ)
    → length (lines ++ (begun ++ part)) ≡ length (lines ++ begun) + length part
length-read lines begun part =
    ap length (sym (append_assoc lines begun part)) ∙ length-append (lines ++ begun) part

module _ {S : Type 0} (D : SourceModel S) (each : Bool) (log : ℕ) (first now later : S)
    (v w : FollowerView) (begun : List ℕ) (was out : Option (List ℕ))
    (sofar : IsFollowedTo D each first now v w begun was out) where
  -- one more read returned a part, and then the bytes up to it are these
  more_read : (part : List ℕ) (room : ℕ) → D.reads now room part later
      → Delivers D first later (sofar.lines ++ (begun ++ part))
  more_read part room read = subst (Delivers D first later) (append_assoc sofar.lines begun part)
      (delivered-then D first now later (sofar.lines ++ begun) part room sofar.delivered read)

  -- after one more read, of which the whole lines are taken
  pub IsFollowedTo-step : (part next : List ℕ) (room : ℕ) (u : FollowerView)
      (more : Option (List ℕ))
      → D.reads now room part later → TakesPart each w (begun ++ part) u next out more
      → (h : IsFollowedTo D each first later v u next was more)
      × (length (h.lines ++ next) ≡ length (sofar.lines ++ begun) + length part)
  IsFollowedTo-step part next room u more read h =
      let cut : sofar.lines ++ (begun ++ part) ≡ sofar.lines ++ h.0 ++ next =
      ap (λ bs. sofar.lines ++ bs) h.2 ∙ sym (append_assoc sofar.lines h.0 next) in (
        record {
          lines = sofar.lines ++ h.0;
          whole = ends_line sofar.lines h.0 sofar.whole h.1;
          delivered = subst (Delivers D first later) cut (more_read part room read);
          taken =
              TakesBytes-append each v w u sofar.lines h.0 was out more sofar.whole sofar.taken h.3;
        },
        ap length (sym cut) ∙ length-read sofar.lines begun part,
      )

  -- it stops in one more part
  pub StopsWithin-part : (part : List ℕ) (room : ℕ) (fault : Fault) (more : Option (List ℕ))
      → D.reads now room part later → StopsInPart each w (begun ++ part) fault out more
      → StopsWithin D each log first later v fault [] was more
  StopsWithin-part part room fault more read (lines, left, whole, cut, stops) =
      let all = sofar.lines ++ lines in
      let reads : ReadsLines D first later all = (
        ends_line sofar.lines lines sofar.whole whole,
        (
          left,
          subst (Delivers D first later) (ap (λ bs. sofar.lines ++ bs) cut
              ∙ sym (append_assoc sofar.lines lines left)) (more_read part room read),
        ),
      ) in (
        all,
        elim stops [
          | inl among ↦ inl (
            inl reads,
            StopsAmong-append each v w sofar.lines lines fault was out more
                sofar.whole sofar.taken among,
          )
          | inr memory ↦
              let taken =
              TakesBytes-append each v w memory.1.0 sofar.lines lines was out more sofar.whole
              sofar.taken memory.1.1 in
              inr (inl (memory.0, reads), (memory.1.0, taken.0, taken.1, taken.2))
        ],
      )

  -- with this part the log is too long
  pub StopsWithin-too_long : (part : List ℕ) (room : ℕ) → D.reads now room part later
      → most_followed_bytes < length (sofar.lines ++ (begun ++ part))
      → StopsWithin D each log first later v (LogTooLong log) [] was out
  StopsWithin-too_long part room read many =
      let delivered = more_read part room read in (
        sofar.lines,
        inr (
          inr (inl (
            refl,
            (sofar.whole, (begun ++ part, delivered)),
            (sofar.lines ++ (begun ++ part), delivered, many),
          )),
          (w, sofar.taken.0, sofar.taken.1, sofar.taken.2),
        ),
      )

  reads_lines : ReadsLines D first now sofar.lines
  reads_lines = (sofar.whole, (begun, sofar.delivered))

  -- a read fails
  pub StopsWithin-read : D.fails now later
      → StopsWithin D each log first later v (Read log) [] was out
  StopsWithin-read fails = (
    sofar.lines,
    inr (
      inr (inr (refl, (now, reads_lines, fails))),
      (w, sofar.taken.0, sofar.taken.1, sofar.taken.2),
    ),
  )

  -- a read returned nothing, and the last line ends without a line feed
  pub TakesBytes-ended : (u : FollowerView) (more : Option (List ℕ))
      → TakesBytes each w begun u out more
      → TakesBytes each v (sofar.lines ++ begun) u was more
  TakesBytes-ended u more h =
      TakesBytes-append each v w u sofar.lines begun was out more sofar.whole sofar.taken h

  pub StopsWithin-last_line : (fault : Fault) (more : Option (List ℕ))
      → DeliversAll D first later (sofar.lines ++ begun)
      → StopsAmong each w (lines_of begun) fault [] out more
      → StopsWithin D each log first later v fault [] was more
  StopsWithin-last_line fault more all among = (
    sofar.lines ++ begun,
    inl (
      inr all,
      StopsAmong-append each v w sofar.lines begun fault was out more sofar.whole sofar.taken
          among,
    ),
  )
