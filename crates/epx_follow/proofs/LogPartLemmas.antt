-- Taking the whole lines of a part of a log.
use Rattle.std.proofs.Common.{◌≡◌, inl, inr, ◌∙◌, ◌<◌, ◌≤◌, ℕ, Bool, List, [], ◌∷◌, ◌++◌, Option}
use Rattle.std.proofs.Common.{ap, append-nil, append_assoc, arith, drop, length, length-take, refl}
use Rattle.std.proofs.Common.{subst, subst₂, sym, take}
use Rattle.std.proofs.lemmas.List.{take-append-drop}
use Rattle.epx_types.proofs.Common.{Appends}
use Rattle.epx_types.specs.declared.fault.Fault.{Fault}
use Rattle.epx_types.specs.declared.fault.Fault.TheVariants.{Memory}
use Rattle.epx_lines.specs.Lines.{lines_of}
use Rattle.epx_merge.specs.LogParts.{EndsLine}
use Rattle.epx_follow.specs.Following.{FollowerView}
use Rattle.epx_follow.specs.FollowingStops.{StopsAmong}
use Rattle.epx_follow.specs.inner.PartsTaken.{StopsInPart, TakesBytes, TakesPart}
use Rattle.epx_follow.proofs.LogsTakenLemmas.{Appends-nothing}

-- the beginning of a line and the rest of it, and maybe more lines, end a line
pub EndsLine-begun : (begun part : List ℕ) (end : ℕ) → 0 < end → end ≤ length part
    → EndsLine (take end part) → EndsLine (begun ++ take end part)
EndsLine-begun begun part end some within (inl none) =
    absurd (omega (arith, ap length none, length-take end part))
EndsLine-begun begun part end some within (inr last) = inr (
  begun ++ last.0,
  ap (λ bs. begun ++ bs) last.1 ∙ sym (append_assoc begun last.0 (10 ∷ [])),
)

-- there is no whole line in it
pub TakesPart-no_lines : (each : Bool) (v u : FollowerView) (bytes begun : List ℕ)
    (was now : Option (List ℕ)) → u ≡ v → bytes ≡ begun → now ≡ was
    → TakesPart each v bytes u begun was now
TakesPart-no_lines each v u bytes begun was now same all none = (
  [],
  inl refl,
  all,
  ([], (sym same, refl), subst (λ o. Appends was o []) (sym none) (Appends-nothing was)),
)

-- they are all whole lines
pub TakesPart-all_lines : (each : Bool) (v w u : FollowerView) (bytes begun : List ℕ)
    (was mid now : Option (List ℕ)) → EndsLine bytes → TakesBytes each v bytes w was mid
    → u ≡ w → begun ≡ [] → now ≡ mid → TakesPart each v bytes u begun was now
TakesPart-all_lines each v w u bytes begun was mid now whole h same none all = (
  bytes,
  whole,
  sym (ap (λ bs. bytes ++ bs) none ∙ append-nil bytes),
  subst₂ (λ (a : FollowerView) o. TakesBytes each v bytes a was o) (sym same) (sym all) h,
)

-- bytes with no line feed come after a part
pub TakesPart-append : (each : Bool) (v w : FollowerView) (bytes begun rest : List ℕ)
    (was now : Option (List ℕ)) → TakesPart each v bytes w begun was now
    → TakesPart each v (bytes ++ rest) w (begun ++ rest) was now
TakesPart-append each v w bytes begun rest was now h = (
  h.0,
  h.1,
  ap (λ bs. bs ++ rest) h.2 ∙ append_assoc h.0 begun rest,
  h.3,
)

-- memory runs out once the whole lines of a part are taken
pub StopsInPart-taken : (each : Bool) (v w : FollowerView) (bytes begun : List ℕ)
    (was now : Option (List ℕ)) → TakesPart each v bytes w begun was now
    → StopsInPart each v bytes Memory was now
StopsInPart-taken each v w bytes begun was now h =
    (h.0, begun, h.1, h.2, inr (refl, (w, h.3)))

-- one of the whole lines stops it
pub StopsInPart-lines : (each : Bool) (v : FollowerView) (bytes rest : List ℕ) (fault : Fault)
    (was now : Option (List ℕ)) → EndsLine bytes
    → StopsAmong each v (lines_of bytes) fault [] was now
    → StopsInPart each v (bytes ++ rest) fault was now
StopsInPart-lines each v bytes rest fault was now whole stops =
    (bytes, rest, whole, refl, inl stops)

-- a part has its whole lines first
pub take-append_drop : (begun part : List ℕ) (end : ℕ)
    → begun ++ take end part ++ drop end part ≡ begun ++ part
take-append_drop begun part end = append_assoc begun (take end part) (drop end part)
    ∙ ap (λ bs. begun ++ bs) (take-append-drop end part)
