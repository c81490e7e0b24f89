-- How following logs at paths ends.
use Rattle.std.proofs.Common.{◌≡◌, ◌∙◌, ◌∷◌, [], inl, inr, ℕ, List, length, Option}
use Rattle.std.proofs.Common.{suc, Some, None, Result, Ok, Err, IsErrOf, subst, subst₂, sym, ap}
use Rattle.epx_types.proofs.Common.{Keeps, MatchResult}
use Rattle.epx_types.specs.declared.fault.Fault.{Fault}
use Rattle.epx_devices.specs.Models.{OpenerModel, SourceModel}
use Rattle.epx_follow.specs.Following.{FollowerView}
use Rattle.epx_words.specs.declared.words.FollowOptions.{FollowOptions}
use Rattle.epx_program.specs.FollowEndings.{Begins, FollowsToEnds}
use Rattle.epx_program.specs.FollowEndings.{state_of}
use Rattle.epx_program.specs.FollowStops.{StartsAfter, StopsAtPaths, StopsFrom, state_number}
use Rattle.epx_program.specs.Inputs.{TextRelation, text_relation}
use Rattle.epx_program.specs.PathsRead.{paths_read}
use Rattle.epx_program.specs.SourcesAt.{AreSourcesAt, SourceAt}
use Rattle.epx_program.specs.inner.Follows.{FollowsFrom, RefusesStart, StartsAt}
use Rattle.epx_program.proofs.TextsReadLemmas.{AreTextsAt-cons, AreTextsAt-delivered}

-- there is one source for each path
as_many_sources : {O F I : Type 0} (opener : O) (input left : Option I) (paths : List (List ℕ))
    (sources : List (SourceAt O F I)) → AreSourcesAt opener input left paths sources
    → length sources ≡ length paths
as_many_sources opener input left [] sources are = ap length are.0
as_many_sources opener input left (path ∷ paths) [] are = absurd are
as_many_sources opener input left (path ∷ paths) (source ∷ sources) are =
    ap suc (as_many_sources opener are.0 left paths sources are.2)

module _ {O F I : Type 0} (opening : OpenerModel O F) (D : SourceModel F) (opener : O)
    (E : SourceModel I) (input : I) (options : FollowOptions) (paths : Option (List (List ℕ)))
    (old new : Option (List ℕ)) where
  abbrev texts : TextRelation
  texts = text_relation opening D opener E input

  abbrev starts_at : Option (List ℕ) → Option I → FollowerView → Type 0
  starts_at state left start =
      StartsAt opening D opener E state (state_number paths) (Some input) left start

  pub FollowsToEnds-from_follows : (left : Option I) (start last : FollowerView)
      → starts_at (state_of options) left start
      → FollowsFrom opening D opener E start left options.each paths last old new
      → FollowsToEnds texts options paths last old new
  FollowsToEnds-from_follows left start last starts h = record {
    logs = h.logs;
    start = start;
    text = h.text;
    begins = go (state_of options) starts;
    followed = h.followed;
    appended = h.appended;
  }
    where
      number : state_number paths ≡ length h.logs
      number = sym (as_many_sources opener left h.left (paths_read paths) h.sources h.at)
          ∙ sym h.delivered.as_many

      go : (state : Option (List ℕ)) → starts_at state left start
          → Begins texts state paths h.logs start
      go None begins = (
        AreTextsAt-delivered opening D opener E input h.left (paths_read paths) h.sources h.after
            (subst (λ i. AreSourcesAt opener i h.left (paths_read paths) h.sources) begins.0 h.at)
            h.logs h.delivered,
        begins.1,
      )
      go (Some state) begins =
          let read = begins.1 in (
            begins.0,
            AreTextsAt-cons opening D opener E input left h.left state read.source read.last
                begins.0
                read.at read.delivered (paths_read paths) h.sources h.after h.at h.logs h.delivered,
            subst (λ n. StartsAfter begins.0 n start) number begins.2,
          )

  abbrev stops_at : Option (List ℕ) → Fault → Type 0
  stops_at state fault =
      StopsAtPaths opening D opener E input state options.each paths fault old new

  pub stops_at-from_stops : (left : Option I) (start : FollowerView) (fault : Fault)
      → starts_at (state_of options) left start
      → StopsFrom opening D opener E start left options.each paths fault old new
      → stops_at (state_of options) fault
  stops_at-from_stops left start fault starts h = go (state_of options) starts
    where
      go : (state : Option (List ℕ)) → starts_at state left start → stops_at state fault
      go None begins = subst₂
          (λ v i. StopsFrom opening D opener E v i options.each paths fault old new)
          begins.1 begins.0 h
      go (Some state) begins = inr (left, begins.0, start, begins.1, begins.2, h)

  pub stops_at-if_refused : (fault : Fault)
      → RefusesStart opening D opener E (state_of options) (state_number paths) (Some input) fault
      → Keeps old new → stops_at (state_of options) fault
  stops_at-if_refused fault refused kept = go (state_of options) refused
    where
      go : (state : Option (List ℕ))
          → RefusesStart opening D opener E state (state_number paths) (Some input) fault
          → stops_at state fault
      go None bad = absurd bad
      go (Some state) bad = inl (bad, kept)

-- a call that ends with this fault
pub MatchResult-err : {T : Type 0} (P : T → Type 0) (Q : Fault → Type 0) (done : Result T Fault)
    (fault : Fault) → IsErrOf done fault → Q fault → MatchResult done P Q
MatchResult-err P Q (Ok x) fault is why = absurd (cc is)
MatchResult-err P Q (Err other) fault is why =
    let same : other ≡ fault = cc is in subst Q (sym same) why
