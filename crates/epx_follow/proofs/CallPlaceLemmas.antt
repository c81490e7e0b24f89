-- What is said of the lines of a call holds of the lines of the log that they name.
use Rattle.std.proofs.Common.{◌≡◌, ◌≢◌, ◌⊎◌, ◌<◌, ◌+◌, ◌-◌, get_or, ℕ, suc, Bool, true, not}
use Rattle.std.proofs.Common.{Some, List, [], ◌∷◌, ◌++◌, slice_get, Contains, AllPairs}
use Rattle.std.proofs.Common.{refl, sym, ap, ◌∙◌, subst, subst₂, inl, inr, arith}
use Rattle.std.proofs.lemmas.List.{get_or-map}
use Rattle.epx_types.proofs.Common.{cases_lt, slice_get_within}
use Rattle.epx_types.proofs.Common.{get_or_from_slice_get, Contains-slice_get, AllPairs-slice_get}
use Rattle.epx_types.proofs.Common.{Contains-nil, Contains-head}
use Rattle.epx_types.proofs.Common.{Contains-cons, Contains-cons_cases, Contains-append_cases}
use Rattle.epx_types.proofs.Common.{Contains-append_left, Contains-append_right, Contains-filter}
use Rattle.epx_types.proofs.Common.{Contains-from_filter, is_among, is_among-false, ids_of}
use Rattle.epx_types.proofs.Common.{IsRising}
use Rattle.epx_types.proofs.Common.{UpTo, Instance, Placed, Earlier, Differ}
use Rattle.epx_types.proofs.Common.{place_cmp-IsTotalOrder, is_lt-irrefl, is_lt-asymm}
use Rattle.epx_types.specs.declared.id.Id.{Id}
use Rattle.epx_types.specs.declared.fault.Fault.{Fault}
use Rattle.epx_types.specs.declared.fault.Fault.TheVariants.{Memory, TooManyLogs, LogTooLong}
use Rattle.epx_types.specs.declared.fault.Fault.TheVariants.{BadLine, TooManyInstances, Disagree}
use Rattle.epx_types.specs.declared.fault.Fault.TheVariants.{Read, Write, BadBase}
use Rattle.epx_types.specs.declared.place.Place.{Place}
use Rattle.epx_committed.specs.MergedLines.{IsDisagreementAt, IsMergeFault}
use Rattle.epx_committed.proofs.LineOrderLemmas.{Earlier-same_log}
use Rattle.epx_laws.specs.AgreementLaws.{HaveInstancesOf}
use Rattle.epx_executor.specs.CallLines.{call_lines, lines_from, lines_not_done}
use Rattle.epx_executor.proofs.CallLineLemmas.{Earlier-log, line_at}
use Rattle.epx_follow.specs.CallPlaces.{at_lines, held_places, place_among}
use Rattle.epx_follow.specs.Following.{instances_of}
use Rattle.epx_follow.proofs.FirstLineLemmas.{Placed-same_instance}
use Rattle.epx_follow.proofs.SameInstanceLemmas.{FewInstances-alike, ManyInstances-alike}

-- the place that a line of a call names
abbrev real_place : List Placed → List Placed → Place → Place
real_place pending batch at = place_among (held_places pending) (held_places batch) at

abbrev id_of : Instance → Id
id_of e = e.id

-- ---- instances of real lines, on consecutive lines of a log

module _ (log : ℕ) where
  -- p is the line from n on that names the line r: r has position k, and p is on line n + k
  record IsLineFor (n : ℕ) (lines : List Placed) (p r : Placed) : Type 0 where
    k : ℕ
    at : slice_get lines k ≡ Some r
    same : r.instance ≡ p.instance
    in_log : p.place.log ≡ log
    on_line : p.place.line ≡ n + k

  first_line : (n : ℕ) (l : Placed) (lines : List Placed)
      → IsLineFor n (l ∷ lines) (line_at log n l.instance) l
  first_line n l lines =
      record { k = 0; at = refl; same = refl; in_log = refl; on_line = omega arith }

  later_line : (n : ℕ) (l : Placed) (lines : List Placed) (p r : Placed)
      → IsLineFor (suc n) lines p r → IsLineFor n (l ∷ lines) p r
  later_line n l lines p r f = record {
    k = suc f.k;
    at = f.at;
    same = f.same;
    in_log = f.in_log;
    on_line = omega (arith, f.on_line);
  }

  -- each of the lines names a real one
  from_lines : (n : ℕ) (lines : List Placed) (p : Placed)
      → Contains (lines_from log n (instances_of lines)) p
      → (r : Placed) × IsLineFor n lines p r
  from_lines n [] p h = absurd (Contains-nil p h)
  from_lines n (l ∷ lines) p h =
      elim (Contains-cons_cases (line_at log n l.instance)
      (lines_from log (suc n) (instances_of lines)) p h) [
        | inl same ↦ (
          l,
          subst (λ (q : Placed). IsLineFor n (l ∷ lines) q l) same
              (first_line n l lines),
        )
        | inr rest ↦ let r = from_lines (suc n) lines p rest in
            (r.0, later_line n l lines p r.0 r.1)
      ]

  -- each real line is named by one
  to_lines : (n : ℕ) (lines : List Placed) (r : Placed) → Contains lines r
      → (p : Placed) × Contains (lines_from log n (instances_of lines)) p × IsLineFor n lines p r
  to_lines n [] r h = absurd (Contains-nil r h)
  to_lines n (l ∷ lines) r h =
      let rest = lines_from log (suc n) (instances_of lines) in
      elim (Contains-cons_cases l lines r h) [
        | inl same ↦ (
          line_at log n l.instance,
          Contains-head (line_at log n l.instance) rest,
          subst (λ (q : Placed). IsLineFor n (l ∷ lines) (line_at log n l.instance) q) same
              (first_line n l lines),
        )
        | inr later ↦ let p = to_lines (suc n) lines r later in (
          p.0,
          Contains-cons (line_at log n l.instance) rest p.0 p.1,
          later_line n l lines p.0 r p.2,
        )
      ]

-- the place of the line at position k, by the line's number
place_at : (lines : List Placed) (default : Place) (line k : ℕ) (r : Placed) → line ≡ 1 + k
    → slice_get lines k ≡ Some r → get_or (held_places lines) (line - 1) default ≡ r.place
place_at lines default line k r on h =
    let e : line - 1 ≡ k = omega arith in
    rw e (get_or-map (λ (p : Placed). p.place) lines k r default (slice_get_within lines k r h)
    ∙ ap (λ (p : Placed). p.place) (get_or_from_slice_get lines k r r h))

-- other lines with the same instances differ alike
differ_alike : (p q r s : Placed) → p.instance ≡ r.instance → q.instance ≡ s.instance
    → Differ p q → Differ r s
differ_alike p q r s a b differ =
    subst₂ (λ (d e : Instance). (d.id ≡ e.id) × (d ≢ e)) a b differ

-- ---- the lines of a call

module _ (done : List Id) (pending batch : List Placed) where
  abbrev call : List Placed
  call = call_lines done (instances_of pending) (instances_of batch)

  abbrev real : List Placed
  real = pending ++ batch

  abbrev came : List Placed
  came = lines_from 1 1 (instances_of batch)

  abbrev IsLeft : Placed → Bool
  IsLeft p = not (is_among done p.instance.id)

  -- p names a line r of either list
  abbrev IsOfEither : Placed → Placed → Type 0
  IsOfEither p r = IsLineFor 0 1 pending p r ⊎ IsLineFor 1 1 batch p r

  -- the line p of the call names the real line r
  record IsFor (p r : Placed) : Type 0 where
    within : Contains real r
    kind : IsOfEither p r
    same : r.instance ≡ p.instance
    place : r.place ≡ real_place pending batch p.place

  -- log 0 names the pending lines
  pub real_place-pending : (at : Place) (k : ℕ) (r : Placed) → at.log ≡ 0 → at.line ≡ 1 + k
      → slice_get pending k ≡ Some r → real_place pending batch at ≡ r.place
  real_place-pending at k r log line h = rw log (place_at pending _ at.line k r line h)

  -- log 1 names those of the batch
  pub real_place-batch : (at : Place) (k : ℕ) (r : Placed) → at.log ≡ 1 → at.line ≡ 1 + k
      → slice_get batch k ≡ Some r → real_place pending batch at ≡ r.place
  real_place-batch at k r log line h = rw log (place_at batch _ at.line k r line h)

  for_pending : (p r : Placed) → IsLineFor 0 1 pending p r → IsFor p r
  for_pending p r f = record {
    within = Contains-append_left pending batch r (Contains-slice_get pending f.k r f.at);
    kind = inl f;
    same = f.same;
    place = sym (real_place-pending p.place f.k r f.in_log f.on_line f.at);
  }

  for_batch : (p r : Placed) → IsLineFor 1 1 batch p r → IsFor p r
  for_batch p r f = record {
    within = Contains-append_right pending batch r (Contains-slice_get batch f.k r f.at);
    kind = inr f;
    same = f.same;
    place = sym (real_place-batch p.place f.k r f.in_log f.on_line f.at);
  }

  -- each line of the call names a real one
  real_of : (p : Placed) → Contains call p → (r : Placed) × IsFor p r
  real_of p h =
      elim (Contains-append_cases (lines_from 0 1 (instances_of pending))
      (lines_not_done done came) p h) [
        | inl old ↦ let r = from_lines 0 1 pending p old in (r.0, for_pending p r.0 r.1)
        | inr new ↦ let r = from_lines 1 1 batch p (Contains-from_filter IsLeft came p new) in
            (r.0, for_batch p r.0 r.1)
      ]

  -- ---- none of the batch is done

  module _ (left : (p : Placed) → Contains batch p → ¬ Contains done p.instance.id) where
    -- each real line is named by one of the call
    call_of : (r : Placed) → Contains real r → (p : Placed) × Contains call p × IsFor p r
    call_of r h =
        let old_lines = lines_from 0 1 (instances_of pending) in
        elim (Contains-append_cases pending batch r h) [
          | inl old ↦ let p = to_lines 0 1 pending r old in (
            p.0,
            Contains-append_left old_lines (lines_not_done done came) p.0 p.1,
            for_pending p.0 r p.2,
          )
          | inr new ↦
              let p = to_lines 1 1 batch r new in
              let passes : IsLeft p.0 ≡ true = ap not (is_among-false done p.0.instance.id
              (subst (λ (e : Instance). ¬ Contains done e.id) p.2.same (left r new))) in (
                p.0,
                Contains-append_right old_lines (lines_not_done done came) p.0
                    (Contains-filter IsLeft came p.0 p.1 passes),
                for_batch p.0 r p.2,
              )
        ]

    -- both have the same instances
    pub HaveInstancesOf-real_call : HaveInstancesOf real call
    HaveInstancesOf-real_call p h = let r = real_of p h in (r.0, r.1.within, r.1.same)

    pub HaveInstancesOf-call_real : HaveInstancesOf call real
    HaveInstancesOf-call_real r h = let p = call_of r h in (p.0, p.1, sym p.2.same)

    -- ---- the order of the call's lines of one instance is that of the real lines

    module _ (once : IsRising (ids_of (instances_of pending)))
        (earlier : (p q : Placed) → Contains pending p → Contains batch q
        → Earlier p.place q.place)
        (in_order : AllPairs (λ p q. Earlier p.place q.place) batch) where
      -- lines of one pending instance name one line
      same_pending : (p q r s : Placed) → IsLineFor 0 1 pending p r → IsLineFor 0 1 pending q s
          → p.instance.id ≡ q.instance.id → r ≡ s
      same_pending p q r s a b same =
          Placed-same_instance pending once r s (Contains-slice_get pending a.k r a.at)
          (Contains-slice_get pending b.k s b.at)
          (ap id_of a.same ∙ same ∙ ap id_of (sym b.same))

      -- the earlier of two lines of the batch has the lower position
      lower_position : (j k : ℕ) (r s : Placed) → slice_get batch j ≡ Some r
          → slice_get batch k ≡ Some s → Earlier r.place s.place → j < k
      lower_position j k r s at_r at_s l =
          elim (cases_lt j k) [
            | inl lower ↦ lower
            | inr upto ↦ elim (cases_lt k j) [
              | inl above ↦ absurd (is_lt-asymm place_cmp-IsTotalOrder r.place s.place l
                  (AllPairs-slice_get (λ p q. Earlier p.place q.place) batch in_order k j s r above
                  at_s at_r))
              | inr none ↦
                  let same : j ≡ k = omega arith in
                  let alike : r ≡ s = cc in
                  absurd (is_lt-irrefl place_cmp-IsTotalOrder s.place
                  (subst (λ (p : Placed). Earlier p.place s.place) alike l))
            ]
          ]

      -- two lines of one instance, of which the real ones rise
      earlier_call : (p q r s : Placed) → IsOfEither p r → IsOfEither q s
          → p.instance.id ≡ q.instance.id → Earlier r.place s.place → Earlier p.place q.place
      earlier_call p q r s (inl a) (inl b) same l =
          absurd (is_lt-irrefl place_cmp-IsTotalOrder s.place
          (subst (λ (t : Placed). Earlier t.place s.place) (same_pending p q r s a b same) l))
      earlier_call p q r s (inl a) (inr b) same l = Earlier-log p.place q.place a.in_log b.in_log
      earlier_call p q r s (inr a) (inl b) same l =
          absurd (is_lt-asymm place_cmp-IsTotalOrder r.place s.place l
          (earlier s r (Contains-slice_get pending b.k s b.at)
          (Contains-slice_get batch a.k r a.at)))
      earlier_call p q r s (inr a) (inr b) same l =
          Earlier-same_log p.place q.place (a.in_log ∙ sym b.in_log)
          (omega (arith, a.on_line, b.on_line, lower_position a.k b.k r s a.at b.at l))

      -- a disagreement of the call is one of the real lines
      pub IsDisagreementAt-real : (id : Id) (first second : Place)
          → IsDisagreementAt call id first second
          → IsDisagreementAt real id (real_place pending batch first)
          (real_place pending batch second)
      IsDisagreementAt-real id first second d =
          let f = real_of d.0 d.2.has_first in
          let s = real_of d.1 d.2.has_second in (
            f.0,
            s.0,
            record {
              has_first = f.1.within;
              has_second = s.1.within;
              named = ap id_of f.1.same ∙ d.2.named;
              differ = differ_alike d.0 d.1 f.0 s.0 (sym f.1.same) (sym s.1.same) d.2.differ;
              least = λ p q in_p in_q differ.
                  let a = call_of p in_p in
                  let b = call_of q in_q in
                  subst (UpTo id) (ap id_of (sym a.2.same))
                  (d.2.least a.0 b.0 a.1 b.1
                  (differ_alike p q a.0 b.0 a.2.same b.2.same differ));
              opens = λ p in_p named l.
                  let a = call_of p in_p in
                  let names : a.0.instance.id ≡ id = ap id_of (sym a.2.same) ∙ named in
                  d.2.opens a.0 a.1 names
                  (earlier_call a.0 d.0 p f.0 a.2.kind f.1.kind (names ∙ sym d.2.named) l);
              follows = λ q in_q differ l.
                  let a = call_of q in_q in
                  let differs = differ_alike f.0 q d.0 a.0 f.1.same a.2.same differ in
                  d.2.follows a.0 a.1 differs
                  (earlier_call a.0 d.1 q s.0 a.2.kind s.1.kind (sym differs.0 ∙ d.2.differ.0) l);
            },
            f.1.place ∙ ap (real_place pending batch) d.3,
            s.1.place ∙ ap (real_place pending batch) d.4,
          )

      -- a refused call is a refusal of the real lines
      pub IsMergeFault-real : (fault : Fault) → IsMergeFault call fault
          → IsMergeFault real (at_lines (held_places pending) (held_places batch) fault)
      IsMergeFault-real Memory h = h
      IsMergeFault-real TooManyInstances h =
          ManyInstances-alike call real HaveInstancesOf-real_call HaveInstancesOf-call_real h
      IsMergeFault-real (Disagree id first second) h = (
        FewInstances-alike call real HaveInstancesOf-real_call HaveInstancesOf-call_real h.0,
        IsDisagreementAt-real id first second h.1,
      )
      IsMergeFault-real TooManyLogs h = h
      IsMergeFault-real (LogTooLong log) h = h
      IsMergeFault-real (BadLine place why) h = h
      IsMergeFault-real (Read log) h = h
      IsMergeFault-real Write h = h
      IsMergeFault-real (BadBase line) h = h
