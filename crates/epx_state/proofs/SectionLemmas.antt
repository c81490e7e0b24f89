-- The first line of a state says where each section ends. So its lines say only one state.
use Rattle.std.proofs.Common.{◌≡◌, ℕ, List, ◌∷◌, ◌++◌, length, map, flat_map, take, drop, Option}
use Rattle.std.proofs.Common.{Some, [], refl, sym, ap, ◌∙◌, subst}
use Rattle.std.specs.Option.{option_to_list}
use Rattle.std.proofs.Math.Seq.{drop-append_seam, take-append_seam}
use Rattle.std.specs.FinMap.{same_entries_map}
use Rattle.epx_types.proofs.Common.{length-map}
use Rattle.epx_executor.specs.Runs.{IsInRuns}
use Rattle.epx_state.specs.declared.forms.StateCounts.{StateCounts}
use Rattle.epx_state.specs.StateForms.{StateParts, state_counts, entry_of_line}
use Rattle.epx_state.specs.StateForms.{pair_of_line, run_of_line}
use Rattle.epx_state.specs.StateLaws.{RestoredHoldTheSame, StateIsUnique}

-- ---- one section

somes : {A : Type 0} (vs : List A) → flat_map option_to_list (map Some vs) ≡ vs
somes [] = refl
somes (a ∷ vs) = ap (λ rest. a ∷ rest) (somes vs)

module _ {A : Type 0} (form : List ℕ → Option A) where
  pub length-said : (xs : List (List ℕ)) (vs : List A) → map form xs ≡ map Some vs
      → length xs ≡ length vs
  length-said xs vs h = sym (length-map xs form) ∙ ap length h ∙ length-map vs Some

  -- lists of lines that are equal say equal lists
  said_once : (xs ys : List (List ℕ)) (vs ws : List A) → map form xs ≡ map Some vs
      → map form ys ≡ map Some ws → xs ≡ ys → vs ≡ ws
  said_once xs ys vs ws p q same =
      sym (somes vs) ∙ ap (flat_map option_to_list) (sym p ∙ ap (map form) same ∙ q) ∙ somes ws

  -- sections of one length that begin the same lines say the same, and so do the lines after them
  section : (xs ys rest others : List (List ℕ)) (vs ws : List A) → map form xs ≡ map Some vs
      → map form ys ≡ map Some ws → length vs ≡ length ws → xs ++ rest ≡ ys ++ others
      → (vs ≡ ws) × (rest ≡ others)
  section xs ys rest others vs ws p q many same =
      let long : length xs ≡ length ys =
      length-said xs vs p ∙ many ∙ sym (length-said ys ws q) in (
        said_once xs ys vs ws p q
            (sym (take-append_seam xs rest) ∙ ap (take (length xs)) same
            ∙ ap (λ n. take n (ys ++ others)) long ∙ take-append_seam ys others),
        sym (drop-append_seam xs rest) ∙ ap (drop (length xs)) same
            ∙ ap (λ n. drop n (ys ++ others)) long ∙ drop-append_seam ys others,
      )

-- ---- a state

pub StateIsUnique-holds : StateIsUnique
StateIsUnique-holds bytes p q x y =
    let a = x.said in
    let b = y.said in
    let same : a.first ∷ (a.runs ++ (a.waiting ++ a.stored))
    ≡ b.first ∷ (b.runs ++ (b.waiting ++ b.stored)) = sym a.cut ∙ b.cut in
    let first : a.first ≡ b.first = cc same in
    let rest : a.runs ++ (a.waiting ++ a.stored) ≡ b.runs ++ (b.waiting ++ b.stored) = cc same in
    let counts : state_counts p ≡ state_counts q = cc (first, a.counts_said, b.counts_said) in
    let runs = section run_of_line a.runs b.runs (a.waiting ++ a.stored) (b.waiting ++ b.stored)
    p.runs q.runs a.runs_said b.runs_said (ap (λ (c : StateCounts). c.runs) counts) rest in
    let waiting = section entry_of_line a.waiting b.waiting a.stored b.stored p.waiting q.waiting
    a.waiting_said b.waiting_said (ap (λ (c : StateCounts). c.waiting) counts) runs.1 in
    let stored = said_once pair_of_line a.stored b.stored p.stored q.stored a.stored_said
    b.stored_said waiting.1 in
    λ i. record { runs = runs.0 i; waiting = waiting.0 i; stored = stored i }

pub RestoredHoldTheSame-holds : RestoredHoldTheSame
RestoredHoldTheSame-holds bytes p q v w x hv y hw =
    let same = StateIsUnique-holds bytes p q x y in record {
      done = λ id. (
        λ h. (hw.done id).1 (subst (λ (s : StateParts). IsInRuns s.runs id) same
            ((hv.done id).0 h)),
        λ h. (hv.done id).1 (subst (λ (s : StateParts). IsInRuns s.runs id) (sym same)
            ((hw.done id).0 h)),
      );
      store = same_entries_map v.store w.store
          (hv.store ∙ ap (λ (s : StateParts). s.stored) same ∙ sym hw.store);
      pending = hv.pending ∙ ap (λ (s : StateParts). s.waiting) same ∙ sym hw.pending;
    }
