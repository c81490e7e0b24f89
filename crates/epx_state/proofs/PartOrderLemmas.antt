-- Runs, instances and pairs in order, with one more at the end.
use Rattle.std.proofs.Common.{◌≡◌, ◌-◌, true, List, [], ◌∷◌, ◌++◌, map, length, Contains, AllPairs}
use Rattle.std.proofs.Common.{option_map, slice_get, refl, sym, ap, ◌∙◌, subst, arith, inl, inr}
use Rattle.std.proofs.lemmas.Option.{slice_get-map}
use Rattle.epx_types.proofs.Common.{AllPairs-head, AllPairs-tail, Below, Contains-cons}
use Rattle.epx_types.proofs.Common.{Contains-cons_cases, Contains-head, Contains-nil, IsRising}
use Rattle.epx_types.proofs.Common.{IsRising-push, All-contains, All-contains_itself, All-weaker}
use Rattle.epx_types.proofs.Common.{is_lt-trans, id_cmp, id_cmp-IsTotalOrder}
use Rattle.epx_types.proofs.Common.{ids_of, Instance, length-map, map-append, nat_tests}
use Rattle.epx_types.specs.declared.id.Id.{Id}
use Rattle.epx_report.specs.inner.Progress.{is_after_last, last}
use Rattle.epx_report.proofs.IdSetLemmas.{Below-if_after_last}
use Rattle.epx_report.proofs.RisingListLemmas.{last-cons}
use Rattle.epx_executor.specs.Runs.{AreRuns, IsFilledRun, end_of, start_of}
use Rattle.epx_executor.specs.declared.done_runs.Run.{Run}
use Rattle.epx_executor.proofs.RunLemmas.{AreRuns-push}

-- ---- runs

abbrev pub Ends : Run → Run → Type 0
Ends a b = Below (end_of a) (start_of b)

pub is_after_last-run : (rs : List Run) (r : Run) (next : List Run) → AllPairs Ends (rs ++ r ∷ next)
    → is_after_last id_cmp (option_map end_of (last rs)) (start_of r) ≡ true
is_after_last-run [] r next h = refl
is_after_last-run (a ∷ []) r next h = AllPairs-head Ends a (r ∷ next) r h (Contains-head r next)
is_after_last-run (a ∷ b ∷ rs) r next h =
    rw (last-cons a b rs) (is_after_last-run (b ∷ rs) r next
    (AllPairs-tail Ends a (b ∷ (rs ++ r ∷ next)) h))

below_end : (x : Id) (r : Run) → IsFilledRun r → Below x (start_of r) → Below x (end_of r)
below_end x r filled l = grind (arith, nat_tests)

each_run_ends : (rs : List Run) (r : Run) → AllPairs Ends rs
    → ((a : Run) → Contains rs a → IsFilledRun a)
    → is_after_last id_cmp (option_map end_of (last rs)) (start_of r) ≡ true
    → (a : Run) → Contains rs a → Ends a r
each_run_ends [] r apart filled past x h = absurd (Contains-nil x h)
each_run_ends (a ∷ []) r apart filled past x h =
    elim (Contains-cons_cases a [] x h) [
      | inl same ↦ subst (λ (w : Run). Ends w r) same past
      | inr none ↦ absurd (Contains-nil x none)
    ]
each_run_ends (a ∷ b ∷ rs) r apart filled past x h =
    let rest = each_run_ends (b ∷ rs) r (AllPairs-tail Ends a (b ∷ rs) apart)
    (λ y k. filled y (Contains-cons a (b ∷ rs) y k))
    (ap (λ o. is_after_last id_cmp (option_map end_of o) (start_of r)) (sym (last-cons a b rs))
    ∙ past) in
    elim (Contains-cons_cases a (b ∷ rs) x h) [
      | inr later ↦ rest x later
      | inl same ↦ subst (λ (w : Run). Ends w r) same
          (is_lt-trans id_cmp-IsTotalOrder (end_of a) (end_of b) (start_of r)
          (below_end (end_of a) b
          (filled b (Contains-cons a (b ∷ rs) b (Contains-head b rs)))
          (AllPairs-head Ends a (b ∷ rs) b apart (Contains-head b rs)))
          (rest b (Contains-head b rs)))
    ]

pub AreRuns-after_last : (rs : List Run) (r : Run) → AreRuns rs → IsFilledRun r
    → is_after_last id_cmp (option_map end_of (last rs)) (start_of r) ≡ true
    → AreRuns (rs ++ r ∷ [])
AreRuns-after_last rs r are filled past =
    AreRuns-push rs r are filled
    (All-weaker (Contains rs) (λ a. Ends a r) (each_run_ends rs r are.apart
    (λ a h. All-contains IsFilledRun rs a are.filled h) past) rs (All-contains_itself rs))

-- ---- instances

last-map : {X Y : Type 0} (f : X → Y) (xs : List X) → last (map f xs) ≡ option_map f (last xs)
last-map f xs = ap (λ n. slice_get (map f xs) (n - 1)) (length-map xs f)
    ∙ slice_get-map f xs (length xs - 1)

pub is_after_last-entry : (ws : List Instance) (e : Instance) (next : List Instance)
    → IsRising (ids_of (ws ++ e ∷ next))
    → is_after_last id_cmp (option_map (λ (l : Instance). l.id) (last ws)) e.id ≡ true
is_after_last-entry [] e next h = refl
is_after_last-entry (a ∷ []) e next h = h.0.0
is_after_last-entry (a ∷ b ∷ ws) e next h =
    rw (last-cons a b ws) (is_after_last-entry (b ∷ ws) e next h.1)

pub IsRising-after_last : (ws : List Instance) (e : Instance) → IsRising (ids_of ws)
    → is_after_last id_cmp (option_map (λ (l : Instance). l.id) (last ws)) e.id ≡ true
    → IsRising (ids_of (ws ++ e ∷ []))
IsRising-after_last ws e rising past =
    let here : is_after_last id_cmp (last (ids_of ws)) e.id ≡ true =
    ap (λ o. is_after_last id_cmp o e.id) (last-map (λ (l : Instance). l.id) ws) ∙ past in
    subst IsRising (sym (map-append (λ (l : Instance). l.id) ws (e ∷ [])))
    (IsRising-push (ids_of ws) e.id rising
    (λ y h. Below-if_after_last (ids_of ws) e.id y rising here h))
