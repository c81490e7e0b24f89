-- Lines that say the parts of a state, with one more line at the end.
use Rattle.std.proofs.Common.{◌≡◌, ℕ, ℤ, List, [], ◌∷◌, ◌++◌, map, Option, Some, refl, sym, ap, ap₂}
use Rattle.std.proofs.Common.{◌∙◌, append-nil, append_assoc}
use Rattle.epx_types.proofs.Common.{Instance, map-append}
use Rattle.epx_executor.specs.declared.done_runs.Run.{Run}
use Rattle.epx_state.specs.declared.forms.StateCounts.{StateCounts}
use Rattle.epx_state.specs.StateForms.{StateParts, entry_of_line, pair_of_line, run_of_line}
use Rattle.epx_state.specs.StateForms.{counts_of_line}
use Rattle.epx_state.specs.States.{SayState}

one_more : {X : Type 0} (f : List ℕ → Option X) (ls : List (List ℕ)) (xs : List X) (l : List ℕ)
    (x : X) → map f ls ≡ map Some xs → f l ≡ Some x
    → map f (ls ++ l ∷ []) ≡ map Some (xs ++ x ∷ [])
one_more f ls xs l x e h =
    map-append f ls (l ∷ []) ∙ ap₂ (λ a b. a ++ b ∷ []) e h ∙ sym (map-append Some xs (x ∷ []))

none_said : {X : Type 0} (f : List ℕ → Option X) (ls : List (List ℕ)) (xs : List X)
    → map f ls ≡ map Some xs → xs ≡ [] → ls ≡ []
none_said f [] xs e h = refl
none_said f (l ∷ ls) [] e h = absurd (cc e)
none_said f (l ∷ ls) (x ∷ xs) e h = absurd (cc h)

after_runs : (rs ws ss : List (List ℕ)) (l : List ℕ) → ws ≡ [] → ss ≡ []
    → (rs ++ (ws ++ ss)) ++ l ∷ [] ≡ (rs ++ l ∷ []) ++ (ws ++ ss)
after_runs rs ws ss l none_waits none_stored =
    rw (none_waits, none_stored)
    (ap (λ ls. ls ++ l ∷ []) (append-nil rs) ∙ sym (append-nil (rs ++ l ∷ [])))

after_waiting : (rs ws ss : List (List ℕ)) (l : List ℕ) → ss ≡ []
    → (rs ++ (ws ++ ss)) ++ l ∷ [] ≡ rs ++ ((ws ++ l ∷ []) ++ ss)
after_waiting rs ws ss l none_stored =
    rw none_stored (append_assoc rs (ws ++ []) (l ∷ [])
    ∙ ap (λ ls. rs ++ ls) (ap (λ ls. ls ++ l ∷ []) (append-nil ws)
    ∙ sym (append-nil (ws ++ l ∷ []))))

after_stored : (rs ws ss : List (List ℕ)) (l : List ℕ)
    → (rs ++ (ws ++ ss)) ++ l ∷ [] ≡ rs ++ (ws ++ (ss ++ l ∷ []))
after_stored rs ws ss l =
    append_assoc rs (ws ++ ss) (l ∷ []) ∙ ap (λ ls. rs ++ ls) (append_assoc ws ss (l ∷ []))

pub SayState-counts : (l : List ℕ) (c : StateCounts) → counts_of_line l ≡ Some c
    → SayState (l ∷ []) c (record { runs = []; waiting = []; stored = [] })
SayState-counts l c e = record {
  first = l;
  runs = [];
  waiting = [];
  stored = [];
  cut = refl;
  counts_said = e;
  runs_said = refl;
  waiting_said = refl;
  stored_said = refl;
}

module _ (ls : List (List ℕ)) (c : StateCounts) (p : StateParts) (s : SayState ls c p)
    (l : List ℕ) where
  pub SayState-run : (r : Run) → run_of_line l ≡ Some r → p.waiting ≡ [] → p.stored ≡ []
      → SayState (ls ++ l ∷ []) c
      (record { runs = p.runs ++ r ∷ []; waiting = p.waiting; stored = p.stored })
  SayState-run r e none_waits none_stored = record {
    first = s.first;
    runs = s.runs ++ l ∷ [];
    waiting = s.waiting;
    stored = s.stored;
    cut = ap (λ xs. xs ++ l ∷ []) s.cut ∙ ap (λ xs. s.first ∷ xs)
        (after_runs s.runs s.waiting s.stored l
        (none_said entry_of_line s.waiting p.waiting s.waiting_said none_waits)
        (none_said pair_of_line s.stored p.stored s.stored_said none_stored));
    counts_said = s.counts_said;
    runs_said = one_more run_of_line s.runs p.runs l r s.runs_said e;
    waiting_said = s.waiting_said;
    stored_said = s.stored_said;
  }

  pub SayState-entry : (e : Instance) → entry_of_line l ≡ Some e → p.stored ≡ []
      → SayState (ls ++ l ∷ []) c
      (record { runs = p.runs; waiting = p.waiting ++ e ∷ []; stored = p.stored })
  SayState-entry e is none_stored = record {
    first = s.first;
    runs = s.runs;
    waiting = s.waiting ++ l ∷ [];
    stored = s.stored;
    cut = ap (λ xs. xs ++ l ∷ []) s.cut ∙ ap (λ xs. s.first ∷ xs)
        (after_waiting s.runs s.waiting s.stored l
        (none_said pair_of_line s.stored p.stored s.stored_said none_stored));
    counts_said = s.counts_said;
    runs_said = s.runs_said;
    waiting_said = one_more entry_of_line s.waiting p.waiting l e s.waiting_said is;
    stored_said = s.stored_said;
  }

  pub SayState-pair : (q : List ℕ × ℤ) → pair_of_line l ≡ Some q
      → SayState (ls ++ l ∷ []) c
      (record { runs = p.runs; waiting = p.waiting; stored = p.stored ++ q ∷ [] })
  SayState-pair q e = record {
    first = s.first;
    runs = s.runs;
    waiting = s.waiting;
    stored = s.stored ++ l ∷ [];
    cut = ap (λ xs. xs ++ l ∷ []) s.cut
        ∙ ap (λ xs. s.first ∷ xs) (after_stored s.runs s.waiting s.stored l);
    counts_said = s.counts_said;
    runs_said = s.runs_said;
    waiting_said = s.waiting_said;
    stored_said = one_more pair_of_line s.stored p.stored l q s.stored_said e;
  }
