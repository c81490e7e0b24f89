-- Lines of a base in order, with further lines at the end.
use Rattle.std.proofs.Common.{◌≡◌, ℕ, ℤ, List, [], ◌∷◌, ◌++◌, map, append-nil, append_assoc, sym}
use Rattle.std.proofs.Common.{ap, ◌∙◌}
use Rattle.epx_types.proofs.Common.{map-append}
use Rattle.epx_types.specs.declared.id.Id.{Id}
use Rattle.epx_report.specs.declared.from_value.BaseLine.{BaseLine}
use Rattle.epx_report.specs.declared.from_value.BaseLine.TheVariants as line
use Rattle.epx_report.specs.declared.from_value.Counts.{Counts}
use Rattle.epx_report.specs.Bases.{lines_in_order}

module _ (c : Counts) where
  abbrev lines : List Id → List Id → List Id → List (List ℕ × ℤ) → List BaseLine
  lines done replied waiting stored =
      lines_in_order (record {
        counts = c;
        done = done;
        replied = replied;
        waiting = waiting;
        stored = stored;
      })

  -- items of a kind, and further ones, with nothing after them
  pushed : {X : Type 0} (says : X → BaseLine) (xs more : List X)
      → map says (xs ++ more) ++ [] ≡ (map says xs ++ []) ++ map says more
  pushed says xs more =
      append-nil (map says (xs ++ more)) ∙ map-append says xs more
      ∙ ap (λ ls. ls ++ map says more) (sym (append-nil (map says xs)))

  pub lines-done : (done more replied waiting : List Id) (stored : List (List ℕ × ℤ))
      → replied ≡ [] → waiting ≡ [] → stored ≡ []
      → lines (done ++ more) replied waiting stored
      ≡ lines done replied waiting stored ++ map line.Done more
  lines-done done more replied waiting stored none_replied none_waits none_stored =
      rw (none_replied, none_waits, none_stored)
      (ap (λ ls. line.Header c ∷ ls) (pushed line.Done done more))

  pub lines-replies : (done replied more waiting : List Id) (stored : List (List ℕ × ℤ))
      → waiting ≡ [] → stored ≡ []
      → lines done (replied ++ more) waiting stored
      ≡ lines done replied waiting stored ++ map line.Reply more
  lines-replies done replied more waiting stored none_waits none_stored =
      rw (none_waits, none_stored) (ap (λ ls. line.Header c ∷ ls)
      (ap (λ ls. map line.Done done ++ ls) (pushed line.Reply replied more)
      ∙ sym (append_assoc (map line.Done done) (map line.Reply replied ++ [])
      (map line.Reply more))))

  pub lines-waiting : (done replied waiting more : List Id) (stored : List (List ℕ × ℤ))
      → stored ≡ []
      → lines done replied (waiting ++ more) stored
      ≡ lines done replied waiting stored ++ map line.Waiting more
  lines-waiting done replied waiting more stored none_stored =
      let ds = map line.Done done in
      let rs = map line.Reply replied in
      rw none_stored (ap (λ ls. line.Header c ∷ ls)
      (ap (λ ls. ds ++ (rs ++ ls)) (pushed line.Waiting waiting more)
      ∙ ap (λ ls. ds ++ ls) (sym (append_assoc rs (map line.Waiting waiting ++ [])
      (map line.Waiting more)))
      ∙ sym (append_assoc ds (rs ++ (map line.Waiting waiting ++ [])) (map line.Waiting more))))

  pub lines-stored : (done replied waiting : List Id) (stored more : List (List ℕ × ℤ))
      → lines done replied waiting (stored ++ more)
      ≡ lines done replied waiting stored ++ map (λ e. line.Store e.0 e.1) more
  lines-stored done replied waiting stored more = simp (map-append, append_assoc)
