-- Reading lines one after another: what they say, or where it stops.
use Rattle.std.proofs.Common.{◌≡◌, ◌⊎◌, inl, inr, ℕ, suc, ◌+◌, Bool, true, false, List, [], ◌∷◌}
use Rattle.std.proofs.Common.{◌++◌, length, map, take, Option, Some, None, Result, Ok, Err, refl}
use Rattle.std.proofs.Common.{sym, ap, ap₂, ◌∙◌, subst, arith}
use Rattle.std.proofs.lemmas.List.{take-map}
use Rattle.epx_report.specs.declared.from_value.BaseLine.{BaseLine}
use Rattle.epx_report.specs.Bases.{Say}
use Rattle.epx_report.specs.Forms.{base_line_of}
use Rattle.epx_report.specs.inner.Progress.{Progress, after, is_complete}
use Rattle.epx_report.specs.inner.BaseReadings.{after_line, after_all, or_line_number, reading}
use Rattle.epx_report.proofs.SaidLineLemmas.{map-Some_cons, map-Some_is_injective}

-- ---- lines and what they say

say_more : (l : List ℕ) (ls : List (List ℕ)) (x : BaseLine) (said : List BaseLine)
    → base_line_of l ≡ Some x → Say ls said → Say (l ∷ ls) (x ∷ said)
say_more l ls x said e h = ap₂ (λ o os. o ∷ os) e h

say_less : (l : List ℕ) (ls : List (List ℕ)) (said : List BaseLine) → Say (l ∷ ls) said
    → (x : BaseLine) × (rest : List BaseLine) × (base_line_of l ≡ Some x) × Say ls rest
    × (said ≡ x ∷ rest)
say_less l ls said h = map-Some_cons (base_line_of l) (map base_line_of ls) said h

pub Say-take : (n : ℕ) (ls : List (List ℕ)) (said : List BaseLine) → Say ls said
    → Say (take n ls) (take n said)
Say-take n ls said h =
    sym (take-map base_line_of n ls) ∙ ap (take n) h ∙ take-map Some n said

-- lines say one thing
pub Say-is_unique : (ls : List (List ℕ)) (said other : List BaseLine) → Say ls said → Say ls other
    → said ≡ other
Say-is_unique ls said other p q = map-Some_is_injective said other (sym p ∙ q)

-- ---- reading all lines

goes : (s : Progress) (l : BaseLine) (ls : List BaseLine) (t : Progress)
    → after_all s (l ∷ ls) ≡ Some t
    → (u : Progress) × (after s l ≡ Some u) × (after_all u ls ≡ Some t)
goes s l ls t e = next (after s l) refl
  where
    next : (o : Option Progress) → after s l ≡ o
        → (u : Progress) × (after s l ≡ Some u) × (after_all u ls ≡ Some t)
    next None none = let stopped : after_all s (l ∷ ls) ≡ None = rw none refl in
        absurd (cc (stopped, e))
    next (Some u) some = (u, some, rw some at e)

-- the first of allowed lines are allowed
pub after_all-front : (s : Progress) (ls more : List BaseLine) (t : Progress)
    → after_all s (ls ++ more) ≡ Some t → (u : Progress) × (after_all s ls ≡ Some u)
after_all-front s [] more t e = (s, refl)
after_all-front s (l ∷ ls) more t e =
    let step = goes s l (ls ++ more) t e in
    let rest = after_all-front step.0 ls more t step.2 in
    (rest.0, rw step.1 rest.1)

-- the lines are allowed from s on
pub record AreAllowed (s : Progress) (ls : List (List ℕ)) : Type 0 where
  pub said : List BaseLine
  pub end : Progress
  pub are_said : Say ls said
  pub reached : after_all s said ≡ Some end

-- the lines are allowed, but some are missing
pub record AreTooFew (s : Progress) (ls : List (List ℕ)) : Type 0 where
  pub said : List BaseLine
  pub end : Progress
  pub are_said : Say ls said
  pub reached : after_all s said ≡ Some end
  pub few : is_complete end ≡ false

-- the lines are all lines of a base
pub record AreAll (s : Progress) (ls : List (List ℕ)) (end : Progress) : Type 0 where
  pub said : List BaseLine
  pub are_said : Say ls said
  pub reached : after_all s said ≡ Some end
  pub complete : is_complete end ≡ true

-- what reading says of the lines: the first one has the number n
abbrev pub Reads : Progress → ℕ → List (List ℕ) → Result Progress ℕ → Type 0
Reads s n ls (Ok end) = AreAll s ls end
Reads s n ls (Err line) =
    (k : ℕ) × (line ≡ n + k)
    × ((AreAllowed s (take k ls) × (¬ AreAllowed s (take (suc k) ls)))
    ⊎ ((k ≡ length ls) × AreTooFew s ls))

allowed_more : (s t : Progress) (l : List ℕ) (ls : List (List ℕ)) (x : BaseLine)
    → base_line_of l ≡ Some x → after s x ≡ Some t → AreAllowed t ls → AreAllowed s (l ∷ ls)
allowed_more s t l ls x e f h = record {
  said = x ∷ h.said;
  end = h.end;
  are_said = say_more l ls x h.said e h.are_said;
  reached = rw f h.reached;
}

allowed_less : (s t : Progress) (l : List ℕ) (ls : List (List ℕ)) (x : BaseLine)
    → base_line_of l ≡ Some x → after s x ≡ Some t → AreAllowed s (l ∷ ls) → AreAllowed t ls
allowed_less s t l ls x e f h =
    let less = say_less l ls h.said h.are_said in
    let same : less.0 ≡ x = cc (less.2, e) in
    let step = goes s less.0 less.1 h.end (ap (after_all s) (sym less.4) ∙ h.reached) in
    let here : Some step.0 ≡ Some t = sym step.1 ∙ ap (after s) same ∙ f in
    let next : step.0 ≡ t = cc here in
    record {
      said = less.1;
      end = h.end;
      are_said = less.3;
      reached = subst (λ u. after_all u less.1 ≡ Some h.end) next step.2;
    }

reads_more : (s t : Progress) (n : ℕ) (l : List ℕ) (ls : List (List ℕ)) (x : BaseLine)
    (r : Result Progress ℕ) → base_line_of l ≡ Some x → after s x ≡ Some t → Reads t (n + 1) ls r
    → Reads s n (l ∷ ls) r
reads_more s t n l ls x (Ok end) e f h = record {
  said = x ∷ h.said;
  are_said = say_more l ls x h.said e h.are_said;
  reached = rw f h.reached;
  complete = h.complete;
}
reads_more s t n l ls x (Err line) e f h = (
  suc h.0,
  omega (arith, h.1),
  elim h.2 [
    | inl bad ↦ inl (
      allowed_more s t l (take h.0 ls) x e f bad.0,
      λ good. bad.1 (allowed_less s t l (take (suc h.0) ls) x e f good),
    )
    | inr early ↦ inr (
      ap suc early.0,
      record {
        said = x ∷ early.1.said;
        end = early.1.end;
        are_said = say_more l ls x early.1.said e early.1.are_said;
        reached = rw f early.1.reached;
        few = early.1.few;
      },
    )
  ],
)

-- a line that is not allowed
stops : (s : Progress) (l : List ℕ) → after_line s l ≡ None → ¬ AreAllowed s (l ∷ [])
stops s l stopped h =
    let less = say_less l [] h.said h.are_said in
    let step = goes s less.0 less.1 h.end (ap (after_all s) (sym less.4) ∙ h.reached) in
    let on : after_line s l ≡ after s less.0 = rw less.2 refl in
    cc (sym stopped ∙ on ∙ step.1)

reads_on : (s : Progress) (n : ℕ) (l : List ℕ) (ls : List (List ℕ)) (said : Option BaseLine)
    (next : Option Progress) → base_line_of l ≡ said → after_line s l ≡ next
    → ((t : Progress) → Reads t (n + 1) ls (reading t (n + 1) ls))
    → Reads s n (l ∷ ls) (reading s n (l ∷ ls))
reads_on s n l ls None (Some t) e f rest =
    let none : after_line s l ≡ None = rw e refl in absurd (cc (none, f))
reads_on s n l ls (Some x) (Some t) e f rest =
    let on : after_line s l ≡ after s x = rw e refl in
    let here : after s x ≡ Some t = sym on ∙ f in
    let same : reading s n (l ∷ ls) ≡ reading t (n + 1) ls =
    ap (λ o. or_line_number n o (λ t. reading t (n + 1) ls)) f in
    subst (Reads s n (l ∷ ls)) (sym same)
    (reads_more s t n l ls x (reading t (n + 1) ls) e here (rest t))
reads_on s n l ls said None e f rest =
    let same : reading s n (l ∷ ls) ≡ Err n =
    ap (λ o. or_line_number n o (λ t. reading t (n + 1) ls)) f in
    subst (Reads s n (l ∷ ls)) (sym same) (
      0,
      omega arith,
      inl (record { said = []; end = s; are_said = refl; reached = refl }, stops s l f),
    )

pub reading-complete : (s : Progress) (n : ℕ) → is_complete s ≡ true → reading s n [] ≡ Ok s
reading-complete s n e = rw e refl

pub reading-early : (s : Progress) (n : ℕ) → is_complete s ≡ false → reading s n [] ≡ Err n
reading-early s n e = rw e refl

reads_end : (s : Progress) (n : ℕ) (b : Bool) → is_complete s ≡ b → Reads s n [] (reading s n [])
reads_end s n true e = subst (Reads s n []) (sym (reading-complete s n e))
    (record { said = []; are_said = refl; reached = refl; complete = e })
reads_end s n false e = subst (Reads s n []) (sym (reading-early s n e)) (
  0,
  omega arith,
  inr (refl, record { said = []; end = s; are_said = refl; reached = refl; few = e }),
)

pub Reads-reading : (s : Progress) (n : ℕ) (ls : List (List ℕ)) → Reads s n ls (reading s n ls)
Reads-reading s n [] = reads_end s n (is_complete s) refl
Reads-reading s n (l ∷ ls) = reads_on s n l ls (base_line_of l) (after_line s l) refl refl
    (λ t. Reads-reading t (n + 1) ls)

-- all lines of a base are read
pub reading-all : (s : Progress) (n : ℕ) (ls : List (List ℕ)) (said : List BaseLine) (t : Progress)
    → Say ls said → after_all s said ≡ Some t → is_complete t ≡ true → reading s n ls ≡ Ok t
reading-all s n [] [] t e h complete =
    let same : s ≡ t = cc h in
    subst (λ u. reading u n [] ≡ Ok t) (sym same) (reading-complete t n complete)
reading-all s n [] (x ∷ said) t e h complete = absurd (cc e)
reading-all s n (l ∷ ls) said t e h complete =
    let less = say_less l ls said e in
    let step = goes s less.0 less.1 t (ap (after_all s) (sym less.4) ∙ h) in
    let on : after_line s l ≡ Some step.0 =
    (let at : after_line s l ≡ after s less.0 = rw less.2 refl in at ∙ step.1) in
    ap (λ o. or_line_number n o (λ u. reading u (n + 1) ls)) on
    ∙ reading-all step.0 (n + 1) ls less.1 t less.3 step.2 complete
