-- Reading the lines of a text finds the instances of a list, or the first bad line.
use Rattle.std.proofs.Common.{◌≡◌, ◌⊎◌, inl, inr, ℕ, zero, suc, ◌+◌, ◌-◌, Bool, true, false, List}
use Rattle.std.proofs.Common.{[], ◌∷◌, ◌++◌, map, take, Option, Some, None, Result, Ok, Err, refl}
use Rattle.std.proofs.Common.{sym, ap, ap₂, ◌∙◌, subst, arith, append-nil, append_assoc}
use Rattle.epx_types.specs.declared.id.Id.{Id}
use Rattle.epx_lines.specs.Lines.{lines_of}
use Rattle.epx_lines.specs.Meaning.{is_blank}
use Rattle.epx_report.specs.Lists.{listed_id_of, filled_lines, LinesName, AreListLines, IsList}
use Rattle.epx_report.specs.Lists.{IsBadList}
use Rattle.epx_report.specs.ListLaws.{ListOrBadList, ListIsNoBadList, ListNamesOneList}
use Rattle.epx_report.specs.ListLaws.{BadListIsBadAtOneLine}
use Rattle.epx_report.specs.inner.ListReadings.{read_list_lines, list_reading}
use Rattle.epx_report.proofs.BadLineLemmas.{IsFirstNotGood-if_good, IsFirstNotGood-is_unique}
use Rattle.epx_report.proofs.SaidLineLemmas.{map-Some_cons, map-Some_is_injective}

-- ---- one line more

blank_more : (l : List ℕ) (ls : List (List ℕ)) (ids : List Id) → is_blank l ≡ true
    → LinesName ls ids → LinesName (l ∷ ls) ids
blank_more l ls ids e h = rw e h

blank_less : (l : List ℕ) (ls : List (List ℕ)) (ids : List Id) → is_blank l ≡ true
    → LinesName (l ∷ ls) ids → LinesName ls ids
blank_less l ls ids e h = rw e at h

filled : (l : List ℕ) (ls : List (List ℕ)) → is_blank l ≡ false
    → filled_lines (l ∷ ls) ≡ l ∷ filled_lines ls
filled l ls e = rw e refl

id_more : (l : List ℕ) (ls : List (List ℕ)) (x : Id) (ids : List Id) → is_blank l ≡ false
    → listed_id_of l ≡ Some x → LinesName ls ids → LinesName (l ∷ ls) (x ∷ ids)
id_more l ls x ids e named h =
    ap (map listed_id_of) (filled l ls e) ∙ ap₂ (λ o os. o ∷ os) named h

id_less : (l : List ℕ) (ls : List (List ℕ)) (ids : List Id) → is_blank l ≡ false
    → LinesName (l ∷ ls) ids
    → (x : Id) × (rest : List Id) × (listed_id_of l ≡ Some x) × LinesName ls rest × (ids ≡ x ∷ rest)
id_less l ls ids e h = map-Some_cons (listed_id_of l) (map listed_id_of (filled_lines ls)) ids
    (sym (ap (map listed_id_of) (filled l ls e)) ∙ h)

-- ---- reading all lines

-- what reading says of the lines: the first one has the number n
abbrev Reads : List Id → ℕ → List (List ℕ) → Result (List Id) ℕ → Type 0
Reads ids n ls (Ok all) = (more : List Id) × LinesName ls more × (all ≡ ids ++ more)
Reads ids n ls (Err line) =
    (k : ℕ) × (line ≡ n + k) × AreListLines (take k ls) × ¬ AreListLines (take (suc k) ls)

reads_blank : (ids : List Id) (n : ℕ) (l : List ℕ) (ls : List (List ℕ)) (r : Result (List Id) ℕ)
    → is_blank l ≡ true → Reads ids (n + 1) ls r → Reads ids n (l ∷ ls) r
reads_blank ids n l ls (Ok all) e h = (h.0, blank_more l ls h.0 e h.1, h.2)
reads_blank ids n l ls (Err line) e h = (
  suc h.0,
  omega (arith, h.1),
  (h.2.0, blank_more l (take h.0 ls) h.2.0 e h.2.1),
  λ good. h.3 (good.0, blank_less l (take (suc h.0) ls) good.0 e good.1),
)

reads_id : (ids : List Id) (n : ℕ) (l : List ℕ) (ls : List (List ℕ)) (x : Id)
    (r : Result (List Id) ℕ) → is_blank l ≡ false → listed_id_of l ≡ Some x
    → Reads (ids ++ x ∷ []) (n + 1) ls r → Reads ids n (l ∷ ls) r
reads_id ids n l ls x (Ok all) e named h =
    (x ∷ h.0, id_more l ls x h.0 e named h.1, h.2 ∙ append_assoc ids (x ∷ []) h.0)
reads_id ids n l ls x (Err line) e named h = (
  suc h.0,
  omega (arith, h.1),
  (x ∷ h.2.0, id_more l (take h.0 ls) x h.2.0 e named h.2.1),
  λ good. let less = id_less l (take (suc h.0) ls) good.0 e good.1 in h.3 (less.1, less.3),
)

-- a line that is not blank and names no instance
not_list_line : (l : List ℕ) → is_blank l ≡ false → listed_id_of l ≡ None
    → ¬ AreListLines (l ∷ [])
not_list_line l e none good = let less = id_less l [] good.0 e good.1 in cc (none, less.2)

reads_on : (ids : List Id) (n : ℕ) (l : List ℕ) (ls : List (List ℕ)) (blank : Bool)
    (o : Option Id) → is_blank l ≡ blank → listed_id_of l ≡ o
    → ((more : List Id) → Reads more (n + 1) ls (read_list_lines more (n + 1) ls))
    → Reads ids n (l ∷ ls) (read_list_lines ids n (l ∷ ls))
reads_on ids n l ls true o e named rest =
    rw e (reads_blank ids n l ls (read_list_lines ids (n + 1) ls) e (rest ids))
reads_on ids n l ls false (Some x) e named rest =
    rw (e, named) (reads_id ids n l ls x (read_list_lines (ids ++ x ∷ []) (n + 1) ls) e named
    (rest (ids ++ x ∷ [])))
reads_on ids n l ls false None e named rest =
    rw (e, named) (0, omega arith, ([], refl), not_list_line l e named)

reads_all : (ids : List Id) (n : ℕ) (ls : List (List ℕ))
    → Reads ids n ls (read_list_lines ids n ls)
reads_all ids n [] = ([], refl, sym (append-nil ids))
reads_all ids n (l ∷ ls) = reads_on ids n l ls (is_blank l) (listed_id_of l) refl refl
    (λ more. reads_all more (n + 1) ls)

-- ---- lists and bad lists

-- the first lines of a list are lines of a list
fewer_lines : (n : ℕ) (ls : List (List ℕ)) → AreListLines ls → AreListLines (take n ls)
fewer_lines zero ls h = ([], refl)
fewer_lines (suc n) [] h = h
fewer_lines (suc n) (l ∷ ls) h = fewer (is_blank l) refl (fewer_lines n ls)
  where
    fewer : (blank : Bool) → is_blank l ≡ blank
        → (AreListLines ls → AreListLines (take n ls)) → AreListLines (l ∷ take n ls)
    fewer true e shorter =
        let rest = shorter (h.0, blank_less l ls h.0 e h.1) in
        (rest.0, blank_more l (take n ls) rest.0 e rest.1)
    fewer false e shorter =
        let less = id_less l ls h.0 e h.1 in
        let rest = shorter (less.1, less.3) in
        (less.0 ∷ rest.0, id_more l (take n ls) less.0 rest.0 e less.2 rest.1)

-- what reading yields is the list
pub IsList-from_reading : (bytes : List ℕ) (ids : List Id) → list_reading bytes ≡ Ok ids
    → IsList bytes ids
IsList-from_reading bytes ids e =
    let all = subst (Reads [] 1 (lines_of bytes)) e (reads_all [] 1 (lines_of bytes)) in
    subst (LinesName (lines_of bytes)) (sym all.2) all.1

-- the line at which reading stops is the first bad one
pub IsBadList-from_reading : (bytes : List ℕ) (line : ℕ) → list_reading bytes ≡ Err line
    → IsBadList bytes line
IsBadList-from_reading bytes line e =
    let stopped = subst (Reads [] 1 (lines_of bytes)) e (reads_all [] 1 (lines_of bytes)) in
    let before : stopped.0 ≡ line - 1 = omega (arith, stopped.1) in
    let here : suc stopped.0 ≡ line = omega (arith, stopped.1) in
    record {
      good_before = subst (λ k. AreListLines (take k (lines_of bytes))) before stopped.2;
      bad_with = subst (λ k. ¬ AreListLines (take k (lines_of bytes))) here stopped.3;
    }

one_or_the_other : (bytes : List ℕ) (r : Result (List Id) ℕ) → list_reading bytes ≡ r
    → ((ids : List Id) × IsList bytes ids) ⊎ ((line : ℕ) × IsBadList bytes line)
one_or_the_other bytes (Ok ids) e = inl (ids, IsList-from_reading bytes ids e)
one_or_the_other bytes (Err n) e = inr (n, IsBadList-from_reading bytes n e)

pub ListOrBadList-holds : ListOrBadList
ListOrBadList-holds bytes = one_or_the_other bytes (list_reading bytes) refl

pub ListIsNoBadList-holds : ListIsNoBadList
ListIsNoBadList-holds bytes ids line is =
    IsFirstNotGood-if_good AreListLines fewer_lines (lines_of bytes) line (ids, is)

pub ListNamesOneList-holds : ListNamesOneList
ListNamesOneList-holds bytes ids other p q = map-Some_is_injective ids other (sym p ∙ q)

pub BadListIsBadAtOneLine-holds : BadListIsBadAtOneLine
BadListIsBadAtOneLine-holds bytes =
    IsFirstNotGood-is_unique AreListLines fewer_lines (lines_of bytes)
