-- Reading the lines of a text finds the calls of a history, or the first bad line.
use Rattle.std.proofs.Common.{◌≡◌, ◌≢◌, ◌⊎◌, inl, inr, ℕ, zero, suc, ◌+◌, ◌-◌, Bool, true, false}
use Rattle.std.proofs.Common.{List, [], ◌∷◌, ◌++◌, map, take, Option, Some, None, Result, Ok}
use Rattle.std.proofs.Common.{Err, Contains, refl, sym, ap, ap₂, ◌∙◌, subst, arith}
use Rattle.std.proofs.Common.{append-nil, append_assoc}
use Rattle.epx_types.proofs.Common.{AllPairs-append, AllPairs-from_parts, AllPairs-tail}
use Rattle.epx_types.proofs.Common.{AllPairs-head, Contains-nil, Contains-cons, Contains-cons_cases}
use Rattle.epx_types.proofs.Common.{Contains-map, Contains-head, is_among, is_among-cases}
use Rattle.epx_types.proofs.Common.{Contains-append_left}
use Rattle.epx_lines.specs.Lines.{lines_of}
use Rattle.epx_lines.specs.Meaning.{is_blank}
use Rattle.epx_report.specs.Lists.{filled_lines}
use Rattle.epx_report.proofs.BadLineLemmas.{IsFirstNotGood-if_good, IsFirstNotGood-is_unique}
use Rattle.epx_report.proofs.SaidLineLemmas.{map-Some_cons, map-Some_is_injective}
use Rattle.epx_linear.specs.declared.client_call.ClientCall.{ClientCall}
use Rattle.epx_linear.specs.ClientCalls.{IsHistory}
use Rattle.epx_linear.specs.HistoryLines.{call_line_of}
use Rattle.epx_linear.specs.HistoryTexts.{AreCalls, AreHistoryLines, IsHistoryText, IsBadHistory}
use Rattle.epx_linear.specs.HistoryLaws.{HistoryOrBadHistory, HistoryIsNoBadHistory}
use Rattle.epx_linear.specs.HistoryLaws.{TextIsOneHistory, BadHistoryIsBadAtOneLine}
use Rattle.epx_linear.specs.inner.HistoryReadings.{called_ids}
use Rattle.epx_linear.specs.inner.HistoryReadings.{read_call_lines, history_reading}

-- ---- calls of distinct instances

abbrev Apart : ClientCall → ClientCall → Type 0
Apart a b = a.id ≢ b.id

-- one more call, of another instance
pub IsHistory-push : (h : List ClientCall) (c : ClientCall) → IsHistory h
    → is_among (called_ids h) c.id ≡ false → IsHistory (h ++ c ∷ [])
IsHistory-push h c history new =
    AllPairs-append Apart h (c ∷ []) history
    (AllPairs-from_parts Apart c [] (λ y has. absurd (Contains-nil y has)) (λ i j d l within.
    absurd (omega (arith, within)))) (λ x y in_h is_c same.
    elim (is_among-cases (called_ids h) c.id) [
      | inl found ↦ absurd (cc (found.0, new))
      | inr none ↦
          elim (Contains-cons_cases c [] y is_c) [
            | inl here ↦ none.1 (subst (Contains (called_ids h))
                (same ∙ ap (λ (c : ClientCall). c.id) (sym here))
                (Contains-map (λ (c : ClientCall). c.id) h x in_h))
            | inr later ↦ absurd (Contains-nil y later)
          ]
    ])

-- the first calls of a history are one
first_calls : (h more : List ClientCall) → IsHistory (h ++ more) → IsHistory h
first_calls [] more history = λ i j d l within. absurd (omega (arith, within))
first_calls (c ∷ h) more history =
    AllPairs-from_parts Apart c h (λ y has. AllPairs-head Apart c (h ++ more) y history
    (Contains-append_left h more y has))
    (first_calls h more (AllPairs-tail Apart c (h ++ more) history))

-- no call after the others is of an instance of theirs
not_again : (h : List ClientCall) (c : ClientCall) (more : List ClientCall)
    → IsHistory (h ++ c ∷ more) → ¬ Contains (called_ids h) c.id
not_again [] c more history has = Contains-nil c.id has
not_again (d ∷ h) c more history has =
    elim (Contains-cons_cases d.id (called_ids h) c.id has) [
      | inl same ↦ AllPairs-head Apart d (h ++ c ∷ more) c history (last h) same
      | inr later ↦ not_again h c more (AllPairs-tail Apart d (h ++ c ∷ more) history) later
    ]
  where
    last : (h : List ClientCall) → Contains (h ++ c ∷ more) c
    last [] = Contains-head c more
    last (d ∷ h) = let rest = last h in Contains-cons d (h ++ c ∷ more) c rest

-- ---- one line more

abbrev Say : List (List ℕ) → List ClientCall → Type 0
Say lines h = map call_line_of (filled_lines lines) ≡ map Some h

blank_more : (l : List ℕ) (ls : List (List ℕ)) (h : List ClientCall) → is_blank l ≡ true
    → Say ls h → Say (l ∷ ls) h
blank_more l ls h e said = rw e said

blank_less : (l : List ℕ) (ls : List (List ℕ)) (h : List ClientCall) → is_blank l ≡ true
    → Say (l ∷ ls) h → Say ls h
blank_less l ls h e said = rw e at said

filled : (l : List ℕ) (ls : List (List ℕ)) → is_blank l ≡ false
    → filled_lines (l ∷ ls) ≡ l ∷ filled_lines ls
filled l ls e = rw e refl

call_more : (l : List ℕ) (ls : List (List ℕ)) (c : ClientCall) (h : List ClientCall)
    → is_blank l ≡ false → call_line_of l ≡ Some c → Say ls h → Say (l ∷ ls) (c ∷ h)
call_more l ls c h e is said =
    ap (map call_line_of) (filled l ls e) ∙ ap₂ (λ o os. o ∷ os) is said

call_less : (l : List ℕ) (ls : List (List ℕ)) (h : List ClientCall) → is_blank l ≡ false
    → Say (l ∷ ls) h → (c : ClientCall) × (rest : List ClientCall) × (call_line_of l ≡ Some c)
    × Say ls rest × (h ≡ c ∷ rest)
call_less l ls h e said = map-Some_cons (call_line_of l) (map call_line_of (filled_lines ls)) h
    (sym (ap (map call_line_of) (filled l ls e)) ∙ said)

-- ---- reading all lines

-- the lines go on with these calls
record GoOn (h : List ClientCall) (ls : List (List ℕ)) (more : List ClientCall) : Type 0 where
  said : Say ls more
  history : IsHistory (h ++ more)

abbrev Good : List ClientCall → List (List ℕ) → Type 0
Good h ls = (more : List ClientCall) × GoOn h ls more

-- what reading says of the lines: the first one has the number n
abbrev Reads : List ClientCall → ℕ → List (List ℕ) → Result (List ClientCall) ℕ → Type 0
Reads h n ls (Ok all) = (more : List ClientCall) × GoOn h ls more × (all ≡ h ++ more)
Reads h n ls (Err line) =
    (k : ℕ) × (line ≡ n + k) × Good h (take k ls) × (¬ Good h (take (suc k) ls))

none_more : (h : List ClientCall) → IsHistory h → GoOn h [] []
none_more h history =
    record { said = refl; history = subst IsHistory (sym (append-nil h)) history }

go_on_blank : (h : List ClientCall) (l : List ℕ) (ls : List (List ℕ)) (more : List ClientCall)
    → is_blank l ≡ true → GoOn h ls more → GoOn h (l ∷ ls) more
go_on_blank h l ls more e go =
    record { said = blank_more l ls more e go.said; history = go.history }

back_blank : (h : List ClientCall) (l : List ℕ) (ls : List (List ℕ)) → is_blank l ≡ true
    → Good h (l ∷ ls) → Good h ls
back_blank h l ls e good = (
  good.0,
  record { said = blank_less l ls good.0 e good.1.said; history = good.1.history },
)

go_on_call : (h : List ClientCall) (l : List ℕ) (ls : List (List ℕ)) (c : ClientCall)
    (more : List ClientCall) → is_blank l ≡ false → call_line_of l ≡ Some c
    → GoOn (h ++ c ∷ []) ls more → GoOn h (l ∷ ls) (c ∷ more)
go_on_call h l ls c more e is go = record {
  said = call_more l ls c more e is go.said;
  history = subst IsHistory (append_assoc h (c ∷ []) more) go.history;
}

-- the first line says the first of the calls
back_call : (h : List ClientCall) (l : List ℕ) (ls : List (List ℕ)) (more : List ClientCall)
    → is_blank l ≡ false → GoOn h (l ∷ ls) more
    → (c : ClientCall) × (rest : List ClientCall) × (call_line_of l ≡ Some c)
    × GoOn (h ++ c ∷ []) ls rest × (more ≡ c ∷ rest)
back_call h l ls more e go =
    let less = call_less l ls more e go.said in (
      less.0,
      less.1,
      less.2,
      record {
        said = less.3;
        history = subst IsHistory (sym (append_assoc h (less.0 ∷ []) less.1))
            (subst (λ m. IsHistory (h ++ m)) less.4 go.history);
      },
      less.4,
    )

back_same : (h : List ClientCall) (l : List ℕ) (ls : List (List ℕ)) (c : ClientCall)
    → is_blank l ≡ false → call_line_of l ≡ Some c → Good h (l ∷ ls) → Good (h ++ c ∷ []) ls
back_same h l ls c e is good =
    let less = back_call h l ls good.0 e good.1 in
    let both : Some less.0 ≡ Some c = sym less.2 ∙ is in
    let same : less.0 ≡ c = cc both in
    (less.1, subst (λ d. GoOn (h ++ d ∷ []) ls less.1) same less.3)

reads_blank : (h : List ClientCall) (n : ℕ) (l : List ℕ) (ls : List (List ℕ))
    (r : Result (List ClientCall) ℕ) → is_blank l ≡ true → Reads h (n + 1) ls r
    → Reads h n (l ∷ ls) r
reads_blank h n l ls (Ok all) e rest = (rest.0, go_on_blank h l ls rest.0 e rest.1, rest.2)
reads_blank h n l ls (Err line) e rest = (
  suc rest.0,
  omega (arith, rest.1),
  (rest.2.0, go_on_blank h l (take rest.0 ls) rest.2.0 e rest.2.1),
  λ good. rest.3 (back_blank h l (take (suc rest.0) ls) e good),
)

reads_call : (h : List ClientCall) (n : ℕ) (l : List ℕ) (ls : List (List ℕ)) (c : ClientCall)
    (r : Result (List ClientCall) ℕ) → is_blank l ≡ false → call_line_of l ≡ Some c
    → Reads (h ++ c ∷ []) (n + 1) ls r → Reads h n (l ∷ ls) r
reads_call h n l ls c (Ok all) e is rest = (
  c ∷ rest.0,
  go_on_call h l ls c rest.0 e is rest.1,
  rest.2 ∙ append_assoc h (c ∷ []) rest.0,
)
reads_call h n l ls c (Err line) e is rest = (
  suc rest.0,
  omega (arith, rest.1),
  (c ∷ rest.2.0, go_on_call h l (take rest.0 ls) c rest.2.0 e is rest.2.1),
  λ good. rest.3 (back_same h l (take (suc rest.0) ls) c e is good),
)

-- a line that is not blank and says no call
says_no_call : (h : List ClientCall) (l : List ℕ) → is_blank l ≡ false → call_line_of l ≡ None
    → ¬ Good h (l ∷ [])
says_no_call h l e none good =
    let less = back_call h l [] good.0 e good.1 in cc (none, less.2)

-- a line that calls an instance again
calls_again : (h : List ClientCall) (l : List ℕ) (c : ClientCall) → is_blank l ≡ false
    → call_line_of l ≡ Some c → is_among (called_ids h) c.id ≡ true → ¬ Good h (l ∷ [])
calls_again h l c e is again good =
    let less = back_same h l [] c e is good in
    let history : IsHistory (h ++ c ∷ less.0) =
    subst IsHistory (append_assoc h (c ∷ []) less.0) less.1.history in
    elim (is_among-cases (called_ids h) c.id) [
      | inl found ↦ not_again h c less.0 history found.1
      | inr none ↦ absurd (cc (none.0, again))
    ]

stops : (h : List ClientCall) (n : ℕ) (l : List ℕ) (ls : List (List ℕ)) → IsHistory h
    → ¬ Good h (l ∷ []) → Reads h n (l ∷ ls) (Err n)
stops h n l ls history bad = (0, omega arith, ([], none_more h history), bad)

reads_on : (h : List ClientCall) (n : ℕ) (l : List ℕ) (ls : List (List ℕ)) (blank : Bool)
    (o : Option ClientCall) → IsHistory h → is_blank l ≡ blank → call_line_of l ≡ o
    → ((more : List ClientCall) → IsHistory more
    → Reads more (n + 1) ls (read_call_lines more (n + 1) ls))
    → Reads h n (l ∷ ls) (read_call_lines h n (l ∷ ls))
reads_on h n l ls true o history e is rest =
    rw e (reads_blank h n l ls (read_call_lines h (n + 1) ls) e (rest h history))
reads_on h n l ls false None history e is rest =
    rw (e, is) (stops h n l ls history (says_no_call h l e is))
reads_on h n l ls false (Some c) history e is rest =
    by (is_among (called_ids h) c.id) refl
  where
    by : (again : Bool) → is_among (called_ids h) c.id ≡ again
        → Reads h n (l ∷ ls) (read_call_lines h n (l ∷ ls))
    by true again = rw (e, is, again) (stops h n l ls history (calls_again h l c e is again))
    by false new =
        rw (e, is, new) (reads_call h n l ls c (read_call_lines (h ++ c ∷ []) (n + 1) ls) e is
        (rest (h ++ c ∷ []) (IsHistory-push h c history new)))

reads_all : (h : List ClientCall) (n : ℕ) (ls : List (List ℕ)) → IsHistory h
    → Reads h n ls (read_call_lines h n ls)
reads_all h n [] history = ([], none_more h history, sym (append-nil h))
reads_all h n (l ∷ ls) history = reads_on h n l ls (is_blank l) (call_line_of l) history refl
    refl (λ more is. reads_all more (n + 1) ls is)

-- ---- histories and bad histories

no_calls : IsHistory []
no_calls i j d l within = absurd (omega (arith, within))

lines_if_good : (ls : List (List ℕ)) → Good [] ls → AreHistoryLines ls
lines_if_good ls good = (good.0, (good.1.said, good.1.history))

good_if_lines : (ls : List (List ℕ)) → AreHistoryLines ls → Good [] ls
good_if_lines ls are = (are.0, record { said = are.1.0; history = are.1.1 })

-- the first lines of a history are lines of a history
fewer_good : (n : ℕ) (h : List ClientCall) (ls : List (List ℕ)) → Good h ls
    → Good h (take n ls)
fewer_good zero h ls good = ([], none_more h (first_calls h good.0 good.1.history))
fewer_good (suc n) h [] good = good
fewer_good (suc n) h (l ∷ ls) good =
    fewer (is_blank l) refl (λ before. fewer_good n before ls)
  where
    fewer : (blank : Bool) → is_blank l ≡ blank
        → ((before : List ClientCall) → Good before ls → Good before (take n ls))
        → Good h (l ∷ take n ls)
    fewer true e shorter =
        let rest = shorter h (back_blank h l ls e good) in
        (rest.0, go_on_blank h l (take n ls) rest.0 e rest.1)
    fewer false e shorter =
        let less = back_call h l ls good.0 e good.1 in
        let rest = shorter (h ++ less.0 ∷ []) (less.1, less.3) in
        (less.0 ∷ rest.0, go_on_call h l (take n ls) less.0 rest.0 e less.2 rest.1)

fewer_lines : (n : ℕ) (ls : List (List ℕ)) → AreHistoryLines ls → AreHistoryLines (take n ls)
fewer_lines n ls are = lines_if_good (take n ls) (fewer_good n [] ls (good_if_lines ls are))

-- what reading yields is the history
pub IsHistoryText-read : (bytes : List ℕ) (h : List ClientCall) → history_reading bytes ≡ Ok h
    → IsHistoryText bytes h
IsHistoryText-read bytes h e =
    let all = subst (Reads [] 1 (lines_of bytes)) e (reads_all [] 1 (lines_of bytes) no_calls) in
    subst (AreCalls (lines_of bytes)) (sym all.2) (all.1.said, all.1.history)

-- the line at which reading stops is the first bad one
pub IsBadHistory-read : (bytes : List ℕ) (line : ℕ) → history_reading bytes ≡ Err line
    → IsBadHistory bytes line
IsBadHistory-read bytes line e =
    let ls = lines_of bytes in
    let stopped = subst (Reads [] 1 ls) e (reads_all [] 1 ls no_calls) in
    let before : stopped.0 ≡ line - 1 = omega (arith, stopped.1) in
    let here : suc stopped.0 ≡ line = omega (arith, stopped.1) in
    record {
      good_before = subst (λ k. AreHistoryLines (take k ls)) before
          (lines_if_good (take stopped.0 ls) stopped.2);
      bad_with = subst (λ k. ¬ AreHistoryLines (take k ls)) here
          (λ good. stopped.3 (good_if_lines (take (suc stopped.0) ls) good));
    }

one_or_the_other : (bytes : List ℕ) (r : Result (List ClientCall) ℕ) → history_reading bytes ≡ r
    → ((h : List ClientCall) × IsHistoryText bytes h) ⊎ ((line : ℕ) × IsBadHistory bytes line)
one_or_the_other bytes (Ok h) e = inl (h, IsHistoryText-read bytes h e)
one_or_the_other bytes (Err n) e = inr (n, IsBadHistory-read bytes n e)

pub HistoryOrBadHistory-holds : HistoryOrBadHistory
HistoryOrBadHistory-holds bytes = one_or_the_other bytes (history_reading bytes) refl

pub HistoryIsNoBadHistory-holds : HistoryIsNoBadHistory
HistoryIsNoBadHistory-holds bytes h line is =
    IsFirstNotGood-if_good AreHistoryLines fewer_lines (lines_of bytes) line (h, is)

pub TextIsOneHistory-holds : TextIsOneHistory
TextIsOneHistory-holds bytes h other p q = map-Some_is_injective h other (sym p.0 ∙ q.0)

pub BadHistoryIsBadAtOneLine-holds : BadHistoryIsBadAtOneLine
BadHistoryIsBadAtOneLine-holds bytes =
    IsFirstNotGood-is_unique AreHistoryLines fewer_lines (lines_of bytes)
