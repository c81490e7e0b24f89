-- Reading the lines of a text finds what a replica says, or the first bad line.
use Rattle.std.proofs.Common.{◌≡◌, ◌⊎◌, inl, inr, ℕ, suc, ◌+◌, ◌-◌, ◌==◌, ℤ, T, List}
use Rattle.std.proofs.Common.{[], ◌∷◌, ◌++◌, length, map, take, drop, Option, Some, None, Result}
use Rattle.std.proofs.Common.{Ok, Err, option_and_then, refl, sym, ap, ap₂, ◌∙◌, subst, arith}
use Rattle.std.proofs.Common.{append-nil, append_assoc}
use Rattle.std.proofs.lemmas.List.{take-map}
use Rattle.std.specs.FinMap as contents
use Rattle.epx_types.proofs.Common.{is_sorted, key_cmp, Contents, map-append, nil_from_length}
use Rattle.epx_types.proofs.Common.{take-append-drop}
use Rattle.epx_types.specs.declared.id.Id.{Id}
use Rattle.epx_types.specs.declared.reply.Reply.{Reply}
use Rattle.epx_lines.specs.Lines.{lines_of}
use Rattle.epx_report.specs.between.PutPairs.{put_pairs}
use Rattle.epx_report.specs.inner.BaseReadings.{or_line_number}
use Rattle.epx_report.proofs.BadLineLemmas.{IsFirstNotGood-if_good, IsFirstNotGood-is_unique}
use Rattle.epx_report.proofs.BaseLemmas.{entries-put_pairs}
use Rattle.epx_report.proofs.BegunBaseLemmas.{Some-from_if, eq-from_true, is_sorted-push}
use Rattle.epx_report.proofs.RisingListLemmas.{is_after_last-sorted}
use Rattle.epx_report.proofs.SaidLineLemmas.{map-Some_cons, map-Some_is_injective}
use Rattle.epx_verify.specs.declared.said_line.SaidLine.{SaidLine}
use Rattle.epx_verify.specs.declared.said_line.SaidLine.TheVariants.{Replied, Stored}
use Rattle.epx_verify.specs.SaidLines.{said_line_of}
use Rattle.epx_verify.specs.SaidTexts.{lines_said, AreSaid, IsSaid, AreSaidLines, IsBadSaid}
use Rattle.epx_verify.specs.VerifyLaws.{SaidOrBadSaid, SaidIsNoBadSaid, TextSaysOneThing}
use Rattle.epx_verify.specs.VerifyLaws.{BadSaidIsBadAtOneLine}
use Rattle.epx_verify.specs.inner.SaidReadings.{SaidSoFar, nothing_said, after_said}
use Rattle.epx_verify.specs.inner.SaidReadings.{after_said_line, read_said_lines, said_reading}

-- ---- lines and what they say

abbrev Say : List (List ℕ) → List SaidLine → Type 0
Say lines said = map said_line_of lines ≡ map Some said

say_more : (l : List ℕ) (ls : List (List ℕ)) (x : SaidLine) (said : List SaidLine)
    → said_line_of l ≡ Some x → Say ls said → Say (l ∷ ls) (x ∷ said)
say_more l ls x said e h = ap₂ (λ o os. o ∷ os) e h

say_less : (l : List ℕ) (ls : List (List ℕ)) (said : List SaidLine) → Say (l ∷ ls) said
    → (x : SaidLine) × (rest : List SaidLine) × (said_line_of l ≡ Some x) × Say ls rest
    × (said ≡ x ∷ rest)
say_less l ls said h = map-Some_cons (said_line_of l) (map said_line_of ls) said h

say_first : (n : ℕ) (ls : List (List ℕ)) (said : List SaidLine) → Say ls said
    → Say (take n ls) (take n said)
say_first n ls said h =
    sym (take-map said_line_of n ls) ∙ ap (take n) h ∙ take-map Some n said

-- ---- the state after several lines

abbrev after_all_said : SaidSoFar → List SaidLine → Option SaidSoFar
after_all_said s [] = Some s
after_all_said s (l ∷ ls) = option_and_then (λ t. after_all_said t ls) (after_said s l)

goes : (s : SaidSoFar) (l : SaidLine) (ls : List SaidLine) (t : SaidSoFar)
    → after_all_said s (l ∷ ls) ≡ Some t
    → (u : SaidSoFar) × (after_said s l ≡ Some u) × (after_all_said u ls ≡ Some t)
goes s l ls t e = next (after_said s l) refl
  where
    next : (o : Option SaidSoFar) → after_said s l ≡ o
        → (u : SaidSoFar) × (after_said s l ≡ Some u) × (after_all_said u ls ≡ Some t)
    next None none = let stopped : after_all_said s (l ∷ ls) ≡ None = rw none refl in
        absurd (cc (stopped, e))
    next (Some u) some = (u, some, rw some at e)

-- the first of allowed lines are allowed
goes_first : (s : SaidSoFar) (ls more : List SaidLine) (t : SaidSoFar)
    → after_all_said s (ls ++ more) ≡ Some t → (u : SaidSoFar) × (after_all_said s ls ≡ Some u)
goes_first s [] more t e = (s, refl)
goes_first s (l ∷ ls) more t e =
    let step = goes s l (ls ++ more) t e in
    let rest = goes_first step.0 ls more t step.2 in
    (rest.0, rw step.1 rest.1)

-- ---- the state has what the lines say

abbrev replied : List (Id × Reply) → List SaidLine
replied ps = map (λ p. Replied p.0 p.1) ps

abbrev stored : List (List ℕ × ℤ) → List SaidLine
stored es = map (λ e. Stored e.0 e.1) es

-- one more line: the state is that of all lines, and its keys rise
record IsPushed (s t : SaidSoFar) (l : SaidLine) : Type 0 where
  lines : replied t.replies ++ stored t.stored ≡ (replied s.replies ++ stored s.stored) ++ l ∷ []
  rises : T (is_sorted key_cmp t.stored)

reply_pushed : (rs : List (Id × Reply)) (es : List (List ℕ × ℤ)) (x : Id) (r : Reply) → es ≡ []
    → replied (rs ++ (x, r) ∷ []) ++ stored es ≡ (replied rs ++ stored es) ++ Replied x r ∷ []
reply_pushed rs es x r none =
    rw none (append-nil (replied (rs ++ (x, r) ∷ []))
    ∙ map-append (λ p. Replied p.0 p.1) rs ((x, r) ∷ [])
    ∙ ap (λ ls. ls ++ Replied x r ∷ []) (sym (append-nil (replied rs))))

value_pushed : (rs : List (Id × Reply)) (es : List (List ℕ × ℤ)) (k : List ℕ) (v : ℤ)
    → replied rs ++ stored (es ++ (k, v) ∷ []) ≡ (replied rs ++ stored es) ++ Stored k v ∷ []
value_pushed rs es k v =
    ap (λ ls. replied rs ++ ls) (map-append (λ e. Stored e.0 e.1) es ((k, v) ∷ []))
    ∙ sym (append_assoc (replied rs) (stored es) (Stored k v ∷ []))

pushed : (s t : SaidSoFar) (l : SaidLine) → T (is_sorted key_cmp s.stored)
    → after_said s l ≡ Some t → IsPushed s t l
unfolding after_said
pushed s t (Replied x r) rises e =
    let step = Some-from_if (length s.stored == 0) _ t e in
    let none : s.stored ≡ [] = nil_from_length s.stored (eq-from_true _ _ step.0) in
    subst (λ u. IsPushed s u (Replied x r)) step.1
    (record { lines = reply_pushed s.replies s.stored x r none; rises = rises })
pushed s t (Stored k v) rises e =
    let step = Some-from_if _ _ t e in
    subst (λ u. IsPushed s u (Stored k v)) step.1
    (record {
      lines = value_pushed s.replies s.stored k v;
      rises = is_sorted-push s.stored (k, v) rises step.0;
    })

-- more lines
record AreGathered (s t : SaidSoFar) (ls : List SaidLine) : Type 0 where
  lines : replied t.replies ++ stored t.stored ≡ (replied s.replies ++ stored s.stored) ++ ls
  rises : T (is_sorted key_cmp t.stored)

gathered : (s : SaidSoFar) (ls : List SaidLine) (t : SaidSoFar) → T (is_sorted key_cmp s.stored)
    → after_all_said s ls ≡ Some t → AreGathered s t ls
gathered s [] t rises e =
    let same : s ≡ t = cc e in
    subst (λ u. AreGathered s u []) same
    (record { lines = sym (append-nil (replied s.replies ++ stored s.stored)); rises = rises })
gathered s (l ∷ ls) t rises e =
    let step = goes s l ls t e in
    let first = pushed s step.0 l rises step.1 in
    let rest = gathered step.0 ls t first.rises step.2 in
    record {
      lines = rest.lines ∙ ap (λ ms. ms ++ ls) first.lines
          ∙ append_assoc (replied s.replies ++ stored s.stored) (l ∷ []) ls;
      rises = rest.rises;
    }

-- ---- lines in order are allowed

after_replies : (rs ps : List (Id × Reply)) (rest : List SaidLine)
    → after_all_said (record { replies = rs; stored = [] }) (replied ps ++ rest)
    ≡ after_all_said (record { replies = rs ++ ps; stored = [] }) rest
unfolding after_said
after_replies rs [] rest =
    ap (λ qs. after_all_said (record { replies = qs; stored = [] }) rest) (sym (append-nil rs))
after_replies rs (p ∷ ps) rest =
    after_replies (rs ++ p ∷ []) ps rest
    ∙ ap (λ qs. after_all_said (record { replies = qs; stored = [] }) rest)
    (append_assoc rs (p ∷ []) ps)

value_allowed : (rs : List (Id × Reply)) (es fs : List (List ℕ × ℤ)) (e : List ℕ × ℤ)
    → T (is_sorted key_cmp (es ++ e ∷ fs))
    → after_said (record { replies = rs; stored = es }) (Stored e.0 e.1)
    ≡ Some (record { replies = rs; stored = es ++ e ∷ [] })
unfolding after_said
value_allowed rs es fs e rises = rw (is_after_last-sorted es e fs rises) refl

after_values : (rs : List (Id × Reply)) (es fs : List (List ℕ × ℤ))
    → T (is_sorted key_cmp (es ++ fs))
    → after_all_said (record { replies = rs; stored = es }) (stored fs)
    ≡ Some (record { replies = rs; stored = es ++ fs })
after_values rs es [] rises =
    ap (λ gs. Some (record { replies = rs; stored = gs })) (sym (append-nil es))
after_values rs es (e ∷ fs) rises =
    let regrouped = append_assoc es (e ∷ []) fs in
    rw (value_allowed rs es fs e rises)
    (after_values rs (es ++ e ∷ []) fs
    (subst (λ gs. T (is_sorted key_cmp gs)) (sym regrouped) rises)
    ∙ ap (λ gs. Some (record { replies = rs; stored = gs })) regrouped)

-- what a replica says is allowed
all_allowed : (replies : List (Id × Reply)) (held : Contents)
    → after_all_said nothing_said (lines_said replies held)
    ≡ Some (record { replies = replies; stored = contents.entries held })
all_allowed replies held =
    after_replies [] replies (stored (contents.entries held))
    ∙ after_values replies [] (contents.entries held) (contents.entries_sorted held)

-- ---- reading all lines

-- the lines are allowed from s on
record AreAllowed (s : SaidSoFar) (ls : List (List ℕ)) (end : SaidSoFar) : Type 0 where
  said : List SaidLine
  are_said : Say ls said
  reached : after_all_said s said ≡ Some end

abbrev Allowed : SaidSoFar → List (List ℕ) → Type 0
Allowed s ls = (end : SaidSoFar) × AreAllowed s ls end

-- what reading says of the lines: the first one has the number n
abbrev Reads : SaidSoFar → ℕ → List (List ℕ) → Result SaidSoFar ℕ → Type 0
Reads s n ls (Ok end) = AreAllowed s ls end
Reads s n ls (Err line) =
    (k : ℕ) × (line ≡ n + k) × Allowed s (take k ls) × (¬ Allowed s (take (suc k) ls))

allowed_more : (s t : SaidSoFar) (l : List ℕ) (ls : List (List ℕ)) (x : SaidLine)
    (end : SaidSoFar) → said_line_of l ≡ Some x → after_said s x ≡ Some t → AreAllowed t ls end
    → AreAllowed s (l ∷ ls) end
allowed_more s t l ls x end e f h = record {
  said = x ∷ h.said;
  are_said = say_more l ls x h.said e h.are_said;
  reached = rw f h.reached;
}

allowed_less : (s t : SaidSoFar) (l : List ℕ) (ls : List (List ℕ)) (x : SaidLine)
    (end : SaidSoFar) → said_line_of l ≡ Some x → after_said s x ≡ Some t
    → AreAllowed s (l ∷ ls) end → AreAllowed t ls end
allowed_less s t l ls x end e f h =
    let less = say_less l ls h.said h.are_said in
    let same : less.0 ≡ x = cc (less.2, e) in
    let step = goes s less.0 less.1 end (ap (after_all_said s) (sym less.4) ∙ h.reached) in
    let here : Some step.0 ≡ Some t = sym step.1 ∙ ap (after_said s) same ∙ f in
    let next : step.0 ≡ t = cc here in
    record {
      said = less.1;
      are_said = less.3;
      reached = subst (λ u. after_all_said u less.1 ≡ Some end) next step.2;
    }

reads_more : (s t : SaidSoFar) (n : ℕ) (l : List ℕ) (ls : List (List ℕ)) (x : SaidLine)
    (r : Result SaidSoFar ℕ) → said_line_of l ≡ Some x → after_said s x ≡ Some t
    → Reads t (n + 1) ls r → Reads s n (l ∷ ls) r
reads_more s t n l ls x (Ok end) e f h = allowed_more s t l ls x end e f h
reads_more s t n l ls x (Err line) e f h = (
  suc h.0,
  omega (arith, h.1),
  (h.2.0, allowed_more s t l (take h.0 ls) x h.2.0 e f h.2.1),
  λ good. h.3 (good.0, allowed_less s t l (take (suc h.0) ls) x good.0 e f good.1),
)

-- a line that is not allowed
stops : (s : SaidSoFar) (l : List ℕ) → after_said_line s l ≡ None → ¬ Allowed s (l ∷ [])
stops s l stopped h =
    let less = say_less l [] h.1.said h.1.are_said in
    let step = goes s less.0 less.1 h.0 (ap (after_all_said s) (sym less.4) ∙ h.1.reached) in
    let on : after_said_line s l ≡ after_said s less.0 = rw less.2 refl in
    cc (sym stopped ∙ on ∙ step.1)

reads_on : (s : SaidSoFar) (n : ℕ) (l : List ℕ) (ls : List (List ℕ)) (said : Option SaidLine)
    (next : Option SaidSoFar) → said_line_of l ≡ said → after_said_line s l ≡ next
    → ((t : SaidSoFar) → Reads t (n + 1) ls (read_said_lines t (n + 1) ls))
    → Reads s n (l ∷ ls) (read_said_lines s n (l ∷ ls))
reads_on s n l ls None (Some t) e f rest =
    let none : after_said_line s l ≡ None = rw e refl in absurd (cc (none, f))
reads_on s n l ls (Some x) (Some t) e f rest =
    let on : after_said_line s l ≡ after_said s x = rw e refl in
    let here : after_said s x ≡ Some t = sym on ∙ f in
    let same : read_said_lines s n (l ∷ ls) ≡ read_said_lines t (n + 1) ls =
    ap (λ o. or_line_number n o (λ t. read_said_lines t (n + 1) ls)) f in
    subst (Reads s n (l ∷ ls)) (sym same)
    (reads_more s t n l ls x (read_said_lines t (n + 1) ls) e here (rest t))
reads_on s n l ls said None e f rest =
    let same : read_said_lines s n (l ∷ ls) ≡ Err n =
    ap (λ o. or_line_number n o (λ t. read_said_lines t (n + 1) ls)) f in
    subst (Reads s n (l ∷ ls)) (sym same) (
      0,
      omega arith,
      (s, record { said = []; are_said = refl; reached = refl }),
      stops s l f,
    )

reads_all : (s : SaidSoFar) (n : ℕ) (ls : List (List ℕ))
    → Reads s n ls (read_said_lines s n ls)
reads_all s n [] = record { said = []; are_said = refl; reached = refl }
reads_all s n (l ∷ ls) = reads_on s n l ls (said_line_of l) (after_said_line s l) refl refl
    (λ t. reads_all t (n + 1) ls)

-- ---- what is read, and what is said

said_if_allowed : (ls : List (List ℕ)) (end : SaidSoFar) → AreAllowed nothing_said ls end
    → AreSaid ls end.replies (put_pairs end.stored contents.empty)
said_if_allowed ls end h =
    let all = gathered nothing_said h.said end tt h.reached in
    h.are_said ∙ ap (map Some) (sym all.lines
    ∙ ap (λ es. replied end.replies ++ stored es) (sym (entries-put_pairs end.stored all.rises)))

lines_if_allowed : (ls : List (List ℕ)) → Allowed nothing_said ls → AreSaidLines ls
lines_if_allowed ls h =
    (h.0.replies, put_pairs h.0.stored contents.empty, said_if_allowed ls h.0 h.1)

allowed_if_lines : (ls : List (List ℕ)) → AreSaidLines ls → Allowed nothing_said ls
allowed_if_lines ls h = (
  record { replies = h.0; stored = contents.entries h.1 },
  record { said = lines_said h.0 h.1; are_said = h.2; reached = all_allowed h.0 h.1 },
)

-- the first lines of what a replica says are such lines
fewer_lines : (n : ℕ) (ls : List (List ℕ)) → AreSaidLines ls → AreSaidLines (take n ls)
fewer_lines n ls h =
    let said = lines_said h.0 h.1 in
    let first = goes_first nothing_said (take n said) (drop n said) _
    (ap (after_all_said nothing_said) (take-append-drop n said) ∙ all_allowed h.0 h.1) in
    lines_if_allowed (take n ls) (
      first.0,
      record { said = take n said; are_said = say_first n ls said h.2; reached = first.1 },
    )

pub IsSaid-from_reading : (bytes : List ℕ) (end : SaidSoFar) → said_reading bytes ≡ Ok end
    → IsSaid bytes end.replies (put_pairs end.stored contents.empty)
IsSaid-from_reading bytes end e =
    said_if_allowed (lines_of bytes) end
    (subst (Reads nothing_said 1 (lines_of bytes)) e (reads_all nothing_said 1 (lines_of bytes)))

pub IsBadSaid-from_reading : (bytes : List ℕ) (line : ℕ) → said_reading bytes ≡ Err line
    → IsBadSaid bytes line
IsBadSaid-from_reading bytes line e =
    let ls = lines_of bytes in
    let stopped = subst (Reads nothing_said 1 ls) e (reads_all nothing_said 1 ls) in
    let before : stopped.0 ≡ line - 1 = omega (arith, stopped.1) in
    let here : suc stopped.0 ≡ line = omega (arith, stopped.1) in
    record {
      good_before = subst (λ k. AreSaidLines (take k ls)) before
          (lines_if_allowed (take stopped.0 ls) stopped.2);
      bad_with = subst (λ k. ¬ AreSaidLines (take k ls)) here
          (λ good. stopped.3 (allowed_if_lines (take (suc stopped.0) ls) good));
    }

-- ---- the laws

one_or_the_other : (bytes : List ℕ) (r : Result SaidSoFar ℕ) → said_reading bytes ≡ r
    → ((replies : List (Id × Reply)) × (held : Contents) × IsSaid bytes replies held)
    ⊎ ((line : ℕ) × IsBadSaid bytes line)
one_or_the_other bytes (Ok s) e =
    inl (s.replies, put_pairs s.stored contents.empty, IsSaid-from_reading bytes s e)
one_or_the_other bytes (Err n) e = inr (n, IsBadSaid-from_reading bytes n e)

pub SaidOrBadSaid-holds : SaidOrBadSaid
SaidOrBadSaid-holds bytes = one_or_the_other bytes (said_reading bytes) refl

pub SaidIsNoBadSaid-holds : SaidIsNoBadSaid
SaidIsNoBadSaid-holds bytes replies held line is =
    IsFirstNotGood-if_good AreSaidLines fewer_lines (lines_of bytes) line (replies, held, is)

pub TextSaysOneThing-holds : TextSaysOneThing
TextSaysOneThing-holds bytes replies others held kept p q =
    let same : lines_said replies held ≡ lines_said others kept =
    map-Some_is_injective (lines_said replies held) (lines_said others kept) (sym p ∙ q) in
    let states = sym (all_allowed replies held) ∙ ap (after_all_said nothing_said) same
    ∙ all_allowed others kept in
    let one : ◌≡◌ {A = SaidSoFar} (record { replies = replies; stored = contents.entries held })
    (record { replies = others; stored = contents.entries kept }) = cc states in (
      ap (λ s. s.replies) one,
      contents.same_entries_map held kept (ap (λ s. s.stored) one),
    )

pub BadSaidIsBadAtOneLine-holds : BadSaidIsBadAtOneLine
BadSaidIsBadAtOneLine-holds bytes =
    IsFirstNotGood-is_unique AreSaidLines fewer_lines (lines_of bytes)
