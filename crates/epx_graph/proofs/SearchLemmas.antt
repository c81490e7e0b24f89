-- The search level by level marks each node for the first start that leads to it.
use Rattle.std.proofs.Common.{◌≡◌, ◌⊎◌, inl, inr, ℕ, zero, suc, ◌+◌, ◌<◌, ◌≤◌, true, false, not}
use Rattle.std.proofs.Common.{cond, List, [], ◌∷◌, ◌++◌, length, take, drop, get_or, set}
use Rattle.std.proofs.Common.{Option, Some, None, is_some, Contains, flat_map, refl, sym, ap, subst}
use Rattle.std.proofs.Common.{◌∙◌, arith}
use Rattle.epx_types.proofs.Common.{cases_lt, cases_eq, take_more, length-set, length_push}
use Rattle.epx_types.proofs.Common.{get_or-set_same, get_or-set_other, append-nil, length-drop}
use Rattle.epx_types.proofs.Common.{nil_from_length, take_all, Contains-append_left}
use Rattle.epx_types.proofs.Common.{Contains-append_right, Contains-append_cases, Contains-push}
use Rattle.epx_types.proofs.Common.{Contains-push_cases, count_by-le-length, Contains-nil}
use Rattle.epx_types.proofs.Common.{Contains-head, Contains-cons_cases, Contains-flat_map}
use Rattle.epx_types.proofs.Common.{Contains-from_flat_map, is_some-true, is_some-false}
use Rattle.std.proofs.lemmas.Grind.{flat_map-append}
use Rattle.std.proofs.lemmas.List.Sums.{sum_by-set}
use Rattle.epx_rows.specs.between.Rows.{row_of}
use Rattle.epx_graph.specs.inner.Searches.{LeadsIn, node_mark, IsMarked, SearchView, left_to_do}
use Rattle.epx_graph.specs.inner.Searches.{IsVisit, IsNewMark, IsLevelSearch, AreClosed}
use Rattle.epx_graph.specs.inner.Searches.{IsSearchFrom, AreFirstMarks}

-- ---- marks

-- a node that has no mark had none, if marks are kept
none_before : (old new : List (Option ℕ))
    → ((k m : ℕ) → node_mark old k ≡ Some m → node_mark new k ≡ Some m) → (k : ℕ)
    → node_mark new k ≡ None → node_mark old k ≡ None
none_before old new kept k none = by (node_mark old k) refl where
  by : (o : Option ℕ) → node_mark old k ≡ o → node_mark old k ≡ None
  by None e = e
  by (Some m) e = let had = kept k m e in absurd (cc (had, none))

-- a node is marked, if it cannot be without a mark
pub IsMarked-if_not_none : (marks : List (Option ℕ)) (k : ℕ) → ¬ (node_mark marks k ≡ None)
    → IsMarked marks k
IsMarked-if_not_none marks k some = by (node_mark marks k) refl where
  by : (o : Option ℕ) → node_mark marks k ≡ o → IsMarked marks k
  by None e = absurd (some e)
  by (Some m) e = (m, e)

-- ---- one more target

module _ (targets : List ℕ) (mark : ℕ) (old new : SearchView) (x : ℕ)
    (is : IsVisit targets mark old new) where
  -- a target that has a mark
  visits_skip : IsMarked new.marks x → IsVisit (targets ++ x ∷ []) mark old new
  visits_skip has = record {
    len = is.len;
    kept = is.kept;
    marked = λ k m h. elim (is.marked k m h) [
      | inl was ↦ inl was
      | inr (none, among, at, on) ↦ inr
          (none, Contains-append_left targets (x ∷ []) k among, at, on)
    ];
    all = λ k h. elim (Contains-push_cases targets x k h) [
      | inl among ↦ is.all k among
      | inr last ↦ subst (IsMarked new.marks) last has
    ];
    stays = is.stays;
    from = λ k h. elim (is.from k h) [
      | inl was ↦ inl was
      | inr among ↦ inr (Contains-append_left targets (x ∷ []) k among)
    ];
    same_work = is.same_work;
  }

  -- a target that has none
  visits_mark : node_mark new.marks x ≡ None → x < length new.marks
      → IsVisit (targets ++ x ∷ []) mark old
      (record { marks = set new.marks x (Some mark); level = new.level ++ x ∷ [] })
  visits_mark none l = record {
    len = length-set new.marks x (Some mark) ∙ is.len;
    kept = λ k m h. still k m (is.kept k m h);
    marked = marked;
    all = λ k h. elim (Contains-push_cases targets x k h) [
      | inl among ↦ let was = is.all k among in (was.0, still k was.0 was.1)
      | inr last ↦ (mark, ap (node_mark (set new.marks x (Some mark))) (sym last) ∙ now)
    ];
    stays = λ k h. Contains-append_left new.level (x ∷ []) k (is.stays k h);
    from = λ k h. elim (Contains-push_cases new.level x k h) [
      | inl on ↦ elim (is.from k on) [
        | inl was ↦ inl was
        | inr among ↦ inr (Contains-append_left targets (x ∷ []) k among)
      ]
      | inr last ↦ inr (subst (Contains (targets ++ x ∷ [])) last (Contains-push targets x))
    ];
    same_work = same_work;
  } where
    now : node_mark (set new.marks x (Some mark)) x ≡ Some mark
    now = get_or-set_same new.marks x (Some mark) None l

    still : (k m : ℕ) → node_mark new.marks k ≡ Some m
        → node_mark (set new.marks x (Some mark)) k ≡ Some m
    still k m h =
        elim (cases_eq k x) [
          | inl same ↦
              let at : node_mark new.marks k ≡ None = ap (node_mark new.marks) same ∙ none in
              absurd (cc (h, at))
          | inr other ↦ get_or-set_other new.marks x k (Some mark) None other ∙ h
        ]

    marked : (k m : ℕ) → node_mark (set new.marks x (Some mark)) k ≡ Some m
        → (node_mark old.marks k ≡ Some m)
        ⊎ ((node_mark old.marks k ≡ None) × Contains (targets ++ x ∷ []) k × (m ≡ mark)
        × Contains (new.level ++ x ∷ []) k)
    marked k m h =
        elim (cases_eq k x) [
          | inl same ↦
              let one : Some mark ≡ Some m =
              sym now ∙ ap (node_mark (set new.marks x (Some mark))) (sym same) ∙ h in
              let at : m ≡ mark = cc one in
              inr (
                none_before old.marks new.marks is.kept k (ap (node_mark new.marks) same ∙ none),
                subst (Contains (targets ++ x ∷ [])) (sym same) (Contains-push targets x),
                at,
                subst (Contains (new.level ++ x ∷ [])) (sym same) (Contains-push new.level x),
              )
          | inr other ↦ elim (is.marked k m
              (sym (get_or-set_other new.marks x k (Some mark) None other) ∙ h)) [
                | inl was ↦ inl was
                | inr (none, among, at, on) ↦ inr (
                  none,
                  Contains-append_left targets (x ∷ []) k among,
                  at,
                  Contains-append_left new.level (x ∷ []) k on,
                )
              ]
        ]

    same_work : left_to_do
        (record { marks = set new.marks x (Some mark); level = new.level ++ x ∷ [] })
        ≡ left_to_do old
    same_work =
        let f = λ (m : Option ℕ). cond (not (is_some m)) 1 0 in
        let counted = sum_by-set f new.marks x (Some mark) None l in
        let had : f (get_or new.marks x None) ≡ 1 = ap f none in
        omega (arith, counted, had, length_push new.level x, is.same_work)

module _ (targets : List ℕ) (i mark : ℕ) (old new : SearchView) (l : i < length targets)
    (is : IsVisit (take i targets) mark old new) where
  pub IsVisit-skip : is_some (node_mark new.marks (get_or targets i 0)) ≡ true
      → IsVisit (take (i + 1) targets) mark old new
  IsVisit-skip some =
      subst (λ (xs : List ℕ). IsVisit xs mark old new) (sym (take_more targets i 0 l))
      (visits_skip (take i targets) mark old new (get_or targets i 0) is
      (is_some-true (node_mark new.marks (get_or targets i 0)) some))

  pub IsVisit-mark : is_some (node_mark new.marks (get_or targets i 0)) ≡ false
      → get_or targets i 0 < length new.marks → IsVisit (take (i + 1) targets) mark old
      (record {
        marks = set new.marks (get_or targets i 0) (Some mark);
        level = new.level ++ get_or targets i 0 ∷ [];
      })
  IsVisit-mark none within =
      let after : SearchView = record {
        marks = set new.marks (get_or targets i 0) (Some mark);
        level = new.level ++ get_or targets i 0 ∷ [];
      } in
      subst (λ (xs : List ℕ). IsVisit xs mark old after) (sym (take_more targets i 0 l))
      (visits_mark (take i targets) mark old new (get_or targets i 0) is
      (is_some-false (node_mark new.marks (get_or targets i 0)) none) within)

-- ---- the targets of one more node

pub flat_map-take_next : {X Y : Type 0} (f : X → List Y) (xs : List X) (n : ℕ) (d : X)
    → n < length xs → flat_map f (take (n + 1) xs) ≡ flat_map f (take n xs) ++ f (get_or xs n d)
flat_map-take_next {X} f xs n d l =
    ap (flat_map f) (take_more xs n d l) ∙ flat_map-append f (take n xs) (get_or xs n d ∷ [])
    ∙ ap (λ zs. flat_map f (take n xs) ++ zs) (append-nil (f (get_or xs n d)))

pub IsVisit-append : (xs ys : List ℕ) (mark : ℕ) (a b c : SearchView) → IsVisit xs mark a b
    → IsVisit ys mark b c → IsVisit (xs ++ ys) mark a c
IsVisit-append xs ys mark a b c p q = record {
  len = q.len ∙ p.len;
  kept = λ k m h. q.kept k m (p.kept k m h);
  marked = λ k m h. elim (q.marked k m h) [
    | inl was ↦ elim (p.marked k m was) [
      | inl before ↦ inl before
      | inr (none, among, at, on) ↦ inr
          (none, Contains-append_left xs ys k among, at, q.stays k on)
    ]
    | inr (none, among, at, on) ↦ inr (
      none_before a.marks b.marks p.kept k none,
      Contains-append_right xs ys k among,
      at,
      on,
    )
  ];
  all = λ k h. elim (Contains-append_cases xs ys k h) [
    | inl first ↦ let was = p.all k first in (was.0, q.kept k was.0 was.1)
    | inr second ↦ q.all k second
  ];
  stays = λ k h. q.stays k (p.stays k h);
  from = λ k h. elim (q.from k h) [
    | inl was ↦ elim (p.from k was) [
      | inl before ↦ inl before
      | inr among ↦ inr (Contains-append_left xs ys k among)
    ]
    | inr among ↦ inr (Contains-append_right xs ys k among)
  ];
  same_work = q.same_work ∙ p.same_work;
}

pub IsVisit-take : (rows : List (List ℕ)) (level : List ℕ) (i mark : ℕ) (a b c : SearchView)
    → i < length level → IsVisit (flat_map (row_of rows) (take i level)) mark a b
    → IsVisit (row_of rows (get_or level i 0)) mark b c
    → IsVisit (flat_map (row_of rows) (take (i + 1) level)) mark a c
IsVisit-take rows level i mark a b c l p q =
    subst (λ (xs : List ℕ). IsVisit xs mark a c)
    (sym (flat_map-take_next (row_of rows) level i 0 l))
    (IsVisit-append (flat_map (row_of rows) (take i level)) (row_of rows (get_or level i 0)) mark a
    b
    c p q)

-- ---- from level to level

module _ (rows : List (List ℕ)) (start : ℕ) (mark : ℕ → ℕ) (before : List (Option ℕ))
    (are : AreClosed rows before) where
  -- the start is the first level
  pub IsLevelSearch-start : (s : SearchView)
      → IsVisit (start ∷ []) (mark 0) (record { marks = before; level = [] }) s
      → IsLevelSearch rows start mark before 0 s
  IsLevelSearch-start s visits = record {
    len = visits.len;
    kept = visits.kept;
    new = λ k m h. elim (visits.marked k m h) [
      | inl was ↦ inl was
      | inr (none, among, at, on) ↦ inr (record {
        steps = 0;
        none = none;
        leads = here k among;
        is = at;
        fewest = λ i there. omega arith;
      })
    ];
    found = found;
    level = λ k h. elim (visits.from k h) [
      | inl none ↦ absurd (Contains-nil k none)
      | inr among ↦ here k among
    ];
    closed = λ k j has edge. elim (visits.marked k has.0 has.1) [
      | inl was ↦ let too = are k j (has.0, was) edge in inr (too.0, visits.kept j too.0 too.1)
      | inr (none, among, at, on) ↦ inl on
    ];
    few = omega
        (arith, visits.same_work, count_by-le-length (λ (m : Option ℕ). not (is_some m)) before);
  } where
    here : (k : ℕ) → Contains (start ∷ []) k → start ≡ k
    here k among =
        elim (Contains-cons_cases start [] k among) [
          | inl same ↦ same
          | inr none ↦ absurd (Contains-nil k none)
        ]

    found : (k i : ℕ) → i ≤ 0 → LeadsIn (row_of rows) start i k → IsMarked s.marks k
    found k zero l there =
        subst (IsMarked s.marks) there (visits.all start (Contains-head start []))
    found k (suc i) l there = absurd (omega arith)

  module _ (n : ℕ) (old new : SearchView) (is : IsLevelSearch rows start mark before n old)
      (some : 0 < length old.level)
      (visits : IsVisit (flat_map (row_of rows) old.level) (mark (n + 1))
      (record { marks = old.marks; level = [] }) new) where
    -- one edge on from the level
    leads_next : (k : ℕ) → Contains (flat_map (row_of rows) old.level) k
        → LeadsIn (row_of rows) start (n + 1) k
    leads_next k among =
        let p = Contains-from_flat_map (row_of rows) old.level k among in
        let more : LeadsIn (row_of rows) start (suc n) k = (p.0, is.level p.0 p.1, p.2) in
        let long : suc n ≡ n + 1 = omega arith in
        subst (λ (i : ℕ). LeadsIn (row_of rows) start i k) long more

    kept_marked : (k : ℕ) → IsMarked old.marks k → IsMarked new.marks k
    kept_marked k had = (had.0, visits.kept k had.0 had.1)

    target_marked : (k j : ℕ) → IsMarked old.marks k → Contains (row_of rows k) j
        → IsMarked new.marks j
    target_marked k j has edge =
        elim (is.closed k j has edge) [
          | inl on ↦ visits.all j (Contains-flat_map (row_of rows) old.level k j on edge)
          | inr too ↦ kept_marked j too
        ]

    found_next : (k i : ℕ) → i ≤ n + 1 → LeadsIn (row_of rows) start i k → IsMarked new.marks k
    found_next k zero l there = kept_marked k (is.found k zero (omega arith) there)
    found_next k (suc i) l there =
        target_marked there.0 k (is.found there.0 i (omega arith) there.1) there.2

    new_mark : (k m : ℕ) → node_mark old.marks k ≡ None
        → Contains (flat_map (row_of rows) old.level) k → m ≡ mark (n + 1)
        → IsNewMark rows start mark before k m
    new_mark k m none among at = record {
      steps = n + 1;
      none = none_before before old.marks is.kept k none;
      leads = leads_next k among;
      is = at;
      fewest = λ i there. elim (cases_lt i (n + 1)) [
        | inl less ↦
            let had = is.found k i (omega arith) there in let has = had.1 in absurd (cc (has, none))
        | inr not_less ↦ not_less
      ];
    }

    pub IsLevelSearch-next : IsLevelSearch rows start mark before (n + 1) new
    IsLevelSearch-next = record {
      len = visits.len ∙ is.len;
      kept = λ k m h. visits.kept k m (is.kept k m h);
      new = λ k m h. elim (visits.marked k m h) [
        | inl was ↦ is.new k m was
        | inr (none, among, at, on) ↦ inr (new_mark k m none among at)
      ];
      found = found_next;
      level = λ k h. elim (visits.from k h) [
        | inl none ↦ absurd (Contains-nil k none)
        | inr among ↦ leads_next k among
      ];
      closed = λ k j has edge. elim (visits.marked k has.0 has.1) [
        | inl was ↦ inr (target_marked k j (has.0, was) edge)
        | inr (none, among, at, on) ↦ inl on
      ];
      few = omega (arith, is.few, visits.same_work, some);
    }

  -- after the last level
  pub IsSearchFrom-at_end : (n : ℕ) (s : SearchView) → IsLevelSearch rows start mark before n s
      → s.level ≡ [] → IsSearchFrom rows start mark before s.marks
  IsSearchFrom-at_end n s is none =
      record { len = is.len; kept = is.kept; new = is.new; all = all } where
        all : (k i : ℕ) → LeadsIn (row_of rows) start i k → IsMarked s.marks k
        all k zero there = is.found k zero (omega arith) there
        all k (suc i) there =
            elim (is.closed there.0 k (all there.0 i there.1) there.2) [
              | inl on ↦ absurd (Contains-nil there.0
                  (subst (λ (l : List ℕ). Contains l there.0) none on))
              | inr has ↦ has
            ]

-- ---- from start to start

module _ (rows : List (List ℕ)) (mark : ℕ → ℕ → ℕ) (first count : ℕ) where
  module _ (start : ℕ) (old : List (Option ℕ))
      (are : AreFirstMarks rows mark first start count old) where
    pub AreClosed-marks : AreClosed rows old
    AreClosed-marks k j has edge =
        IsMarked-if_not_none old j
        (λ none.
        let by = are.marked k has.0 has.1 in
        are.unmarked j by.start (suc by.steps) none by.after by.before (k, by.leads, edge))

    pub AreFirstMarks-step : first ≤ start → (new : List (Option ℕ))
        → IsSearchFrom rows start (mark start) old new
        → AreFirstMarks rows mark first (start + 1) count new
    AreFirstMarks-step l new is = record {
      nodes = is.len ∙ are.nodes;
      marked = λ k m h. elim (is.new k m h) [
        | inl was ↦
            let by = are.marked k m was in
            record {
              start = by.start;
              steps = by.steps;
              after = by.after;
              before = omega (arith, by.before);
              leads = by.leads;
              is = by.is;
              earliest = by.earliest;
              fewest = by.fewest;
            }
        | inr by ↦ record {
          start = start;
          steps = by.steps;
          after = l;
          before = omega arith;
          leads = by.leads;
          is = by.is;
          earliest = λ s i after before. are.unmarked k s i by.none after before;
          fewest = by.fewest;
        }
      ];
      unmarked = λ k s i none after before there. elim (cases_lt s start) [
        | inl earlier ↦ are.unmarked k s i (none_before old new is.kept k none) after earlier there
        | inr not_earlier ↦
            let same : s ≡ start = omega arith in
            let has = is.all k i (subst (λ (t : ℕ). LeadsIn (row_of rows) t i k) same there) in
            let had = has.1 in
            absurd (cc (had, none))
      ];
    }

-- what a slice of a whole vector was changed to is what the vector has
pub take-written_marks : (xs ys : List (Option ℕ)) (n : ℕ) → length xs ≡ length ys → n ≡ length ys
    → take n (xs ++ drop (length xs) ys) ≡ xs
take-written_marks xs ys n same all =
    let none : drop (length xs) ys ≡ [] =
    nil_from_length (drop (length xs) ys) (omega (arith, length-drop (length xs) ys)) in
    ap (λ zs. take n (xs ++ zs)) none ∙ ap (take n) (append-nil xs)
    ∙ take_all n xs (omega arith)
