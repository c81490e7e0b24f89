-- The search level by level marks exactly the nodes within some steps of a node.
use Rattle.std.proofs.Common.{◌≡◌, ◌⊎◌, inl, inr, ℕ, zero, suc, ◌+◌, ◌<◌, ◌≤◌, Bool, true, false}
use Rattle.std.proofs.Common.{List, [], ◌∷◌, ◌++◌, length, get_or, set, replicate, Contains, refl}
use Rattle.std.proofs.Common.{sym, ap, subst, ◌∙◌, arith, take, drop, All}
use Rattle.epx_types.proofs.Common.{cases_eq, cases_lt, false≢true, length-set, length-replicate}
use Rattle.epx_types.proofs.Common.{get_or-replicate, get_or_past, get_or-set_same}
use Rattle.epx_types.proofs.Common.{get_or-set_other, Contains-nil, Contains-head}
use Rattle.epx_types.proofs.Common.{Contains-cons_cases, Contains-append_left, Contains-push}
use Rattle.epx_types.proofs.Common.{Contains-push_cases, take_more, All-weaker}
use Rattle.epx_types.proofs.Common.{All-contains_itself, append-nil, length-drop, nil_from_length}
use Rattle.epx_types.proofs.Common.{take_all}
use Rattle.epx_rows.specs.between.Rows.{row_of, AreTransposed}
use Rattle.epx_graph.proofs.Common.{DependencyGraph, IsGraph, edges_of, edges_of-from_committed}
use Rattle.epx_picture.specs.inner.NodeMarks.{IsNodeStep, IsNodeWithin, HasMark, AreMarksWithin}
use Rattle.epx_picture.specs.inner.NodeMarks.{MarkedLevel, MarksMore, IsNextTo, IsSearched}

-- ---- marks

-- a marked node is one of the nodes
pub HasMark-within : (marks : List Bool) (k : ℕ) → HasMark marks k → k < length marks
HasMark-within marks k has = elim (cases_lt k (length marks)) [
  | inl within ↦ within
  | inr past ↦ absurd (false≢true (sym (get_or_past marks k false past) ∙ has))
]

-- in a list of no marks none is marked
pub HasMark-none : (n k : ℕ) → ¬ HasMark (replicate n false) k
HasMark-none n k has =
    let within : k < n = omega (
      arith,
      HasMark-within (replicate n false) k has,
      length-replicate n false,
    ) in
    false≢true (sym (get_or-replicate n k false false within) ∙ has)

-- with one more mark
module _ (marks : List Bool) (x : ℕ) (within : x < length marks) where
  pub HasMark-set : HasMark (set marks x true) x
  HasMark-set = get_or-set_same marks x true false within

  pub HasMark-kept : (k : ℕ) → HasMark marks k → HasMark (set marks x true) k
  HasMark-kept k was = elim (cases_eq k x) [
    | inl same ↦ subst (HasMark (set marks x true)) (sym same) HasMark-set
    | inr other ↦ get_or-set_other marks x k true false other ∙ was
  ]

  pub HasMark-cases : (k : ℕ) → HasMark (set marks x true) k → HasMark marks k ⊎ (x ≡ k)
  HasMark-cases k has = elim (cases_eq k x) [
    | inl same ↦ inr (sym same)
    | inr other ↦ inl (sym (get_or-set_other marks x k true false other) ∙ has)
  ]

-- ---- one marking after another

-- what marks more nodes by one property does so by any property that holds of the same nodes
pub MarksMore-same : (P Q : ℕ → Type 0) (old new : MarkedLevel) → ((k : ℕ) → P k → Q k)
    → ((k : ℕ) → Q k → P k) → MarksMore P old new → MarksMore Q old new
MarksMore-same P Q old new there back is = record {
  nodes = is.nodes;
  marked = λ k. (
    λ h. elim ((is.marked k).0 h) [ inl was ↦ inl was | inr p ↦ inr (there k p) ],
    λ h. elim h [
      | inl was ↦ (is.marked k).1 (inl was)
      | inr q ↦ (is.marked k).1 (inr (back k q))
    ],
  );
  joined = is.joined;
  stays = is.stays;
  from = λ k h. elim (is.from k h) [ inl was ↦ inl was | inr p ↦ inr (there k p) ];
}

-- two markings in turn mark the nodes that have one of the two properties
pub MarksMore-append : (P Q : ℕ → Type 0) (a b c : MarkedLevel) → MarksMore P a b → MarksMore Q b c
    → MarksMore (λ k. P k ⊎ Q k) a c
MarksMore-append P Q a b c p q = record {
  nodes = q.nodes ∙ p.nodes;
  marked = λ k. (
    λ h. elim ((q.marked k).0 h) [
      | inl was ↦ elim ((p.marked k).0 was) [
        | inl before ↦ inl before
        | inr first ↦ inr (inl first)
      ]
      | inr second ↦ inr (inr second)
    ],
    λ h. elim h [
      | inl before ↦ (q.marked k).1 (inl ((p.marked k).1 (inl before)))
      | inr either ↦ elim either [
        | inl first ↦ (q.marked k).1 (inl ((p.marked k).1 (inr first)))
        | inr second ↦ (q.marked k).1 (inr second)
      ]
    ],
  );
  joined = λ k h. elim (q.joined k h) [
    | inl was ↦ elim (p.joined k was) [ inl before ↦ inl before | inr on ↦ inr (q.stays k on) ]
    | inr on ↦ inr on
  ];
  stays = λ k h. q.stays k (p.stays k h);
  from = λ k h. elim (q.from k h) [
    | inl was ↦ elim (p.from k was) [ inl before ↦ inl before | inr first ↦ inr (inl first) ]
    | inr second ↦ inr (inr second)
  ];
}

-- ---- one more target

module _ (s : MarkedLevel) (x : ℕ) where
  -- one that is marked
  marking_skip : HasMark s.marks x → MarksMore (λ k. x ≡ k) s s
  marking_skip has = record {
    nodes = refl;
    marked = λ k. (
      inl,
      λ h. elim h [ inl was ↦ was | inr same ↦ subst (HasMark s.marks) same has ],
    );
    joined = λ k h. inl h;
    stays = λ k h. h;
    from = λ k h. inl h;
  }

  -- one that is not
  marking_one : x < length s.marks → MarksMore (λ k. x ≡ k) s
      (record { marks = set s.marks x true; level = s.level ++ x ∷ [] })
  marking_one within = record {
    nodes = length-set s.marks x true;
    marked = λ k. (
      HasMark-cases s.marks x within k,
      λ h. elim h [
        | inl was ↦ HasMark-kept s.marks x within k was
        | inr same ↦ subst (HasMark (set s.marks x true)) same (HasMark-set s.marks x within)
      ],
    );
    joined = λ k h. elim (HasMark-cases s.marks x within k h) [
      | inl was ↦ inl was
      | inr same ↦ inr (subst (Contains (s.level ++ x ∷ [])) same (Contains-push s.level x))
    ];
    stays = λ k h. Contains-append_left s.level (x ∷ []) k h;
    from = λ k h. Contains-push_cases s.level x k h;
  }

module _ (xs : List ℕ) (x : ℕ) (old now : MarkedLevel) (is : MarksMore (Contains xs) old now) where
  -- one more target, marked or not
  push_marking : (new : MarkedLevel) → MarksMore (λ k. x ≡ k) now new
      → MarksMore (Contains (xs ++ x ∷ [])) old new
  push_marking new one = MarksMore-same (λ k. Contains xs k ⊎ (x ≡ k)) (Contains (xs ++ x ∷ [])) old
      new
      (λ k h. elim h [
        | inl among ↦ Contains-append_left xs (x ∷ []) k among
        | inr same ↦ subst (Contains (xs ++ x ∷ [])) same (Contains-push xs x)
      ])
      (λ k h. Contains-push_cases xs x k h)
      (MarksMore-append (Contains xs) (λ k. x ≡ k) old now new is one)

  -- one more target that is marked
  pub MarksMore-target_skip : HasMark now.marks x → MarksMore (Contains (xs ++ x ∷ [])) old now
  MarksMore-target_skip has = push_marking now (marking_skip now x has)

  -- one more target that is not marked
  pub MarksMore-target_more : x < length now.marks → MarksMore (Contains (xs ++ x ∷ [])) old
      (record { marks = set now.marks x true; level = now.level ++ x ∷ [] })
  MarksMore-target_more within = push_marking
      (record { marks = set now.marks x true; level = now.level ++ x ∷ [] })
      (marking_one now x within)

-- ---- one more node of a level

module _ (g : DependencyGraph) (level : List ℕ) (x : ℕ) (P Q : ℕ → Type 0)
    (out : (k : ℕ) → IsNodeStep g x k → P k ⊎ Q k) (back : (k : ℕ) → P k ⊎ Q k → IsNodeStep g x k)
  where
    -- the nodes one step away from one more node of a level
    pub MarksMore-level_more : (a b c d : MarkedLevel) → MarksMore (IsNextTo g level) a b
        → MarksMore P b c
        → MarksMore Q c d → MarksMore (IsNextTo g (level ++ x ∷ [])) a d
    MarksMore-level_more a b c d old along against = MarksMore-same
        (λ k. IsNextTo g level k ⊎ (P k ⊎ Q k)) (IsNextTo g (level ++ x ∷ [])) a d
        (λ k h. elim h [
          | inl was ↦ (was.0, Contains-append_left level (x ∷ []) was.0 was.1, was.2)
          | inr either ↦ (x, Contains-push level x, back k either)
        ])
        (λ k h. elim (Contains-push_cases level x h.0 h.1) [
          | inl was ↦ inl (h.0, was, h.2)
          | inr same ↦ inr (out k (subst (λ i. IsNodeStep g i k) (sym same) h.2))
        ])
        (MarksMore-append (IsNextTo g level) (λ k. P k ⊎ Q k) a b d old
        (MarksMore-append P Q b c d along against))

module _ (g : DependencyGraph) (sources : List (List ℕ))
    (transpose : AreTransposed g.edges sources) where
  -- the sources of a node are nodes
  pub All-sources_below : IsGraph g → (x : ℕ) → All (λ k. k < length g.ids) (row_of sources x)
  All-sources_below graph x = All-weaker (Contains (row_of sources x)) (λ k. k < length g.ids)
      (λ k h.
      let low = edges_of-from_committed g graph k x ((transpose k x).1 h) in
      omega (arith, graph.committed_nodes))
      (row_of sources x) (All-contains_itself (row_of sources x))

  -- the next node of a level: its targets are marked, and then its sources
  pub MarksMore-level_next : (level : List ℕ) (i : ℕ) → i < length level → (a b c d : MarkedLevel)
      → MarksMore (IsNextTo g (take i level)) a b
      → MarksMore (Contains (edges_of g (get_or level i 0))) b c
      → MarksMore (Contains (row_of sources (get_or level i 0))) c d
      → MarksMore (IsNextTo g (take (i + 1) level)) a d
  MarksMore-level_next level i within a b c d old along against =
      let x = get_or level i 0 in
      subst (λ (xs : List ℕ). MarksMore (IsNextTo g xs) a d) (sym (take_more level i 0 within))
      (MarksMore-level_more g (take i level) x (Contains (edges_of g x))
      (Contains (row_of sources x))
      (λ k step. elim step [ inl out ↦ inl out | inr back ↦ inr ((transpose k x).0 back) ])
      (λ k either. elim either [ inl out ↦ inl out | inr back ↦ inr ((transpose k x).1 back) ])
      a b c d old along against)

-- ---- from level to level

-- more steps lose nothing
pub IsNodeWithin-more : (g : DependencyGraph) (k j n l : ℕ) → n ≤ l → IsNodeWithin g n k j
    → IsNodeWithin g l k j
IsNodeWithin-more g k j n zero low near =
    let same : n ≡ zero = omega arith in subst (λ i. IsNodeWithin g i k j) same near
IsNodeWithin-more g k j n (suc l) low near = elim (cases_lt n (suc l)) [
  | inl less ↦ inl (IsNodeWithin-more g k j n l (omega arith) near)
  | inr not_less ↦
      let same : n ≡ suc l = omega arith in subst (λ i. IsNodeWithin g i k j) same near
]

module _ (g : DependencyGraph) (k : ℕ) where
  -- the node itself is the first level
  pub IsSearched-first : k < length g.ids → IsSearched g 0 k
      (record { marks = set (replicate (length g.ids) false) k true; level = k ∷ [] })
  IsSearched-first within = record {
    within = record {
      nodes = length-set (replicate (length g.ids) false) k true
          ∙ length-replicate (length g.ids) false;
      exact = λ j. (
        λ h. only j h,
        λ same. subst (HasMark (set (replicate (length g.ids) false) k true)) same start,
      );
    };
    level = λ j h. subst (HasMark (set (replicate (length g.ids) false) k true)) (here j h) start;
    closed = λ j i has step. inr (subst (Contains (k ∷ [])) (only j has) (Contains-head k []));
  } where
    inside : k < length (replicate (length g.ids) false)
    inside = omega (arith, within, length-replicate (length g.ids) false)

    start : HasMark (set (replicate (length g.ids) false) k true) k
    start = HasMark-set (replicate (length g.ids) false) k inside

    only : (j : ℕ) → HasMark (set (replicate (length g.ids) false) k true) j → k ≡ j
    only j h = elim (HasMark-cases (replicate (length g.ids) false) k inside j h) [
      | inl was ↦ absurd (HasMark-none (length g.ids) j was)
      | inr same ↦ same
    ]

    here : (j : ℕ) → Contains (k ∷ []) j → k ≡ j
    here j h = elim (Contains-cons_cases k [] j h)
        [ inl same ↦ same | inr none ↦ absurd (Contains-nil j none) ]

  module _ (n : ℕ) (s : MarkedLevel) (is : IsSearched g n k s) where
    -- the search after one more level
    pub IsSearched-next : (new : MarkedLevel)
        → MarksMore (IsNextTo g s.level) (record { marks = s.marks; level = [] }) new
        → IsSearched g (n + 1) k new
    IsSearched-next new more = subst (λ i. IsSearched g i k new) long (record {
      within = record {
        nodes = more.nodes ∙ is.within.nodes;
        exact = λ j. (
          λ h. elim ((more.marked j).0 h) [
            | inl was ↦ inl ((is.within.exact j).0 was)
            | inr next ↦ inr (next.0, (is.within.exact next.0).0 (is.level next.0 next.1), next.2)
          ],
          λ h. elim h [
            | inl near ↦ (more.marked j).1 (inl ((is.within.exact j).1 near))
            | inr last ↦ step_marked last.0 j ((is.within.exact last.0).1 last.1) last.2
          ],
        );
      };
      level = λ j h. elim (more.from j h) [
        | inl none ↦ absurd (Contains-nil j none)
        | inr next ↦ (more.marked j).1 (inr next)
      ];
      closed = λ j i has step. elim (more.joined j has) [
        | inl was ↦ inl (step_marked j i was step)
        | inr on ↦ inr on
      ];
    }) where
      long : suc n ≡ n + 1
      long = omega arith

      step_marked : (j i : ℕ) → HasMark s.marks j → IsNodeStep g j i → HasMark new.marks i
      step_marked j i has step = elim (is.closed j i has step) [
        | inl was ↦ (more.marked i).1 (inl was)
        | inr on ↦ (more.marked i).1 (inr (j, on, step))
      ]

    -- a level has nodes alone
    pub All-level_within : All (λ j. j < length g.ids) s.level
    All-level_within = All-weaker (Contains s.level) (λ j. j < length g.ids)
        (λ j h. omega (arith, HasMark-within s.marks j (is.level j h), is.within.nodes)) s.level
        (All-contains_itself s.level)

    -- after an empty level more steps add nothing
    pub AreMarksWithin-at_end : s.level ≡ [] → (l : ℕ) → n ≤ l → AreMarksWithin g l k s.marks
    AreMarksWithin-at_end none l low = record {
      nodes = is.within.nodes;
      exact = λ j. (
        λ h. IsNodeWithin-more g k j n l low ((is.within.exact j).0 h),
        all l j,
      );
    } where
      all : (i j : ℕ) → IsNodeWithin g i k j → HasMark s.marks j
      all zero j near = (is.within.exact j).1 (IsNodeWithin-more g k j 0 n (omega arith) near)
      all (suc i) j (inl near) = all i j near
      all (suc i) j (inr last) =
          elim (is.closed last.0 j (all i last.0 last.1) last.2) [
            | inl has ↦ has
            | inr on ↦ absurd (Contains-nil last.0
                (subst (λ (level : List ℕ). Contains level last.0) none on))
          ]

-- what a slice of a whole vector was changed to is what the vector has
pub take-written_back : (xs ys : List Bool) (n : ℕ) → length xs ≡ length ys → n ≡ length ys
    → take n (xs ++ drop (length xs) ys) ≡ xs
take-written_back xs ys n same all =
    let none : drop (length xs) ys ≡ [] =
    nil_from_length (drop (length xs) ys) (omega (arith, length-drop (length xs) ys)) in
    ap (λ zs. take n (xs ++ zs)) none ∙ ap (take n) (append-nil xs)
    ∙ take_all n xs (omega arith)
