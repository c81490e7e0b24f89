-- The ends of the touches, and the nodes that are marked, step by step.
use Rattle.std.proofs.Common.{◌≡◌, ◌≢◌, ◌⊎◌, inl, inr, ℕ, ◌+◌, ◌-◌, ◌<◌, List, [], Bool, refl}
use Rattle.std.proofs.Common.{true, false, length, Contains, IsTrue, sym, subst, subst₂, ap, ◌∙◌}
use Rattle.std.proofs.Common.{All, set, arith}
use Rattle.epx_types.proofs.Common.{cases_Bool, cases_eq, cases_lt, false≢true}
use Rattle.epx_types.proofs.Common.{get_or-set_same, get_or-set_other}
use Rattle.epx_types.proofs.Common.{All-nil, Contains-get_or}
use Rattle.epx_graph.proofs.Common.{DependencyGraph, edges_of}
use Rattle.epx_audit.specs.declared.reach_index.ReachIndex.{ReachIndex}
use Rattle.epx_audit.specs.inner.ReachIndexes.{IsReachIndex}
use Rattle.epx_components.proofs.NodePathLemmas.{NodeReaches-itself, NodeReaches-trans}
use Rattle.epx_components.specs.between.ReadyMarks.{is_marked}
use Rattle.epx_audit.specs.declared.doubtful_touches.DoubtfulTouch.{DoubtfulTouch}
use Rattle.epx_audit.specs.inner.DoubtfulKeys.{AreRelated, HoldUnsettled}
use Rattle.epx_audit.specs.inner.UnsettledNodes.{doubtful_at, TouchKeysRise, touch_in, Follows}
use Rattle.epx_audit.specs.inner.UnsettledNodes.{IsBehindEnd, FollowAll}
use Rattle.epx_audit.proofs.SharingMarkLemmas.{doubtful_at-index}

module _ (edges : ℕ → List ℕ) where
  pub Follows-itself : (on : Bool) (k j : ℕ) → k ≡ j → Follows edges on k j
  Follows-itself true k j same = NodeReaches-itself edges k j same
  Follows-itself false k j same = NodeReaches-itself edges j k (sym same)

  pub Follows-trans : (on : Bool) (i j k : ℕ) → Follows edges on i j → Follows edges on j k
      → Follows edges on i k
  Follows-trans true i j k first second = NodeReaches-trans edges i j k first second
  Follows-trans false i j k first second = NodeReaches-trans edges k j i second first

  -- what follows from an end follows from an end behind which that end is
  pub IsBehindEnd-trans : (on : Bool) (ends more : List ℕ)
      → ((j : ℕ) → Contains ends j → IsBehindEnd edges on more j) → (k : ℕ)
      → IsBehindEnd edges on ends k → IsBehindEnd edges on more k
  IsBehindEnd-trans on ends more each k behind =
      let b = each behind.0 behind.1 in
      (b.0, b.1, Follows-trans on b.0 behind.0 k b.2 behind.2)

-- between two steps at one key all steps are at that key
pub touch_in-key_between : (on : Bool) (touches : List DoubtfulTouch) (n s : ℕ)
    → TouchKeysRise touches (length touches) → n < length touches → s < n
    → (touch_in on touches s).key ≡ (touch_in on touches n).key
    → (touch_in on touches (n - 1)).key ≡ (touch_in on touches n).key
touch_in-key_between true touches n s rise l below same = elim (cases_lt s (n - 1)) [
  | inl before ↦ omega (
    arith,
    rise s (n - 1) before (omega arith),
    rise (n - 1) n (omega arith) l,
    same,
  )
  | inr last ↦ let is : n - 1 ≡ s = omega arith in
      ap (λ i. (doubtful_at touches i).key) is ∙ same
]
touch_in-key_between false touches n s rise l below same =
    let own = length touches - 1 - n in
    let next = length touches - 1 - (n - 1) in
    let other = length touches - 1 - s in
    elim (cases_lt s (n - 1)) [
      | inl before ↦ omega (
        arith,
        rise own next (omega arith) (omega arith),
        rise next other (omega arith) (omega arith),
        same,
      )
      | inr last ↦ let is : n - 1 ≡ s = omega arith in
          ap (λ i. (doubtful_at touches (length touches - 1 - i)).key) is ∙ same
    ]

-- the touches of a key at the first n steps follow from its ends, and those that write also from
-- its writing ends
pub record HaveEnds (edges : ℕ → List ℕ) (on : Bool) (touches : List DoubtfulTouch) (key : ℕ)
    (touching writing : List ℕ) (n : ℕ) : Type 0 where
  pub touched : (s : ℕ) → s < n → (touch_in on touches s).key ≡ key
      → IsBehindEnd edges on touching (touch_in on touches s).node
  pub written : (s : ℕ) → s < n → (touch_in on touches s).key ≡ key
      → IsTrue (touch_in on touches s).writes
      → IsBehindEnd edges on writing (touch_in on touches s).node

module _ (edges : ℕ → List ℕ) (on : Bool) (touches : List DoubtfulTouch) (n : ℕ)
    (l : n < length touches) where
  abbrev Now : DoubtfulTouch
  Now = touch_in on touches n

  -- at the first touch of another key there are no ends
  pub HaveEnds-cleared : TouchKeysRise touches (length touches) → (key : ℕ)
      → (0 < n → (touch_in on touches (n - 1)).key ≡ key) → Now.key ≢ key
      → HaveEnds edges on touches Now.key [] [] n
  HaveEnds-cleared rise key last other = record {
    touched = λ s below same. absurd (none s below same);
    written = λ s below same writes. absurd (none s below same);
  } where
    none : (s : ℕ) → s < n → (touch_in on touches s).key ≡ Now.key → ⊥
    none s below same = other (sym (touch_in-key_between on touches n s rise l below same)
        ∙ last (omega arith))

  -- a node that follows the ends that matter to it follows the touches
  pub Follows-from_ends : (touching writing before : List ℕ)
      → HaveEnds edges on touches Now.key touching writing n
      → (IsTrue Now.writes → before ≡ touching) → (Now.writes ≡ false → before ≡ writing)
      → ((k : ℕ) → Contains before k → Follows edges on Now.node k) → (s : ℕ) → s < n
      → (touch_in on touches s).key ≡ Now.key
      → IsTrue (touch_in on touches s).writes ⊎ IsTrue Now.writes
      → Follows edges on Now.node (touch_in on touches s).node
  Follows-from_ends touching writing before ends if_writes if_reads follow s below same one =
      let b = behind in Follows-trans edges on Now.node b.0 _ (follow b.0 b.1) b.2
    where
      behind : IsBehindEnd edges on before (touch_in on touches s).node
      behind = elim (cases_Bool Now.writes) [
        | inl writes ↦ subst (λ ends. IsBehindEnd edges on ends (touch_in on touches s).node)
            (sym (if_writes writes)) (ends.touched s below same)
        | inr reads ↦
            let other : IsTrue (touch_in on touches s).writes = elim one [
              | inl other ↦ other
              | inr own ↦ absurd (false≢true (sym reads ∙ own))
            ] in
            subst (λ ends. IsBehindEnd edges on ends (touch_in on touches s).node)
            (sym (if_reads reads)) (ends.written s below same other)
      ]

  -- one more step
  pub FollowAll-next : (unsettled more : List Bool) → FollowAll edges on touches unsettled n
      → ((k : ℕ) → IsTrue (is_marked unsettled k) → IsTrue (is_marked more k))
      → (IsTrue (is_marked more Now.node)
      ⊎ ((s : ℕ) → s < n → (touch_in on touches s).key ≡ Now.key
      → IsTrue (touch_in on touches s).writes ⊎ IsTrue Now.writes
      → Follows edges on Now.node (touch_in on touches s).node))
      → FollowAll edges on touches more (n + 1)
  FollowAll-next unsettled more old keeps here s t below within same one = elim (cases_lt t n) [
    | inl past ↦ elim (old s t below past same one) [
      | inl marked ↦ inl (keeps _ marked)
      | inr follows ↦ inr follows
    ]
    | inr last ↦
        let is : n ≡ t = omega arith in
        elim here [
          | inl marked ↦ inl
              (subst (λ t. IsTrue (is_marked more (touch_in on touches t).node)) is marked)
          | inr follow ↦ inr ((subst (λ t. (touch_in on touches s).key
              ≡ (touch_in on touches t).key
              → IsTrue (touch_in on touches s).writes ⊎ IsTrue (touch_in on touches t).writes
              → Follows edges on (touch_in on touches t).node (touch_in on touches s).node) is
              (follow s (omega arith))) same one)
        ]
  ]

  -- the ends after one more step
  pub HaveEnds-next : (touching writing all writers : List ℕ)
      → HaveEnds edges on touches Now.key touching writing n
      → ((k : ℕ) → Contains touching k → IsBehindEnd edges on all k) → Contains all Now.node
      → ((k : ℕ) → Contains writing k → IsBehindEnd edges on writers k)
      → (IsTrue Now.writes → Contains writers Now.node)
      → HaveEnds edges on touches Now.key all writers (n + 1)
  HaveEnds-next touching writing all writers old behind own writers_behind own_writes = record {
    touched = λ s within same. elim (cases_lt s n) [
      | inl past ↦ IsBehindEnd-trans edges on touching all behind _ (old.touched s past same)
      | inr last ↦ let is : n ≡ s = omega arith in
          subst (λ s. IsBehindEnd edges on all (touch_in on touches s).node) is
          (Now.node, own, Follows-itself edges on Now.node Now.node refl)
    ];
    written = λ s within same writes. elim (cases_lt s n) [
      | inl past ↦ IsBehindEnd-trans edges on writing writers writers_behind _
          (old.written s past same writes)
      | inr last ↦ let is : n ≡ s = omega arith in
          (subst (λ s. IsTrue (touch_in on touches s).writes
          → IsBehindEnd edges on writers (touch_in on touches s).node) is
          (λ own. (Now.node, own_writes own, Follows-itself edges on Now.node Now.node refl)))
          writes
    ];
  }

module _ (edges : ℕ → List ℕ) (touches : List DoubtfulTouch) (unsettled : List Bool)
    (on : FollowAll edges true touches unsettled (length touches))
    (back : FollowAll edges false touches unsettled (length touches)) where
  -- touches at two indices
  hold_at : (a b : ℕ) → a < length touches → b < length touches
      → (doubtful_at touches a).key ≡ (doubtful_at touches b).key
      → IsTrue (doubtful_at touches a).writes ⊎ IsTrue (doubtful_at touches b).writes
      → IsTrue (is_marked unsettled (doubtful_at touches a).node)
      ⊎ AreRelated edges (doubtful_at touches a).node (doubtful_at touches b).node
  hold_at a b la lb same one = elim (cases_lt b a) [
    | inl before ↦ elim (on b a before la (sym same) (flip one)) [
      | inl marked ↦ inl marked
      | inr there ↦ inr (inl there)
    ]
    | inr not_before ↦ elim (cases_lt a b) [
      | inl after ↦
          let last = length touches - 1 in
          let own : last - (last - a) ≡ a = omega arith in
          let other : last - (last - b) ≡ b = omega arith in
          (subst₂ (λ a b. (doubtful_at touches b).key ≡ (doubtful_at touches a).key
          → IsTrue (doubtful_at touches b).writes ⊎ IsTrue (doubtful_at touches a).writes
          → IsTrue (is_marked unsettled (doubtful_at touches a).node)
          ⊎ AreRelated edges (doubtful_at touches a).node (doubtful_at touches b).node) own other
          (λ same one. elim (back (last - b) (last - a) (omega arith) (omega arith) same one) [
            | inl marked ↦ inl marked
            | inr there ↦ inr (inr there)
          ])) (sym same) (flip one)
      | inr not_after ↦ let is : a ≡ b = omega arith in
          inr (inl (NodeReaches-itself edges _ _ (ap (λ i. (doubtful_at touches i).node) is)))
    ]
  ] where
    flip : {A B : Type 0} → A ⊎ B → B ⊎ A
    flip one = elim one [ inl a ↦ inr a | inr b ↦ inl b ]

  pub HoldUnsettled-from_follow : HoldUnsettled edges touches unsettled
  HoldUnsettled-from_follow k j share =
      let mine = doubtful_at-index touches share.mine share.held.0 in
      let other = doubtful_at-index touches share.other share.held.1 in
      let found = (subst₂ (λ (t : DoubtfulTouch) (u : DoubtfulTouch). t.key ≡ u.key
      → IsTrue t.writes ⊎ IsTrue u.writes
      → IsTrue (is_marked unsettled t.node) ⊎ AreRelated edges t.node u.node) mine other
      (hold_at share.held.0.0 share.held.1.0 share.held.0.1 share.held.1.1)) share.alike
      share.writes in
      subst₂ (λ k j. IsTrue (is_marked unsettled k) ⊎ AreRelated edges k j) share.nodes.0
      share.nodes.1 found

-- the nodes of the touches so far are marked
pub is_marked-next : (touches : List DoubtfulTouch) (marks : List Bool) (n : ℕ)
    → (doubtful_at touches n).node < length marks
    → ((i : ℕ) → i < n → IsTrue (is_marked marks (doubtful_at touches i).node)) → (i : ℕ)
    → i < n + 1
    → IsTrue (is_marked (set marks (doubtful_at touches n).node true) (doubtful_at touches i).node)
is_marked-next touches marks n within old i below =
    elim (cases_eq (doubtful_at touches i).node node) [
      | inl same ↦ subst (λ k. IsTrue (is_marked (set marks node true) k)) (sym same)
          (get_or-set_same marks node true false within)
      | inr differ ↦ elim (cases_lt i n) [
        | inl past ↦ get_or-set_other marks node (doubtful_at touches i).node true false differ
            ∙ old i past
        | inr here ↦ let one : i ≡ n = omega arith in
            absurd (differ (ap (λ i. (doubtful_at touches i).node) one))
      ]
    ] where
      node : ℕ
      node = (doubtful_at touches n).node

-- a mark more keeps the others
pub is_marked-set : (marks : List Bool) (node k : ℕ) → node < length marks
    → IsTrue (is_marked marks k) → IsTrue (is_marked (set marks node true) k)
is_marked-set marks node k within marked = elim (cases_eq k node) [
  | inl same ↦ subst (λ k. IsTrue (is_marked (set marks node true) k)) (sym same)
      (get_or-set_same marks node true false within)
  | inr differ ↦ get_or-set_other marks node k true false differ ∙ marked
]

-- the touch at a step is one of the touches
pub Contains-touch_in : (on : Bool) (touches : List DoubtfulTouch) (n : ℕ) → n < length touches
    → Contains touches (touch_in on touches n)
Contains-touch_in true touches n l = Contains-get_or touches n _ l
Contains-touch_in false touches n l =
    Contains-get_or touches (length touches - 1 - n) _ (omega arith)

-- the ends are nodes of an index
abbrev pub AreInIndex : ReachIndex → List ℕ → Type 0
AreInIndex reach ends = All (λ k. k < length reach.positions.items) ends

-- ends that are nodes of an index
pub record HaveEndsIn (reach : ReachIndex) (on : Bool) (touches : List DoubtfulTouch) (key : ℕ)
    (touching writing : List ℕ) (n : ℕ) : Type 0 where
  pub touching_in : All (λ k. k < length reach.positions.items) touching
  pub writing_in : All (λ k. k < length reach.positions.items) writing
  pub ends : (g : DependencyGraph) → IsReachIndex g reach
      → HaveEnds (edges_of g) on touches key touching writing n

module _ (reach : ReachIndex) (on : Bool) (touches : List DoubtfulTouch) (n : ℕ)
    (l : n < length touches) (rise : TouchKeysRise touches (length touches)) (t : DoubtfulTouch)
    (is : t ≡ touch_in on touches n) where
  abbrev Own : ℕ
  Own = (touch_in on touches n).key

  -- the ends at the key of the touch
  pub HaveEndsIn-joined : (key now : ℕ) (touching writing now_touching now_writing : List ℕ)
      → (0 < n → (touch_in on touches (n - 1)).key ≡ key)
      → HaveEndsIn reach on touches key touching writing n
      → ((t.key ≢ key) × (now ≡ t.key) × (now_touching ≡ []) × (now_writing ≡ []))
      ⊎ ((t.key ≡ key) × (now ≡ key) × (now_touching ≡ touching) × (now_writing ≡ writing))
      → (now ≡ Own) × HaveEndsIn reach on touches Own now_touching now_writing n
  HaveEndsIn-joined key now touching writing now_touching now_writing last old branch =
      elim branch [
        | inl cleared ↦ (
          cleared.1 ∙ own,
          record {
            touching_in = subst (All (λ k. k < length reach.positions.items)) (sym cleared.2)
                (All-nil (λ k. k < length reach.positions.items));
            writing_in = subst (All (λ k. k < length reach.positions.items)) (sym cleared.3)
                (All-nil (λ k. k < length reach.positions.items));
            ends = λ g index. subst₂ (λ (a b : List ℕ). HaveEnds (edges_of g) on touches Own a b n)
                (sym cleared.2) (sym cleared.3)
                (HaveEnds-cleared (edges_of g) on touches n l rise key last
                (λ same. cleared.0 (own ∙ same)));
          },
        )
        | inr kept ↦
            let same : key ≡ Own = sym kept.0 ∙ own in (
              kept.1 ∙ same,
              record {
                touching_in = subst (All (λ k. k < length reach.positions.items)) (sym kept.2)
                    old.touching_in;
                writing_in = subst (All (λ k. k < length reach.positions.items)) (sym kept.3)
                    old.writing_in;
                ends = λ g index.
                    subst (λ key. HaveEnds (edges_of g) on touches key now_touching now_writing n)
                    same (subst₂ (λ (a b : List ℕ). HaveEnds (edges_of g) on touches key a b n)
                    (sym kept.2) (sym kept.3) (old.ends g index));
              },
            )
      ] where
        own : t.key ≡ Own
        own = ap (λ (t : DoubtfulTouch). t.key) is

-- more marks leave the others as they are
pub FollowAll-more_marks : (edges : ℕ → List ℕ) (on : Bool) (touches : List DoubtfulTouch)
    (old more : List Bool) (n : ℕ)
    → ((k : ℕ) → IsTrue (is_marked old k) → IsTrue (is_marked more k))
    → FollowAll edges on touches old n → FollowAll edges on touches more n
FollowAll-more_marks edges on touches old more n keeps follow s t below within same one =
    elim (follow s t below within same one) [
      | inl marked ↦ inl (keeps _ marked)
      | inr follows ↦ inr follows
    ]

-- if the nodes of all touches are marked
pub HoldUnsettled-if_all_marked : (edges : ℕ → List ℕ) (touches : List DoubtfulTouch)
    (marks : List Bool)
    → ((i : ℕ) → i < length touches → IsTrue (is_marked marks (doubtful_at touches i).node))
    → HoldUnsettled edges touches marks
HoldUnsettled-if_all_marked edges touches marks all k j share =
    let h = share.held.0 in
    let is : (doubtful_at touches h.0).node ≡ k =
    ap (λ (t : DoubtfulTouch). t.node) (doubtful_at-index touches share.mine h) ∙ share.nodes.0 in
    inl (subst (λ k. IsTrue (is_marked marks k)) is (all h.0 h.1))
