-- Marks of the nodes that are the leader of another node, with one more rank.
use Rattle.std.proofs.Common.{◌≡◌, ◌⊎◌, ℕ, ◌+◌, ◌<◌, inl, inr, List, Bool, true, false, length}
use Rattle.std.proofs.Common.{get_or, set, slice_get, Some, replicate, sym, ◌∙◌, ap, arith}
use Rattle.epx_types.proofs.Common.{cases_eq, cases_lt, false≢true, length-set, length-replicate}
use Rattle.epx_types.proofs.Common.{get_or-replicate, get_or_past, get_or-set_same}
use Rattle.epx_types.proofs.Common.{get_or-set_other}
use Rattle.epx_components.specs.declared.node_ranks.NodeRank.{NodeRank}
use Rattle.epx_picture.specs.inner.Clusters.{LeadsAmong, AreLeaderMarks}

no_leader_mark : (n l : ℕ) → get_or (replicate n false) l false ≡ false
no_leader_mark n l = elim (cases_lt l n) [
  | inl below ↦ get_or-replicate n l false false below
  | inr past ↦ get_or_past (replicate n false) l false
      (omega (arith, length-replicate n false, past))
]

pub AreLeaderMarks-none : (node_ranks : List NodeRank) (n : ℕ) → length node_ranks ≡ n
    → AreLeaderMarks node_ranks 0 (replicate n false)
AreLeaderMarks-none node_ranks n long = record {
  nodes = length-replicate n false ∙ sym long;
  exact = λ l. (
    λ h. absurd (false≢true (sym (no_leader_mark n l) ∙ h)),
    λ w. absurd (let l = w.below in omega arith),
  );
}

module _ (node_ranks : List NodeRank) (n : ℕ) (marks : List Bool)
    (old : AreLeaderMarks node_ranks n marks) (s : NodeRank)
    (at : slice_get node_ranks n ≡ Some s) where
  -- a node that is a leader among the first is one among more
  more : (l : ℕ) → LeadsAmong node_ranks n l → LeadsAmong node_ranks (n + 1) l
  more l w = record {
    node = w.node;
    rank = w.rank;
    below = omega arith;
    there = w.there;
    leads = w.leads;
    other = w.other;
  }

  -- a node that is a leader only among one more is the leader of the last one
  fewer : (l : ℕ) → LeadsAmong node_ranks (n + 1) l
      → LeadsAmong node_ranks n l ⊎ ((s.leader ≡ l) × ¬ (n ≡ l))
  fewer l w = elim (cases_lt w.node n) [
    | inl past ↦ inl (record {
      node = w.node;
      rank = w.rank;
      below = past;
      there = w.there;
      leads = w.leads;
      other = w.other;
    })
    | inr now ↦
        let same : w.node ≡ n = omega arith in
        let one : Some s ≡ Some w.rank =
        sym at ∙ ap (slice_get node_ranks) (sym same) ∙ w.there in
        let is : s ≡ w.rank = cc one in
        inr (ap (λ (r : NodeRank). r.leader) is ∙ w.leads, λ e. w.other (same ∙ e))
  ]

  -- the next node is its own leader
  pub AreLeaderMarks-past : s.leader ≡ n → AreLeaderMarks node_ranks (n + 1) marks
  AreLeaderMarks-past own = record {
    nodes = old.nodes;
    exact = λ l. (
      λ h. more l ((old.exact l).0 h),
      λ w. elim (fewer l w) [
        | inl was ↦ (old.exact l).1 was
        | inr now ↦ absurd (now.1 (sym own ∙ now.0))
      ],
    );
  }

  -- the next node has another leader
  pub AreLeaderMarks-more : ¬ (s.leader ≡ n) → s.leader < length marks
      → AreLeaderMarks node_ranks (n + 1) (set marks s.leader true)
  AreLeaderMarks-more other within = record {
    nodes = length-set marks s.leader true ∙ old.nodes;
    exact = λ l. (
      λ h. elim (cases_eq l s.leader) [
        | inl same ↦ record {
          node = n;
          rank = s;
          below = omega arith;
          there = at;
          leads = sym same;
          other = λ e. other (sym same ∙ sym e);
        }
        | inr apart ↦ more l
            ((old.exact l).0 (sym (get_or-set_other marks s.leader l true false apart) ∙ h))
      ],
      λ w. elim (cases_eq l s.leader) [
        | inl same ↦ ap (λ i. get_or (set marks s.leader true) i false) same
            ∙ get_or-set_same marks s.leader true false within
        | inr apart ↦ elim (fewer l w) [
          | inl was ↦ get_or-set_other marks s.leader l true false apart ∙ (old.exact l).1 was
          | inr now ↦ absurd (apart (sym now.0))
        ]
      ],
    );
  }
