-- The texts about one instance: where it has no node, where it is missing, waits or is ready.
use Rattle.std.proofs.Common.{◌≡◌, inl, inr, ℕ, ◌<◌, ◌≤◌, List, [], ◌∷◌, ◌++◌, flat_map, codes}
use Rattle.std.proofs.Common.{length, map, Contains, Some, None, slice_get, ap, subst, ◌∙◌, arith}
use Rattle.epx_types.proofs.Common.{slice_get_within, Below, Instance, IsCommitted, Ranked}
use Rattle.epx_types.proofs.Common.{ranked_ids, IsExecutionOrder, Reaches, IsReady}
use Rattle.epx_types.proofs.Common.{Contains-slice_get, AllPairs-head, slice_get-from_map}
use Rattle.epx_types.proofs.Common.{Contains-nil, Contains-head, Contains-cons_cases, Contains-map}
use Rattle.epx_types.proofs.Common.{AllPairs-from_IsRising, IsReady-or_waits}
use Rattle.epx_types.specs.declared.id.Id.{Id}
use Rattle.epx_graph.proofs.Common.{DependencyGraph, IsGraphOf, IsCommitted-iff_node}
use Rattle.epx_graph.proofs.Common.{slice_get-if_committed}
use Rattle.epx_report.specs.ReportLines.{waiting_line}
use Rattle.epx_report.specs.ViewLines.{missing_line}
use Rattle.epx_why.specs.declared.need.Need.{Need}
use Rattle.epx_why.specs.Needs.{AreNeedsOf, AreNeeding}
use Rattle.epx_why.specs.WhyLines.{ready_line, need_line}
use Rattle.epx_why.specs.WhyTexts.{IsWhyText}
use Rattle.epx_why.proofs.TextExistenceLemmas.{IsDistance-exists}
use Rattle.epx_why.proofs.WalkLemmas.{HasNoPath-no_end}

module _ (m : List Instance) (g : DependencyGraph) (is : IsGraphOf m g) (x : Id) where
  -- an instance without a node is not committed, and nothing reaches it
  pub IsWhyText-absent : (¬ Contains g.ids x) → (text : List ℕ)
      → text ≡ missing_line x ++ flat_map (need_line (codes "needed")) [] → IsWhyText m x text
  IsWhyText-absent none text printed = inr (inr (record {
    needing = [];
    missing = λ committed. let k = slice_get-if_committed m g is x committed in
        none (Contains-slice_get g.ids k.0 x k.2);
    reaching = record {
      only = λ n h. absurd (Contains-nil n h);
      whole = λ y steps d. absurd (HasNoPath-no_end m g is y x none d.via d.path);
      rising = tt;
    };
    printed = printed;
  }))

  module _ (k : ℕ) (at : slice_get g.ids k ≡ Some x) where
    pub IsWhyText-missing : g.committed ≤ k → (needing : List Need) → AreNeeding m x needing
        → (text : List ℕ) → text ≡ missing_line x ++ flat_map (need_line (codes "needed")) needing
        → IsWhyText m x text
    IsWhyText-missing past needing are text printed = inr (inr (record {
      needing = needing;
      missing = λ committed. let l = (IsCommitted-iff_node m g is k x at).1 committed in
          absurd (omega arith);
      reaching = are;
      printed = printed;
    }))

    -- a missing instance that x reaches is among its needs
    needed : (needs : List Need) → AreNeedsOf m x needs → (y : Id) → Reaches m x y
        → IsCommitted m x → (¬ IsCommitted m y) → Contains (map (λ (n : Need). n.id) needs) y
    needed needs are y (inl same) committed missing =
        absurd (missing (subst (IsCommitted m) same committed))
    needed needs are y (inr path) committed missing =
        let d = IsDistance-exists m x y path.0 path.1 in
        Contains-map (λ (n : Need). n.id) needs (record { id = y; steps = d.0 })
        (are.whole y d.0 (missing, d.1))

    waiting_text : k < g.committed → (first : Need) (rest : List Need)
        → AreNeedsOf m x (first ∷ rest) → (text : List ℕ)
        → text ≡ waiting_line (record { id = x; missing = first.id })
        ++ flat_map (need_line (codes "needs")) (first ∷ rest) → IsWhyText m x text
    waiting_text l first rest are text printed =
        let committed = (IsCommitted-iff_node m g is k x at).0 l in
        let here = are.only first (Contains-head first rest) in
        inr (inl (record {
          missing = first.id;
          needs = first ∷ rest;
          waits = record {
            committed = committed;
            reached = inr (here.1.via, here.1.path);
            missing = here.0;
            least = λ z reached missing.
                let among = needed (first ∷ rest) are z reached committed missing in
                elim (Contains-cons_cases first.id (map (λ (n : Need). n.id) rest) z among) [
                  | inl same ↦ inl same
                  | inr later ↦ inr
                      (AllPairs-head Below first.id (map (λ (n : Need). n.id) rest) z
                      (AllPairs-from_IsRising (map (λ (n : Need). n.id) (first ∷ rest)) are.rising)
                      later)
                ];
          };
          needed = are;
          printed = printed;
        }))

    pub IsWhyText-waiting : k < g.committed → (needs : List Need) (first : Need)
        → Some first ≡ slice_get needs 0 → AreNeedsOf m x needs → (text : List ℕ)
        → text ≡ waiting_line (record { id = x; missing = first.id })
        ++ flat_map (need_line (codes "needs")) needs → IsWhyText m x text
    IsWhyText-waiting l [] first at_first are text printed = absurd (cc at_first)
    IsWhyText-waiting l (n ∷ rest) first at_first are text printed =
        let same : first ≡ n = cc at_first in
        waiting_text l n rest are text (printed ∙ ap (λ (w : Need).
        waiting_line (record { id = x; missing = w.id })
        ++ flat_map (need_line (codes "needs")) (n ∷ rest)) same)

    -- an instance that needs nothing is ready
    ready_by_none : k < g.committed → AreNeedsOf m x [] → IsReady m x
    ready_by_none l are =
        let committed = (IsCommitted-iff_node m g is k x at).0 l in
        elim (IsReady-or_waits m x committed) [
          | inl ready ↦ ready
          | inr waits ↦ absurd
              (Contains-nil waits.0
              (needed [] are waits.0 waits.1.reached committed waits.1.missing))
        ]

    pub IsReady-no_needs : k < g.committed → (needs : List Need) → None ≡ slice_get needs 0
        → AreNeedsOf m x needs → IsReady m x
    IsReady-no_needs l [] none are = ready_by_none l are
    IsReady-no_needs l (n ∷ rest) none are = absurd (cc none)

-- the text of an Id at a position of the execution order
pub IsWhyText-ready : (m : List Instance) (order : List Ranked) (x : Id) (position : ℕ)
    → IsExecutionOrder m order → slice_get (ranked_ids order) position ≡ Some x → (text : List ℕ)
    → ((r : Ranked) → slice_get order position ≡ Some r → text ≡ ready_line position r)
    → IsWhyText m x text
IsWhyText-ready m order x position executed at text printed =
    let r = slice_get-from_map (λ (r : Ranked). r.id) order position x at in
    inl (record {
      order = order;
      executed = executed;
      position = position;
      ranked = r.0;
      there = r.1;
      named = r.2;
      printed = printed r.0 r.1;
    })

pub ranked_ids-within : (order : List Ranked) (position : ℕ) (x : Id)
    → slice_get (ranked_ids order) position ≡ Some x → position < length order
ranked_ids-within order position x at =
    let r = slice_get-from_map (λ (r : Ranked). r.id) order position x at in
    slice_get_within order position r.0 r.1
