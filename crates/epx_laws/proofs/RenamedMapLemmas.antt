-- A renamed map has the graph and the orders of the map, and its commands are the renamed ones.
use Rattle.std.proofs.Common.{◌≡◌, ◌≢◌, ◌⊎◌, inl, inr, true, false, cond, List, [], ◌∷◌, Contains}
use Rattle.std.proofs.Common.{Option, Some, None, refl, sym, ap, ap₂, ◌∙◌, subst}
use Rattle.epx_types.proofs.Common.{is_eq, cases_Bool, id_cmp, Instance, Contents, ids_of}
use Rattle.epx_types.proofs.Common.{instance_of, ops_or_empty, commands_in, execute, Reaches}
use Rattle.epx_types.proofs.Common.{IsReady, Conflict, IsCovered, is_among, remaining, without_deps}
use Rattle.epx_types.proofs.Common.{Ranked, ranked_ids, Contains-nil, Contains-map}
use Rattle.epx_types.proofs.Common.{Contains-from_map, instance_of-found, remaining-from_map}
use Rattle.epx_types.specs.declared.id.Id.{Id}
use Rattle.epx_types.specs.declared.op.Op.{Op}
use Rattle.std.specs.FinMap as contents
use Rattle.epx_laws.specs.Renaming.{Renaming, renamed_command, renamed_commands, renamed_contents}
use Rattle.epx_laws.specs.Renaming.{renamed_execution, renamed_instance, renamed_map}
use Rattle.epx_laws.specs.Renaming.{HasNoArithmetic}
use Rattle.epx_laws.specs.ResumedRunLaws.{whole_run, run_on}
use Rattle.epx_laws.specs.RenamingLaws.{AreOrderedAlike}
use Rattle.epx_laws.proofs.RenamedContentsLemmas.{renamed_contents-empty}
use Rattle.epx_laws.proofs.RenamedExecutionLemmas.{execute-renamed}
use Rattle.epx_laws.proofs.RenamedConflictLemmas.{Conflict-renamed_iff}
use Rattle.epx_laws.proofs.SameGraphLemmas.{IsInGraphOf, DependsOn-into, Reaches-into}
use Rattle.epx_laws.proofs.SameGraphLemmas.{InOneComponent-same, IsReady-same, WaitsFor-same}
use Rattle.epx_laws.proofs.SameGraphLemmas.{IsLeader-same, IsDepth-same, IsWaitingList-same}
use Rattle.epx_laws.proofs.SameGraphLemmas.{IsExecutionOrder-same, IsLawful-same}

module _ (r : Renaming) where
  -- ---- the graph

  pub ids_of-renamed : (m : List Instance) → ids_of (renamed_map r m) ≡ ids_of m
  ids_of-renamed [] = refl
  ids_of-renamed (e ∷ m) = ap (λ ids. e.id ∷ ids) (ids_of-renamed m)

  into_renamed : (m : List Instance) → IsInGraphOf (renamed_map r m) m
  into_renamed m e in_e =
      (renamed_instance r e, Contains-map (renamed_instance r) m e in_e, refl, refl, refl)

  from_renamed : (m : List Instance) → IsInGraphOf m (renamed_map r m)
  from_renamed m e in_e =
      let d = Contains-from_map (renamed_instance r) m e in_e in
      (d.0, d.1, ap (λ i. i.id) d.2, ap (λ i. i.seq) d.2, ap (λ i. i.deps) d.2)

  -- ---- coverage

  -- if the two instances are ready and conflict, one reaches the other
  abbrev IsCoveredPair : List Instance → Instance → Instance → Type 0
  IsCoveredPair n a b = a.id ≢ b.id → IsReady n a.id → IsReady n b.id → Conflict a.ops b.ops
      → Reaches n a.id b.id ⊎ Reaches n b.id a.id

  IsCovered-renamed : (m : List Instance) → IsCovered m → IsCovered (renamed_map r m)
  IsCovered-renamed m covered d e in_d in_e =
      let d' = Contains-from_map (renamed_instance r) m d in_d in
      let e' = Contains-from_map (renamed_instance r) m e in_e in
      subst (λ i. IsCoveredPair (renamed_map r m) i e) d'.2
      (subst (IsCoveredPair (renamed_map r m) (renamed_instance r d'.0)) e'.2
      (by d'.0 e'.0 d'.1 e'.1))
    where
      by : (a b : Instance) → Contains m a → Contains m b
          → IsCoveredPair (renamed_map r m) (renamed_instance r a) (renamed_instance r b)
      by a b in_a in_b apart ready ready' conflict =
          elim (covered a b in_a in_b apart
          (IsReady-same (renamed_map r m) m (from_renamed m) (into_renamed m) a.id ready)
          (IsReady-same (renamed_map r m) m (from_renamed m) (into_renamed m) b.id ready')
          ((Conflict-renamed_iff r a.ops b.ops).0 conflict)) [
            | inl there ↦ inl
                (Reaches-into m (renamed_map r m) (into_renamed m) a.id b.id there)
            | inr back ↦ inr (Reaches-into m (renamed_map r m) (into_renamed m) b.id a.id back)
          ]

  IsCovered-from_renamed : (m : List Instance) → IsCovered (renamed_map r m) → IsCovered m
  IsCovered-from_renamed m covered d e in_d in_e apart ready ready' conflict =
      elim (covered (renamed_instance r d) (renamed_instance r e)
      (Contains-map (renamed_instance r) m d in_d) (Contains-map (renamed_instance r) m e in_e)
      apart (IsReady-same m (renamed_map r m) (into_renamed m) (from_renamed m) d.id ready)
      (IsReady-same m (renamed_map r m) (into_renamed m) (from_renamed m) e.id ready')
      ((Conflict-renamed_iff r d.ops e.ops).1 conflict)) [
        | inl there ↦ inl (Reaches-into (renamed_map r m) m (from_renamed m) d.id e.id there)
        | inr back ↦ inr (Reaches-into (renamed_map r m) m (from_renamed m) e.id d.id back)
      ]

  -- a renamed map is ordered as the map is
  pub renamed_map-AreOrderedAlike : (m : List Instance) → AreOrderedAlike (renamed_map r m) m
  renamed_map-AreOrderedAlike m =
      let n = renamed_map r m in
      let into = into_renamed m in
      let from = from_renamed m in
      record {
        ids = ids_of-renamed m;
        depends = λ x y. (DependsOn-into n m from x y, DependsOn-into m n into x y);
        reaches = λ x y. (Reaches-into n m from x y, Reaches-into m n into x y);
        component = λ x y.
            (InOneComponent-same n m from into x y, InOneComponent-same m n into from x y);
        leader = λ x l. (IsLeader-same n m from into x l, IsLeader-same m n into from x l);
        depth = λ x k. (IsDepth-same n m from into x k, IsDepth-same m n into from x k);
        ready = λ x. (IsReady-same n m from into x, IsReady-same m n into from x);
        waits = λ x y. (WaitsFor-same n m from into x y, WaitsFor-same m n into from x y);
        waiting = λ ws.
            (IsWaitingList-same n m from into ws, IsWaitingList-same m n into from ws);
        order = λ order.
            (IsExecutionOrder-same n m from into order, IsExecutionOrder-same m n into from order);
        lawful = λ ids. (IsLawful-same n m from into ids, IsLawful-same m n into from ids);
        covered = (IsCovered-from_renamed m, IsCovered-renamed m);
      }

  -- ---- commands

  ops-renamed : (m : List Instance) (x : Id) → ops_or_empty (instance_of (renamed_map r m) x)
      ≡ renamed_command r (ops_or_empty (instance_of m x))
  ops-renamed [] x = refl
  ops-renamed (e ∷ m) x =
      elim (is_eq (id_cmp e.id x)) as (λ b.
      ops_or_empty (cond b (Some (renamed_instance r e)) (instance_of (renamed_map r m) x))
      ≡ renamed_command r (ops_or_empty (cond b (Some e) (instance_of m x))))
      [ true ↦ refl | false ↦ ops-renamed m x ]

  commands_in-renamed : (m : List Instance) (ids : List Id)
      → commands_in (renamed_map r m) ids ≡ renamed_commands r (commands_in m ids)
  commands_in-renamed m [] = refl
  commands_in-renamed m (x ∷ ids) =
      ap₂ (λ ops commands. ops ∷ commands) (ops-renamed m x) (commands_in-renamed m ids)

  commands_in-plain : (m : List Instance)
      → ((e : Instance) → Contains m e → HasNoArithmetic e.ops)
      → (ids : List Id) (ops : List Op) → Contains (commands_in m ids) ops → HasNoArithmetic ops
  commands_in-plain m plain ids ops h =
      let from = Contains-from_map (λ x. ops_or_empty (instance_of m x)) ids ops h in
      subst HasNoArithmetic from.2 (by (instance_of m from.0) (instance_of-found m from.0))
    where
      by : {x : Id} (o : Option Instance)
          → ((e : Instance) → o ≡ Some e → Contains m e × (e.id ≡ x))
          → HasNoArithmetic (ops_or_empty o)
      by None found = λ op none. absurd (Contains-nil op none)
      by (Some e) found = plain e (found e refl).0

  run-renamed : (m : List Instance) → ((e : Instance) → Contains m e → HasNoArithmetic e.ops)
      → (ids : List Id) (c : Contents)
      → execute (commands_in (renamed_map r m) ids) (renamed_contents r c)
      ≡ renamed_execution r (execute (commands_in m ids) c)
  run-renamed m plain ids c =
      ap (λ commands. execute commands (renamed_contents r c)) (commands_in-renamed m ids)
      ∙ execute-renamed r (commands_in m ids) (commands_in-plain m plain ids) c

  -- a run over the renamed map is the renamed run
  pub whole_run-renamed : (m : List Instance)
      → ((e : Instance) → Contains m e → HasNoArithmetic e.ops) → (order : List Ranked)
      → whole_run (renamed_map r m) order ≡ renamed_execution r (whole_run m order)
  whole_run-renamed m plain order =
      ap (execute (commands_in (renamed_map r m) (ranked_ids order)))
      (sym (renamed_contents-empty r))
      ∙ run-renamed m plain (ranked_ids order) contents.empty

  -- ---- resumed runs

  remaining-renamed : (done : List Id) (m : List Instance)
      → remaining done (renamed_map r m) ≡ renamed_map r (remaining done m)
  remaining-renamed done [] = refl
  remaining-renamed done (e ∷ m) =
      elim (cases_Bool (is_among done e.id)) [
        | inl among ↦ rw among (remaining-renamed done m)
        | inr other ↦ rw other
            (ap (λ rest. renamed_instance r (without_deps done e) ∷ rest)
            (remaining-renamed done m))
      ]

  -- so is a resumed run over it
  pub run_on-renamed : (m : List Instance)
      → ((e : Instance) → Contains m e → HasNoArithmetic e.ops)
      → (done : List Id) (c : Contents) (order : List Ranked)
      → run_on done (renamed_contents r c) (renamed_map r m) order
      ≡ renamed_execution r (run_on done c m order)
  run_on-renamed m plain done c order =
      ap (λ n. execute (commands_in n (ranked_ids order)) (renamed_contents r c))
      (remaining-renamed done m)
      ∙ run-renamed (remaining done m) (λ e h.
      let d = remaining-from_map done m e h in
      subst (λ (i : Instance). HasNoArithmetic i.ops) d.3 (plain d.0 d.1))
      (ranked_ids order) c
