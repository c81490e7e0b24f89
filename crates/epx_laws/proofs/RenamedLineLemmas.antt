-- Renamed lines commit the renamed map, and have the same first disagreement.
use Rattle.std.proofs.Common.{◌≡◌, ◌↔◌, List, Contains, sym, ap, ◌∙◌, subst}
use Rattle.epx_types.proofs.Common.{UpTo, IsRising, Instance, Placed, Earlier, Differ}
use Rattle.epx_types.proofs.Common.{IsFirstDisagreement, IsCommittedBy, Contains-map}
use Rattle.epx_types.proofs.Common.{Contains-from_map}
use Rattle.epx_types.specs.declared.id.Id.{Id}
use Rattle.epx_types.specs.declared.op.Op.TheVariants.{Get, Put, Del, Add, Is, Floor, Copy}
use Rattle.epx_laws.specs.Renaming.{IsInjective, Renaming, renamed_op, renamed_instance}
use Rattle.epx_laws.specs.Renaming.{renamed_map, renamed_line, renamed_lines}
use Rattle.epx_laws.proofs.RenamedAnswerLemmas.{map-IsInjective, renamed_value-IsInjective}
use Rattle.epx_laws.proofs.RenamedMapLemmas.{ids_of-renamed}

module _ (r : Renaming) where
  -- ---- different instances and lines differ under their new names

  renamed_op-IsInjective : IsInjective (renamed_op r)
  renamed_op-IsInjective (Get k) (Get j) e = ap (λ q. Get q) (r.keys_injective k j (cc e))
  renamed_op-IsInjective (Put k v) (Put j w) e =
      let key = r.keys_injective k j (cc e) in
      let value = r.values_injective v w (cc e) in
      λ i. Put (key i) (value i)
  renamed_op-IsInjective (Del k) (Del j) e = ap (λ q. Del q) (r.keys_injective k j (cc e))
  renamed_op-IsInjective (Add k m) (Add j n) e =
      let key = r.keys_injective k j (cc e) in
      let amount : m ≡ n = cc e in
      λ i. Add (key i) (amount i)
  renamed_op-IsInjective (Is k v) (Is j w) e =
      let key = r.keys_injective k j (cc e) in
      let value = renamed_value-IsInjective r v w (cc e) in
      λ i. Is (key i) (value i)
  renamed_op-IsInjective (Floor k m) (Floor j n) e =
      let key = r.keys_injective k j (cc e) in
      let bound : m ≡ n = cc e in
      λ i. Floor (key i) (bound i)
  renamed_op-IsInjective (Copy k k') (Copy j j') e =
      let source = r.keys_injective k j (cc e) in
      let target = r.keys_injective k' j' (cc e) in
      λ i. Copy (source i) (target i)
  renamed_op-IsInjective a b e = absurd (cc e)

  renamed_instance-IsInjective : IsInjective (renamed_instance r)
  renamed_instance-IsInjective d e same =
      let id : d.id ≡ e.id = ap (λ (x : Instance). x.id) same in
      let seq : d.seq ≡ e.seq = ap (λ (x : Instance). x.seq) same in
      let deps : d.deps ≡ e.deps = ap (λ (x : Instance). x.deps) same in
      let ops = map-IsInjective (renamed_op r) renamed_op-IsInjective d.ops e.ops
      (ap (λ (x : Instance). x.ops) same) in
      λ i. record { id = id i; seq = seq i; deps = deps i; ops = ops i }

  renamed_line-IsInjective : IsInjective (renamed_line r)
  renamed_line-IsInjective p q same =
      let place : p.place ≡ q.place = ap (λ (x : Placed). x.place) same in
      let instance = renamed_instance-IsInjective p.instance q.instance
      (ap (λ (x : Placed). x.instance) same) in
      λ i. record { place = place i; instance = instance i }

  -- a renamed line is among the renamed lines only if the line is among the lines
  Contains-line : (lines : List Placed) (p : Placed)
      → Contains (renamed_lines r lines) (renamed_line r p) → Contains lines p
  Contains-line lines p h =
      let q = Contains-from_map (renamed_line r) lines (renamed_line r p) h in
      subst (Contains lines) (renamed_line-IsInjective q.0 p q.2) q.1

  -- ---- the committed map

  IsCommittedBy-renamed : (lines : List Placed) (m : List Instance) → IsCommittedBy lines m
      → IsCommittedBy (renamed_lines r lines) (renamed_map r m)
  IsCommittedBy-renamed lines m by_lines = record {
    rising = subst IsRising (sym (ids_of-renamed r m)) by_lines.rising;
    given = λ e h.
        let d = Contains-from_map (renamed_instance r) m e h in
        let p = by_lines.given d.0 d.1 in (
          renamed_line r p.0,
          Contains-map (renamed_line r) lines p.0 p.1,
          ap (renamed_instance r) p.2 ∙ d.2,
        );
    whole = λ q h.
        let p = Contains-from_map (renamed_line r) lines q h in
        subst (λ (line : Placed). Contains (renamed_map r m) line.instance) p.2
        (Contains-map (renamed_instance r) m p.0.instance (by_lines.whole p.0 p.1));
  }

  IsCommittedBy-from_renamed : (lines : List Placed) (m : List Instance)
      → IsCommittedBy (renamed_lines r lines) (renamed_map r m) → IsCommittedBy lines m
  IsCommittedBy-from_renamed lines m by_lines = record {
    rising = subst IsRising (ids_of-renamed r m) by_lines.rising;
    given = λ e h.
        let q = by_lines.given (renamed_instance r e) (Contains-map (renamed_instance r) m e h) in
        let p = Contains-from_map (renamed_line r) lines q.0 q.1 in (
          p.0,
          p.1,
          renamed_instance-IsInjective p.0.instance e
              (ap (λ (line : Placed). line.instance) p.2 ∙ q.2),
        );
    whole = λ p h.
        let e = Contains-from_map (renamed_instance r) m (renamed_instance r p.instance)
        (by_lines.whole (renamed_line r p) (Contains-map (renamed_line r) lines p h)) in
        subst (Contains m) (renamed_instance-IsInjective e.0 p.instance e.2) e.1;
  }

  pub IsCommittedBy-renamed_iff : (lines : List Placed) (m : List Instance)
      → IsCommittedBy (renamed_lines r lines) (renamed_map r m) ↔ IsCommittedBy lines m
  IsCommittedBy-renamed_iff lines m =
      (IsCommittedBy-from_renamed lines m, IsCommittedBy-renamed lines m)

  -- ---- the first disagreement

  Differ-renamed : (p q : Placed) → Differ p q → Differ (renamed_line r p) (renamed_line r q)
  Differ-renamed p q differ = (
    differ.0,
    λ same. differ.1 (renamed_instance-IsInjective p.instance q.instance same),
  )

  Differ-from_renamed : (p q : Placed) → Differ (renamed_line r p) (renamed_line r q) → Differ p q
  Differ-from_renamed p q differ =
      (differ.0, λ same. differ.1 (ap (renamed_instance r) same))

  IsFirstDisagreement-renamed : (lines : List Placed) (id : Id) (first second : Placed)
      → IsFirstDisagreement lines id first second
      → IsFirstDisagreement (renamed_lines r lines) id (renamed_line r first)
      (renamed_line r second)
  IsFirstDisagreement-renamed lines id first second h = record {
    has_first = Contains-map (renamed_line r) lines first h.has_first;
    has_second = Contains-map (renamed_line r) lines second h.has_second;
    named = h.named;
    differ = Differ-renamed first second h.differ;
    least = λ p q in_p in_q.
        let p' = Contains-from_map (renamed_line r) lines p in_p in
        let q' = Contains-from_map (renamed_line r) lines q in_q in
        let P : Placed → Placed → Type 0 = λ a b. Differ a b → UpTo id a.instance.id in
        subst (λ a. P a q) p'.2 (subst (P (renamed_line r p'.0)) q'.2
        (λ differ. h.least p'.0 q'.0 p'.1 q'.1 (Differ-from_renamed p'.0 q'.0 differ)));
    opens = λ p in_p.
        let p' = Contains-from_map (renamed_line r) lines p in_p in
        let P : Placed → Type 0 = λ a. a.instance.id ≡ id → ¬ Earlier a.place first.place in
        subst P p'.2 (h.opens p'.0 p'.1);
    follows = λ q in_q.
        let q' = Contains-from_map (renamed_line r) lines q in_q in
        let P : Placed → Type 0 = λ a. Differ (renamed_line r first) a
        → ¬ Earlier a.place second.place in
        subst P q'.2
        (λ differ. h.follows q'.0 q'.1 (Differ-from_renamed first q'.0 differ));
  }

  IsFirstDisagreement-from_renamed : (lines : List Placed) (id : Id) (first second : Placed)
      → IsFirstDisagreement (renamed_lines r lines) id (renamed_line r first)
      (renamed_line r second) → IsFirstDisagreement lines id first second
  IsFirstDisagreement-from_renamed lines id first second h = record {
    has_first = Contains-line lines first h.has_first;
    has_second = Contains-line lines second h.has_second;
    named = h.named;
    differ = Differ-from_renamed first second h.differ;
    least = λ p q in_p in_q differ.
        h.least (renamed_line r p) (renamed_line r q) (Contains-map (renamed_line r) lines p in_p)
        (Contains-map (renamed_line r) lines q in_q) (Differ-renamed p q differ);
    opens = λ p in_p is.
        h.opens (renamed_line r p) (Contains-map (renamed_line r) lines p in_p) is;
    follows = λ q in_q differ.
        h.follows (renamed_line r q) (Contains-map (renamed_line r) lines q in_q)
        (Differ-renamed first q differ);
  }

  pub IsFirstDisagreement-renamed_iff : (lines : List Placed) (id : Id) (first second : Placed)
      → IsFirstDisagreement (renamed_lines r lines) id (renamed_line r first)
      (renamed_line r second) ↔ IsFirstDisagreement lines id first second
  IsFirstDisagreement-renamed_iff lines id first second = (
    IsFirstDisagreement-from_renamed lines id first second,
    IsFirstDisagreement-renamed lines id first second,
  )
