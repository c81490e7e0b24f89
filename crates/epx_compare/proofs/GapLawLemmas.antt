-- The gaps of rising Ids are the longest runs of those that are lacked.
use Rattle.std.proofs.Common.{◌≡◌, ◌⊎◌, ◌<◌, ◌≤◌, ◌==◌, ◌&&◌, ◌∙◌, ℕ, Bool, true, false, not, List}
use Rattle.std.proofs.Common.{[], ◌∷◌, Contains, AllPairs, refl, sym, ap, subst, inl, inr, arith}
use Rattle.std.proofs.lemmas.Bool.Decides.{Decides-eqb}
use Rattle.epx_types.proofs.Common.{cases_Bool, Below, IsRising}
use Rattle.epx_types.proofs.Common.{AllPairs-from_parts, AllPairs-head, AllPairs-tail}
use Rattle.epx_types.proofs.Common.{AllPairs-slice_get, AllPairs-from_slice_get, Contains-nil}
use Rattle.epx_types.proofs.Common.{Contains-head, Contains-cons, Contains-cons_cases}
use Rattle.epx_types.proofs.Common.{AllPairs-from_IsRising, Below-parts}
use Rattle.epx_types.specs.declared.id.Id.{Id}
use Rattle.epx_compare.specs.Gaps.{Gap, gaps_of, goes_on, widened}
use Rattle.epx_compare.specs.GapLaws.{AreGaps, HasLackedEnds, IsBetween, IsInGap, IsLacked}
use Rattle.epx_compare.specs.GapLaws.{first_lacked, last_lacked}

-- of one replica, a lower Id has a lower number
Below-number : (x y : Id) → Below x y → x.replica ≡ y.replica → x.number < y.number
Below-number x y l same = elim (Below-parts x y l) [
  | inl less ↦ absurd (omega (arith, less, same))
  | inr both ↦ both.1
]

module _ (has : Id → Bool) where
  abbrev AreApart : List Id → Gap → Gap → Type 0
  AreApart ids g h = g.replica ≡ h.replica → (x : Id) × IsBetween has ids g h x

  -- what is between is so among more Ids
  more_apart : (x : Id) (ids : List Id) (gaps : List Gap) → AllPairs (AreApart ids) gaps
      → AllPairs (AreApart (x ∷ ids)) gaps
  more_apart x ids gaps apart = AllPairs-from_slice_get (AreApart (x ∷ ids)) gaps
      (λ i j g h l p q same.
      let b = AllPairs-slice_get (AreApart ids) gaps apart i j g h l p q same in (
        b.0,
        record {
          among = Contains-cons x ids b.0 b.1.among;
          had = b.1.had;
          replica = b.1.replica;
          after = b.1.after;
          before = b.1.before;
        },
      ))

  more_lacked : (x : Id) (ids : List Id) (y : Id) → IsLacked has ids y → IsLacked has (x ∷ ids) y
  more_lacked x ids y h = record { among = Contains-cons x ids y h.among; lacks = h.lacks }

  more_ends : (x : Id) (ids : List Id) (g : Gap) → HasLackedEnds has ids g
      → HasLackedEnds has (x ∷ ids) g
  more_ends x ids g h = record {
    upward = h.upward;
    first = more_lacked x ids (first_lacked g) h.first;
    last = more_lacked x ids (last_lacked g) h.last;
  }

  module _ (x : Id) (ids : List Id) (above : (z : Id) → Contains ids z → Below x z) where
    -- no gap of later Ids has x
    not_in_later : (gaps : List Gap) → AreGaps has ids gaps → (gap : Gap) → Contains gaps gap
        → ¬ IsInGap gap x
    not_in_later gaps rest gap among inside =
        let first = (rest.ends gap among).first.among in
        let less = Below-number x (first_lacked gap) (above (first_lacked gap) first) inside.0 in
        omega (arith, less, inside.1)

    -- ---- an Id that is not lacked

    had : has x ≡ true → (gaps : List Gap) → AreGaps has ids gaps → AreGaps has (x ∷ ids) gaps
    had is gaps rest = record {
      lacked = λ z h. elim (Contains-cons_cases x ids z h) [
        | inl same ↦ (
          λ lack. let e : has x ≡ has z = ap has same in absurd (cc (e, lack, is)),
          λ g. absurd (not_in_later gaps rest g.0 g.1
              (subst (IsInGap g.0) (sym same) g.2)),
        )
        | inr later ↦ rest.lacked z later
      ];
      ends = λ g among. more_ends x ids g (rest.ends g among);
      apart = more_apart x ids gaps rest.apart;
    }

    -- ---- an Id that begins a gap of its own

    abbrev own : Gap
    own = record { replica = x.replica; from = x.number; to = x.number }

    alone : has x ≡ false → (gaps : List Gap) → AreGaps has ids gaps
        → ((h : Gap) → Contains gaps h → AreApart (x ∷ ids) own h)
        → AreGaps has (x ∷ ids) (own ∷ gaps)
    alone lack gaps rest first = record {
      lacked = λ z h. elim (Contains-cons_cases x ids z h) [
        | inl same ↦ (
          λ lacks. (
            own,
            Contains-head own gaps,
            subst (IsInGap own) same
                (refl, (omega arith), (omega arith)),
          ),
          λ g. ap has (sym same) ∙ lack,
        )
        | inr later ↦ (
          λ lacks. let g = (rest.lacked z later).0 lacks in
              (g.0, Contains-cons own gaps g.0 g.1, g.2),
          λ g. elim (Contains-cons_cases own gaps g.0 g.1) [
            | inl same ↦
                let inside = subst (λ (k : Gap). IsInGap k z) (sym same) g.2 in
                let less = Below-number x z (above z later) (sym inside.0) in
                absurd (omega (arith, less, inside.2))
            | inr old ↦ (rest.lacked z later).1 (g.0, old, g.2)
          ],
        )
      ];
      ends = λ g among. elim (Contains-cons_cases own gaps g among) [
        | inl same ↦ subst (HasLackedEnds has (x ∷ ids)) same
            (record {
              upward = omega arith;
              first = record { among = Contains-head x ids; lacks = lack };
              last = record { among = Contains-head x ids; lacks = lack };
            })
        | inr old ↦ more_ends x ids g (rest.ends g old)
      ];
      apart = AllPairs-from_parts (AreApart (x ∷ ids)) own gaps first
          (more_apart x ids gaps rest.apart);
    }

    -- ---- an Id that the first gap begins with

    module _ (g : Gap) (gaps : List Gap) where
      abbrev wider : Gap
      wider = record { replica = g.replica; from = x.number; to = g.to }

      widen : has x ≡ false → AreGaps has ids (g ∷ gaps) → x.replica ≡ g.replica
          → ((z : Id) → Contains ids z → z.replica ≡ g.replica → g.from ≤ z.number)
          → AreGaps has (x ∷ ids) (wider ∷ gaps)
      widen lack rest one least = record {
        lacked = λ z h. elim (Contains-cons_cases x ids z h) [
          | inl same ↦ (
            λ lacks. (
              wider,
              Contains-head wider gaps,
              subst (IsInGap wider) same
                  (one, (omega arith), (omega (arith, less, whole.upward))),
            ),
            λ k. ap has (sym same) ∙ lack,
          )
          | inr later ↦ (
            λ lacks. let k = (rest.lacked z later).0 lacks in
                elim (Contains-cons_cases g gaps k.0 k.1) [
                  | inl same ↦
                      let inside = subst (λ (k : Gap). IsInGap k z) (sym same) k.2 in (
                        wider,
                        Contains-head wider gaps,
                        (
                          inside.0,
                          (omega (arith, less, inside.1)),
                          inside.2,
                        ),
                      )
                  | inr old ↦ (k.0, Contains-cons wider gaps k.0 old, k.2)
                ],
            λ k. elim (Contains-cons_cases wider gaps k.0 k.1) [
              | inl same ↦
                  let inside = subst (λ (k : Gap). IsInGap k z) (sym same) k.2 in
                  (rest.lacked z later).1
                  (g, Contains-head g gaps, (inside.0, least z later inside.0, inside.2))
              | inr old ↦ (rest.lacked z later).1 (k.0, Contains-cons g gaps k.0 old, k.2)
            ],
          )
        ];
        ends = λ k among. elim (Contains-cons_cases wider gaps k among) [
          | inl same ↦ subst (HasLackedEnds has (x ∷ ids)) same
              (record {
                upward = omega (arith, less, whole.upward);
                first = subst (IsLacked has (x ∷ ids)) is_first
                    (record { among = Contains-head x ids; lacks = lack });
                last = more_lacked x ids (last_lacked g) whole.last;
              })
          | inr old ↦ more_ends x ids k (rest.ends k (Contains-cons g gaps k old))
        ];
        apart = AllPairs-from_parts (AreApart (x ∷ ids)) wider gaps
            (λ h among same.
            let b = AllPairs-head (AreApart (x ∷ ids)) g gaps h
            (more_apart x ids (g ∷ gaps) rest.apart) among same in (
              b.0,
              record {
                among = b.1.among;
                had = b.1.had;
                replica = b.1.replica;
                after = b.1.after;
                before = b.1.before;
              },
            ))
            (AllPairs-tail (AreApart (x ∷ ids)) g gaps
            (more_apart x ids (g ∷ gaps) rest.apart));
      } where
        whole : HasLackedEnds has ids g
        whole = rest.ends g (Contains-head g gaps)

        less : x.number < g.from
        less = Below-number x (first_lacked g) (above (first_lacked g) whole.first.among) one

        is_first : x ≡ first_lacked wider
        is_first = λ i. record { replica = one i; number = x.number }

  -- ---- all Ids

  -- a gap that begins with the first Id
  abbrev BeginsAt : Id → List Gap → Type 0
  BeginsAt y gaps = (g : Gap) × (rest : List Gap) × (gaps ≡ g ∷ rest) × (g.replica ≡ y.replica)
      × (g.from ≡ y.number)

  gaps_cases : (x : Id) (ids : List Id)
      → ((has x ≡ true) × (gaps_of has (x ∷ ids) ≡ gaps_of has ids))
      ⊎ (((has x ≡ false) × (goes_on has x.replica ids ≡ true)
      × (gaps_of has (x ∷ ids) ≡ widened x.number (gaps_of has ids)))
      ⊎ ((has x ≡ false) × (goes_on has x.replica ids ≡ false)
      × (gaps_of has (x ∷ ids)
      ≡ record { replica = x.replica; from = x.number; to = x.number } ∷ gaps_of has ids)))
  gaps_cases x ids =
      elim (cases_Bool (has x)) [
        | inl is ↦ inl (is, rw is refl)
        | inr lack ↦ elim (cases_Bool (goes_on has x.replica ids)) [
          | inl on ↦ inr (inl (lack, on, rw lack (rw on refl)))
          | inr ends ↦ inr (inr (lack, ends, rw lack (rw ends refl)))
        ]
      ]

  on_parts : (replica : ℕ) (y : Id) (ids : List Id) → goes_on has replica (y ∷ ids) ≡ true
      → (y.replica ≡ replica) × (has y ≡ false)
  on_parts replica y ids on = by (y.replica == replica) (has y) refl refl on where
    by : (a b : Bool) → (y.replica == replica) ≡ a → has y ≡ b → (a && not b) ≡ true
        → (y.replica ≡ replica) × (has y ≡ false)
    by true true p q e = absurd (cc e)
    by true false p q e = ((Decides-eqb y.replica replica).0 p, q)
    by false b p q e = absurd (cc e)

  begins : (y : Id) (ids : List Id) → has y ≡ false → BeginsAt y (gaps_of has (y ∷ ids))
  begins y [] lack = (
    record { replica = y.replica; from = y.number; to = y.number },
    [],
    rw lack refl,
    refl,
    refl,
  )
  begins y (z ∷ ids) lack = elim (gaps_cases y (z ∷ ids)) [
    | inl c ↦ absurd (cc (lack, c.0))
    | inr (inl c) ↦
        let on = on_parts y.replica z ids c.1 in
        let next = begins z ids on.1 in (
          record { replica = next.0.replica; from = y.number; to = next.0.to },
          next.1,
          c.2 ∙ ap (widened y.number) next.2,
          next.3 ∙ on.0,
          refl,
        )
    | inr (inr c) ↦ (
      record { replica = y.replica; from = y.number; to = y.number },
      gaps_of has (z ∷ ids),
      c.2,
      refl,
      refl,
    )
  ]

  above_all : (x : Id) (ids : List Id) → IsRising (x ∷ ids) → (z : Id) → Contains ids z → Below x z
  above_all x ids rising z h =
      AllPairs-head Below x ids z (AllPairs-from_IsRising (x ∷ ids) rising) h

  -- where the run ends at x, the next gap of its replica does not touch it
  run_ends : (x : Id) (ids : List Id) → IsRising (x ∷ ids) → has x ≡ false
      → goes_on has x.replica ids ≡ false → (gaps : List Gap) → AreGaps has ids gaps → (h : Gap)
      → Contains gaps h → AreApart (x ∷ ids)
      (record { replica = x.replica; from = x.number; to = x.number }) h
  run_ends x [] rising lack ends gaps rest h among same =
      absurd (Contains-nil (first_lacked h) (rest.ends h among).first.among)
  run_ends x (y ∷ ids) rising lack ends gaps rest h among same =
      let first = (rest.ends h among).first in
      let below = above_all x (y ∷ ids) rising y (Contains-head y ids) in
      elim (Contains-cons_cases y ids (first_lacked h) first.among) [
        | inl here ↦
            let lacks : has y ≡ false = ap has here ∙ first.lacks in
            let one : y.replica ≡ x.replica = ap (λ (z : Id). z.replica) here ∙ sym same in
            let test = (Decides-eqb y.replica x.replica).1 one in
            let on : goes_on has x.replica (y ∷ ids) ≡ true = rw test (rw lacks refl) in
            absurd (cc (on, ends))
        | inr later ↦
            let next = above_all y ids rising.1 (first_lacked h) later in
            let one : y.replica ≡ x.replica = elim (Below-parts x y below) [
              | inl less ↦ elim (Below-parts y (first_lacked h) next) [
                | inl more ↦ absurd (omega (arith, less, more, same))
                | inr tied ↦ absurd (omega (arith, less, tied.0, same))
              ]
              | inr both ↦ sym both.0
            ] in
            elim (cases_Bool (has y)) [
              | inl is ↦ (
                y,
                record {
                  among = Contains-cons x (y ∷ ids) y (Contains-head y ids);
                  had = is;
                  replica = one;
                  after = Below-number x y below (sym one);
                  before = Below-number y (first_lacked h) next (one ∙ same);
                },
              )
              | inr lacks ↦
                  let test = (Decides-eqb y.replica x.replica).1 one in
                  let on : goes_on has x.replica (y ∷ ids) ≡ true = rw test (rw lacks refl) in
                  absurd (cc (on, ends))
            ]
      ]

  -- where it goes on, the first gap of the rest is widened
  run_on : (x : Id) (ids : List Id) → IsRising (x ∷ ids) → has x ≡ false
      → goes_on has x.replica ids ≡ true → AreGaps has ids (gaps_of has ids)
      → AreGaps has (x ∷ ids) (widened x.number (gaps_of has ids))
  run_on x [] rising lack on rest = absurd (cc on)
  run_on x (y ∷ ids) rising lack on rest =
      let parts = on_parts x.replica y ids on in
      let first = begins y ids parts.1 in
      let rest' = subst (AreGaps has (y ∷ ids)) first.2 rest in
      let least : (z : Id) → Contains (y ∷ ids) z → z.replica ≡ first.0.replica
      → first.0.from ≤ z.number = λ z h one. elim (Contains-cons_cases y ids z h) [
        | inl same ↦
            let number : y.number ≡ z.number = ap (λ (w : Id). w.number) same in
            omega (arith, number, first.4)
        | inr later ↦
            let less = Below-number y z (above_all y ids rising.1 z later)
            (sym first.3 ∙ sym one) in
            omega (arith, less, first.4)
      ] in
      subst (λ (gaps : List Gap). AreGaps has (x ∷ y ∷ ids) (widened x.number gaps)) (sym first.2)
      (widen x (y ∷ ids) (above_all x (y ∷ ids) rising) first.0 first.1 lack rest'
      (sym parts.0 ∙ sym first.3) least)

  pub AreGaps-gaps_of : (ids : List Id) → IsRising ids → AreGaps has ids (gaps_of has ids)
  AreGaps-gaps_of [] rising = record {
    lacked = λ x h. absurd (Contains-nil x h);
    ends = λ g h. absurd (Contains-nil g h);
    apart = λ i j d l k. absurd (omega arith);
  }
  AreGaps-gaps_of (x ∷ ids) rising =
      let rest = AreGaps-gaps_of ids rising.1 in
      let above = above_all x ids rising in
      elim (gaps_cases x ids) [
        | inl c ↦ subst (AreGaps has (x ∷ ids)) (sym c.1)
            (had x ids above c.0 (gaps_of has ids) rest)
        | inr (inl c) ↦ subst (AreGaps has (x ∷ ids)) (sym c.2)
            (run_on x ids rising c.0 c.1 rest)
        | inr (inr c) ↦ subst (AreGaps has (x ∷ ids)) (sym c.2)
            (alone x ids above c.0 (gaps_of has ids) rest
            (run_ends x ids rising c.0 c.1 (gaps_of has ids) rest))
      ]
