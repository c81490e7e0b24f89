-- A map with an uncovered pair is not covered, and it has only one least uncovered pair.
use Rattle.std.proofs.Common.{◌≡◌, ◌≢◌, inl, inr, List, sym, ◌∙◌, subst}
use Rattle.epx_types.proofs.Common.{Instance, IsCovered, id_cmp-IsTotalOrder, UpTo-antisymm}
use Rattle.epx_types.proofs.Common.{is_lt-asymm}
use Rattle.epx_types.proofs.Common.{is_lt-irrefl, Below, IsReady}
use Rattle.epx_types.specs.declared.id.Id.{Id}
use Rattle.epx_audit.specs.Uncovered.{IsUncovered, IsLeastUncovered}

pub IsCovered-not_if_uncovered : (m : List Instance) (x y : Id) → IsUncovered m x y → ¬ IsCovered m
IsCovered-not_if_uncovered m x y bad covered =
    let (d, e, in_d, in_e, is_x, is_y, conflict) = bad.conflict in
    let differ : d.id ≢ e.id = λ same. bad.apart.0 (inl (sym is_x ∙ same ∙ is_y)) in
    elim (covered d e in_d in_e differ (subst (IsReady m) (sym is_x) bad.ready.0)
    (subst (IsReady m) (sym is_y) bad.ready.1) conflict) [
      | inl there ↦ bad.apart.0 (rw (is_x, is_y) at there)
      | inr back ↦ bad.apart.1 (rw (is_x, is_y) at back)
    ]

pub IsLeastUncovered-is_unique : (m : List Instance) (x y v w : Id) → IsLeastUncovered m x y
    → IsLeastUncovered m v w → (x ≡ v) × (y ≡ w)
IsLeastUncovered-is_unique m x y v w a b = elim (a.least v w b.rises b.uncovered) [
  | inl lower ↦ elim (b.least x y a.rises a.uncovered) [
    | inl higher ↦ absurd (is_lt-asymm id_cmp-IsTotalOrder x v lower higher)
    | inr same ↦ absurd (is_lt-irrefl id_cmp-IsTotalOrder x (subst (Below x) same.0 lower))
  ]
  | inr first ↦ elim (b.least x y a.rises a.uncovered) [
    | inl lower ↦ absurd (is_lt-irrefl id_cmp-IsTotalOrder v (subst (Below v) first.0 lower))
    | inr second ↦ (first.0, UpTo-antisymm y w first.1 second.1)
  ]
]
