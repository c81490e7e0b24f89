-- The order of touches.
use Rattle.std.proofs.Common.{◌≡◌, ◌⊎◌, ◌<◌, true, false, Bool}
use Rattle.std.proofs.Common.{Equal, refl}
use Rattle.std.proofs.Common.{arith}
use Rattle.std.specs.Cmp.{IsTotalOrder, nat_cmp_total, bool_cmp_total, on_total, then_total}
use Rattle.std.specs.FinMap.{IsAntisymmetric, nat_cmp-IsAntisymmetric}
use Rattle.std.specs.Ordering.{bool_cmp, eq_by_cmp}
use Rattle.epx_types.proofs.Common.{ordering_then-first_equal, ordering_then-second_equal}
use Rattle.epx_types.proofs.Common.{nat_tests}
use Rattle.epx_neighbours.specs.contracts.key_touch.KeyTouchPartialEq.TheImpl as touch_eq
use Rattle.epx_neighbours.specs.declared.key_touch.KeyTouch.{KeyTouch}
use Rattle.epx_neighbours.specs.inner.KeyTouches.{touch_cmp, TouchBelow}

pub touch_cmp-IsTotalOrder : IsTotalOrder touch_cmp
touch_cmp-IsTotalOrder = then_total (on_total (λ t. t.key) nat_cmp_total)
    (then_total (on_total (λ t. t.position) nat_cmp_total)
    (on_total (λ t. t.writes) bool_cmp_total))

bools_same : (a b : Bool) → bool_cmp a b ≡ Equal → a ≡ b
bools_same false false e = refl
bools_same false true e = absurd (cc e)
bools_same true false e = absurd (cc e)
bools_same true true e = refl

-- touches that compare as equal are equal
pub touch_cmp-IsAntisymmetric : IsAntisymmetric touch_cmp
touch_cmp-IsAntisymmetric s t e =
    let rest = ordering_then-second_equal _ _ e in
    let key = nat_cmp-IsAntisymmetric s.key t.key (ordering_then-first_equal _ _ e) in
    let position =
    nat_cmp-IsAntisymmetric s.position t.position (ordering_then-first_equal _ _ rest) in
    let writes = bools_same s.writes t.writes (ordering_then-second_equal _ _ rest) in
    λ i. record { key = key i; position = position i; writes = writes i }

pub touch_eq-by_cmp : (s t : KeyTouch) → touch_eq.eq-value.it s t ≡ eq_by_cmp touch_cmp s t
touch_eq-by_cmp s t = grind (arith, nat_tests)

-- ---- what the order says of two touches

abbrev pub IsLowerTouch : KeyTouch → KeyTouch → Type 0
IsLowerTouch s t = (s.key < t.key)
    ⊎ ((s.key ≡ t.key) × ((s.position < t.position)
    ⊎ ((s.position ≡ t.position) × (s.writes ≡ false) × (t.writes ≡ true))))

pub IsLowerTouch-from_below : (s t : KeyTouch) → TouchBelow s t → IsLowerTouch s t
IsLowerTouch-from_below s t h = grind (arith, nat_tests)
