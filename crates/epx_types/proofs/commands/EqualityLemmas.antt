-- The tests by which operations and Ids are compared decide whether they are equal.
use Rattle.std.proofs.Common.{◌≡◌, ◌≢◌, ◌⊎◌, inl, inr, ℕ, Bool, true, false, List}
use Rattle.std.proofs.Common.{arith, nat_cmp, is_eq, ℤ, refl, subst}
use Rattle.std.specs.Bool.{Decides}
use Rattle.std.specs.Cmp.Lexicographic.{slice_cmp}
use Rattle.std.specs.Ordering.{int_eq}
use Rattle.std.proofs.lemmas.Map.Text.{is_eq-slice_cmp}
use Rattle.std.proofs.lemmas.Slice.Eq.{bytes_eq-Decides}
use Rattle.std.proofs.lemmas.Bool.Decides.{Decides-int_eq, not_from_Decides, Decides-at, nat_tests}
use Rattle.epx_types.specs.declared.op.Op.{Op}
use Rattle.epx_types.specs.contracts.op.OpPartialEq.TheImpl as op_eq
use Rattle.epx_types.specs.declared.id.Id.{Id}
use Rattle.epx_types.specs.contracts.id.IdPartialEq.TheImpl as id_eq

-- the cases of a test that decides a fact
pub Decides-cases : {P : Type 0} (r : Bool) → Decides r P → ((r ≡ true) × P) ⊎ ((r ≡ false) × ¬ P)
Decides-cases true d = inl (refl, d.0 refl)
Decides-cases false d = inr (refl, not_from_Decides false d refl)

keys_decide : (k j : List ℕ) → ((is_eq (slice_cmp nat_cmp k j) ≡ true) × (k ≡ j))
    ⊎ ((is_eq (slice_cmp nat_cmp k j) ≡ false) × (k ≢ j))
keys_decide k j = Decides-cases (is_eq (slice_cmp nat_cmp k j))
    (Decides-at (is_eq (slice_cmp nat_cmp k j)) _ (is_eq-slice_cmp k j) (bytes_eq-Decides k j))

numbers_decide : (m n : ℤ) → ((int_eq m n ≡ true) × (m ≡ n)) ⊎ ((int_eq m n ≡ false) × (m ≢ n))
numbers_decide m n = Decides-cases (int_eq m n) (Decides-int_eq m n)

op_true : (a b : Op) → op_eq.eq-value.it a b ≡ true → a ≡ b
op_true a b h = grind (arith, keys_decide, numbers_decide)

op_itself : (a : Op) → op_eq.eq-value.it a a ≡ true
op_itself a = grind (arith, keys_decide, numbers_decide)

-- `==` decides the equality of operations, and of Ids
pub op_eq-Decides : (a b : Op) → Decides (op_eq.eq-value.it a b) (a ≡ b)
op_eq-Decides a b = (
  op_true a b,
  λ e. let P : Op → Type 0 = λ o. op_eq.eq-value.it a o ≡ true in
      subst P e (op_itself a),
)

pub id_eq-Decides : (a b : Id) → Decides (id_eq.eq-value.it a b) (a ≡ b)
id_eq-Decides a b = (λ h. grind (arith, nat_tests), λ e. grind (arith, nat_tests))

-- Ids compare alike both ways
pub id_eq-sym : (a b : Id) → id_eq.eq-value.it a b ≡ id_eq.eq-value.it b a
id_eq-sym a b = grind (arith, nat_tests)
