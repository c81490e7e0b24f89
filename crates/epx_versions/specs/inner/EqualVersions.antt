-- The laws of the test that compares two instances: it decides whether they are equal.
use Rattle.std.proofs.Common.{◌≡◌, ◌∙◌, Bool, true, ◌&&◌, arith, is_eq, refl, sym, subst, ap}
use Rattle.std.proofs.Common.{Ordering, Less, Equal, Greater}
use Rattle.std.specs.Bool.{Decides}
use Rattle.std.specs.Cmp.{IsEquivalence, IsPartialEquivalence, partial_equiv_from_equiv}
use Rattle.std.specs.Cmp.{decided, first_so, second_so, tied_itself}
use Rattle.std.specs.Cmp.Lexicographic.{pointwise_decides}
use Rattle.std.proofs.lemmas.Bool.Decides.{nat_tests}
use Rattle.epx_types.specs.declared.id.Id.{Id}
use Rattle.epx_types.specs.Ids.{id_cmp}
use Rattle.epx_types.specs.Instances.{Instance}
use Rattle.epx_types.proofs.lists.ComparisonLemmas.{id_cmp-IsTotalOrder, id_cmp-IsAntisymmetric}
use Rattle.epx_types.proofs.commands.EqualityLemmas.{op_eq-Decides}
use Rattle.epx_versions.specs.SameInstances.{same_id, same_seq, same_deps, same_ops, same_instance}

-- the test of an ordering for equality is true of `Equal` alone
tied : (r : Ordering) → is_eq r ≡ true → r ≡ Equal
tied Less h = absurd (cc h)
tied Equal h = refl
tied Greater h = absurd (cc h)

-- the test of two Ids is true exactly if they are equal
pub same_id-decides : (x y : Id) → Decides (same_id x y) (x ≡ y)
same_id-decides x y = (
  λ h. id_cmp-IsAntisymmetric x y (tied (id_cmp x y) h),
  λ e. ap (λ z. is_eq (id_cmp x z)) (sym e) ∙ ap is_eq (tied_itself id_cmp-IsTotalOrder x),
)

-- the test of two instances' dependencies is true exactly if they are equal
pub same_deps-decides : (d e : Instance) → Decides (same_deps d e) (d.deps ≡ e.deps)
same_deps-decides d e = pointwise_decides same_id-decides d.deps e.deps

-- the test of two instances' operations is true exactly if they are equal
pub same_ops-decides : (d e : Instance) → Decides (same_ops d e) (d.ops ≡ e.ops)
same_ops-decides d e = pointwise_decides op_eq-Decides d.ops e.ops

-- the test of two instances' sequence numbers is true exactly if they are equal
pub same_seq-decides : (d e : Instance) → Decides (same_seq d e) (d.seq ≡ e.seq)
same_seq-decides d e = (λ h. grind (arith, nat_tests), λ h. grind (arith, nat_tests))

-- two tests that are true are true together
both : {a b : Bool} → a ≡ true → b ≡ true → a && b ≡ true
both {a} {b} p q = cc

-- two instances of which the test is true are equal
pub same_instance-equal : (d e : Instance) → same_instance d e ≡ true → d ≡ e
same_instance-equal d e same =
    let first = first_so ((same_id d.id e.id && same_seq d e) && same_deps d e) _ same in
    let ops = second_so ((same_id d.id e.id && same_seq d e) && same_deps d e) _ same in
    let second = first_so (same_id d.id e.id && same_seq d e) _ first in
    let deps = second_so (same_id d.id e.id && same_seq d e) _ first in
    let id = (same_id-decides d.id e.id).0 (first_so (same_id d.id e.id) _ second) in
    let seq = (same_seq-decides d e).0 (second_so (same_id d.id e.id) _ second) in
    let dep = (same_deps-decides d e).0 deps in
    let op = (same_ops-decides d e).0 ops in
    λ i. record { id = id i; seq = seq i; deps = dep i; ops = op i }

-- the test of an instance with itself is true
same_itself : (d : Instance) → same_instance d d ≡ true
same_itself d = both
    (both (both ((same_id-decides d.id d.id).1 refl) ((same_seq-decides d d).1 refl))
    ((same_deps-decides d d).1 refl)) ((same_ops-decides d d).1 refl)

-- the test of two instances is true exactly if they are equal
pub same_instance-decides : (d e : Instance) → Decides (same_instance d e) (d ≡ e)
same_instance-decides d e = (
  same_instance-equal d e,
  λ same. let P : Instance → Type 0 = λ x. same_instance d x ≡ true in
      subst P same (same_itself d),
)

-- the test of two instances is an equivalence, which `Eq` asks for
pub same_instance_equiv : IsEquivalence same_instance
same_instance_equiv = decided same_instance same_instance-decides

-- the test of two instances is symmetric and transitive, which `PartialEq` asks for
pub same_instance_per : IsPartialEquivalence same_instance
same_instance_per = partial_equiv_from_equiv same_instance_equiv
