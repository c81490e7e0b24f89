-- Versions with the hashes of what they commit.
use Rattle.std.proofs.Common.{◌≡◌, ◌==◌, ◌&&◌, Bool, true, arith, subst}
use Rattle.std.specs.Bool.{Decides}
use Rattle.std.specs.Cmp.{IsEquivalence, IsPartialEquivalence, partial_equiv_from_equiv}
use Rattle.std.specs.Cmp.{decided, first_so, second_so}
use Rattle.std.proofs.lemmas.Bool.Decides.{nat_tests}
use Rattle.epx_seed.specs.declared.Seed.{Seed}
use Rattle.epx_versions.specs.declared.hashed_version.HashedVersion.{HashedVersion}
use Rattle.epx_versions.specs.inner.EqualVersions.{same_instance-decides}
use Rattle.epx_versions.specs.SameInstances.{same_instance}
use Rattle.epx_versions.specs.between.VersionLists.{hash_by}

-- the version has its own hash
abbrev pub IsHashed : Seed → HashedVersion → Type 0
IsHashed seed v = v.hash ≡ hash_by seed v.version

-- two versions have the same hash and commit the same
abbrev pub same_hashed : HashedVersion → HashedVersion → Bool
same_hashed v w = (v.hash == w.hash) && same_instance v.version w.version

-- ---- the test decides whether versions are equal, hashes included

-- two versions of which the test is true are equal, and so are their hashes
same_hashed-equal : (v w : HashedVersion) → same_hashed v w ≡ true → v ≡ w
same_hashed-equal v w same =
    let hashes = first_so (v.hash == w.hash) (same_instance v.version w.version) same in
    let hash : v.hash ≡ w.hash = grind (arith, nat_tests) in
    let version = (same_instance-decides v.version w.version).0
    (second_so (v.hash == w.hash) (same_instance v.version w.version) same) in
    λ i. record { version = version i; hash = hash i }

-- two tests that are true are true together
both : {a b : Bool} → a ≡ true → b ≡ true → a && b ≡ true
both {a} {b} p q = cc

-- the test of a version with itself is true
same_itself : (v : HashedVersion) → same_hashed v v ≡ true
same_itself v =
    let hash : (v.hash == v.hash) ≡ true = grind (arith, nat_tests) in
    both hash ((same_instance-decides v.version v.version).1 (λ i. v.version))

-- the test of two versions is true exactly if they and their hashes are equal
pub hashed_decide : (v w : HashedVersion) → Decides (same_hashed v w) (v ≡ w)
hashed_decide v w = (
  same_hashed-equal v w,
  λ same. let P : HashedVersion → Type 0 = λ x. same_hashed v x ≡ true in
      subst P same (same_itself v),
)

-- the test of two versions is an equivalence, which `Eq` asks for
pub same_hashed_equiv : IsEquivalence same_hashed
same_hashed_equiv = decided same_hashed hashed_decide

-- the test of two versions is symmetric and transitive, which `PartialEq` asks for
pub same_hashed_per : IsPartialEquivalence same_hashed
same_hashed_per = partial_equiv_from_equiv same_hashed_equiv
