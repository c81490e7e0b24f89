-- Versions that are found by their hashes.
use Rattle.std.proofs.Common.{◌≡◌, ◌∙◌, ◌==◌, ◌&&◌, ◌||◌, ℕ, Bool, true, false, cond, List, [], ◌∷◌}
use Rattle.std.proofs.Common.{◌++◌, map, refl, sym, ap, arith}
use Rattle.epx_types.proofs.Common.{list_any, nat_tests, map_push, Instance}
use Rattle.indexmap.specs.IndexSet.{insert_key}
use Rattle.epx_seed.specs.declared.Seed.{Seed}
use Rattle.epx_versions.specs.declared.hashed_version.HashedVersion.{HashedVersion}
use Rattle.epx_versions.specs.SameInstances.{same_instance}
use Rattle.epx_versions.specs.inner.EqualVersions.{same_instance-decides}
use Rattle.epx_versions.specs.inner.HashedVersions.{IsHashed, same_hashed}
use Rattle.epx_versions.specs.between.VersionLists.{hash_by}

abbrev pub instances_of : List HashedVersion → List Instance
instances_of ks = map (λ k. k.version) ks

abbrev pub hashes_of : List HashedVersion → List ℕ
hashes_of ks = map (λ k. k.hash) ks

-- each version has its own hash
abbrev pub EachHashed : Seed → List HashedVersion → Type 0
EachHashed seed ks = hashes_of ks ≡ map (hash_by seed) (instances_of ks)

instances-cond : (b : Bool) (ks : List HashedVersion) (v : HashedVersion)
    → instances_of (cond b ks (ks ++ v ∷ []))
    ≡ cond b (instances_of ks) (instances_of ks ++ v.version ∷ [])
instances-cond true ks v = refl
instances-cond false ks v = map_push (λ k. k.version) ks v

module _ (seed : Seed) (v : HashedVersion) (own : IsHashed seed v) where
  same_as : (k : HashedVersion) → k.hash ≡ hash_by seed k.version → (b : Bool)
      → same_instance v.version k.version ≡ b → ((v.hash == k.hash) && b) ≡ b
  same_as k hashed true same =
      let equal = (same_instance-decides v.version k.version).0 same in
      let hash : v.hash ≡ k.hash = own ∙ (ap (hash_by seed) equal ∙ sym hashed) in
      let yes : (v.hash == k.hash) ≡ true = grind (arith, nat_tests) in
      ap (λ c. c && true) yes
  same_as k hashed false same = none (v.hash == k.hash) where
    none : (c : Bool) → (c && false) ≡ false
    none true = refl
    none false = refl

  -- a version is among others exactly if its instance is among theirs
  among : (ks : List HashedVersion) → EachHashed seed ks
      → list_any (same_hashed v) ks ≡ list_any (same_instance v.version) (instances_of ks)
  among [] hashed = refl
  among (k ∷ ks) hashed =
      let here : k.hash ≡ hash_by seed k.version = cc hashed in
      let rest : EachHashed seed ks = cc hashed in
      let first = same_as k here (same_instance v.version k.version) refl in
      let later = among ks rest in
      λ i. first i || later i

  -- the instances after a version is inserted
  pub instances-insert_key : (ks : List HashedVersion) → EachHashed seed ks
      → instances_of (insert_key same_hashed ks v)
      ≡ insert_key same_instance (instances_of ks) v.version
  instances-insert_key ks hashed =
      instances-cond (list_any (same_hashed v) ks) ks v
      ∙ ap (λ b. cond b (instances_of ks) (instances_of ks ++ v.version ∷ [])) (among ks hashed)

  hashed-cond : (b : Bool) (ks : List HashedVersion) → EachHashed seed ks
      → EachHashed seed (cond b ks (ks ++ v ∷ []))
  hashed-cond true ks hashed = hashed
  hashed-cond false ks hashed =
      map_push (λ k. k.hash) ks v ∙ ((λ i. hashed i ++ own i ∷ [])
      ∙ (sym (map_push (hash_by seed) (instances_of ks) v.version)
      ∙ ap (map (hash_by seed)) (sym (map_push (λ k. k.version) ks v))))

  -- each version has its hash after one is inserted
  pub hashed-insert_key : (ks : List HashedVersion) → EachHashed seed ks
      → EachHashed seed (insert_key same_hashed ks v)
  hashed-insert_key ks hashed = hashed-cond (list_any (same_hashed v) ks) ks hashed
