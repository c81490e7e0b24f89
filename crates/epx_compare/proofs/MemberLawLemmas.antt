-- A member is named exactly if it is not equal in two of the lines.
use Rattle.std.proofs.Common.{◌≡◌, ◌≢◌, ◌∙◌, Bool, true, false, not, List, refl, sym, ap}
use Rattle.epx_types.proofs.Common.{Decides, list_any, Instance, Placed}
use Rattle.epx_versions.specs.SameInstances.{same_seq, same_deps, same_ops}
use Rattle.epx_versions.specs.inner.EqualVersions.{same_seq-decides, same_deps-decides}
use Rattle.epx_versions.specs.inner.EqualVersions.{same_ops-decides}
use Rattle.epx_compare.specs.Differences.{some_differ}
use Rattle.epx_compare.specs.GroupLaws.{MembersAreOfTheDifferent, TwoDiffer}
use Rattle.epx_compare.proofs.MemberLemmas.{list_any-found, list_any-from}

module _ {A : Type 0} (same : Instance → Instance → Bool) (part : Instance → A)
    (decides : (d e : Instance) → Decides (same d e) (part d ≡ part e)) (lines : List Placed) where
  abbrev differs : Placed → Placed → Bool
  differs p q = not (same p.instance q.instance)

  two_differ : some_differ same lines ≡ true → TwoDiffer part lines
  two_differ some =
      let p = list_any-found (λ (p : Placed). list_any (differs p) lines) lines some in
      let q = list_any-found (differs p.0) lines p.2 in (
        p.0,
        q.0,
        p.1,
        q.1,
        λ equal. let yes = (decides p.0.instance q.0.instance).1 equal in
            absurd (cc (ap not (sym yes) ∙ q.2)),
      )

  not_same : (p q : Placed) → part p.instance ≢ part q.instance → (b : Bool)
      → same p.instance q.instance ≡ b → not b ≡ true
  not_same p q other true is = absurd (other ((decides p.instance q.instance).0 is))
  not_same p q other false is = refl

  some_differs : TwoDiffer part lines → some_differ same lines ≡ true
  some_differs (p, q, first, second, other) =
      let here = list_any-from (differs p) lines q second (not_same p q other _ refl) in
      list_any-from (λ (p : Placed). list_any (differs p) lines) lines p first here

pub MembersAreOfTheDifferent-holds : MembersAreOfTheDifferent
MembersAreOfTheDifferent-holds = record {
  seq = λ lines. (
    two_differ same_seq (λ e. e.seq) same_seq-decides lines,
    some_differs same_seq (λ e. e.seq) same_seq-decides lines,
  );
  deps = λ lines. (
    two_differ same_deps (λ e. e.deps) same_deps-decides lines,
    some_differs same_deps (λ e. e.deps) same_deps-decides lines,
  );
  ops = λ lines. (
    two_differ same_ops (λ e. e.ops) same_ops-decides lines,
    some_differs same_ops (λ e. e.ops) same_ops-decides lines,
  );
}
