use Rattle.std.proofs.Common.{◌≡◌, ◌⊎◌, inl, inr, ℕ, max, Some, None, set, refl, sym, ap, subst}
use Rattle.std.proofs.Common.{◌∙◌, arith}
use Rattle.epx_types.proofs.Common.{cases_lt, get_or_read}
use Rattle.epx_audit.specs.inner.PathCovers.{AreNotedPaths, greatest_on}
use Rattle.epx_audit.proofs.RowMergeLemmas.{AddsTo-set, AreNotedPaths-set, AreNotedPaths-push}
use Rattle.epx_audit.proofs.path_cover.RowMerge.note.Goals as goal

some_same : (a b : ℕ) → Some a ≡ Some b → a ≡ b
some_same a b h = cc

-- the greater of two numbers is one of them
greater : (a b : ℕ) → (max a b ≡ b) ⊎ (max a b ≡ a)
greater a b = elim (cases_lt a b) [
  | inl below ↦ inl (omega arith)
  | inr above ↦ inr (omega arith)
]

pub returns-in-Some-clause-adds : goal.returns-in-Some-clause-adds
returns-in-Some-clause-adds c =
    let greatest = c.args.self.now.greatest.items in
    let path = c.args.path in
    let noted : greatest_on greatest path ≡ Some c.in-Some.greatest =
    sym (get_or_read greatest path c.index.result.now c.requires.path c.index.ensures None)
    ∙ c.in-Some.is in
    let value : c.max.result ≡ max c.in-Some.greatest c.args.position = omega arith in
    AddsTo-set greatest path c.args.position c.max.result c.requires.path (omega (arith, value))
    (elim (greater c.in-Some.greatest c.args.position) [
      | inl new ↦ inl (value ∙ new)
      | inr old ↦ inr (noted ∙ ap Some (sym (value ∙ old)))
    ]) (λ e is. let same : e ≡ c.in-Some.greatest = some_same _ _ (sym is ∙ noted) in
    omega (arith, same, value))

pub returns-in-Some-clause-paths : goal.returns-in-Some-clause-paths
returns-in-Some-clause-paths c =
    let greatest = c.args.self.now.greatest.items in
    let path = c.args.path in
    let noted : greatest_on greatest path ≡ Some c.in-Some.greatest =
    sym (get_or_read greatest path c.index.result.now c.requires.path c.index.ensures None)
    ∙ c.in-Some.is in
    AreNotedPaths-set greatest c.args.self.now.paths.items path c.in-Some.greatest c.max.result
    c.requires.paths noted

pub returns-clause-adds : goal.returns-clause-adds
returns-clause-adds c =
    let greatest = c.args.self.now.greatest.items in
    let path = c.args.path in
    let read = get_or_read greatest path c.index.result.now c.requires.path c.index.ensures None in
    AddsTo-set greatest path c.args.position c.args.position c.requires.path (omega arith)
    (inl refl) (λ e is. absurd (c.in_default.not-Some e (read ∙ is)))

pub returns-clause-paths : goal.returns-clause-paths
returns-clause-paths c =
    subst (AreNotedPaths (set c.args.self.now.greatest.items c.args.path (Some c.args.position)))
    (sym c.in_ok-push.ensures.items)
    (AreNotedPaths-push c.args.self.now.greatest.items c.args.self.now.paths.items c.args.path
    c.args.position c.requires.paths c.requires.path)
