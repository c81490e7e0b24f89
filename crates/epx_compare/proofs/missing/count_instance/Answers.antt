use Rattle.std.proofs.Common.{◌∙◌, ◌↔◌, ◌+◌, List, Contains, subst₂, sym, ap, if◌then◌else◌}
use Rattle.epx_types.proofs.Common.{on_ok_weaker, Instance}
use Rattle.epx_types.specs.declared.id.Id.{Id}
use Rattle.epx_compare.specs.inner.MissingCounts.{with_one, is_missing, deps_at_numbers}
use Rattle.epx_compare.proofs.DependencyLemmas.{is_missing-same_elements}
use Rattle.epx_compare.proofs.MissingCountLemmas.{AreCounts-agree}
use Rattle.epx_compare.proofs.missing.count_instance.Goals as goal

pub returns : goal.returns
returns c =
    let keys : List Instance = c.args.catalog.now.noted.versions.keys in
    let ids : List Id = c.args.catalog.now.ids in
    let all : List Id = deps_at_numbers keys c.args.numbers.now in
    let deps : List Id = c.deref-2.result.now in
    let same : (x : Id) → Contains deps x ↔ Contains all x =
    λ x. subst₂ (λ (l m : List Id). Contains l x ↔ Contains m x) (sym c.deref-2.ensures.value)
    (c.deref.ensures.value ∙ c.in_ok-gathered.ensures) (c.in_ok-deps.ensures.exact x) in
    on_ok_weaker c.count_missing-2.result (λ more counted counts. AreCounts-agree
    (with_one (is_missing ids deps) counted) (with_one (is_missing ids all) counted)
    c.count_missing-2.new.counts.entries
    (λ x. ap (λ b. if b then counted x + 1 else counted x)
    (is_missing-same_elements ids deps all same x))
    (more counted counts)) c.count_missing-2.ensures
