use Rattle.std.proofs.Common.{◌≡◌, ◌≤◌, codes, ℕ, List, Option, Some, Result, refl, subst, sym}
use Rattle.std.proofs.Common.{rules}
use Rattle.epx_types.proofs.Common.{IsSome, ParsesUnsigned, PlanNumbers}
use Rattle.std.specs.Option.{IfSome}
use Rattle.std.specs.Str.Parse.{ExplainsUnsignedError, HasUnsignedDigitsIfOk}
use Rattle.std.specs.declared.num.ParseIntError.{ParseIntError}
use Rattle.clap.specs.Words.{found_of, one_of, rows_of}
use Rattle.epx_words.specs.SubcommandRows.{IsNumberOf}
use Rattle.epx_words.proofs.NumberLemmas.{IsRead-from_number}
use Rattle.epx_words.proofs.read.plan_of.Goals as goal

abbrev ParsesUsize : List ℕ → Result ℕ ParseIntError → Type 0
ParsesUsize bs r = ParsesUnsigned 64 10 bs r × ExplainsUnsignedError 10 bs r
    × HasUnsignedDigitsIfOk bs r

pub unwrap-workers-requires : goal.unwrap-workers-requires
unwrap-workers-requires c =
    let read = IsRead-from_number ParseIntError ParsesUsize (λ u x g. g.0) 1 64
    (found_of c.args.matches.now) (codes "workers") c.get_one.result c.get_one.ensures.value
    c.requires.workers in
    subst IsSome (sym read.is) refl

pub unwrap-cut-requires : goal.unwrap-cut-requires
unwrap-cut-requires c =
    let read = IsRead-from_number ParseIntError ParsesUsize (λ u x g. g.0) 1 65536
    (found_of c.args.matches.now) (codes "cut") c.get_one-2.result c.get_one-2.ensures.value
    c.requires.cut in
    subst IsSome (sym read.is) refl

pub unwrap-requires : goal.unwrap-requires
unwrap-requires c =
    let workers = IsRead-from_number ParseIntError ParsesUsize (λ u x g. g.0) 1 64
    (found_of c.args.matches.now) (codes "workers") c.get_one.result c.get_one.ensures.value
    c.requires.workers in
    let cut = IsRead-from_number ParseIntError ParsesUsize (λ u x g. g.0) 1 65536
    (found_of c.args.matches.now) (codes "cut") c.get_one-2.result c.get_one-2.ensures.value
    c.requires.cut in
    let workers_is : workers.number ≡ c.unwrap-workers.result = cc in
    let cut_is : cut.number ≡ c.unwrap-cut.result = cc in
    c.new.ensures.fits.1 (record {
      some_worker = subst (λ n. 1 ≤ n) workers_is workers.least;
      few_workers = subst (λ n. n ≤ 64) workers_is workers.most;
      some_item = subst (λ n. 1 ≤ n) cut_is cut.least;
      few_items = subst (λ n. n ≤ 65536) cut_is cut.most;
    })

made_of : (made : Option PlanNumbers) (plan wanted : PlanNumbers) → made ≡ Some plan
    → IfSome made (λ p. p ≡ wanted) → plan ≡ wanted
made_of made plan wanted is h = subst (λ o. IfSome o (λ p. p ≡ wanted)) is h

pub returns-clause-workers : goal.returns-clause-workers
returns-clause-workers c =
    let read = IsRead-from_number ParseIntError ParsesUsize (λ u x g. g.0) 1 64
    (found_of c.args.matches.now) (codes "workers") c.get_one.result c.get_one.ensures.value
    c.requires.workers in
    let plan = made_of c.new.result c.unwrap.result _ (search rules) c.new.ensures.plan in
    let is : read.number ≡ c.unwrap.result.workers = cc in
    subst (IsNumberOf (one_of (codes "workers") (rows_of (found_of c.args.matches.now)))) is
    read.means

pub returns-clause-cut : goal.returns-clause-cut
returns-clause-cut c =
    let read = IsRead-from_number ParseIntError ParsesUsize (λ u x g. g.0) 1 65536
    (found_of c.args.matches.now) (codes "cut") c.get_one-2.result c.get_one-2.ensures.value
    c.requires.cut in
    let plan = made_of c.new.result c.unwrap.result _ (search rules) c.new.ensures.plan in
    let is : read.number ≡ c.unwrap.result.cut = cc in
    subst (IsNumberOf (one_of (codes "cut") (rows_of (found_of c.args.matches.now)))) is read.means
