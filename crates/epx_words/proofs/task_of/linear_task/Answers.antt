use Rattle.std.proofs.Common.{◌≡◌, ◌≤◌, codes, ℕ, List, Result, refl, subst, sym}
use Rattle.epx_types.proofs.Common.{IsSome, ParsesUnsigned}
use Rattle.std.specs.Str.Parse.{ExplainsUnsignedError, HasUnsignedDigitsIfOk}
use Rattle.std.specs.declared.num.ParseIntError.{ParseIntError}
use Rattle.clap.specs.Words.{found_of, one_of, rows_of}
use Rattle.epx_words.specs.SubcommandRows.{IsNumberOf, max_skew}
use Rattle.epx_words.proofs.NumberLemmas.{IsRead-from_number}
use Rattle.epx_words.proofs.task_of.linear_task.Goals as goal

abbrev ParsesU64 : List ℕ → Result ℕ ParseIntError → Type 0
ParsesU64 bs r = ParsesUnsigned 64 10 bs r × ExplainsUnsignedError 10 bs r
    × HasUnsignedDigitsIfOk bs r

pub unwrap-skew-requires : goal.unwrap-skew-requires
unwrap-skew-requires c =
    let read = IsRead-from_number ParseIntError ParsesU64 (λ u x g. g.0) 0 max_skew
    (found_of c.args.matches.now) (codes "skew") c.get_one.result c.get_one.ensures.value
    c.requires in
    subst IsSome (sym read.is) refl

pub returns-clause-rows : goal.returns-clause-rows
returns-clause-rows c =
    let read = IsRead-from_number ParseIntError ParsesU64 (λ u x g. g.0) 0 max_skew
    (found_of c.args.matches.now) (codes "skew") c.get_one.result c.get_one.ensures.value
    c.requires in
    let is : read.number ≡ c.unwrap-skew.result = cc in
    let rows = rows_of (found_of c.args.matches.now) in (
      subst (IsNumberOf (one_of (codes "skew") rows)) is read.means,
      subst (λ n. n ≤ max_skew) is read.most,
    )
