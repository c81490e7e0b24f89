-- The shape of a clap command after each step of building it.
use Rattle.std.proofs.Common.{◌≡◌, ◌∙◌, ap, ap₂, true, false, not, is_some, Result}
use Rattle.std.specs.Prelude.{IfOk}
use Rattle.std.specs.declared.alloc.AllocError.{AllocError}
use Rattle.clap.specs.Words.{AddsArg, AddsSubcommand, App, Rule, app_of, rule_of, with_rule}
use Rattle.clap.specs.Words.{with_subcommand}
use Rattle.clap.specs.Walk.{is_empty, is_simple_arg}
use Rattle.clap.specs.declared.builder.arg.Arg.{Arg}
use Rattle.clap.specs.declared.builder.command.Command.{Command}
use Rattle.clap.proofs.SimpleLemmas.{is_false, plain_fields}
use Rattle.clap.proofs.WalkLemmas.{both}
use Rattle.epx_types.proofs.Common.{IfOk-at_ok}
use Rattle.epx_words.specs.inner.Making.{HasMade}

-- a simple argument is not global
simple_is_local : (a : Arg) → is_simple_arg a ≡ true → a.global ≡ false
simple_is_local a simple =
    let p = both (is_empty a.overrides.items) _ simple in
    let q = both (is_empty a.default_vals_ifs.items) _ p.1 in
    let r = both (is_empty a.groups.items) _ q.1 in
    let s = both (not (is_some a.val_delim)) _ r.1 in
    let t = both (not (is_some a.terminator)) _ s.1 in
    let u = both (not a.allow_hyphen_values) _ t.1 in
    let v = both (not a.allow_negative_numbers) _ u.1 in
    let w = both (not a.require_equals) _ v.1 in
    let x = both (not a.last) _ w.1 in
    is_false _ x.1

pub app_of-with_argument : (old new : Command) (a : Arg) (app : App) (rule : Rule)
    → AddsArg old a new
    → app_of old ≡ app → rule_of a ≡ rule → rule.is_simple ≡ true
    → app_of new ≡ with_rule app rule
app_of-with_argument old new a app rule added before is simple =
    added.shape (simple_is_local a (ap (λ (r : Rule). r.is_simple) is ∙ simple))
    ∙ ap₂ with_rule before is

pub app_of-with_command : (old sub new : Command) (app below : App) → AddsSubcommand old sub new
    → app_of old ≡ app → app_of sub ≡ below → below.top.is_plain ≡ true
    → app_of new ≡ with_subcommand app below.top
app_of-with_command old sub new app below added before is plain =
    added.shape (plain_fields sub (ap (λ (a : App). a.top.is_plain) is ∙ plain)).globals
    ∙ ap₂ with_subcommand before (ap (λ (a : App). a.top) is)

-- a program with a subcommand that was made
pub app_of-with_made : (old new : Command) (made : Result Command AllocError) (app below : App)
    → HasMade old made new → app_of old ≡ app → IfOk made (λ s. app_of s ≡ below)
    → below.top.is_plain ≡ true → app_of new ≡ with_subcommand app below.top
app_of-with_made old new made app below has before each plain =
    app_of-with_command old has.subcommand new app below has.added before
    (IfOk-at_ok (λ s. app_of s ≡ below) has.is_made each) plain
