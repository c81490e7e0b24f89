use Rattle.std.proofs.Common.{◌≡◌, ◌∷◌, Some, None, arith}
use Rattle.json.specs.Token.{Token}
use Rattle.json.specs.Json.{read_key}
use Rattle.json.specs.Reads.{token_of}
use Rattle.json.proofs.Grammar.{read_key-shorter}
use Rattle.serde_json.specs.Data.{no_members}
use Rattle.epx_lines.specs.between.Tokens.{HoldsParts}
use Rattle.epx_lines.proofs.TokenValueLemmas.{ReadsValue-shorter, HasReadMembers-more}
use Rattle.epx_lines.proofs.TokenValueLemmas.{HasReadMembers-all, put_members, put_members-last}
use Rattle.epx_lines.proofs.from_tokens.take_parts.Goals as goal

pub loop-parts-smaller : goal.loop-parts-smaller
loop-parts-smaller c =
    let l = c.loop-parts in
    let named : read_key l.reader ≡ Some (Some c.in-Some.name.now, c.next_key.new.self) =
    grind arith in
    let added = c.in_ok-take_member.ensures in
    let less = read_key-shorter l.reader (Some c.in-Some.name.now) c.next_key.new.self named in
    omega (
      arith,
      less,
      ReadsValue-shorter 2 c.next_key.new.self added.0 c.take_member.new.reader
          added.1,
    )

pub loop-parts-preserved : goal.loop-parts-preserved
loop-parts-preserved c =
    let l = c.loop-parts in
    let k = c.in-Some.name.now in
    let named : read_key l.reader ≡ Some (Some k, c.next_key.new.self) = grind arith in
    let added = c.in_ok-take_member.ensures in
    HasReadMembers-more 2 c.next.new.self (λ ms. HoldsParts (put_members ms no_members) l.parts)
    (λ ms. HoldsParts (put_members ms no_members) c.take_member.new.parts) k added.0 l.reader
    c.next_key.new.self c.take_member.new.reader l.invariant named added.1
    (λ ms h. rw (put_members-last ms (k, added.0) no_members)
    (added.2 (put_members ms no_members) h))

pub returns : goal.returns
returns c =
    let l = c.loop-parts in
    let first : c.args.reader.now ≡ token_of c.in_ok-next.field-0 ∷ c.next.new.self =
    grind arith in
    let is : c.args.reader.now ≡ Token.begin_object ∷ c.next.new.self = grind (arith, first) in
    let end : read_key l.reader ≡ Some (None, c.next_key.new.self) = grind arith in
    let all = HasReadMembers-all 2 c.next.new.self
    (λ ms. HoldsParts (put_members ms no_members) l.parts) l.reader c.next_key.new.self
    l.invariant end in
    (put_members all.0 no_members, rw is all.2, all.1)
