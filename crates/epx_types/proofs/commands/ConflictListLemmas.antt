-- Lists of commands that do not conflict: one command can move past others, and all can be
-- executed over the same contents.
use Rattle.std.proofs.Common.{◌≡◌, ◌≢◌, ◌∙◌, List, [], ◌∷◌, ◌++◌, map, flat_map, Contains, refl}
use Rattle.std.proofs.Common.{sym, ap, ap₂, subst, inl, inr, arith}
use Rattle.std.proofs.lemmas.List.Elements.{Contains-append_cases}
use Rattle.epx_types.specs.declared.op.Op.{Op}
use Rattle.epx_types.specs.Conflicts.{NoConflictWith, NoneConflict}
use Rattle.epx_types.specs.Contents.{Contents}
use Rattle.epx_types.specs.Commands.{command_on}
use Rattle.epx_types.specs.CommandKeys.{written_keys}
use Rattle.epx_types.specs.Execution.{execute}
use Rattle.epx_types.specs.Writes.{Write, writes_of, apply_writes, HasDistinctKeys}
use Rattle.epx_types.proofs.lists.MembershipLemmas.{Contains-nil, Contains-head, Contains-cons}
use Rattle.epx_types.proofs.lists.ListPositionLemmas.{AllPairs-append}
use Rattle.epx_types.proofs.commands.ConflictLemmas.{Conflict-symm, reply-no_conflict}
use Rattle.epx_types.proofs.commands.ConflictLemmas.{after-exchanged, AgreeOn-touched_keys}
use Rattle.epx_types.proofs.commands.CommandLemmas.{apply_writes-writes_of, writes_of-written}
use Rattle.epx_types.proofs.commands.CommandLemmas.{writes_of-distinct, writes_of-alike}
use Rattle.epx_types.proofs.commands.CommandLemmas.{written_keys-touched}
use Rattle.epx_types.proofs.commands.ExecutionLemmas.{execute-append}
use Rattle.epx_types.proofs.commands.WriteLemmas.{apply_writes-append}

-- ---- one command and others with which it does not conflict

module _ (a : List Op) where
  -- the others have the same replies after a as without a
  pub replies-past : (others : List (List Op)) → NoConflictWith a others → (c : Contents)
      → (execute others (command_on a c).after).replies ≡ (execute others c).replies
  replies-past [] apart c = refl
  replies-past (b ∷ others) apart c =
      let clear = apart b (Contains-head b others) in
      ap₂ (λ r rs. r ∷ rs) (reply-no_conflict a b clear c)
      (ap (λ d. (execute others d).replies) (after-exchanged a b clear c) ∙ replies-past others
      (λ d h. apart d (Contains-cons b others d h)) (command_on b c).after)

  -- a before the others leaves the same contents as a after them
  pub final-past : (others : List (List Op)) → NoConflictWith a others → (c : Contents)
      → (execute others (command_on a c).after).final
      ≡ (command_on a (execute others c).final).after
  final-past [] apart c = refl
  final-past (b ∷ others) apart c =
      ap (λ d. (execute others d).final) (after-exchanged a b (apart b (Contains-head b others)) c)
      ∙ final-past others (λ d h. apart d (Contains-cons b others d h)) (command_on b c).after

  -- and a has the same reply after them
  pub reply-past : (others : List (List Op)) → NoConflictWith a others → (c : Contents)
      → (command_on a (execute others c).final).reply ≡ (command_on a c).reply
  reply-past [] apart c = refl
  reply-past (b ∷ others) apart c =
      reply-past others (λ d h. apart d (Contains-cons b others d h)) (command_on b c).after
      ∙ reply-no_conflict b a
      (λ conflict. apart b (Contains-head b others) (Conflict-symm b a conflict)) c

  -- moving a to the front leaves the same contents
  pub final-front : (front rest : List (List Op)) → NoConflictWith a front → (c : Contents)
      → (execute (front ++ a ∷ rest) c).final
      ≡ (execute (front ++ rest) (command_on a c).after).final
  final-front front rest apart c =
      (execute-append front (a ∷ rest) c).1
      ∙ ap (λ d. (execute rest d).final) (sym (final-past front apart c))
      ∙ sym (execute-append front rest (command_on a c).after).1

  -- and each command has the same reply
  pub replies-front : (front rest : List (List Op)) → NoConflictWith a front → (c : Contents)
      → (execute (front ++ a ∷ rest) c).replies ≡ (execute front (command_on a c).after).replies
      ++ (command_on a c).reply
      ∷ (execute rest (execute front (command_on a c).after).final).replies
  replies-front front rest apart c =
      (execute-append front (a ∷ rest) c).0
      ∙ ap₂ (λ rs r. rs ++ r ∷ (execute rest (command_on a (execute front c).final).after).replies)
      (sym (replies-past front apart c)) (reply-past front apart c)
      ∙ ap (λ d. (execute front (command_on a c).after).replies ++ (command_on a c).reply
      ∷ (execute rest d).replies) (sym (final-past front apart c))

-- ---- commands of which no two conflict

-- the writes of commands, each over the same contents
abbrev pub writes_over : List (List Op) → Contents → List Write
writes_over commands c = flat_map (λ ops. writes_of ops c) commands

-- after one of them the others have the same replies
replies-over_after : (a : List Op) (others : List (List Op)) → NoConflictWith a others
    → (c : Contents) → map (λ ops. (command_on ops (command_on a c).after).reply) others
    ≡ map (λ ops. (command_on ops c).reply) others
replies-over_after a [] apart c = refl
replies-over_after a (b ∷ others) apart c =
    ap₂ (λ r rs. r ∷ rs) (reply-no_conflict a b (apart b (Contains-head b others)) c)
    (replies-over_after a others (λ d h. apart d (Contains-cons b others d h)) c)

-- and the same writes
writes_over-after : (a : List Op) (others : List (List Op)) → NoConflictWith a others
    → (c : Contents) → writes_over others (command_on a c).after ≡ writes_over others c
writes_over-after a [] apart c = refl
writes_over-after a (b ∷ others) apart c =
    ap₂ (λ ws vs. ws ++ vs)
    (writes_of-alike b (command_on a c).after c
    (AgreeOn-touched_keys a b (apart b (Contains-head b others)) c))
    (writes_over-after a others (λ d h. apart d (Contains-cons b others d h)) c)

-- each has the reply that it has over the initial contents
pub replies-none_conflict : (commands : List (List Op)) → NoneConflict commands → (c : Contents)
    → (execute commands c).replies ≡ map (λ ops. (command_on ops c).reply) commands
replies-none_conflict [] apart c = refl
replies-none_conflict (a ∷ others) apart c =
    ap (λ rs. (command_on a c).reply ∷ rs)
    (replies-none_conflict others apart.1 (command_on a c).after
    ∙ replies-over_after a others apart.0 c)

-- and applying all their writes leaves the contents that executing them leaves
pub final-none_conflict : (commands : List (List Op)) → NoneConflict commands → (c : Contents)
    → (execute commands c).final ≡ apply_writes (writes_over commands c) c
final-none_conflict [] apart c = refl
final-none_conflict (a ∷ others) apart c =
    final-none_conflict others apart.1 (command_on a c).after
    ∙ ap₂ apply_writes (writes_over-after a others apart.0 c) (sym (apply_writes-writes_of a c))
    ∙ sym (apply_writes-append (writes_of a c) (writes_over others c) c)

-- the keys of these writes are keys that some command writes
writes_over-written : (commands : List (List Op)) (c : Contents) (w : Write)
    → Contains (writes_over commands c) w → (ops : List Op) × Contains commands ops
    × Contains (written_keys ops) w.0
writes_over-written [] c w h = absurd (Contains-nil w h)
writes_over-written (a ∷ others) c w h =
    elim (Contains-append_cases (writes_of a c) (writes_over others c) w h) [
      | inl first ↦ (a, Contains-head a others, writes_of-written a c w first)
      | inr rest ↦ let on = writes_over-written others c w rest in
          (on.0, Contains-cons a others on.0 on.1, on.2)
    ]

-- no key is written twice
pub distinct_keys-none_conflict : (commands : List (List Op)) → NoneConflict commands
    → (c : Contents) → HasDistinctKeys (writes_over commands c)
distinct_keys-none_conflict [] apart c = λ i j d l k. absurd (omega arith)
distinct_keys-none_conflict (a ∷ others) apart c =
    AllPairs-append (λ v w. v.0 ≢ w.0) (writes_of a c) (writes_over others c)
    (writes_of-distinct a c) (distinct_keys-none_conflict others apart.1 c)
    (λ v w first rest same.
    let b = writes_over-written others c w rest in
    let mine = subst (Contains (written_keys a)) same (writes_of-written a c v first) in
    apart.0 b.0 b.1 (w.0, inl (mine, written_keys-touched b.0 w.0 b.2)))
