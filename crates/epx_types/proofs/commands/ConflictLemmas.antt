-- Two commands that do not conflict can be exchanged.
use Rattle.std.proofs.Common.{◌≡◌, ◌⊎◌, ℕ, List, Contains, sym, ◌∙◌, inl, inr}
use Rattle.std.specs.FinMap as contents
use Rattle.epx_types.specs.declared.op.Op.{Op}
use Rattle.epx_types.specs.Conflicts.{Conflict}
use Rattle.epx_types.specs.Contents.{Contents, AgreeOn}
use Rattle.epx_types.specs.Commands.{command_on}
use Rattle.epx_types.specs.CommandKeys.{touched_keys, written_keys}
use Rattle.epx_types.proofs.commands.ContentsLemmas.{Contents-extensional}
use Rattle.epx_types.proofs.commands.CommandLemmas.{written_keys-or_same, written_keys-touched}
use Rattle.epx_types.proofs.commands.CommandLemmas.{command_on-HasSameOutcome}

-- conflict is symmetric
pub Conflict-symm : (a b : List Op) → Conflict a b → Conflict b a
Conflict-symm a b (k, inl both) = (k, inr (both.1, both.0))
Conflict-symm a b (k, inr both) = (k, inl (both.1, both.0))

-- a key that a command does not write keeps its value
kept : (ops : List Op) (c : Contents) (q : List ℕ) → ¬ Contains (written_keys ops) q
    → contents.get (command_on ops c).after q ≡ contents.get c q
kept ops c q not_written = elim (written_keys-or_same ops c q)
    [ inl written ↦ absurd (not_written written) | inr same ↦ same ]

module _ (a b : List Op) (apart : ¬ Conflict a b) (c : Contents) where
  -- the keys that b touches keep their values when a is executed
  pub AgreeOn-touched_keys : AgreeOn (touched_keys b) (command_on a c).after c
  AgreeOn-touched_keys k touched = kept a c k (λ written. apart (k, inl (written, touched)))

  -- b has the same reply after a as without a
  pub reply-no_conflict : (command_on b (command_on a c).after).reply ≡ (command_on b c).reply
  reply-no_conflict = (command_on-HasSameOutcome b (command_on a c).after c AgreeOn-touched_keys).0

  -- a key that b writes has the same value in either order
  at_written : (q : List ℕ) → Contains (written_keys b) q
      → contents.get (command_on b (command_on a c).after).after q
      ≡ contents.get (command_on a (command_on b c).after).after q
  at_written q written =
      (command_on-HasSameOutcome b (command_on a c).after c AgreeOn-touched_keys).1 q
      (written_keys-touched b q written)
      ∙ sym (kept a (command_on b c).after q
      (λ other. apart (q, inr (written_keys-touched a q other, written))))

-- either order leaves the same contents
pub after-exchanged : (a b : List Op) → ¬ Conflict a b → (c : Contents)
    → (command_on b (command_on a c).after).after ≡ (command_on a (command_on b c).after).after
after-exchanged a b apart c =
    Contents-extensional _ _ (λ q. by q (written_keys-or_same b (command_on a c).after q)
    (written_keys-or_same a (command_on b c).after q) (written_keys-or_same a c q)
    (written_keys-or_same b c q))
  where
    turned : ¬ Conflict b a
    turned conflict = apart (Conflict-symm b a conflict)

    by : (q : List ℕ)
        → Contains (written_keys b) q
        ⊎ (contents.get (command_on b (command_on a c).after).after q
        ≡ contents.get (command_on a c).after q)
        → Contains (written_keys a) q
        ⊎ (contents.get (command_on a (command_on b c).after).after q
        ≡ contents.get (command_on b c).after q)
        → Contains (written_keys a) q ⊎ (contents.get (command_on a c).after q ≡ contents.get c q)
        → Contains (written_keys b) q ⊎ (contents.get (command_on b c).after q ≡ contents.get c q)
        → contents.get (command_on b (command_on a c).after).after q
        ≡ contents.get (command_on a (command_on b c).after).after q
    by q (inl written) second first' second' = at_written a b apart c q written
    by q (inr same) (inl written) first' second' = sym (at_written b a turned c q written)
    by q (inr same) (inr same') (inl written) second' = sym (at_written b a turned c q written)
    by q (inr same) (inr same') (inr kept_a) (inl written) = at_written a b apart c q written
    by q (inr same) (inr same') (inr kept_a) (inr kept_b) = same ∙ kept_a ∙ sym kept_b ∙ sym same'
