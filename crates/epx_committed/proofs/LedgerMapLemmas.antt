-- A ledger as the hash maps hold it: what a look-up finds.
use Rattle.std.proofs.Common.{◌≡◌, ◌≢◌, inl, inr, Bool, true, false, List, [], ◌∷◌, ◌++◌, Contains}
use Rattle.std.proofs.Common.{Option, None, Some, is_some, refl, sym, ap, subst, ◌∙◌}
use Rattle.epx_types.proofs.Common.{lookup, cases_Bool, Placed, Contains-nil, Contains-cons_cases}
use Rattle.epx_types.proofs.Common.{id_eq-Decides}
use Rattle.epx_types.specs.declared.id.Id.{Id}
use Rattle.std.proofs.lemmas.Map.Views.{Contains-from_lookup}
use Rattle.epx_types.specs.contracts.id.IdPartialEq.TheImpl as id_eq
use Rattle.epx_committed.specs.declared.ledger.Disagreement.{Disagreement}
use Rattle.epx_committed.specs.between.Ledgers.{LedgerView, NotesLines}
use Rattle.epx_committed.proofs.LedgerLemmas.{keys, Contains-keys, NotesLines-known}
use Rattle.epx_committed.proofs.LedgerLemmas.{NotesLines-disagreement}

-- `==` of Ids
abbrev pub same_id : Id → Id → Bool
same_id = id_eq.eq-value.it

module _ {V : Type 0} where
  -- a look-up finds an entry
  entry_found : (x : Id) (v : V) (es : List (Id × V)) → lookup (same_id x) es ≡ Some v
      → Contains es (x, v)
  entry_found x v es e =
      Contains-from_lookup {eq = same_id} (λ y z t. (id_eq-Decides y z).0 t) x v es
      e

  -- if it finds none there is no entry
  no_entry : (x : Id) (es : List (Id × V)) → lookup (same_id x) es ≡ None
      → ¬ Contains (keys es) x
  no_entry x [] none h = Contains-nil x h
  no_entry x (e ∷ es) none h =
      elim (cases_Bool (same_id x e.0)) [
        | inl here ↦ let found : Some e.1 ≡ None = rw here at none in cc
        | inr other ↦ elim (Contains-cons_cases e.0 (keys es) x h) [
          | inl same ↦ let tied = (id_eq-Decides x e.0).1 (sym same) in cc
          | inr rest ↦ no_entry x es (rw other at none) rest
        ]
      ]

  by_look_up : (x : Id) (es : List (Id × V)) (o : Option V) → lookup (same_id x) es ≡ o
      → is_some o ≡ true → Contains (keys es) x
  by_look_up x es None e t = absurd (cc t)
  by_look_up x es (Some v) e t = Contains-keys es x v (entry_found x v es e)

  key_found : (x : Id) (es : List (Id × V)) → is_some (lookup (same_id x) es) ≡ true
      → Contains (keys es) x
  key_found x es t = by_look_up x es (lookup (same_id x) es) refl t

  by_no_look_up : (x : Id) (es : List (Id × V)) (o : Option V) → lookup (same_id x) es ≡ o
      → is_some o ≡ false → ¬ Contains (keys es) x
  by_no_look_up x es None e t = no_entry x es e
  by_no_look_up x es (Some v) e t = absurd (cc t)

  pub Contains-lookup_fails : (x : Id) (es : List (Id × V))
      → is_some (lookup (same_id x) es) ≡ false
      → ¬ Contains (keys es) x
  Contains-lookup_fails x es t = by_no_look_up x es (lookup (same_id x) es) refl t

-- ---- one more line of an instance whose first line is known

module _ (firsts : List (Id × Placed)) (disagreements : List (Id × Disagreement))
    (line first : Placed) (known : Contains firsts (line.instance.id, first)) where
  abbrev noted : LedgerView
  noted = record { firsts = firsts; disagreements = disagreements }

  -- a line equal to the first line of its instance
  pub NotesLines-equal : first.instance ≡ line.instance → NotesLines (line ∷ []) noted noted
  NotesLines-equal same = NotesLines-known noted line first known (inl same)

  module _ (x : Id) (named : x ≡ line.instance.id) where
    -- a line of an instance that has a disagreement already
    pub NotesLines-disagreed : is_some (lookup (same_id x) disagreements) ≡ true
        → NotesLines (line ∷ []) noted noted
    NotesLines-disagreed disagreeing = NotesLines-known noted line first known
        (inr (subst (Contains (keys disagreements)) named (key_found x disagreements disagreeing)))

    -- a first disagreement is appended
    pub NotesLines-first_disagreed : (disagreement : Disagreement)
        (after : List (Id × Disagreement))
        → first.instance ≢ line.instance → is_some (lookup (same_id x) disagreements) ≡ false
        → disagreement.first ≡ first.place → disagreement.second ≡ line.place
        → after ≡ disagreements ++ (x, disagreement) ∷ []
        → NotesLines (line ∷ []) noted (record { firsts = firsts; disagreements = after })
    NotesLines-first_disagreed disagreement after differ none first_place second_place is =
        let end : after ≡ disagreements ++ (line.instance.id, disagreement) ∷ [] =
        is ∙ ap (λ (y : Id). disagreements ++ (y, disagreement) ∷ []) named in
        subst (λ (es : List (Id × Disagreement)). NotesLines (line ∷ []) noted
        (record { firsts = firsts; disagreements = es })) (sym end)
        (NotesLines-disagreement noted line first disagreement known differ
        (subst (λ (y : Id). ¬ Contains (keys disagreements) y) named
        (Contains-lookup_fails x disagreements none)) (sym first_place) (sym second_place))
