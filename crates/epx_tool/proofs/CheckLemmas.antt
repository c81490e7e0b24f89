-- What a list and a committed map are answered with is a verdict on the instances that the list
-- names. So is what a list and logs are answered with.
use Rattle.std.proofs.Common.{◌≡◌, ◌⊎◌, ℕ, List, subst, inl, inr}
use Rattle.epx_types.proofs.Common.{IsRising, Instance, ids_of}
use Rattle.epx_types.specs.declared.id.Id.{Id}
use Rattle.epx_merge.specs.Acceptance.{IsAccepted}
use Rattle.epx_merge.proofs.UniquenessLemmas.{IsAccepted-is_unique}
use Rattle.epx_report.specs.Lists.{IsList, IsBadList}
use Rattle.epx_report.proofs.ListLemmas.{ListOrBadList-holds, ListIsNoBadList-holds}
use Rattle.epx_report.proofs.ListLemmas.{ListNamesOneList-holds}

-- `Is` is a kind of verdict
module _ (Is : List Instance → List Id → List ℕ → Type 0) (list : List ℕ) where
  abbrev pub IsTextBy : List Instance → List ℕ → Type 0
  IsTextBy m text = (ids : List Id) × IsList list ids × Is m ids text

  pub IsBadList-not_list : (m : List Instance) (text : List ℕ) (line : ℕ) → IsTextBy m text
      → ¬ IsBadList list line
  IsBadList-not_list m text line p = ListIsNoBadList-holds list p.0 line p.1

  pub IsTextBy-or_bad : ((m : List Instance) (ids : List Id) → IsRising (ids_of m)
      → (text : List ℕ) × Is m ids text)
      → ((m : List Instance) → IsRising (ids_of m) → (text : List ℕ) × IsTextBy m text)
      ⊎ ((line : ℕ) × IsBadList list line)
  IsTextBy-or_bad exists =
      elim (ListOrBadList-holds list) [
        | inl is ↦ inl (λ m rising. let text = exists m is.0 rising in
            (text.0, (is.0, is.1, text.1)))
        | inr bad ↦ inr bad
      ]

  pub verdict-of_list : (ids : List Id) → IsList list ids → (m : List Instance) (text : List ℕ)
      → IsTextBy m text → Is m ids text
  verdict-of_list ids is m text p =
      subst (λ (xs : List Id). Is m xs text) (ListNamesOneList-holds list p.0 ids p.1 is) p.2

  pub IsTextBy-is_unique :
      ((m : List Instance) (ids : List Id) (text other : List ℕ) → Is m ids text
      → Is m ids other → text ≡ other) → (m : List Instance) (text other : List ℕ)
      → IsTextBy m text → IsTextBy m other → text ≡ other
  IsTextBy-is_unique one m text other p q =
      one m q.0 text other (verdict-of_list q.0 q.1 m text p) q.2

  pub verdict-of_logs : (ids : List Id) → IsList list ids → (logs : List (List ℕ))
      → (m : List Instance) → IsAccepted logs m → (text : List ℕ)
      → (n : List Instance) × IsAccepted logs n × IsTextBy n text → Is m ids text
  verdict-of_logs ids is logs m accepted text said =
      subst (λ (n : List Instance). Is n ids text)
      (IsAccepted-is_unique logs said.0 m said.1 accepted)
      (verdict-of_list ids is said.0 text said.2)
