-- What a ledger keeps of the lines noted in it: the first line of each instance, and the
-- disagreement of each instance whose lines differ.
use Rattle.std.specs.Prelude.{◌≡◌, ◌⊎◌, List, [], ◌∷◌, ◌++◌, map, Contains}
use Rattle.epx_types.specs.declared.id.Id.{Id}
use Rattle.epx_types.specs.PlacedLines.{Placed}
use Rattle.epx_types.specs.Agreement.{Differ}
use Rattle.epx_committed.specs.declared.ledger.Disagreement.{Disagreement}

-- what is seen of a ledger: each instance with its first line, and some with their disagreements
pub record LedgerView : Type 0 where
  pub firsts : List (Id × Placed)
  pub disagreements : List (Id × Disagreement)

-- p is the first of the lines for which P holds
abbrev pub IsFirstWhere : (Placed → Type 0) → List Placed → Placed → Type 0
IsFirstWhere P [] p = ⊥
IsFirstWhere P (q ∷ lines) p = ((q ≡ p) × P q) ⊎ ((¬ P q) × IsFirstWhere P lines p)

-- the line commits the instance x
abbrev pub IsLineOf : Id → Placed → Type 0
IsLineOf x p = p.instance.id ≡ x

-- the disagreement has the places of the first line of x and of the first line that differs from it
pub record IsDisagreementOf (lines : List Placed) (x : Id) (disagreement : Disagreement) : Type
    0 where
  pub first : Placed
  pub second : Placed
  pub opens : IsFirstWhere (IsLineOf x) lines first
  pub differs : IsFirstWhere (Differ first) lines second
  pub first_place : first.place ≡ disagreement.first
  pub second_place : second.place ≡ disagreement.second

-- What the ledger has of the lines. Each of their instances is there with its first line. An
-- instance whose lines differ has its disagreement, and no other has one.
pub record IsLedgerOf (lines : List Placed) (noted : LedgerView) : Type 0 where
  pub firsts : (x : Id) (p : Placed) → Contains noted.firsts (x, p)
      → IsFirstWhere (IsLineOf x) lines p
  pub whole : (p : Placed) → Contains lines p
      → Contains (map (λ e. e.0) noted.firsts) p.instance.id
  pub disagreements : (x : Id) (disagreement : Disagreement)
      → Contains noted.disagreements (x, disagreement) → IsDisagreementOf lines x disagreement
  pub alike : (x : Id) (p : Placed) → Contains noted.firsts (x, p)
      → ¬ Contains (map (λ e. e.0) noted.disagreements) x → (q : Placed) → Contains lines q
      → q.instance.id ≡ x → p.instance ≡ q.instance

-- for any lines that the old ledger has, as `IsLedgerOf` says, the new one has them followed by the
-- given lines
abbrev pub NotesLines : List Placed → LedgerView → LedgerView → Type 0
NotesLines lines old new = (done : List Placed) → IsLedgerOf done old
    → IsLedgerOf (done ++ lines) new
