-- What a base holds.
use Rattle.std.specs.Prelude.{ℕ, List, refl}
use Rattle.std.specs.Coded.{Coded, code_by, coded×, coded_list, coded_ℕ, coded_ℤ}
use Rattle.std.specs.FinMap as contents
use Rattle.epx_types.specs.declared.id.Id.{Id}
use Rattle.epx_types.specs.Contents.{Contents}

-- the instances that are done, and the contents of the store
pub record DoneAndStored : Type 0 where
  pub done : List Id
  pub stored : Contents

-- an Id, coded as the pair of its replica and its number
abbrev pub id_code : Coded Id
id_code = code_by (ℕ × ℕ) (coded× coded_ℕ coded_ℕ) (λ x. (x.replica, x.number))
    (λ p. record { replica = p.0; number = p.1 }) (λ _. refl)

-- coded as the pair of its fields
abbrev pub done_and_stored_code : Coded DoneAndStored
done_and_stored_code =
    code_by (List Id × Contents)
    (coded× (coded_list id_code) (contents.code (coded_list coded_ℕ) coded_ℤ))
    (λ b. (b.done, b.stored)) (λ p. record { done = p.0; stored = p.1 }) (λ _. refl)
