-- How many bytes are taken from each source.
use Rattle.std.proofs.Common.{◌≡◌, ℕ, zero, suc, List, [], ◌∷◌, length, get_or, set, Option, None}
use Rattle.std.proofs.Common.{Some, refl, sym, arith}
use Rattle.std.proofs.lemmas.List.Elements.{length_all_zip}
use Rattle.epx_devices.specs.Transfers.{ConsumesUpTo}
use Rattle.epx_merge.specs.SourceEndings.{EachConsumesUpTo}
use Rattle.epx_devices.specs.Models.{SourceModel}

pub ConsumesUpTo-refl : (n : ℕ) (bytes : Option (List ℕ)) → ConsumesUpTo bytes bytes n
ConsumesUpTo-refl n None = ([], tt, omega arith)
ConsumesUpTo-refl n (Some bytes) = ([], refl, omega arith)

module _ {S : Type 0} (D : SourceModel S) (n : ℕ) where
  pub EachConsumesUpTo-refl : (first : List S) → EachConsumesUpTo D first first n
  EachConsumesUpTo-refl [] = tt
  EachConsumesUpTo-refl (source ∷ first) =
      (ConsumesUpTo-refl n (D.remaining source), EachConsumesUpTo-refl first)

  pub length-consumed : (old new : List S) → EachConsumesUpTo D old new n
      → length new ≡ length old
  length-consumed old new h = sym (length_all_zip
      (λ before after. ConsumesUpTo (D.remaining before) (D.remaining after) n) old new h)

  pub EachConsumesUpTo-set : (first now : List S) (log : ℕ) (d later : S)
      → EachConsumesUpTo D first now n
      → ConsumesUpTo (D.remaining (get_or first log d)) (D.remaining later) n
      → EachConsumesUpTo D first (set now log later) n
  EachConsumesUpTo-set [] [] log d later h c = tt
  EachConsumesUpTo-set [] (x ∷ now) log d later h c = absurd h
  EachConsumesUpTo-set (x ∷ first) [] log d later h c = absurd h
  EachConsumesUpTo-set (x ∷ first) (y ∷ now) zero d later h c = (c, h.1)
  EachConsumesUpTo-set (x ∷ first) (y ∷ now) (suc log) d later h c =
      (h.0, EachConsumesUpTo-set first now log d later h.1 c)
