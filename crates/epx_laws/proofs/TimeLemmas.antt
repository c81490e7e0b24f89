-- Instances with lower sequence numbers come first.
use Rattle.std.proofs.Common.{◌≡◌, ◌<◌, ◌++◌, Bool, true, List, Contains, Less, nat_cmp, refl, inl}
use Rattle.std.proofs.Common.{inr}
use Rattle.epx_types.proofs.Common.{nat_cmp_is, Contains-append_left, Instance, Conflict, Before}
use Rattle.epx_types.proofs.Common.{IsLawful, IsLawfulPrefix, Reaches, Reaches-cases}
use Rattle.epx_types.proofs.Common.{IsReady-reached}
use Rattle.epx_types.specs.declared.id.Id.{Id}
use Rattle.epx_laws.specs.TimeLaws.{RespectsTime}
use Rattle.epx_laws.proofs.ReplicaLemmas.{Before-in_front}

-- an instance comes after each one that it reaches and that has a lower sequence number
pub Before-lower_seq : (m : List Instance) (ids : List Id) → IsLawful m ids → (d e : Instance)
    → Contains m d → Contains m e → Contains ids e.id → Reaches m e.id d.id → d.seq < e.seq
    → Before ids d.id e.id
Before-lower_seq m ids lawful d e in_d in_e h there l =
    elim (Reaches-cases m d.id e.id) [
      | inr not_back ↦ lawful.after_reached e.id d.id h there not_back
      | inl back ↦ lawful.by_sequence d.id e.id
          (lawful.whole d.id (IsReady-reached m e.id d.id there (lawful.only e.id h))) h
          (back, there)
          (record {
            first = d;
            second = e;
            first_in = in_d;
            first_is = refl;
            second_in = in_e;
            second_is = refl;
            lower = let less : Less ≡ nat_cmp d.seq e.seq = nat_cmp_is d.seq e.seq Less l in
                rw (← less) refl;
          })
    ]

-- so a prefix keeps the time that the map respects
pub Before-earlier : (m : List Instance) (earlier : Id → Id → Bool) → RespectsTime m earlier
    → (ids : List Id) → IsLawfulPrefix m ids → (d e : Instance) → Contains m d → Contains m e
    → Conflict d.ops e.ops → earlier d.id e.id ≡ true → Contains ids e.id → Before ids d.id e.id
Before-earlier m earlier respects ids (rest, lawful) d e in_d in_e conflict precedes h =
    let apart = respects d e in_d in_e conflict precedes in
    Before-in_front ids rest lawful.once d.id e.id
    (Before-lower_seq m (ids ++ rest) lawful d e in_d in_e (Contains-append_left ids rest e.id h)
    apart.0 apart.1)
    h
