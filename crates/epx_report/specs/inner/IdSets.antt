-- The parts of a set of Ids. Only private clauses use them.
use Rattle.std.specs.Prelude.{◌≡◌, false, List, Contains, fold}
use Rattle.std.specs.BTreeSet.{insert_key}
use Rattle.epx_types.specs.declared.id.Id.{Id}
use Rattle.epx_types.specs.Ids.{id_cmp, IsRising}
use Rattle.epx_report.specs.inner.Progress.{last, is_after_last}

-- the rising Ids, with the late ones inserted
abbrev pub with_late : List Id → List Id → List Id
with_late rising late = fold (insert_key id_cmp) rising late

-- the first Ids rise, and no late one is greater than all of them
pub record AreRisingAndLate (rising late : List Id) : Type 0 where
  pub rises : IsRising rising
  pub not_past : (x : Id) → Contains late x → is_after_last id_cmp (last rising) x ≡ false
