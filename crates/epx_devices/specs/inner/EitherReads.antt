-- A read of a source of one of two types is one read.
use Rattle.epx_devices.specs.declared.either_source.EitherSource.TheVariants.{First, Second}
use Rattle.epx_devices.specs.EitherSources.{either_source}
use Rattle.epx_devices.specs.Models.{SourceModel}
use Rattle.epx_devices.specs.Reads.{AreOneReads}

-- if each read of both sources is one read, so is each read of a source of either type
pub either_is_one_read : {A B : Type 0} (a : SourceModel A) (b : SourceModel B)
    → AreOneReads a → AreOneReads b → AreOneReads (either_source a b)
either_is_one_read a b la lb (First s) room bytes (First t) h = la s room bytes t h
either_is_one_read a b la lb (Second s) room bytes (Second t) h = lb s room bytes t h
either_is_one_read a b la lb (First s) room bytes (Second t) h = absurd h
either_is_one_read a b la lb (Second s) room bytes (First t) h = absurd h
