-- Lines read one after another: their instances, and the first bad line.
use Rattle.std.proofs.Common.{◌≡◌, Bool, true, false, List, [], ◌++◌, refl, sym, ap, subst, ◌∙◌}
use Rattle.std.proofs.lemmas.Grind.{flat_map-append}
use Rattle.epx_types.specs.declared.fault.Fault.{Fault}
use Rattle.epx_types.specs.declared.fault.Fault.TheVariants.{TooManyLogs, LogTooLong, BadLine}
use Rattle.epx_types.specs.declared.fault.Fault.TheVariants.{TooManyInstances, Disagree, Read}
use Rattle.epx_types.specs.declared.fault.Fault.TheVariants.{BadBase, Memory, Write}
use Rattle.epx_merge.specs.LogLines.{MeaningAt, placed_at}
use Rattle.epx_merge.specs.LogLines.{placed_among, BadLineAt, bad_lines_at, bad_lines_among}
use Rattle.epx_merge.specs.between.ReadFaults.{IsReadFault, refused_among}

pub placed_among-append : (xs ys : List MeaningAt)
    → placed_among (xs ++ ys) ≡ placed_among xs ++ placed_among ys
placed_among-append xs ys = flat_map-append (λ (l : MeaningAt). placed_at l.place l.meaning) xs ys

pub bad_lines_among-append : (xs ys : List MeaningAt)
    → bad_lines_among (xs ++ ys) ≡ bad_lines_among xs ++ bad_lines_among ys
bad_lines_among-append xs ys = flat_map-append (λ (l : MeaningAt). bad_lines_at l.place l.meaning)
    xs ys

-- lines after a bad one do not change the first fault
fault_before : (xs ys : List BadLineAt) (f : Fault) → IsReadFault xs f → IsReadFault (xs ++ ys) f
fault_before xs ys Memory h = h
fault_before xs ys TooManyLogs h = h
fault_before xs ys (LogTooLong log) h = h
fault_before xs ys (BadLine place why) h = (h.0 ++ ys, ap (λ l. l ++ ys) h.1)
fault_before xs ys TooManyInstances h = h
fault_before xs ys (Disagree id first second) h = h
fault_before xs ys (Read log) h = h
fault_before xs ys Write h = h
fault_before xs ys (BadBase line) h = h

-- a fault after clean lines, whatever lines follow
pub IsReadFault-after_clean : (xs ys zs all : List MeaningAt) (f : Fault) → bad_lines_among xs ≡ []
    → IsReadFault (bad_lines_among ys) f → xs ++ (ys ++ zs) ≡ all
    → IsReadFault (bad_lines_among all) f
IsReadFault-after_clean xs ys zs all f clean h is =
    let whole = bad_lines_among-append xs (ys ++ zs)
    ∙ ap (λ l. l ++ bad_lines_among (ys ++ zs)) clean ∙ bad_lines_among-append ys zs in
    let P : List BadLineAt → Type 0 = λ l. IsReadFault l f in
    subst P (ap bad_lines_among is)
    (subst P (sym whole) (fault_before (bad_lines_among ys) (bad_lines_among zs) f h))

-- the first refused one of some lines is that of more lines
pub IsReadFault-append : (refuses : Bool) (lines cut : List MeaningAt) (f : Fault)
    → IsReadFault (refused_among refuses lines) f
    → IsReadFault (refused_among refuses (lines ++ cut)) f
IsReadFault-append true lines cut f bad =
    IsReadFault-after_clean [] lines cut (lines ++ cut) f refl bad refl
IsReadFault-append false lines cut f bad = bad
