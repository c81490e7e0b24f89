-- Faults: the number, the exit status and the text of each.
use Rattle.std.specs.Prelude.{ℕ, List, ◌++◌, codes, decimal}
use Rattle.epx_types.specs.declared.fault.Why.{Why}
use Rattle.epx_types.specs.declared.fault.Why.TheVariants.{TooLong, NotJson, NotObject, Replica}
use Rattle.epx_types.specs.declared.fault.Why.TheVariants.{Number, Seq, Status, Deps, Ops}
use Rattle.epx_types.specs.declared.fault.Fault.{Fault}
use Rattle.epx_types.specs.declared.fault.Fault.TheVariants.{Memory, TooManyLogs, LogTooLong}
use Rattle.epx_types.specs.declared.fault.Fault.TheVariants.{BadLine, TooManyInstances, Disagree}
use Rattle.epx_types.specs.declared.fault.Fault.TheVariants.{Read, Write, BadBase}
use Rattle.epx_types.specs.declared.id.Id.{Id}
use Rattle.epx_types.specs.declared.place.Place.{Place}

-- the fault of a run that ran out of memory, which says nothing of the logs
abbrev pub out_of_memory : Fault
out_of_memory = Memory

-- the number in the text of a fault, from 1 to 9 in this order: `Memory`, `TooManyLogs`,
-- `LogTooLong`, `BadLine`, `TooManyInstances`, `Disagree`, `Read`, `Write`, `BadBase`
abbrev pub fault_number : Fault → ℕ
fault_number Memory = 1
fault_number TooManyLogs = 2
fault_number (LogTooLong log) = 3
fault_number (BadLine place why) = 4
fault_number TooManyInstances = 5
fault_number (Disagree id first second) = 6
fault_number (Read log) = 7
fault_number Write = 8
fault_number (BadBase line) = 9

-- the exit status for a fault: 3 if memory ran out, 4 if a read or a write failed, and 1 for the
-- faults of the logs and the base
abbrev pub fault_status : Fault → ℕ
fault_status Memory = 3
fault_status TooManyLogs = 1
fault_status (LogTooLong log) = 1
fault_status (BadLine place why) = 1
fault_status TooManyInstances = 1
fault_status (Disagree id first second) = 1
fault_status (Read log) = 4
fault_status Write = 4
fault_status (BadBase line) = 1

-- the reason why a line is bad, as faults and comparisons print it: the name of its variant of
-- `Why`, as in `NotJson`
abbrev pub why_text : Why → List ℕ
why_text TooLong = codes "TooLong"
why_text NotJson = codes "NotJson"
why_text NotObject = codes "NotObject"
why_text Replica = codes "Replica"
why_text Number = codes "Number"
why_text Seq = codes "Seq"
why_text Status = codes "Status"
why_text Deps = codes "Deps"
why_text Ops = codes "Ops"

-- the name of an instance: replica, dot and number in decimal, as in `0.7`
abbrev pub id_text : Id → List ℕ
id_text x = decimal x.replica ++ codes "." ++ decimal x.number

-- the name of a place, as in `log 0 line 3`; logs count from 0 and lines from 1
abbrev pub place_text : Place → List ℕ
place_text p = codes "log " ++ decimal p.log ++ codes " line " ++ decimal p.line

-- the line that the program prints for a fault, byte for byte, without its line feed, as in
-- `epx: fault 1: out of memory`
abbrev pub fault_text : Fault → List ℕ
fault_text Memory = codes "epx: fault 1: out of memory"
fault_text TooManyLogs = codes "epx: fault 2: more than 64 logs"
fault_text (LogTooLong log) = codes "epx: fault 3: log " ++ decimal log
    ++ codes " is longer than 67108864 bytes"
fault_text (BadLine place why) = codes "epx: fault 4: " ++ place_text place ++ codes ": "
    ++ why_text why
fault_text TooManyInstances = codes "epx: fault 5: more than 1048576 instances"
fault_text (Disagree id first second) = codes "epx: fault 6: instance " ++ id_text id
    ++ codes " differs between " ++ place_text first ++ codes " and " ++ place_text second
fault_text (Read log) = codes "epx: fault 7: log " ++ decimal log ++ codes " can not be read"
fault_text Write = codes "epx: fault 8: the answer can not be written"
fault_text (BadBase line) = codes "epx: fault 9: base line " ++ decimal line
    ++ codes " is not as it must be"
