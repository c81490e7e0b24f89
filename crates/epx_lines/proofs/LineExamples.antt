-- Lines whose meaning is computed.
use Rattle.std.proofs.Common.{◌≡◌, pos, codes, [], ◌∷◌, Ok, Err, refl}
use Rattle.epx_types.proofs.Common.{Instance}
use Rattle.epx_types.specs.declared.op.Op.TheVariants.{Put, Get}
use Rattle.epx_types.specs.declared.fault.Why.TheVariants.{Seq}
use Rattle.epx_lines.specs.declared.Line.TheVariants.{Blank, Entry}
use Rattle.epx_lines.specs.Meaning.{meaning_of}
use Rattle.epx_lines.specs.Text.{line_text}
use Rattle.epx_lines.proofs.OnLiterals.{lines_on_literals}

-- a put and a get of one key
pub first_entry : Instance
first_entry = record {
  id = record { replica = 0; number = 0 };
  seq = 1;
  deps = [];
  ops = Put (codes "a") (pos 5) ∷ Get (codes "a") ∷ [];
}

pub meaning_of-put_and_get : meaning_of
    (codes "{\"r\":0,\"i\":0,\"seq\":1,\"deps\":[],\"ops\":[[\"put\",\"a\",5],[\"get\",\"a\"]]}")
    ≡ Ok (Entry first_entry)
unfolding lines_on_literals first_entry
meaning_of-put_and_get = refl

-- the line that is written for it
pub line_text-put_and_get : line_text first_entry
    ≡ codes "{\"deps\":[],\"i\":0,\"ops\":[[\"put\",\"a\",5],[\"get\",\"a\"]],\"r\":0,\"seq\":1}"
unfolding lines_on_literals first_entry
line_text-put_and_get = refl

-- a no-op with dependencies out of order, a repeat, and the instance itself among them
pub meaning_of-unsorted_deps : meaning_of
    (codes "{\"r\":2,\"i\":0,\"seq\":2,\"deps\":[[1,0],[0,7],[2,0],[1,0]],\"ops\":[]}")
    ≡ Ok (Entry (record {
      id = record { replica = 2; number = 0 };
      seq = 2;
      deps = record { replica = 0; number = 7 } ∷ record { replica = 1; number = 0 } ∷ [];
      ops = [];
    }))
unfolding lines_on_literals
meaning_of-unsorted_deps = refl

-- a sequence number with a fraction, before a bad list of operations
pub meaning_of-seq_with_fraction : meaning_of
    (codes "{\"r\":0,\"i\":0,\"seq\":1.0,\"deps\":[],\"ops\":7}") ≡ Err Seq
unfolding lines_on_literals
meaning_of-seq_with_fraction = refl

-- a tab and a carriage return
pub meaning_of-blank_line : meaning_of (9 ∷ 13 ∷ []) ≡ Ok Blank
meaning_of-blank_line = refl

-- an instance that was executed
pub meaning_of-executed : meaning_of
    (codes
    "{\"r\":0,\"i\":0,\"seq\":1,\"status\":\"executed\",\"deps\":[],\"ops\":[[\"put\",\"a\",5],[\"get\",\"a\"]]}") ≡ Ok (Entry first_entry)
unfolding lines_on_literals first_entry
meaning_of-executed = refl

-- an instance that is only accepted, with invalid dependencies
pub meaning_of-accepted : meaning_of
    (codes "{\"r\":0,\"i\":0,\"seq\":1,\"status\":\"accepted\",\"deps\":7,\"ops\":[]}") ≡ Ok Blank
unfolding lines_on_literals
meaning_of-accepted = refl
