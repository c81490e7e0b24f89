-- Each written line of a state says what it was written from.
use Rattle.std.proofs.Common.{◌≡◌, ℕ, ◌^◌, ◌<◌, ◌≤◌, nat_le, ℤ, true, List, [], ◌∷◌, codes}
use Rattle.std.proofs.Common.{Option, option_map, option_and_then, IsUtf8, Ok, refl, ap}
use Rattle.std.proofs.Common.{◌∙◌, arith, w64}
use Rattle.epx_types.proofs.Common.{nat_tests, FitsKey, Instance}
use Rattle.std.specs.Int.RustNames.{FitsSigned}
use Rattle.json.proofs.Printed.Utf8.{are_ascii, IsUtf8-are_ascii}
use Rattle.serde_json.specs.Data.{Data, string, depth}
use Rattle.serde_json.specs.Read.{max_depth}
use Rattle.serde_json.specs.View.{items_of}
use Rattle.serde_json.specs.Written.{compact_text}
use Rattle.epx_lines.specs.Elements.{list_of, elements}
use Rattle.epx_lines.specs.Meaning.{meaning_of}
use Rattle.epx_lines.specs.Text.{line_text}
use Rattle.epx_lines.specs.declared.Line.TheVariants.{Entry}
use Rattle.epx_lines.proofs.WrittenPartLemmas.{whole-fits, key_of-fits}
use Rattle.epx_lines.proofs.WrittenPartLemmas.{IsWritableValue-from_range}
use Rattle.epx_report.specs.ReportLines.{array_of, data_of_number, store_data}
use Rattle.epx_report.proofs.ReportFormLemmas.{IsPlain-store}
use Rattle.epx_report.proofs.WrittenDataLemmas.{IsPlain, IsWritable-unsigned, json_of-compact_text}
use Rattle.epx_executor.specs.declared.done_runs.Run.{Run}
use Rattle.epx_state.specs.declared.forms.StateCounts.{StateCounts}
use Rattle.epx_state.specs.StateForms.{state_data, run_data, of_line, counts_of_list}
use Rattle.epx_state.specs.StateForms.{run_of_list, pair_of_list, entry_of, counts_of_line}
use Rattle.epx_state.specs.StateForms.{run_of_line, entry_of_line, pair_of_line}
use Rattle.epx_state.specs.inner.WrittenLines.{AreReadCounts, IsReadEntry, IsReadPair, IsReadRun}

list_of-items_of : (ds : List Data) → list_of (items_of ds) ≡ ds
list_of-items_of [] = refl
list_of-items_of (d ∷ ds) = ap (λ es. d ∷ es) (list_of-items_of ds)

plain_number : (n : ℕ) → n < 2 ^ 64 → IsPlain (data_of_number n)
plain_number n l = IsWritable-unsigned n l

plain_name : (name : List ℕ) → are_ascii name ≡ true → IsPlain (string name)
plain_name name ascii = IsUtf8-are_ascii name ascii

-- a written array is read as the form of its elements
of_line-written : {A : Type 0} (form : List Data → Option A) (ds : List Data)
    → IsPlain (array_of ds) → depth (array_of ds) ≤ max_depth
    → of_line form (compact_text (array_of ds)) ≡ form ds
of_line-written form ds plain shallow =
    ap (λ o. option_and_then form (option_and_then elements o))
    (json_of-compact_text (array_of ds) plain shallow)
    ∙ ap form (list_of-items_of ds)

-- ---- the first line

plain_state : (c : StateCounts) → c.runs < 2 ^ 64 → c.waiting < 2 ^ 64 → c.stored < 2 ^ 64
    → IsPlain (array_of (state_data c))
plain_state c r w s = (
  plain_name (codes "state") refl,
  (
    plain_name (codes "runs") refl,
    (
      plain_number c.runs r,
      (
        plain_name (codes "waiting") refl,
        (
          plain_number c.waiting w,
          (plain_name (codes "store") refl, (plain_number c.stored s, tt)),
        ),
      ),
    ),
  ),
)

pub AreReadCounts-within : (c : StateCounts) → c.runs < 2 ^ 64 → c.waiting < 2 ^ 64
    → c.stored < 2 ^ 64 → AreReadCounts c
unfolding counts_of_line
AreReadCounts-within c r w s = record {
  read =
      of_line-written counts_of_list (state_data c) (plain_state c r w s) (omega arith)
      ∙ rw (
        whole-fits (2 ^ 64) c.runs r,
        whole-fits (2 ^ 64) c.waiting w,
        whole-fits (2 ^ 64) c.stored s,
      ) refl;
}

-- ---- runs

plain_run : (r : Run) → r.replica < 256 → r.first < 2 ^ 64 → r.last < 2 ^ 64
    → IsPlain (array_of (run_data r))
plain_run r replica first last = (
  plain_name (codes "runs") refl,
  (
    plain_number r.replica (omega (arith, replica)),
    (plain_number r.first first, (plain_number r.last last, tt)),
  ),
)

pub IsReadRun-within : (r : Run) → r.replica < 256 → r.first < 2 ^ 64 → r.last < 2 ^ 64
    → r.first ≤ r.last → IsReadRun r
unfolding run_of_line
IsReadRun-within r replica first last filled =
    let within : nat_le r.first r.last ≡ true = grind (arith, nat_tests) in record {
      read =
          of_line-written run_of_list (run_data r) (plain_run r replica first last)
          (omega arith)
          ∙ rw (
            whole-fits 256 r.replica replica,
            whole-fits (2 ^ 64) r.first first,
            whole-fits (2 ^ 64) r.last last,
            within,
          ) refl;
    }

-- ---- instances that wait

pub IsReadEntry-meaning : (e : Instance) → meaning_of (line_text e) ≡ Ok (Entry e) → IsReadEntry e
unfolding entry_of_line
IsReadEntry-meaning e means = record { read = ap entry_of means }

-- ---- the store

pub IsReadPair-fits : (k : List ℕ) (v : ℤ) → FitsKey k → IsUtf8 k → FitsSigned w64 v
    → IsReadPair (k, v)
unfolding pair_of_line
IsReadPair-fits k v key utf8 fits = record {
  read =
      of_line-written pair_of_list (store_data (k, v)) (IsPlain-store k v utf8 fits) (omega arith)
      ∙ rw (key_of-fits k key)
      (ap (option_map (λ value. (k, value))) (IsWritableValue-from_range v fits).reads);
}
