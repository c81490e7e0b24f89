-- A number in its range is read as the value of its text.
use Rattle.std.proofs.Common.{◌≡◌, ◌≤◌, ℕ, List, Option, Some, None, Result, Ok, Err, refl}
use Rattle.epx_types.proofs.Common.{ParsesUnsigned}
use Rattle.clap.specs.Matches.{ReadsOne, one_text}
use Rattle.clap.specs.Values.{IsUnsignedIn}
use Rattle.clap.specs.Walk.{Text, one_of, rows_of}
use Rattle.clap.specs.declared.parser.matches.Found.{Found}
use Rattle.clap.proofs.WalkLemmas.{one_text-rows}
use Rattle.epx_words.specs.SubcommandRows.{IsNumberIn, IsNumberOf}

pub record IsRead (low high : ℕ) (text : Option Text) (read : Option ℕ) : Type 0 where
  pub number : ℕ
  pub is : read ≡ Some number
  pub least : low ≤ number
  pub most : number ≤ high
  pub means : IsNumberOf text number

module _ (E : Type 0) (G : List ℕ → Result ℕ E → Type 0)
    (parses : (u : List ℕ) (x : Result ℕ E) → G u x → ParsesUnsigned 64 10 u x) where
  text_read : (least most : ℕ) (t : Text) (r : Option ℕ) → ReadsOne G t r
      → IsUnsignedIn least most t → IsRead least most (Some t) r
  text_read least most t (Some v) read passed =
      let parsed = parses t (Ok v) read in
      record {
        number = v;
        is = refl;
        least = rw parsed.1 passed.2;
        most = rw parsed.1 passed.3;
        means = (passed.0, parsed.1);
      }
  text_read least most t None read passed =
      absurd (parses t (Err read.0) read.1 (passed.0, passed.1))

  pub IsRead-from_number : (least most : ℕ) (f : Found) (id : Text) (r : Option ℕ)
      → ((t : Text) → one_text f id ≡ Some t → ReadsOne G t r)
      → IsNumberIn least most (one_of id (rows_of f))
      → IsRead least most (one_of id (rows_of f)) r
  IsRead-from_number least most f id r reads passed =
      go (one_of id (rows_of f)) (one_text-rows f id) passed
    where
      go : (o : Option Text) → one_text f id ≡ o → IsNumberIn least most o
          → IsRead least most o r
      go None is none = absurd none
      go (Some t) is ok = text_read least most t r (reads t is) ok
