-- What the reads of a source deliver, as its bytes are known or its file is opened.
use Rattle.std.proofs.Common.{◌≡◌, ℕ, List, [], ◌∷◌, ◌++◌, ◌<◌, flat_map, Option, None, Some, refl}
use Rattle.std.proofs.Common.{sym, subst, ap, ◌∙◌, append-nil, append_assoc, MatchOption}
use Rattle.epx_types.proofs.Common.{Consumes}
use Rattle.epx_devices.specs.Deliveries.{ReadStep, AreReads}
use Rattle.epx_devices.specs.DeliveryLaws.{AllAreReturned, AllAreTheKnown, DeliversOpened}
use Rattle.epx_devices.specs.DeliveryLaws.{FileReturnsAll, PathDeliversOpened}
use Rattle.epx_devices.specs.DeviceStates.{IsNextFile, PathState, ReaderState, file_opener}
use Rattle.epx_devices.specs.DeviceStates.{path_source, reader_source}
use Rattle.epx_devices.specs.Models.{OpenerModel, SourceModel}
use Rattle.epx_devices.specs.Reads.{AreOneReads}
use Rattle.epx_devices.proofs.KnownBytesLemmas.{Consumes-trans}
use Rattle.epx_devices.proofs.TransferLemmas.{IfSome-at_end, Consumes-nil}

module _ {S : Type 0} (D : SourceModel S) (law : AreOneReads D) where
  reads_consume : (first now : S) (steps : List (ReadStep S)) → AreReads D first steps now
      → Consumes (D.remaining first) (D.remaining now)
      (flat_map (λ (r : ReadStep S). r.bytes) steps)
  reads_consume first now [] h =
      subst (λ s. Consumes (D.remaining first) (D.remaining s) []) h
      (Consumes-nil (D.remaining first))
  reads_consume first now (r ∷ rest) h =
      Consumes-trans (D.remaining first) (D.remaining r.next) (D.remaining now) r.bytes _
      (law first r.room r.bytes r.next h.0).1 (reads_consume r.next now rest h.1)

  pub AllAreTheKnown-holds : AllAreTheKnown D
  AllAreTheKnown-holds first now bytes all =
      let last = law all.last all.room [] now all.ended in
      let sofar = subst (λ b. Consumes (D.remaining first) (D.remaining all.last) b)
      (sym all.before.returned)
      (reads_consume first all.last all.before.steps all.before.in_turn) in
      let whole = subst (λ b. Consumes (D.remaining first) (D.remaining now) b) (append-nil bytes)
      (Consumes-trans (D.remaining first) (D.remaining all.last) (D.remaining now) bytes [] sofar
      last.1) in
      IfSome-at_end (D.remaining first) (D.remaining now) bytes whole (last.2 refl all.has_room)

module _ {O F : Type 0} (opening : OpenerModel O F) (D : SourceModel F) where
  abbrev path : SourceModel (PathState O F)
  path = path_source opening D

  -- reads of one file, from this one on
  record FileReads (file : F) (now : Option F) (bytes : List ℕ) : Type 0 where
    steps : List (ReadStep F)
    last : F
    is_last : now ≡ Some last
    in_turn : AreReads D file steps last
    returned : bytes ≡ flat_map (λ (r : ReadStep F). r.bytes) steps

  same_file : (s : PathState O F) (file before : F) → s.file ≡ Some file
      → IsNextFile opening s before → file ≡ before
  same_file s file before is next =
      subst (λ f. MatchOption f (opening.opens s.opener s.path before) (λ first. first ≡ before))
      is next

  open_reads : (s : PathState O F) (file : F) → s.file ≡ Some file
      → (steps : List (ReadStep (PathState O F))) (now : PathState O F)
      → AreReads path s steps now
      → FileReads file now.file (flat_map (λ (r : ReadStep (PathState O F)). r.bytes) steps)
  open_reads s file is [] now h = record {
    steps = [];
    last = file;
    is_last = subst (λ (t : PathState O F). t.file ≡ Some file) h is;
    in_turn = refl;
    returned = refl;
  }
  open_reads s file is (r ∷ rest) now h =
      let before = h.0.1.0 in
      let after = h.0.1.1 in
      let later = open_reads r.next after h.0.1.3 rest now h.1 in
      let read = subst (λ f. D.reads f r.room r.bytes after)
      (sym (same_file s file before is h.0.1.2)) h.0.1.4 in
      let step : ReadStep F = record { room = r.room; bytes = r.bytes; next = after } in
      record {
        steps = step ∷ later.steps;
        last = later.last;
        is_last = later.is_last;
        in_turn = (read, later.in_turn);
        returned = ap (λ bs. r.bytes ++ bs) later.returned;
      }

  opened_now : (s : PathState O F) (file : F) → s.file ≡ None → IsNextFile opening s file
      → opening.opens s.opener s.path file
  opened_now s file closed next =
      subst (λ f. MatchOption f (opening.opens s.opener s.path file) (λ first. first ≡ file))
      closed next

  from_steps : (first now last : PathState O F) (room : ℕ) (bytes : List ℕ) → first.file ≡ None
      → (steps : List (ReadStep (PathState O F))) → AreReads path first steps last
      → bytes ≡ flat_map (λ (r : ReadStep (PathState O F)). r.bytes) steps
      → 0 < room → path.reads last room [] now
      → DeliversOpened opening D first.opener first.path now.file bytes
  from_steps first now last room bytes closed [] h returned has_room ended =
      let read = subst (λ (s : PathState O F). path.reads s room [] now) (sym h) ended in
      record {
        opened = read.1.0;
        at_path = opened_now first read.1.0 closed read.1.2;
        last = read.1.1;
        is_last = read.1.3;
        all = record {
          last = read.1.0;
          before = record { steps = []; in_turn = refl; returned = returned };
          room = room;
          has_room = has_room;
          ended = read.1.4;
        };
      }
  from_steps first now last room bytes closed (r ∷ rest) h returned has_room ended =
      let file = h.0.1.0 in
      let after = h.0.1.1 in
      let later = open_reads r.next after h.0.1.3 rest last h.1 in
      let step : ReadStep F = record { room = r.room; bytes = r.bytes; next = after } in
      let end = subst (λ f. D.reads f room [] ended.1.1)
      (sym (same_file last later.last ended.1.0 later.is_last ended.1.2)) ended.1.4 in
      record {
        opened = file;
        at_path = opened_now first file closed h.0.1.2;
        last = ended.1.1;
        is_last = ended.1.3;
        all = record {
          last = later.last;
          before = record {
            steps = step ∷ later.steps;
            in_turn = (h.0.1.4, later.in_turn);
            returned = returned ∙ ap (λ bs. r.bytes ++ bs) later.returned;
          };
          room = room;
          has_room = has_room;
          ended = end;
        };
      }

  pub PathDeliversOpened-holds : PathDeliversOpened opening D
  PathDeliversOpened-holds first now bytes closed all =
      from_steps first now all.last all.room bytes closed all.before.steps all.before.in_turn
      all.before.returned all.has_room all.ended

module _ {R : Type 0} (remaining : R → Option (List ℕ)) where
  reads_return : (first now : ReaderState R) (steps : List (ReadStep (ReaderState R)))
      → AreReads (reader_source remaining) first steps now
      → now.returned ≡ first.returned ++ flat_map (λ (r : ReadStep (ReaderState R)). r.bytes) steps
  reads_return first now [] h =
      ap (λ (s : ReaderState R). s.returned) (sym h) ∙ sym (append-nil first.returned)
  reads_return first now (r ∷ rest) h =
      let later = flat_map (λ (r : ReadStep (ReaderState R)). r.bytes) rest in
      reads_return r.next now rest h.1 ∙ ap (λ bs. bs ++ later) h.0.1
      ∙ append_assoc first.returned r.bytes later

  pub AllAreReturned-reader : AllAreReturned (reader_source remaining)
  AllAreReturned-reader first now bytes all =
      all.ended.1 ∙ append-nil all.last.returned
      ∙ reads_return first all.last all.before.steps all.before.in_turn
      ∙ ap (λ bs. first.returned ++ bs) (sym all.before.returned)

  pub FileReturnsAll-reader : {O : Type 0} → FileReturnsAll {O = O} {F = R}
      (path_source file_opener (reader_source remaining))
  FileReturnsAll-reader first now bytes closed all =
      let from = PathDeliversOpened-holds file_opener (reader_source remaining) first now bytes
      closed all in
      let whole = AllAreReturned-reader from.opened from.last bytes from.all in
      (from.last, from.is_last, whole ∙ ap (λ bs. bs ++ bytes) from.at_path.0)
