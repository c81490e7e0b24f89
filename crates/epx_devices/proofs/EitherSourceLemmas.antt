-- Reads of a source of one of two types are reads of a source of that type.
use Rattle.std.proofs.Common.{◌≡◌, ℕ, List, [], ◌∷◌, ◌++◌, ◌∙◌, flat_map, refl, sym, ap, subst}
use Rattle.epx_devices.specs.declared.either_source.EitherSource.{EitherSource}
use Rattle.epx_devices.specs.declared.either_source.EitherSource.TheVariants.{First, Second}
use Rattle.epx_devices.specs.Deliveries.{DeliversAll, DeliversThenFails, ReadStep, AreReads}
use Rattle.epx_devices.specs.EitherSources.{either_source}
use Rattle.epx_devices.specs.Models.{SourceModel}

module _ {A B : Type 0} (a_model : SourceModel A) (b_model : SourceModel B) where
  abbrev either : SourceModel (EitherSource A B)
  either = either_source a_model b_model

  -- the bytes that some reads returned
  abbrev bytes_of : {S : Type 0} → List (ReadStep S) → List ℕ
  bytes_of steps = flat_map (λ r. r.bytes) steps

  -- reads of a source of the first type end in a source of that type
  abbrev EndsInFirst : EitherSource A B → EitherSource A B → List ℕ → Type 0
  EndsInFirst (First a) now bytes =
      (steps : List (ReadStep A)) × (last : A) × (now ≡ First last) × AreReads a_model a steps last
      × (bytes ≡ bytes_of steps)
  EndsInFirst (Second b) now bytes = Unit {0}

  EndsInFirst-step : (a : A) (room : ℕ) (bytes more : List ℕ) (next now : EitherSource A B)
      → either.reads (First a) room bytes next → EndsInFirst next now more
      → EndsInFirst (First a) now (bytes ++ more)
  EndsInFirst-step a room bytes more (First next) now read later =
      let step : ReadStep A = record { room = room; bytes = bytes; next = next } in
      (step ∷ later.0, later.1, later.2, (read, later.3), ap (λ b. bytes ++ b) later.4)
  EndsInFirst-step a room bytes more (Second b) now read later = absurd read

  EndsInFirst-reads : (s : EitherSource A B) (steps : List (ReadStep (EitherSource A B)))
      (now : EitherSource A B) → AreReads either s steps now
      → EndsInFirst s now (bytes_of steps)
  EndsInFirst-reads (Second b) steps now h = tt
  EndsInFirst-reads (First a) [] now h = ([], a, sym h, refl, refl)
  EndsInFirst-reads (First a) (r ∷ steps) now h =
      EndsInFirst-step a r.room r.bytes (bytes_of steps) r.next now h.0
      (EndsInFirst-reads r.next steps now h.1)

  -- reads of a source of the second type end in a source of that type
  abbrev EndsInSecond : EitherSource A B → EitherSource A B → List ℕ → Type 0
  EndsInSecond (First a) now bytes = Unit {0}
  EndsInSecond (Second b) now bytes =
      (steps : List (ReadStep B)) × (last : B) × (now ≡ Second last) × AreReads b_model b steps last
      × (bytes ≡ bytes_of steps)

  EndsInSecond-step : (b : B) (room : ℕ) (bytes more : List ℕ) (next now : EitherSource A B)
      → either.reads (Second b) room bytes next → EndsInSecond next now more
      → EndsInSecond (Second b) now (bytes ++ more)
  EndsInSecond-step b room bytes more (First a) now read later = absurd read
  EndsInSecond-step b room bytes more (Second next) now read later =
      let step : ReadStep B = record { room = room; bytes = bytes; next = next } in
      (step ∷ later.0, later.1, later.2, (read, later.3), ap (λ b. bytes ++ b) later.4)

  EndsInSecond-reads : (s : EitherSource A B) (steps : List (ReadStep (EitherSource A B)))
      (now : EitherSource A B) → AreReads either s steps now
      → EndsInSecond s now (bytes_of steps)
  EndsInSecond-reads (First a) steps now h = tt
  EndsInSecond-reads (Second b) [] now h = ([], b, sym h, refl, refl)
  EndsInSecond-reads (Second b) (r ∷ steps) now h =
      EndsInSecond-step b r.room r.bytes (bytes_of steps) r.next now h.0
      (EndsInSecond-reads r.next steps now h.1)

  first_read : (a : A) (room : ℕ) (bytes : List ℕ) (now : EitherSource A B)
      → either.reads (First a) room bytes now → (last : A) × a_model.reads a room bytes last
  first_read a room bytes (First last) h = (last, h)
  first_read a room bytes (Second b) h = absurd h

  second_read : (b : B) (room : ℕ) (bytes : List ℕ) (now : EitherSource A B)
      → either.reads (Second b) room bytes now → (last : B) × b_model.reads b room bytes last
  second_read b room bytes (First a) h = absurd h
  second_read b room bytes (Second last) h = (last, h)

  -- all bytes of a source of either type are all bytes of one of that type
  pub DeliversAll-from_first : (a : A) (now : EitherSource A B) (bytes : List ℕ)
      → DeliversAll either (First a) now bytes → (last : A) × DeliversAll a_model a last bytes
  DeliversAll-from_first a now bytes h =
      let from = EndsInFirst-reads (First a) h.before.steps h.last h.before.in_turn in
      let end = first_read from.1 h.room [] now
      (subst (λ s. either.reads s h.room [] now) from.2 h.ended) in (
        end.0,
        record {
          last = from.1;
          before = record {
            steps = from.0;
            in_turn = from.3;
            returned = h.before.returned ∙ from.4;
          };
          room = h.room;
          has_room = h.has_room;
          ended = end.1;
        },
      )

  pub DeliversAll-from_second : (b : B) (now : EitherSource A B) (bytes : List ℕ)
      → DeliversAll either (Second b) now bytes → (last : B) × DeliversAll b_model b last bytes
  DeliversAll-from_second b now bytes h =
      let from = EndsInSecond-reads (Second b) h.before.steps h.last h.before.in_turn in
      let end = second_read from.1 h.room [] now
      (subst (λ s. either.reads s h.room [] now) from.2 h.ended) in (
        end.0,
        record {
          last = from.1;
          before = record {
            steps = from.0;
            in_turn = from.3;
            returned = h.before.returned ∙ from.4;
          };
          room = h.room;
          has_room = h.has_room;
          ended = end.1;
        },
      )

  first_failed : (a : A) (now : EitherSource A B) → either.fails (First a) now
      → (last : A) × a_model.fails a last
  first_failed a (First last) h = (last, h)
  first_failed a (Second b) h = absurd h

  second_failed : (b : B) (now : EitherSource A B) → either.fails (Second b) now
      → (last : B) × b_model.fails b last
  second_failed b (First a) h = absurd h
  second_failed b (Second last) h = (last, h)

  pub DeliversThenFails-from_first : (a : A) (now : EitherSource A B)
      → DeliversThenFails either (First a) now
      → (last : A) × DeliversThenFails a_model a last
  DeliversThenFails-from_first a now h =
      let from = EndsInFirst-reads (First a) h.before.steps h.last h.before.in_turn in
      let last = first_failed from.1 now (subst (λ s. either.fails s now) from.2 h.failed) in (
        last.0,
        record {
          last = from.1;
          bytes = flat_map (λ (r : ReadStep A). r.bytes) from.0;
          before = record { steps = from.0; in_turn = from.3; returned = refl };
          failed = last.1;
        },
      )

  pub DeliversThenFails-from_second : (b : B) (now : EitherSource A B)
      → DeliversThenFails either (Second b) now
      → (last : B) × DeliversThenFails b_model b last
  DeliversThenFails-from_second b now h =
      let from = EndsInSecond-reads (Second b) h.before.steps h.last h.before.in_turn in
      let last = second_failed from.1 now (subst (λ s. either.fails s now) from.2 h.failed) in (
        last.0,
        record {
          last = from.1;
          bytes = flat_map (λ (r : ReadStep B). r.bytes) from.0;
          before = record { steps = from.0; in_turn = from.3; returned = refl };
          failed = last.1;
        },
      )
