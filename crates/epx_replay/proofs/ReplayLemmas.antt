-- Commands that are executed batch by batch, each batch written after it.
use Rattle.std.proofs.Common.{◌≡◌, ◌∙◌, ℕ, List, [], ◌∷◌, ◌++◌, length, flat_map, zip, zero, suc}
use Rattle.std.proofs.Common.{◌-◌, refl, sym, ap, ap₂, subst, arith, drop, map, take, slice_range}
use Rattle.std.proofs.Common.{min}
use Rattle.std.proofs.lemmas.Grind.{flat_map-append}
use Rattle.epx_types.proofs.Common.{append_assoc, length-append, length-drop, length-take}
use Rattle.epx_types.proofs.Common.{map-append, Contents, execute, execute-append, length-replies}
use Rattle.epx_types.specs.declared.id.Id.{Id}
use Rattle.epx_types.specs.declared.op.Op.{Op}
use Rattle.epx_types.specs.declared.reply.Reply.{Reply}
use Rattle.epx_report.specs.ReportLines.{reply_line}

abbrev pub lines_of : List Id → List Reply → List ℕ
lines_of ids replies = flat_map reply_line (zip ids replies)

zip-append : {X Y : Type 0} (xs us : List X) (ys vs : List Y) → length xs ≡ length ys
    → zip (xs ++ us) (ys ++ vs) ≡ zip xs ys ++ zip us vs
zip-append [] us [] vs same = refl
zip-append [] us (y ∷ ys) vs same = absurd (omega (arith, same))
zip-append (x ∷ xs) us [] vs same = absurd (omega (arith, same))
zip-append (x ∷ xs) us (y ∷ ys) vs same =
    ap (λ l. (x, y) ∷ l) (zip-append xs us ys vs (omega (arith, same)))

lines_of-append : (xs us : List Id) (ys vs : List Reply) → length xs ≡ length ys
    → lines_of (xs ++ us) (ys ++ vs) ≡ lines_of xs ys ++ lines_of us vs
lines_of-append xs us ys vs same =
    ap (flat_map reply_line) (zip-append xs us ys vs same)
    ∙ flat_map-append reply_line (zip xs ys) (zip us vs)

-- The instances of a batch are executed, and their lines are not written yet. What is left,
-- executed from these contents, leads where all commands lead.
pub record IsReplaying (text : List ℕ) (ids : List Id) (commands : List (List Op))
    (before : Contents) (so_far : List ℕ) (batch : List Id) (replies : List Reply)
    (here : Contents) (later : List Id) (rest : List (List Op)) : Type 0 where
  pub as_many : length replies ≡ length batch
  pub left : length later ≡ length rest
  pub final : (execute rest here).final ≡ (execute commands before).final
  pub lines : (so_far ++ lines_of batch replies) ++ lines_of later (execute rest here).replies
      ≡ text ++ lines_of ids (execute commands before).replies

-- the next batch is executed, and the one before is written
pub IsReplaying-next : (text : List ℕ) (ids : List Id) (commands : List (List Op)) (c : Contents)
    (so_far : List ℕ) (batch : List Id) (replies : List Reply) (here : Contents)
    (now later unread : List Id) (first rest undone : List (List Op)) (longer : List ℕ)
    (next : Contents) (answers : List Reply)
    → length now ≡ length first → unread ≡ now ++ later → undone ≡ first ++ rest
    → IsReplaying text ids commands c so_far batch replies here unread undone
    → longer ≡ so_far ++ lines_of batch replies
    → next ≡ (execute first here).final → answers ≡ (execute first here).replies
    → IsReplaying text ids commands c longer now answers next later rest
IsReplaying-next text ids commands c so_far batch replies here now later unread first rest undone
    longer next answers same cut_ids cut_commands whole is_longer is_next are_answers = record {
      as_many = many;
      left = omega (arith, h.left, same, length-append now later, length-append first rest);
      final = ap (λ s. (execute rest s).final) is_next
          ∙ sym (execute-append first rest here).1 ∙ h.final;
      lines =
          append_assoc longer (lines_of now answers) (lines_of later (execute rest next).replies)
          ∙ ap₂ ◌++◌ is_longer (sym parts) ∙ h.lines;
    }
  where
    h : IsReplaying text ids commands c so_far batch replies here (now ++ later) (first ++ rest)
    h = subst (λ xs. IsReplaying text ids commands c so_far batch replies here xs (first ++ rest))
        cut_ids (subst (IsReplaying text ids commands c so_far batch replies here unread)
        cut_commands whole)

    many : length answers ≡ length now
    many = ap length are_answers ∙ length-replies first here ∙ sym same

    parts : lines_of (now ++ later) (execute (first ++ rest) here).replies
        ≡ lines_of now answers ++ lines_of later (execute rest next).replies
    parts = ap (lines_of (now ++ later)) ((execute-append first rest here).0
        ∙ ap₂ ◌++◌ (sym are_answers) (ap (λ s. (execute rest s).replies) (sym is_next)))
        ∙ lines_of-append now later answers (execute rest next).replies (sym many)

-- ranges of lists of one length
pub length-same_range : {X Y : Type 0} (xs : List X) (ys : List Y) (start end : ℕ)
    → length xs ≡ length ys
    → length (slice_range xs start end) ≡ length (slice_range ys start end)
length-same_range xs ys start end same =
    length-take (end - start) (drop start xs)
    ∙ ap (min (end - start)) (length-drop start xs ∙ ap (λ n. n - start) same
    ∙ sym (length-drop start ys))
    ∙ sym (length-take (end - start) (drop start ys))

map-take : {X Y : Type 0} (f : X → Y) (n : ℕ) (xs : List X)
    → map f (take n xs) ≡ take n (map f xs)
map-take f zero xs = refl
map-take f (suc n) [] = refl
map-take f (suc n) (x ∷ xs) = ap (λ l. f x ∷ l) (map-take f n xs)

map-drop : {X Y : Type 0} (f : X → Y) (n : ℕ) (xs : List X)
    → map f (drop n xs) ≡ drop n (map f xs)
map-drop f zero xs = refl
map-drop f (suc n) [] = refl
map-drop f (suc n) (x ∷ xs) = map-drop f n xs

pub map-range : {X Y : Type 0} (f : X → Y) (xs : List X) (start end : ℕ)
    → map f (slice_range xs start end) ≡ slice_range (map f xs) start end
map-range f xs start end =
    map-take f (end - start) (drop start xs) ∙ ap (take (end - start)) (map-drop f start xs)

-- what is taken of lists one after another is what is taken of each
pub map-flat_map : {X Y Z : Type 0} (f : Y → Z) (g : X → List Y) (xs : List X)
    → map f (flat_map g xs) ≡ flat_map (λ x. map f (g x)) xs
map-flat_map f g [] = refl
map-flat_map f g (x ∷ xs) =
    map-append f (g x) (flat_map g xs) ∙ ap (λ rest. map f (g x) ++ rest) (map-flat_map f g xs)
