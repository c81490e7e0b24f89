-- Texts with a part for each log.
use Rattle.std.proofs.Common.{◌≡◌, ◌∙◌, ◌+◌, ◌==◌, ℕ, zero, suc, List, [], ◌∷◌, ◌++◌, cond}
use Rattle.std.proofs.Common.{count_by, Bool, true, false, filter, length, map, refl, sym, ap}
use Rattle.std.proofs.Common.{append-nil, append_assoc, arith}
use Rattle.epx_types.proofs.Common.{AllZip, Instance, Placed}
use Rattle.epx_types.specs.declared.place.Place.{Place}
use Rattle.std.proofs.lemmas.List.Sums.{length-filter}
use Rattle.epx_versions.specs.declared.noted.NotedBadLine.{NotedBadLine}
use Rattle.epx_versions.specs.declared.noted.NotedLine.{NotedLine}
use Rattle.epx_compare.specs.Comparisons.{for_logs}
use Rattle.epx_compare.specs.LogCounts.{lines_in, bad_lines_in}
use Rattle.epx_versions.specs.between.NotedRows.{IsRowOf, bad_line_at}

snoc : (first count next : ℕ) (text : ℕ → List ℕ) → next ≡ first + count
    → for_logs first (suc count) text ≡ for_logs first count text ++ text next
snoc first zero next text e =
    append-nil (text first) ∙ ap text (let same : first ≡ next = omega arith in same)
snoc first (suc count) next text e =
    ap (λ rest. text first ++ rest)
    (snoc (suc first) count next text (let same : next ≡ suc first + count = omega arith in same))
    ∙ sym (append_assoc (text first) (for_logs (suc first) count text) (text next))

-- the text of one more log comes last
pub for_logs-snoc : (count : ℕ) (text : ℕ → List ℕ)
    → for_logs 0 (count + 1) text ≡ for_logs 0 count text ++ text count
for_logs-snoc count text =
    ap (λ n. for_logs 0 n text) (let same : count + 1 ≡ suc count = omega arith in same)
    ∙ snoc 0 count count text (let same : count ≡ 0 + count = omega arith in same)

same_length : {X Y : Type 0} (b c : Bool) (x : X) (y : Y) (xs : List X) (ys : List Y) → b ≡ c
    → length xs ≡ length ys → length (cond b (x ∷ xs) xs) ≡ length (cond c (y ∷ ys) ys)
same_length true true x y xs ys e rest = ap suc rest
same_length true false x y xs ys e rest = absurd (cc e)
same_length false true x y xs ys e rest = absurd (cc e)
same_length false false x y xs ys e rest = rest

-- of the noted rows, so many are of a log as `lines_in` says
length-rows_of_log : (versions : List Instance) (log : ℕ) (rows : List NotedLine)
    (lines : List Placed) → AllZip (IsRowOf versions) rows lines
    → length (filter (λ r. r.place.log == log) rows) ≡ lines_in lines log
length-rows_of_log versions log [] [] rel = refl
length-rows_of_log versions log [] (p ∷ lines) rel = absurd rel
length-rows_of_log versions log (row ∷ rows) [] rel = absurd rel
length-rows_of_log versions log (row ∷ rows) (p ∷ lines) rel =
    same_length (row.place.log == log) (p.place.log == log) row p _ _
    (ap (λ (at : Place). at.log == log) rel.0.place)
    (length-rows_of_log versions log rows lines rel.1)

pub count_by-rows : (versions : List Instance) (log : ℕ) (rows : List NotedLine)
    (lines : List Placed)
    → AllZip (IsRowOf versions) rows lines
    → count_by (λ r. r.place.log == log) rows ≡ lines_in lines log
count_by-rows versions log rows lines rel = sym (length-filter (λ r. r.place.log == log) rows)
    ∙ length-rows_of_log versions log rows lines rel

-- of the noted bad lines, so many are of a log as `bad_lines_in` says
bad_filtered : (log : ℕ) (noted : List NotedBadLine)
    → length (filter (λ b. b.place.log == log) noted) ≡ bad_lines_in (map bad_line_at noted) log
bad_filtered log [] = refl
bad_filtered log (b ∷ noted) = same_length (b.place.log == log) (b.place.log == log) b
    (bad_line_at b) _ _ refl (bad_filtered log noted)

pub count_by-bad_lines : (log : ℕ) (noted : List NotedBadLine)
    → count_by (λ b. b.place.log == log) noted ≡ bad_lines_in (map bad_line_at noted) log
count_by-bad_lines log noted =
    sym (length-filter (λ b. b.place.log == log) noted) ∙ bad_filtered log noted
