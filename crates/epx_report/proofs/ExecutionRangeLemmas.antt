-- The replies of executed commands, and the contents that they leave, are within their limits.
use Rattle.std.proofs.Common.{◌≡◌, ℕ, suc, ◌+◌, ◌<◌, ◌≤◌, true, ℤ, pos, negsuc, w64, List, [], ◌∷◌}
use Rattle.std.proofs.Common.{◌++◌, length, Option, Some, None, refl, arith, FitsSigned, IfSome}
use Rattle.std.proofs.Common.{◌+ℤ◌, int_lt}
use Rattle.epx_types.proofs.Common.{AllByRecursion, nat_tests, length-append, All-from_recursion}
use Rattle.epx_types.proofs.Common.{Contents, amount_at, fits_i64, same_value, operate, Outcome}
use Rattle.epx_types.proofs.Common.{unless_aborted, operate_all, command_on, execute, Execution}
use Rattle.epx_types.specs.declared.op.Op.{Op}
use Rattle.epx_types.specs.declared.op.Op.TheVariants.{Get, Put, Del, Add, Is, Floor, Copy}
use Rattle.std.specs.FinMap as contents
use Rattle.epx_report.specs.ReportReadings.{FitsOptional, FitsReply}
use Rattle.epx_report.proofs.JsonStringLemmas.{IfSome-test, IfSome-branch}
use Rattle.epx_report.proofs.LineRangeLemmas.{FitsOp, FitsCommand}
use Rattle.epx_report.proofs.BaseRangeLemmas.{FitsContents, FitsContents-assign}
use Rattle.epx_report.proofs.BaseRangeLemmas.{FitsContents-insert}

-- ---- one operation

signed_from_test : (z : ℤ) → fits_i64 z ≡ true → FitsSigned w64 z
signed_from_test (pos n) e = record { sfits = grind (arith, nat_tests) }
signed_from_test (negsuc n) e = record { sfits = grind (arith, nat_tests) }

-- each value that was read fits 64 bits
abbrev AllFitValues : List (Option ℤ) → Type 0
AllFitValues got = AllByRecursion FitsOptional got

-- the contents that an operation leaves fit, and so does the value that it reads, if it reads one
abbrev FitsStep : Contents × List (Option ℤ) → Type 0
FitsStep r = FitsContents r.0 × (AllFitValues r.1 × (length r.1 ≤ 1))

is_value_or_null : (o : Option ℤ) → ((v : ℤ) → o ≡ Some v → FitsSigned w64 v) → FitsOptional o
is_value_or_null None h = tt
is_value_or_null (Some v) h = h v refl

operate_fits : (op : Op) (c : Contents) → FitsOp op → FitsContents c
    → IfSome (operate op c) FitsStep
operate_fits (Get k) c s h =
    (h, ((is_value_or_null (contents.get c k) (λ v e. (h k v e).1), tt), omega arith))
operate_fits (Put k v) c s h = (FitsContents-insert c k v h s.0 s.1, (tt, omega arith))
operate_fits (Del k) c s h =
    (FitsContents-assign c k None h (λ v e. absurd (cc e)), (tt, omega arith))
operate_fits (Add k n) c s h =
    let sum = amount_at c k +ℤ n in
    IfSome-test FitsStep (fits_i64 sum) _ _
    (λ e. (FitsContents-insert c k sum h s (signed_from_test sum e), (tt, omega arith)))
    (λ _. tt)
operate_fits (Is k v) c s h =
    IfSome-branch FitsStep (same_value (contents.get c k) v) _ _
    (h, (tt, omega arith)) tt
operate_fits (Floor k least) c s h =
    IfSome-branch FitsStep (int_lt (amount_at c k) least) _ _
    tt (h, (tt, omega arith))
operate_fits (Copy k j) c s h =
    (FitsContents-assign c j (contents.get c k) h (λ v e. (s, (h k v e).1)), (tt, omega arith))

-- ---- one command

-- the reply of a command, and the contents after it, are within their limits
record FitsOutcome (o : Outcome) : Type 0 where
  reply : FitsReply o.reply
  after : FitsContents o.after

AllFitValues-append : (xs ys : List (Option ℤ)) → AllFitValues xs → AllFitValues ys
    → AllFitValues (xs ++ ys)
AllFitValues-append [] ys h k = k
AllFitValues-append (x ∷ xs) ys h k = (h.0, AllFitValues-append xs ys h.1 k)

unless_aborted_fits : (before : Contents) (j : ℕ) (o : Option (Contents × List (Option ℤ)))
    (proceed : Contents × List (Option ℤ) → Outcome)
    → FitsContents before → j < 64 → IfSome o FitsStep
    → ((r : Contents × List (Option ℤ)) → FitsStep r → FitsOutcome (proceed r))
    → FitsOutcome (unless_aborted before j o proceed)
unless_aborted_fits before j None proceed b l h rest = record { reply = l; after = b }
unless_aborted_fits before j (Some r) proceed b l h rest = rest r h

-- at most j values are read before the operation at index j
operate_all_fits : (before : Contents) (j : ℕ) (ops : List Op) (c : Contents)
    (got : List (Option ℤ))
    → FitsContents before → FitsContents c → AllByRecursion FitsOp ops → AllFitValues got
    → length got ≤ j → j + length ops ≤ 64 → FitsOutcome (operate_all before j ops c got)
operate_all_fits before j [] c got b h s g few all =
    record { reply = (omega arith, All-from_recursion FitsOptional got g); after = h }
operate_all_fits before j (op ∷ ops) c got b h s g few all =
    unless_aborted_fits before j (operate op c) _ b (omega arith) (operate_fits op c s.0 h)
    (λ r step. operate_all_fits before (suc j) ops r.0 (got ++ r.1) b step.0 s.1
    (AllFitValues-append got r.1 g step.1.0)
    (omega (arith, step.1.1, length-append got r.1)) (omega arith))

command_fits : (ops : List Op) (c : Contents) → FitsCommand ops → FitsContents c
    → FitsOutcome (command_on ops c)
command_fits ops c f h =
    let few = f.few in operate_all_fits c 0 ops c [] h h f.each tt (omega arith) (omega arith)

-- ---- commands one after another

-- the replies, and the contents after the last command, are within their limits
pub record FitsExecution (e : Execution) : Type 0 where
  pub replies : AllByRecursion FitsReply e.replies
  pub final : FitsContents e.final

-- commands that fit, executed on contents that fit
pub FitsExecution-execute : (commands : List (List Op)) (c : Contents)
    → AllByRecursion FitsCommand commands → FitsContents c → FitsExecution (execute commands c)
FitsExecution-execute [] c h k = record { replies = tt; final = k }
FitsExecution-execute (ops ∷ rest) c h k =
    let first = command_fits ops c h.0 k in
    let others = FitsExecution-execute rest (command_on ops c).after h.1 first.after in
    record { replies = (first.reply, others.replies); final = others.final }
