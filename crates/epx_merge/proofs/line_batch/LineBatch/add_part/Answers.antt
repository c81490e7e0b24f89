use Rattle.std.proofs.Common.{◌≡◌, ◌≤◌, ◌+◌, ◌-◌, ◌^◌, ◌%◌, ◌∷◌, ◌∙◌, [], suc, ap, sym, subst, refl}
use Rattle.std.proofs.Common.{inl, length, map, take, drop, arith, rules}
use Rattle.epx_types.proofs.Common.{length-append, length-map, drop_at, max_log_bytes}
use Rattle.epx_lines.specs.Lines.{lines_of}
use Rattle.epx_lines.specs.Meaning.{meaning_of}
use Rattle.epx_merge.specs.LogLines.{meaning_at, meanings_in}
use Rattle.epx_merge.specs.between.RedundantLines.{DropsCached, IsRedundantIn}
use Rattle.epx_merge.specs.declared.line_batch.Span.{Span}
use Rattle.epx_merge.proofs.DropsCachedLemmas.{IsNextBatch-push, IsNextBatch-blank}
use Rattle.epx_merge.proofs.LineBatchLemmas.{line_at, within-append, lines_at-append}
use Rattle.epx_merge.proofs.LineBatchLemmas.{within-push, lines_at-push}
use Rattle.epx_merge.proofs.LogPartLemmas.{meanings_in-cons, suc-no_wrap}
use Rattle.epx_merge.proofs.line_batch.LineBatch.add_part.Goals as goal
use Rattle.epx_merge.proofs.line_batch.LineBatch.add_part.Goals.{then-not-is_blank_line+in_ok-push}
use Rattle.epx_merge.proofs.line_batch.LineBatch.add_part.Goals.{else-not-is_blank_line}

pub loop-done-init : goal.loop-done-init
loop-done-init c =
    let old = c.self.inside.bytes.items in
    let part = c.args.bytes.now in
    let spans = c.self.inside.spans.items in
    let base : length old ≡ c.len-base.result = search rules in
    let same = lines_at-append old part spans c.self.invariant ∙ c.self.view_is in
    let count : length spans ≡ length c.args.self.now =
    sym (length-map spans (line_at old)) ∙ ap length c.self.view_is in
    rw c.in_ok-extend_from_slice.ensures.items (record {
      copied = drop_at old part c.len-base.result base;
      size = length-append old part ∙ ap (λ n. n + length part) base;
      within = within-append old part spans c.self.invariant;
      few = omega (arith, count);
      lines = λ short. (
        λ cut drops. record {
          gone = cut;
          whole = refl;
          drops = subst (DropsCached [] cut) (sym same) drops;
        },
        refl,
        omega arith,
      );
    })

pub loop-done-preserved : goal.loop-done-preserved
loop-done-preserved c =
    let part = c.args.bytes.now in
    let base = c.len-base.result in
    let done = c.loop-done.done in
    let end = c.line_end-end.result in
    let h = c.loop-done.invariant in
    let test = c.loop-done-test.true in
    let bounds = c.line_end-end.ensures.within in
    let first = c.line_end-end.ensures.lines in
    let bytes = c.loop-done.self-inside.bytes.items in
    let spans = c.loop-done.self-inside.spans.items in
    let line = (c.loop-done.line + 1) % (2 ^ 64) in
    let here = take (end - done) (drop done part) in
    let more = drop (end + 1) part in
    let left = meanings_in c.args.log (suc line) (lines_of more) in
    let span : Span = record {
      place = record { log = c.args.log; line = line };
      start = base + done;
      end = base + end;
    } in
    let next = meaning_at span.place here in
    let Short : Type 0 = c.args.before + length part ≤ max_log_bytes in
    let one : Short → line ≡ suc c.loop-done.line =
    λ short. suc-no_wrap c.loop-done.line (omega (arith, (h.lines short).2, short, test)) in
    let is = λ (short : Short).
    meanings_in-cons c.args.log c.loop-done.line line (drop done part) here more first
    (one short) in
    let counts : Short → (line + length (lines_of more) ≡ c.args.before + length (lines_of part))
    × (line + (length part - (end + 1)) ≤ c.args.before + length part) = λ short. (
      omega (arith, ap length first, one short, (h.lines short).1),
      omega (arith, bounds.0, test, one short, (h.lines short).2),
    ) in
    elim c.if-not-is_blank_line.branch [
      | then-not-is_blank_line+in_ok-push w ↦
          let within = within-push bytes spans span h.within
          (omega (arith, bounds.0), omega (arith, h.size, bounds.1)) in
          let pushed = lines_at-push bytes part spans span base done end h.copied refl refl in
          rw (w.self-inside-is, w.in_ok-push.ensures.items) (record {
            copied = h.copied;
            size = h.size;
            within = within;
            few = omega (arith, h.few, bounds, test, length-append spans (span ∷ []));
            lines = λ short. (
              λ old drops. IsNextBatch-push _ _ left (map (line_at bytes) spans) next (is short)
                  ((h.lines short).0 old drops) _ pushed,
              (counts short).0,
              (counts short).1,
            );
          })
      | else-not-is_blank_line w ↦
          let blank : IsRedundantIn [] (meaning_of here) = inl (search rules) in
          rw w.self-inside-is (record {
            copied = h.copied;
            size = h.size;
            within = h.within;
            few = omega (arith, h.few, bounds, test);
            lines = λ short. (
              λ old drops. IsNextBatch-blank _ _ left (map (line_at bytes) spans) next (is short)
                  ((h.lines short).0 old drops) blank,
              (counts short).0,
              (counts short).1,
            );
          })
    ]
