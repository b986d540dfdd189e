use Rattle.std.proofs.Common.{◌≡◌, ◌++◌, ◌∷◌, [], ◌+◌, length, map, ap, ◌∙◌, rules, arith}
use Rattle.std.proofs.lemmas.List.{map-append, length-append}
use Rattle.dnr_io.proofs.ReadSoFar.{one_read, is_beyond}
use Rattle.dnr_io.proofs.all_lines.read_lines.Goals as goal

pub returns-in_err-line-clause-too_long : goal.returns-in_err-line-clause-too_long
returns-in_err-line-clause-too_long g c =
    λ is. is_beyond _ _ _ _ c.loop-all.invariant.read (c.in_err-line.ensures.too_long (search rules))

pub loop-all-preserved : goal.loop-all-preserved
loop-all-preserved g c =
    let was = c.loop-all.invariant in
    let next = c.in_ok-line.ensures in
    let gives = rw c.in-Some.is at next.line in
    let counted = rw c.in-Some.is at next.counted in
    let read = one_read _ _ _ _ _ c.next_line.new.lines.count c.in-Some.line.items was.read gives counted.1 in
    let lines : map (λ line. line.items) c.push.new.self.items ≡ map (λ line. line.items) c.loop-all.all.items ++ c.in-Some.line.items ∷ [] = ap (map (λ line. line.items)) c.in_ok-push.ensures.items ∙ map-append (λ line. line.items) c.loop-all.all.items (c.in-Some.line ∷ []) in
    let grown : length c.push.new.self.items ≡ length c.loop-all.all.items + 1 = ap length c.in_ok-push.ensures.items ∙ length-append c.loop-all.all.items (c.in-Some.line ∷ []) in
    let count : length c.push.new.self.items ≡ c.next_line.new.lines.count = omega (arith, grown, was.counted, counted.1) in record {
      read = rw lines read;
      counted = count;
      few = omega (arith, counted.0, counted.1);
      ended = rw c.in-Some.is at next.last;
      told = next.told ∙ was.told;
      files = next.files ∙ was.files;
      starts = next.starts ∙ was.starts;
      later = omega (arith, next.cause.later, was.later);
    }
