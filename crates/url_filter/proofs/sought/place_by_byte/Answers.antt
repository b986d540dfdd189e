use Rattle.std.proofs.Common.{rules, arith, ◌≡◌, ◌<◌, ◌≤◌, ℕ, List, [], length, drop, get_or, false, subst}
use Rattle.memchr.specs.Find.{is_byte2}
use Rattle.dnr_spec.specs.UrlFilter.{fits_at}
use Rattle.url_filter.specs.Told.{WalkTells}
use Rattle.url_filter.proofs.Domains.{tail_slice}
use Rattle.url_filter.proofs.Found.{fails_all, fails_beside, fails_past, later_left, none_fits, place_decides, place_within, shorter_text}
use Rattle.url_filter.proofs.Pieces.{place_tells, shorter}
use Rattle.url_filter.proofs.Skipped.{fails_without}
use Rattle.url_filter.proofs.sought.place_by_byte.Goals as goal

pub returns-then-text-offset-clause-told : goal.returns-then-text-offset-clause-told
returns-then-text-offset-clause-told c =
    fails_all (fits_at c.args.ends c.args.fold c.args.pattern.now) c.args.text.now
    (λ k. fails_without c.args.ends c.args.fold c.args.pattern.now c.args.text.now c.args.offset k c.requires (λ inside. absurd (omega arith)))

pub slice_bounds-walk-count : goal.slice_bounds-walk-count
slice_bounds-walk-count c =
    let inside : c.in-Some.place < length (drop c.args.offset c.args.text.now) = place_within (is_byte2 (get_or c.args.pattern.now c.args.offset 0) c.other_case-other.result) (drop c.args.offset c.args.text.now) (fits_at c.args.ends c.args.fold c.args.pattern.now) c.args.text.now (shorter_text c.args.ends c.args.fold c.args.pattern.now c.args.text.now c.args.offset c.other_case-other.result c.requires) (fails_beside c.args.ends c.args.fold c.args.pattern.now c.args.text.now c.args.offset c.other_case-other.result c.requires c.other_case-other.ensures) c.loop-place.place-iterator c.next.new.self c.in-Some.place c.loop-place.invariant.left c.in-Some.ensures.steps in
    let within : length (drop c.args.offset c.args.text.now) ≤ length c.args.text.now = shorter_text c.args.ends c.args.fold c.args.pattern.now c.args.text.now c.args.offset c.other_case-other.result c.requires in
    omega arith

pub slice_bounds-walk-start : goal.slice_bounds-walk-start
slice_bounds-walk-start c =
    let inside : c.in-Some.place < length (drop c.args.offset c.args.text.now) = place_within (is_byte2 (get_or c.args.pattern.now c.args.offset 0) c.other_case-other.result) (drop c.args.offset c.args.text.now) (fits_at c.args.ends c.args.fold c.args.pattern.now) c.args.text.now (shorter_text c.args.ends c.args.fold c.args.pattern.now c.args.text.now c.args.offset c.other_case-other.result c.requires) (fails_beside c.args.ends c.args.fold c.args.pattern.now c.args.text.now c.args.offset c.other_case-other.result c.requires c.other_case-other.ensures) c.loop-place.place-iterator c.next.new.self c.in-Some.place c.loop-place.invariant.left c.in-Some.ensures.steps in
    let within : length (drop c.args.offset c.args.text.now) ≤ length c.args.text.now = shorter_text c.args.ends c.args.fold c.args.pattern.now c.args.text.now c.args.offset c.other_case-other.result c.requires in
    let bound : c.in-Some.place ≤ length c.args.text.now = omega arith in
    search rules

pub loop-place-preserved : goal.loop-place-preserved
loop-place-preserved c =
    let failed : fits_at c.args.ends c.args.fold c.args.pattern.now (drop c.in-Some.place c.args.text.now) ≡ false =
    subst (λ (t : List ℕ). fits_at c.args.ends c.args.fold c.args.pattern.now t ≡ false) (tail_slice c.args.text.now c.in-Some.place) c.in-Fails.ensures in
    record {
      can = tt;
      ends = tt;
      left = later_left (is_byte2 (get_or c.args.pattern.now c.args.offset 0) c.other_case-other.result) (drop c.args.offset c.args.text.now) (fits_at c.args.ends c.args.fold c.args.pattern.now) c.args.text.now (shorter_text c.args.ends c.args.fold c.args.pattern.now c.args.text.now c.args.offset c.other_case-other.result c.requires) (fails_beside c.args.ends c.args.fold c.args.pattern.now c.args.text.now c.args.offset c.other_case-other.result c.requires c.other_case-other.ensures) c.loop-place.place-iterator c.next.new.self c.in-Some.place c.loop-place.invariant.left c.in-Some.ensures.steps failed;
    }

pub returns-in_default : goal.returns-in_default
returns-in_default c =
    let told : WalkTells c.args.ends c.args.fold c.args.pattern.now (drop c.in-Some.place c.args.text.now) c.walk.result =
    subst (λ (t : List ℕ). WalkTells c.args.ends c.args.fold c.args.pattern.now t c.walk.result) (tail_slice c.args.text.now c.in-Some.place) c.walk.ensures in
    record {
      told = place_tells c.args.ends c.args.fold c.args.pattern.now c.args.text.now (drop c.in-Some.place c.args.text.now) c.walk.result (place_decides (is_byte2 (get_or c.args.pattern.now c.args.offset 0) c.other_case-other.result) (drop c.args.offset c.args.text.now) (fits_at c.args.ends c.args.fold c.args.pattern.now) c.args.text.now (shorter_text c.args.ends c.args.fold c.args.pattern.now c.args.text.now c.args.offset c.other_case-other.result c.requires) (fails_beside c.args.ends c.args.fold c.args.pattern.now c.args.text.now c.args.offset c.other_case-other.result c.requires c.other_case-other.ensures) c.loop-place.place-iterator c.next.new.self c.in-Some.place c.loop-place.invariant.left c.in-Some.ensures.steps) told c.in_default.not-Fails;
      shorter = shorter c.args.ends c.args.fold c.args.pattern.now (drop c.in-Some.place c.args.text.now) c.walk.result told;
    }

pub returns-clause-told : goal.returns-clause-told
returns-clause-told c =
    let none : c.loop-place.place-iterator ≡ [] = search rules in
    none_fits (is_byte2 (get_or c.args.pattern.now c.args.offset 0) c.other_case-other.result) (drop c.args.offset c.args.text.now) (fits_at c.args.ends c.args.fold c.args.pattern.now) c.args.text.now (shorter_text c.args.ends c.args.fold c.args.pattern.now c.args.text.now c.args.offset c.other_case-other.result c.requires) (fails_beside c.args.ends c.args.fold c.args.pattern.now c.args.text.now c.args.offset c.other_case-other.result c.requires c.other_case-other.ensures) c.loop-place.place-iterator c.loop-place.invariant.left none (fails_past c.args.ends c.args.fold c.args.pattern.now c.args.text.now c.args.offset c.other_case-other.result c.requires)
