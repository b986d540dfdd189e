use Rattle.std.proofs.Common.{◌≡◌, ◌≤◌, ◌^◌, true, arith, rules}
use Rattle.std.specs.Str.Parse.{digits_value}
use Rattle.session_spec.specs.Words.{is_number}
use Rattle.dnr_words.proofs.Numerals.{number_read, number_past}
use Rattle.dnr_words.proofs.numbers.number_up_to.Goals as goal

pub returns-in_default-clause-value : goal.returns-in_default-clause-value
returns-in_default-clause-value c =
    let h : is_number c.args.word.now ≡ true = search rules in
    let past : 2 ^ 64 ≤ digits_value 10 c.args.word.now =
    rw c.in_default.is at (number_read c.args.word.now c.parse.result h c.parse.ensures.value.0) in
    number_past c.args.word.now c.args.most h (let fits = c.ranges.most.fits in omega (arith, fits, past))
