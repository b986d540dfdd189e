use Rattle.std.proofs.Common.{◌≡◌, false, length}
use Rattle.std.specs.Prelude.{is_some}
use Rattle.std.specs.List.{fold}
use Rattle.std.specs.Str.{IsAscii}
use Rattle.list_spec.specs.Options.{after_option, asked_of, first_fault}
use Rattle.abp_parse.specs.Seen.{asked_seen}
use Rattle.abp_parse.specs.Told.{written_in}
use Rattle.abp_parse.proofs.options.read_options.Given as goal

abbrev pub invariant-loop-asked : goal.invariant-loop-asked
invariant-loop-asked l = record {
  ascii : IsAscii l.rest;
  told : first_fault l.exception false (written_in l.text) ≡ first_fault l.exception (is_some l.asked.domains) (written_in l.rest);
  asked : asked_of (written_in l.text) ≡ fold after_option (asked_seen l.asked) (written_in l.rest);
}

abbrev pub decreases-loop-asked : goal.decreases-loop-asked
decreases-loop-asked l = length l.rest
