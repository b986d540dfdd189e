-- What a condition has that gives nothing of what is rare.
use Rattle.std.specs.Prelude.{[], None}
use Rattle.dnr_rules.specs.declared.parts.RareParts.{RareParts}

-- nothing of what few conditions give
abbrev pub no_rare : RareParts
no_rare = record {
  regex_filter = None;
  not_initiators = [];
  not_hosts = [];
  tabs = None;
  not_tabs = [];
  header_tests = None;
  not_header_tests = [];
}
