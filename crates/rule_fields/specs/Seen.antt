-- What the program's fields stand for.
use Rattle.std.specs.Prelude.{option_map}
use Rattle.std.specs.Option.{option_copied}
use Rattle.dnr_base.specs.KindSet.{kinds_of}
use Rattle.dnr_base.specs.MethodSet.{methods_of}
use Rattle.json_spec.specs.RuleFields as spec
use Rattle.rule_fields.specs.declared.fields.Fields.{Fields}

abbrev pub fields_seen : Fields → spec.Fields
fields_seen fields = record {
  url_filter = option_copied fields.url_filter;
  regex_filter = option_copied fields.regex_filter;
  case_sensitive = fields.case_sensitive;
  initiators = fields.initiators;
  not_initiators = fields.not_initiators;
  old_initiators = fields.old_initiators;
  old_not_initiators = fields.old_not_initiators;
  hosts = fields.hosts;
  not_hosts = fields.not_hosts;
  third_party = fields.third_party;
  kinds = option_map kinds_of fields.kinds;
  not_kinds = option_map kinds_of fields.not_kinds;
  methods = option_map methods_of fields.methods;
  not_methods = option_map methods_of fields.not_methods;
  tabs = fields.tabs;
  not_tabs = fields.not_tabs;
  header_tests = fields.header_tests;
  not_header_tests = fields.not_header_tests;
}
