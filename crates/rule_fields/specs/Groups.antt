-- The tests of the fields in groups: one group behind the other they are `field_tests`.
use Rattle.std.specs.Prelude.{◌≡◌, List, [], ◌∷◌, Option, option_map, Ok}
use Rattle.std.specs.Option.{option_copied}
use Rattle.serde_json.specs.Data.{Data}
use Rattle.serde_json.specs.Find.{as_str, as_bool}
use Rattle.rule_spec.specs.declared.rule_path.RulePath.TheVariants as path
use Rattle.rule_spec.specs.declared.rule_refusal.RuleRefusal.{RuleRefusal}
use Rattle.dnr_base.specs.KindSet.{kinds_of}
use Rattle.dnr_base.specs.MethodSet.{methods_of}
use Rattle.rule_fields.specs.declared.fields.FilterFields.{FilterFields}
use Rattle.rule_fields.specs.declared.fields.DomainFields.{DomainFields}
use Rattle.rule_fields.specs.declared.fields.SetFields.{SetFields}
use Rattle.rule_fields.specs.declared.fields.ResponseFields.{ResponseFields}
use Rattle.json_spec.specs.RuleFields.{refusal_in, absent_in, field_in, old_list_in, as_texts, as_party, as_kinds, as_methods, as_tabs, as_header_tests}

abbrev pub forbidden_tests : Data → List (Option RuleRefusal)
forbidden_tests c =
    refusal_in (absent_in path.TopDomains c)
    ∷ refusal_in (absent_in path.ExcludedTopDomains c)
    ∷ []

abbrev pub filter_tests : Data → List (Option RuleRefusal)
filter_tests c =
    refusal_in (field_in as_str path.UrlFilter c)
    ∷ refusal_in (field_in as_str path.RegexFilter c)
    ∷ refusal_in (field_in as_bool path.IsUrlFilterCaseSensitive c)
    ∷ []

abbrev pub domain_tests : Data → List (Option RuleRefusal)
domain_tests c =
    refusal_in (field_in as_texts path.InitiatorDomains c)
    ∷ refusal_in (field_in as_texts path.ExcludedInitiatorDomains c)
    ∷ refusal_in (old_list_in path.InitiatorDomains path.Domains c)
    ∷ refusal_in (old_list_in path.ExcludedInitiatorDomains path.ExcludedDomains c)
    ∷ refusal_in (field_in as_texts path.RequestDomains c)
    ∷ refusal_in (field_in as_texts path.ExcludedRequestDomains c)
    ∷ []

abbrev pub set_tests : Data → List (Option RuleRefusal)
set_tests c =
    refusal_in (field_in as_party path.DomainType c)
    ∷ refusal_in (field_in as_kinds path.ResourceTypes c)
    ∷ refusal_in (field_in as_kinds path.ExcludedResourceTypes c)
    ∷ refusal_in (field_in as_methods path.RequestMethods c)
    ∷ refusal_in (field_in as_methods path.ExcludedRequestMethods c)
    ∷ refusal_in (field_in as_tabs path.TabIds c)
    ∷ refusal_in (field_in as_tabs path.ExcludedTabIds c)
    ∷ []

abbrev pub response_tests : Data → List (Option RuleRefusal)
response_tests c =
    refusal_in (field_in as_header_tests path.ResponseHeaders c)
    ∷ refusal_in (field_in as_header_tests path.ExcludedResponseHeaders c)
    ∷ []

-- ---- what each group is read as

pub record HasNoForbidden (c : Data) : Type 0 where
  pub top : absent_in path.TopDomains c ≡ Ok tt
  pub not_top : absent_in path.ExcludedTopDomains c ≡ Ok tt

pub record HasFilters (c : Data) (f : FilterFields) : Type 0 where
  pub url_filter : field_in as_str path.UrlFilter c ≡ Ok (option_copied f.url_filter)
  pub regex_filter : field_in as_str path.RegexFilter c ≡ Ok (option_copied f.regex_filter)
  pub case : field_in as_bool path.IsUrlFilterCaseSensitive c ≡ Ok f.case_sensitive

pub record HasDomains (c : Data) (f : DomainFields) : Type 0 where
  pub initiators : field_in as_texts path.InitiatorDomains c ≡ Ok f.initiators
  pub not_initiators : field_in as_texts path.ExcludedInitiatorDomains c ≡ Ok f.not_initiators
  pub old_initiators : old_list_in path.InitiatorDomains path.Domains c ≡ Ok f.old_initiators
  pub old_not_initiators : old_list_in path.ExcludedInitiatorDomains path.ExcludedDomains c ≡ Ok f.old_not_initiators
  pub hosts : field_in as_texts path.RequestDomains c ≡ Ok f.hosts
  pub not_hosts : field_in as_texts path.ExcludedRequestDomains c ≡ Ok f.not_hosts

pub record HasSets (c : Data) (f : SetFields) : Type 0 where
  pub third_party : field_in as_party path.DomainType c ≡ Ok f.third_party
  pub kinds : field_in as_kinds path.ResourceTypes c ≡ Ok (option_map kinds_of f.kinds)
  pub not_kinds : field_in as_kinds path.ExcludedResourceTypes c ≡ Ok (option_map kinds_of f.not_kinds)
  pub methods : field_in as_methods path.RequestMethods c ≡ Ok (option_map methods_of f.methods)
  pub not_methods : field_in as_methods path.ExcludedRequestMethods c ≡ Ok (option_map methods_of f.not_methods)
  pub tabs : field_in as_tabs path.TabIds c ≡ Ok f.tabs
  pub not_tabs : field_in as_tabs path.ExcludedTabIds c ≡ Ok f.not_tabs

pub record HasResponse (c : Data) (f : ResponseFields) : Type 0 where
  pub tests : field_in as_header_tests path.ResponseHeaders c ≡ Ok f.header_tests
  pub not_tests : field_in as_header_tests path.ExcludedResponseHeaders c ≡ Ok f.not_header_tests
