use Rattle.std.proofs.Common.{ℕ, Bool, Ok, ap, sym, refl, subst, inr, ◌∙◌, arith}
use Rattle.std.specs.Prelude.{option_map}
use Rattle.rule_read.specs.Reading.{is_taken as is_one_of}
use Rattle.serde_json.specs.View.{view}
use Rattle.dnr_base.specs.Faults.{Rose}
use Rattle.dnr_rules.specs.Seen.{action_seen, condition_seen, rule_of}
use Rattle.json_spec.specs.ReadRule.{rule_in, IsRuleAtPattern}
use Rattle.json_spec.specs.MayRefuse.{MayRefuse}
use Rattle.rule_fields.specs.Seen.{fields_seen}
use Rattle.rule_read.specs.Seen.{numbers_seen, lists_seen}
use Rattle.rule_read.proofs.Chains.{handed_on}
use Rattle.rule_read.proofs.Calm.{is_calm}
use Rattle.rule_read.specs.Calm.{IsCalmBy}
use Rattle.rule_spec.specs.declared.rule_refusal.RuleRefusal.TheVariants.{NoMemory}
use Rattle.rule_read.specs.Asking.{asked_by, AsksOrNot}
use Rattle.rule_read.proofs.Stages.{these, begins, filters_pass, domains_pass, lists_pass, frames_pass, tests_pass, tabs_pass, numbers_refuse, fields_refuse, filters_refuse, domains_refuse, lists_refuse, frames_refuse, tests_refuse, tabs_refuse, action_refuse, rule_is}
use Rattle.rule_read.proofs.rules.read_among.Goals as goal

pub returns-in_err-numbers-clause-refused : goal.returns-in_err-numbers-clause-refused
returns-in_err-numbers-clause-refused g c =
    let is_taken : ℕ → Bool = is_one_of c.args.taken.now in
    let d = view c.args.value.now in
    let rose : Type 0 = Rose (g.H.RegexHost.faults c.args.host.now) (g.H.RegexHost.faults c.args.host.now) in
    let refusal = c.in_err-numbers.field-0.0 in
    handed_on _ refusal (MayRefuse (rule_in c.args.kind is_taken d) (rose × IsRuleAtPattern is_taken d)) c.from_residual.ensures.1
    (numbers_refuse c.args.kind is_taken d (rose × IsRuleAtPattern is_taken d) refusal c.in_err-numbers.ensures.refused)

pub returns-in_err-fields-clause-refused : goal.returns-in_err-fields-clause-refused
returns-in_err-fields-clause-refused g c =
    let is_taken : ℕ → Bool = is_one_of c.args.taken.now in
    let d = view c.args.value.now in
    let rose : Type 0 = Rose (g.H.RegexHost.faults c.args.host.now) (g.H.RegexHost.faults c.args.host.now) in
    let refusal = c.in_err-fields.field-0.0 in
    let numbers = c.in_ok-numbers.ensures in
    handed_on _ refusal (MayRefuse (rule_in c.args.kind is_taken d) (rose × IsRuleAtPattern is_taken d)) c.from_residual-in_err-fields.ensures.1
    (fields_refuse c.args.kind is_taken d (view c.in_ok-numbers.numbers.condition.now) (numbers_seen c.in_ok-numbers.numbers) (rose × IsRuleAtPattern is_taken d) refusal numbers.ok numbers.condition
    c.in_err-fields.ensures.refused)

pub returns-in_err-filters-clause-refused : goal.returns-in_err-filters-clause-refused
returns-in_err-filters-clause-refused g c =
    let is_taken : ℕ → Bool = is_one_of c.args.taken.now in
    let d = view c.args.value.now in
    let rose : Type 0 = Rose (g.H.RegexHost.faults c.args.host.now) (g.H.RegexHost.faults c.read_filters.new.host) in
    let refusal = c.in_err-filters.field-0.0 in
    let numbers = c.in_ok-numbers.ensures in
    let n = numbers_seen c.in_ok-numbers.numbers in
    let f = fields_seen c.in_ok-fields.fields in
    let begun = begins is_taken d (view c.in_ok-numbers.numbers.condition.now) n f numbers.ok numbers.condition c.in_ok-fields.ensures.ok in
    handed_on _ refusal (MayRefuse (rule_in c.args.kind is_taken d) (rose × IsRuleAtPattern is_taken d)) c.from_residual-in_err-filters.ensures.1
    (filters_refuse c.args.kind is_taken d n f rose refusal begun c.in_err-filters.ensures.refused)

pub returns-in_err-lists-clause-refused : goal.returns-in_err-lists-clause-refused
returns-in_err-lists-clause-refused g c =
    let is_taken : ℕ → Bool = is_one_of c.args.taken.now in
    let d = view c.args.value.now in
    let fault : Type 0 = Rose (g.H.RegexHost.faults c.args.host.now) (g.H.RegexHost.faults c.read_filters.new.host) × IsRuleAtPattern is_taken d in
    let refusal = c.in_err-lists.field-0.0 in
    let numbers = c.in_ok-numbers.ensures in
    let n = numbers_seen c.in_ok-numbers.numbers in
    let f = fields_seen c.in_ok-fields.fields in
    let begun = begins is_taken d (view c.in_ok-numbers.numbers.condition.now) n f numbers.ok numbers.condition c.in_ok-fields.ensures.ok in
    let filtered = filters_pass is_taken d n f begun c.in_ok-filters.ensures.ok in
    handed_on _ refusal (MayRefuse (rule_in c.args.kind is_taken d) fault) c.from_residual-in_err-lists.ensures.1
    (domains_refuse c.args.kind is_taken d n f fault refusal begun filtered c.in_err-lists.ensures.refused)

pub returns-in_err-test_lists-clause-refused : goal.returns-in_err-test_lists-clause-refused
returns-in_err-test_lists-clause-refused g c =
    let is_taken : ℕ → Bool = is_one_of c.args.taken.now in
    let d = view c.args.value.now in
    let fault : Type 0 = Rose (g.H.RegexHost.faults c.args.host.now) (g.H.RegexHost.faults c.read_filters.new.host) × IsRuleAtPattern is_taken d in
    let refusal = c.in_err-test_lists.field-0.0 in
    let numbers = c.in_ok-numbers.ensures in
    let n = numbers_seen c.in_ok-numbers.numbers in
    let f = fields_seen c.in_ok-fields.fields in
    let begun = begins is_taken d (view c.in_ok-numbers.numbers.condition.now) n f numbers.ok numbers.condition c.in_ok-fields.ensures.ok in
    let filtered = filters_pass is_taken d n f begun c.in_ok-filters.ensures.ok in
    let domained = domains_pass is_taken d n f (lists_seen c.in_ok-lists.lists) begun filtered c.in_ok-lists.ensures.ok in
    handed_on _ refusal (MayRefuse (rule_in c.args.kind is_taken d) fault) c.from_residual-in_err-test_lists.ensures.1
    (lists_refuse c.args.kind is_taken d n f fault refusal begun domained c.in_err-test_lists.ensures.refused)

pub returns-in_err-test_frames-clause-refused : goal.returns-in_err-test_frames-clause-refused
returns-in_err-test_frames-clause-refused g c =
    let is_taken : ℕ → Bool = is_one_of c.args.taken.now in
    let d = view c.args.value.now in
    let fault : Type 0 = Rose (g.H.RegexHost.faults c.args.host.now) (g.H.RegexHost.faults c.read_filters.new.host) × IsRuleAtPattern is_taken d in
    let refusal = c.in_err-test_frames.field-0.0 in
    let numbers = c.in_ok-numbers.ensures in
    let n = numbers_seen c.in_ok-numbers.numbers in
    let f = fields_seen c.in_ok-fields.fields in
    let begun = begins is_taken d (view c.in_ok-numbers.numbers.condition.now) n f numbers.ok numbers.condition c.in_ok-fields.ensures.ok in
    let filtered = filters_pass is_taken d n f begun c.in_ok-filters.ensures.ok in
    let lists = lists_seen c.in_ok-lists.lists in
    let domained = domains_pass is_taken d n f lists begun filtered c.in_ok-lists.ensures.ok in
    let listed = lists_pass is_taken d n f begun domained c.in_ok-test_lists.ensures.ok in
    let a = option_map (λ action. view action.now) c.get-action.result in
    handed_on _ refusal (MayRefuse (rule_in c.args.kind is_taken d) fault) c.from_residual-in_err-test_frames.ensures.1
    (frames_refuse c.args.kind is_taken d n f a fault refusal begun c.get-action.ensures listed c.in_err-test_frames.ensures.refused)

pub returns-in_err-tests-clause-refused : goal.returns-in_err-tests-clause-refused
returns-in_err-tests-clause-refused g c =
    let is_taken : ℕ → Bool = is_one_of c.args.taken.now in
    let d = view c.args.value.now in
    let fault : Type 0 = Rose (g.H.RegexHost.faults c.args.host.now) (g.H.RegexHost.faults c.read_filters.new.host) × IsRuleAtPattern is_taken d in
    let refusal = c.in_err-tests.field-0.0 in
    let numbers = c.in_ok-numbers.ensures in
    let n = numbers_seen c.in_ok-numbers.numbers in
    let f = fields_seen c.in_ok-fields.fields in
    let begun = begins is_taken d (view c.in_ok-numbers.numbers.condition.now) n f numbers.ok numbers.condition c.in_ok-fields.ensures.ok in
    let filtered = filters_pass is_taken d n f begun c.in_ok-filters.ensures.ok in
    let lists = lists_seen c.in_ok-lists.lists in
    let domained = domains_pass is_taken d n f lists begun filtered c.in_ok-lists.ensures.ok in
    let listed = lists_pass is_taken d n f begun domained c.in_ok-test_lists.ensures.ok in
    let a = option_map (λ action. view action.now) c.get-action.result in
    let framed = frames_pass is_taken d n f a begun c.get-action.ensures listed c.in_ok-test_frames.ensures.ok in
    handed_on _ refusal (MayRefuse (rule_in c.args.kind is_taken d) fault) c.from_residual-in_err-tests.ensures.1
    (tests_refuse c.args.kind is_taken d n f fault refusal begun framed c.in_err-tests.ensures.refused)

pub returns-in_err-test_tabs-clause-refused : goal.returns-in_err-test_tabs-clause-refused
returns-in_err-test_tabs-clause-refused g c =
    let is_taken : ℕ → Bool = is_one_of c.args.taken.now in
    let d = view c.args.value.now in
    let fault : Type 0 = Rose (g.H.RegexHost.faults c.args.host.now) (g.H.RegexHost.faults c.read_filters.new.host) × IsRuleAtPattern is_taken d in
    let refusal = c.in_err-test_tabs.field-0.0 in
    let numbers = c.in_ok-numbers.ensures in
    let n = numbers_seen c.in_ok-numbers.numbers in
    let f = fields_seen c.in_ok-fields.fields in
    let begun = begins is_taken d (view c.in_ok-numbers.numbers.condition.now) n f numbers.ok numbers.condition c.in_ok-fields.ensures.ok in
    let filtered = filters_pass is_taken d n f begun c.in_ok-filters.ensures.ok in
    let lists = lists_seen c.in_ok-lists.lists in
    let domained = domains_pass is_taken d n f lists begun filtered c.in_ok-lists.ensures.ok in
    let listed = lists_pass is_taken d n f begun domained c.in_ok-test_lists.ensures.ok in
    let a = option_map (λ action. view action.now) c.get-action.result in
    let framed = frames_pass is_taken d n f a begun c.get-action.ensures listed c.in_ok-test_frames.ensures.ok in
    let tested = tests_pass is_taken d n f begun framed c.in_ok-tests.ensures.ok in
    handed_on _ refusal (MayRefuse (rule_in c.args.kind is_taken d) fault) c.from_residual-in_err-test_tabs.ensures.1
    (tabs_refuse c.args.kind is_taken d n f fault refusal begun tested c.in_err-test_tabs.ensures.refused)

pub returns-in_err-action-clause-refused : goal.returns-in_err-action-clause-refused
returns-in_err-action-clause-refused g c =
    let is_taken : ℕ → Bool = is_one_of c.args.taken.now in
    let d = view c.args.value.now in
    let fault : Type 0 = Rose (g.H.RegexHost.faults c.args.host.now) (g.H.RegexHost.faults c.read_filters.new.host) × IsRuleAtPattern is_taken d in
    let refusal = c.in_err-action.field-0.0 in
    let numbers = c.in_ok-numbers.ensures in
    let n = numbers_seen c.in_ok-numbers.numbers in
    let f = fields_seen c.in_ok-fields.fields in
    let begun = begins is_taken d (view c.in_ok-numbers.numbers.condition.now) n f numbers.ok numbers.condition c.in_ok-fields.ensures.ok in
    let filtered = filters_pass is_taken d n f begun c.in_ok-filters.ensures.ok in
    let lists = lists_seen c.in_ok-lists.lists in
    let domained = domains_pass is_taken d n f lists begun filtered c.in_ok-lists.ensures.ok in
    let listed = lists_pass is_taken d n f begun domained c.in_ok-test_lists.ensures.ok in
    let a = option_map (λ action. view action.now) c.get-action.result in
    let framed = frames_pass is_taken d n f a begun c.get-action.ensures listed c.in_ok-test_frames.ensures.ok in
    let tested = tests_pass is_taken d n f begun framed c.in_ok-tests.ensures.ok in
    let tabbed = tabs_pass c.args.kind is_taken d n f begun tested c.in_ok-test_tabs.ensures.ok in
    let groups = c.in_ok-filters.filters.groups in
    handed_on _ refusal (MayRefuse (rule_in c.args.kind is_taken d) fault) c.from_residual-in_err-action.ensures.1
    (action_refuse c.args.kind is_taken d n f groups a fault refusal begun c.in_ok-filters.ensures.groups c.get-action.ensures tabbed c.in_err-action.ensures.refused)

pub build-requires : goal.build-requires
build-requires g c =
    let is_taken : ℕ → Bool = is_one_of c.args.taken.now in
    let d = view c.args.value.now in
    let numbers = c.in_ok-numbers.ensures in
    let n = numbers_seen c.in_ok-numbers.numbers in
    let f = fields_seen c.in_ok-fields.fields in
    let begun = begins is_taken d (view c.in_ok-numbers.numbers.condition.now) n f numbers.ok numbers.condition c.in_ok-fields.ensures.ok in
    let filtered = filters_pass is_taken d n f begun c.in_ok-filters.ensures.ok in
    let lists = lists_seen c.in_ok-lists.lists in
    let domained = domains_pass is_taken d n f lists begun filtered c.in_ok-lists.ensures.ok in
    let listed = lists_pass is_taken d n f begun domained c.in_ok-test_lists.ensures.ok in
    let a = option_map (λ action. view action.now) c.get-action.result in
    let framed = frames_pass is_taken d n f a begun c.get-action.ensures listed c.in_ok-test_frames.ensures.ok in
    let tested = tests_pass is_taken d n f begun framed c.in_ok-tests.ensures.ok in
    let tabbed = tabs_pass c.args.kind is_taken d n f begun tested c.in_ok-test_tabs.ensures.ok in
    let groups = c.in_ok-filters.filters.groups in
    c.rules_keep_their_form.ensures c.args.kind is_taken d (rule_of n.id n.priority (condition_seen c.in_ok-condition.condition) c.in_ok-action.action)
    (rule_is c.args.kind is_taken d n f lists groups a (condition_seen c.in_ok-condition.condition) (action_seen c.in_ok-action.action) begun c.in_ok-lists.ensures.ok c.in_ok-filters.ensures.groups
    c.get-action.ensures tabbed c.in_ok-action.ensures.ok c.in_ok-condition.ensures)

pub returns-clause-ok : goal.returns-clause-ok
returns-clause-ok g c =
    let is_taken : ℕ → Bool = is_one_of c.args.taken.now in
    let d = view c.args.value.now in
    let numbers = c.in_ok-numbers.ensures in
    let n = numbers_seen c.in_ok-numbers.numbers in
    let f = fields_seen c.in_ok-fields.fields in
    let begun = begins is_taken d (view c.in_ok-numbers.numbers.condition.now) n f numbers.ok numbers.condition c.in_ok-fields.ensures.ok in
    let filtered = filters_pass is_taken d n f begun c.in_ok-filters.ensures.ok in
    let lists = lists_seen c.in_ok-lists.lists in
    let domained = domains_pass is_taken d n f lists begun filtered c.in_ok-lists.ensures.ok in
    let listed = lists_pass is_taken d n f begun domained c.in_ok-test_lists.ensures.ok in
    let a = option_map (λ action. view action.now) c.get-action.result in
    let framed = frames_pass is_taken d n f a begun c.get-action.ensures listed c.in_ok-test_frames.ensures.ok in
    let tested = tests_pass is_taken d n f begun framed c.in_ok-tests.ensures.ok in
    let tabbed = tabs_pass c.args.kind is_taken d n f begun tested c.in_ok-test_tabs.ensures.ok in
    let groups = c.in_ok-filters.filters.groups in
    rule_is c.args.kind is_taken d n f lists groups a (condition_seen c.in_ok-condition.condition) (action_seen c.in_ok-action.action) begun c.in_ok-lists.ensures.ok c.in_ok-filters.ensures.groups
    c.get-action.ensures tabbed c.in_ok-action.ensures.ok c.in_ok-condition.ensures ∙ ap Ok (sym c.build.ensures)

pub returns-in_err-numbers-clause-later : goal.returns-in_err-numbers-clause-later
returns-in_err-numbers-clause-later g c = omega arith

pub returns-in_err-fields-clause-later : goal.returns-in_err-fields-clause-later
returns-in_err-fields-clause-later g c = omega arith

pub returns-in_err-filters-clause-later : goal.returns-in_err-filters-clause-later
returns-in_err-filters-clause-later g c = c.read_filters.ensures.later

pub returns-in_err-lists-clause-later : goal.returns-in_err-lists-clause-later
returns-in_err-lists-clause-later g c = c.read_filters.ensures.later

pub returns-in_err-test_lists-clause-later : goal.returns-in_err-test_lists-clause-later
returns-in_err-test_lists-clause-later g c = c.read_filters.ensures.later

pub returns-in_err-test_frames-clause-later : goal.returns-in_err-test_frames-clause-later
returns-in_err-test_frames-clause-later g c = c.read_filters.ensures.later

pub returns-in_err-tests-clause-later : goal.returns-in_err-tests-clause-later
returns-in_err-tests-clause-later g c = c.read_filters.ensures.later

pub returns-in_err-test_tabs-clause-later : goal.returns-in_err-test_tabs-clause-later
returns-in_err-test_tabs-clause-later g c = c.read_filters.ensures.later

pub returns-in_err-action-clause-later : goal.returns-in_err-action-clause-later
returns-in_err-action-clause-later g c = c.read_filters.ensures.later

pub returns-clause-later : goal.returns-clause-later
returns-clause-later g c = c.read_filters.ensures.later

pub returns-in_err-numbers-clause-tried : goal.returns-in_err-numbers-clause-tried
returns-in_err-numbers-clause-tried g c = inr refl

pub returns-in_err-fields-clause-tried : goal.returns-in_err-fields-clause-tried
returns-in_err-fields-clause-tried g c = inr refl

pub returns-in_err-filters-clause-tried : goal.returns-in_err-filters-clause-tried
returns-in_err-filters-clause-tried g c =
    let is_taken : ℕ → Bool = is_one_of c.args.taken.now in
    let numbers = c.in_ok-numbers.ensures in
    let f = fields_seen c.in_ok-fields.fields in
    let begun = begins is_taken (view c.args.value.now) (view c.in_ok-numbers.numbers.condition.now) (numbers_seen c.in_ok-numbers.numbers) f numbers.ok numbers.condition c.in_ok-fields.ensures.ok in
    subst (λ f. AsksOrNot g.H.RegexHost.asks c.args.host.now (asked_by f) c.read_filters.new.host) (these is_taken (view c.args.value.now) (numbers_seen c.in_ok-numbers.numbers) f begun) c.read_filters.ensures.tried

pub returns-in_err-lists-clause-tried : goal.returns-in_err-lists-clause-tried
returns-in_err-lists-clause-tried g c =
    let is_taken : ℕ → Bool = is_one_of c.args.taken.now in
    let numbers = c.in_ok-numbers.ensures in
    let f = fields_seen c.in_ok-fields.fields in
    let begun = begins is_taken (view c.args.value.now) (view c.in_ok-numbers.numbers.condition.now) (numbers_seen c.in_ok-numbers.numbers) f numbers.ok numbers.condition c.in_ok-fields.ensures.ok in
    subst (λ f. AsksOrNot g.H.RegexHost.asks c.args.host.now (asked_by f) c.read_filters.new.host) (these is_taken (view c.args.value.now) (numbers_seen c.in_ok-numbers.numbers) f begun) c.read_filters.ensures.tried

pub returns-in_err-test_lists-clause-tried : goal.returns-in_err-test_lists-clause-tried
returns-in_err-test_lists-clause-tried g c =
    let is_taken : ℕ → Bool = is_one_of c.args.taken.now in
    let numbers = c.in_ok-numbers.ensures in
    let f = fields_seen c.in_ok-fields.fields in
    let begun = begins is_taken (view c.args.value.now) (view c.in_ok-numbers.numbers.condition.now) (numbers_seen c.in_ok-numbers.numbers) f numbers.ok numbers.condition c.in_ok-fields.ensures.ok in
    subst (λ f. AsksOrNot g.H.RegexHost.asks c.args.host.now (asked_by f) c.read_filters.new.host) (these is_taken (view c.args.value.now) (numbers_seen c.in_ok-numbers.numbers) f begun) c.read_filters.ensures.tried

pub returns-in_err-test_frames-clause-tried : goal.returns-in_err-test_frames-clause-tried
returns-in_err-test_frames-clause-tried g c =
    let is_taken : ℕ → Bool = is_one_of c.args.taken.now in
    let numbers = c.in_ok-numbers.ensures in
    let f = fields_seen c.in_ok-fields.fields in
    let begun = begins is_taken (view c.args.value.now) (view c.in_ok-numbers.numbers.condition.now) (numbers_seen c.in_ok-numbers.numbers) f numbers.ok numbers.condition c.in_ok-fields.ensures.ok in
    subst (λ f. AsksOrNot g.H.RegexHost.asks c.args.host.now (asked_by f) c.read_filters.new.host) (these is_taken (view c.args.value.now) (numbers_seen c.in_ok-numbers.numbers) f begun) c.read_filters.ensures.tried

pub returns-in_err-tests-clause-tried : goal.returns-in_err-tests-clause-tried
returns-in_err-tests-clause-tried g c =
    let is_taken : ℕ → Bool = is_one_of c.args.taken.now in
    let numbers = c.in_ok-numbers.ensures in
    let f = fields_seen c.in_ok-fields.fields in
    let begun = begins is_taken (view c.args.value.now) (view c.in_ok-numbers.numbers.condition.now) (numbers_seen c.in_ok-numbers.numbers) f numbers.ok numbers.condition c.in_ok-fields.ensures.ok in
    subst (λ f. AsksOrNot g.H.RegexHost.asks c.args.host.now (asked_by f) c.read_filters.new.host) (these is_taken (view c.args.value.now) (numbers_seen c.in_ok-numbers.numbers) f begun) c.read_filters.ensures.tried

pub returns-in_err-test_tabs-clause-tried : goal.returns-in_err-test_tabs-clause-tried
returns-in_err-test_tabs-clause-tried g c =
    let is_taken : ℕ → Bool = is_one_of c.args.taken.now in
    let numbers = c.in_ok-numbers.ensures in
    let f = fields_seen c.in_ok-fields.fields in
    let begun = begins is_taken (view c.args.value.now) (view c.in_ok-numbers.numbers.condition.now) (numbers_seen c.in_ok-numbers.numbers) f numbers.ok numbers.condition c.in_ok-fields.ensures.ok in
    subst (λ f. AsksOrNot g.H.RegexHost.asks c.args.host.now (asked_by f) c.read_filters.new.host) (these is_taken (view c.args.value.now) (numbers_seen c.in_ok-numbers.numbers) f begun) c.read_filters.ensures.tried

pub returns-in_err-action-clause-tried : goal.returns-in_err-action-clause-tried
returns-in_err-action-clause-tried g c =
    let is_taken : ℕ → Bool = is_one_of c.args.taken.now in
    let numbers = c.in_ok-numbers.ensures in
    let f = fields_seen c.in_ok-fields.fields in
    let begun = begins is_taken (view c.args.value.now) (view c.in_ok-numbers.numbers.condition.now) (numbers_seen c.in_ok-numbers.numbers) f numbers.ok numbers.condition c.in_ok-fields.ensures.ok in
    subst (λ f. AsksOrNot g.H.RegexHost.asks c.args.host.now (asked_by f) c.read_filters.new.host) (these is_taken (view c.args.value.now) (numbers_seen c.in_ok-numbers.numbers) f begun) c.read_filters.ensures.tried

pub returns-in_err-condition-clause-tried : goal.returns-in_err-condition-clause-tried
returns-in_err-condition-clause-tried g c =
    let is_taken : ℕ → Bool = is_one_of c.args.taken.now in
    let numbers = c.in_ok-numbers.ensures in
    let f = fields_seen c.in_ok-fields.fields in
    let begun = begins is_taken (view c.args.value.now) (view c.in_ok-numbers.numbers.condition.now) (numbers_seen c.in_ok-numbers.numbers) f numbers.ok numbers.condition c.in_ok-fields.ensures.ok in
    subst (λ f. AsksOrNot g.H.RegexHost.asks c.args.host.now (asked_by f) c.read_filters.new.host) (these is_taken (view c.args.value.now) (numbers_seen c.in_ok-numbers.numbers) f begun) c.read_filters.ensures.tried

pub returns-clause-tried : goal.returns-clause-tried
returns-clause-tried g c =
    let is_taken : ℕ → Bool = is_one_of c.args.taken.now in
    let numbers = c.in_ok-numbers.ensures in
    let f = fields_seen c.in_ok-fields.fields in
    let begun = begins is_taken (view c.args.value.now) (view c.in_ok-numbers.numbers.condition.now) (numbers_seen c.in_ok-numbers.numbers) f numbers.ok numbers.condition c.in_ok-fields.ensures.ok in
    subst (λ f. AsksOrNot g.H.RegexHost.asks c.args.host.now (asked_by f) c.read_filters.new.host) (these is_taken (view c.args.value.now) (numbers_seen c.in_ok-numbers.numbers) f begun) c.read_filters.ensures.tried

pub returns-in_err-lists-clause-quiet : goal.returns-in_err-lists-clause-quiet
returns-in_err-lists-clause-quiet g c =
    let before = g.H.RegexHost.faults c.args.host.now in
    let now = g.H.RegexHost.faults c.read_filters.new.host in
    handed_on _ _ (IsCalmBy before now) c.from_residual-in_err-lists.ensures.1 (is_calm before now _ c.in_ok-filters.ensures.calm)

pub returns-in_err-test_lists-clause-quiet : goal.returns-in_err-test_lists-clause-quiet
returns-in_err-test_lists-clause-quiet g c =
    let before = g.H.RegexHost.faults c.args.host.now in
    let now = g.H.RegexHost.faults c.read_filters.new.host in
    handed_on _ _ (IsCalmBy before now) c.from_residual-in_err-test_lists.ensures.1 (is_calm before now _ c.in_ok-filters.ensures.calm)

pub returns-in_err-test_frames-clause-quiet : goal.returns-in_err-test_frames-clause-quiet
returns-in_err-test_frames-clause-quiet g c =
    let before = g.H.RegexHost.faults c.args.host.now in
    let now = g.H.RegexHost.faults c.read_filters.new.host in
    handed_on _ _ (IsCalmBy before now) c.from_residual-in_err-test_frames.ensures.1 (is_calm before now _ c.in_ok-filters.ensures.calm)

pub returns-in_err-tests-clause-quiet : goal.returns-in_err-tests-clause-quiet
returns-in_err-tests-clause-quiet g c =
    let before = g.H.RegexHost.faults c.args.host.now in
    let now = g.H.RegexHost.faults c.read_filters.new.host in
    handed_on _ _ (IsCalmBy before now) c.from_residual-in_err-tests.ensures.1 (is_calm before now _ c.in_ok-filters.ensures.calm)

pub returns-in_err-test_tabs-clause-quiet : goal.returns-in_err-test_tabs-clause-quiet
returns-in_err-test_tabs-clause-quiet g c =
    let before = g.H.RegexHost.faults c.args.host.now in
    let now = g.H.RegexHost.faults c.read_filters.new.host in
    handed_on _ _ (IsCalmBy before now) c.from_residual-in_err-test_tabs.ensures.1 (is_calm before now _ c.in_ok-filters.ensures.calm)

pub returns-in_err-action-clause-quiet : goal.returns-in_err-action-clause-quiet
returns-in_err-action-clause-quiet g c =
    let before = g.H.RegexHost.faults c.args.host.now in
    let now = g.H.RegexHost.faults c.read_filters.new.host in
    handed_on _ _ (IsCalmBy before now) c.from_residual-in_err-action.ensures.1 (is_calm before now _ c.in_ok-filters.ensures.calm)

pub returns-in_err-condition-clause-quiet : goal.returns-in_err-condition-clause-quiet
returns-in_err-condition-clause-quiet g c =
    let before = g.H.RegexHost.faults c.args.host.now in
    let now = g.H.RegexHost.faults c.read_filters.new.host in
    handed_on _ NoMemory (IsCalmBy before now) c.from_residual-in_err-condition.ensures.1 c.in_ok-filters.ensures.calm
