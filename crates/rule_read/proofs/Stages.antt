-- The tests of a rule, one after another: what is refused at each, and the rule that passes them all.
use Rattle.std.proofs.Common.{◌≡◌, ℕ, List, [], ◌∷◌, ◌++◌, Bool, codes, Result, Ok, Option, Some, None, refl, sym, ap, ◌∙◌, subst}
use Rattle.std.specs.Option.{option_map_or}
use Rattle.std.specs.Result.{result_unwrap_or}
use Rattle.serde_json.specs.Data.{Data}
use Rattle.serde_json.specs.Find.{get}
use Rattle.dnr_spec.specs.Patterns.{groups_of}
use Rattle.rule_spec.specs.declared.rule_kind.RuleKind.{RuleKind}
use Rattle.rule_spec.specs.declared.rule_refusal.RuleRefusal.{RuleRefusal}
use Rattle.rule_spec.specs.declared.rule_refusal.RuleRefusal.TheVariants.{HostFault, NoMemory}
use Rattle.rule_spec.specs.Rule.{Condition, Action, block, Rule}
use Rattle.json_spec.specs.RuleFields.{first_refusal, refusal_in, unless_refused, Fields, fields_in}
use Rattle.json_spec.specs.RuleAction.{action_in}
use Rattle.json_spec.specs.ReadRule.{Numbers, DomainLists, numbers_in, numbers_at, condition_at, fields_at, no_fields, no_lists, no_numbers, lists_at, groups_at, filters_in, domain_lists_in, lists_in, frames_in, header_tests_in, tabs_in, condition_of, rule_of, rule_in, IsAtPattern, IsRuleAtPattern}
use Rattle.json_spec.specs.MayRefuse.{MayRefuse, IsRefused}
use Rattle.json_spec.proofs.Refused.{refused_on}

-- ---- tests behind others

pub record AllPass (tests : List (Option RuleRefusal)) : Type 0 where
  pub none : first_refusal tests ≡ None

begin : AllPass []
begin = record { none = refl }

none_more : {X : Type 0} (done : List (Option RuleRefusal)) (part : Result X RuleRefusal) (x : X) → first_refusal done ≡ None → part ≡ Ok x → first_refusal (done ++ refusal_in part ∷ []) ≡ None
none_more [] part x none is = ap (λ p. first_refusal (refusal_in p ∷ [])) is
none_more (None ∷ done) part x none is = none_more done part x none is
none_more (Some refusal ∷ done) part x none is = cc

more : {X : Type 0} (done : List (Option RuleRefusal)) (part : Result X RuleRefusal) (x : X) → AllPass done → part ≡ Ok x → AllPass (done ++ refusal_in part ∷ [])
more done part x pass is = record { none = none_more done part x pass.none is }

behind : {X Y : Type 0} (done : List (Option RuleRefusal)) (part : Result X RuleRefusal) (rest : List (Option RuleRefusal)) (whole : Y) (fault : Type 0) (refusal : RuleRefusal)
    → first_refusal done ≡ None → MayRefuse part fault refusal → MayRefuse (unless_refused (first_refusal (done ++ refusal_in part ∷ rest)) whole) fault refusal
behind [] part rest whole fault refusal none h = refused_on part rest whole fault refusal h
behind (None ∷ done) part rest whole fault refusal none h = behind done part rest whole fault refusal none h
behind (Some other ∷ done) part rest whole fault refusal none h = cc

-- where no host may fail, none does
calm : {X : Type 0} (part : Result X RuleRefusal) (fault : Type 0) (refusal : RuleRefusal) → IsRefused part refusal → MayRefuse part fault refusal
calm part fault HostFault h = absurd h
calm part fault NoMemory h = tt
calm part fault refusal h = h

blamed : {X : Type 0} (part : Result X RuleRefusal) (one other : Type 0) (refusal : RuleRefusal) → (one → other) → MayRefuse part one refusal → MayRefuse part other refusal
blamed part one other HostFault f h = f h
blamed part one other NoMemory f h = tt
blamed part one other refusal f h = h

-- ---- the tests up to each, and those behind it

abbrev begun : (ℕ → Bool) → Data → List (Option RuleRefusal)
begun is_taken d = refusal_in (numbers_in is_taken d) ∷ []

abbrev formed : (ℕ → Bool) → Data → List (Option RuleRefusal)
formed is_taken d = begun is_taken d ++ refusal_in (fields_in (condition_at d)) ∷ []

abbrev filtered : (ℕ → Bool) → Data → List (Option RuleRefusal)
filtered is_taken d = formed is_taken d ++ refusal_in (filters_in (fields_at d)) ∷ []

abbrev domained : (ℕ → Bool) → Data → List (Option RuleRefusal)
domained is_taken d = filtered is_taken d ++ refusal_in (domain_lists_in (fields_at d)) ∷ []

abbrev listed : (ℕ → Bool) → Data → List (Option RuleRefusal)
listed is_taken d = domained is_taken d ++ refusal_in (lists_in (fields_at d)) ∷ []

abbrev framed : (ℕ → Bool) → Data → List (Option RuleRefusal)
framed is_taken d = listed is_taken d ++ refusal_in (frames_in (get (codes "action") d) (fields_at d)) ∷ []

abbrev tested : (ℕ → Bool) → Data → List (Option RuleRefusal)
tested is_taken d = framed is_taken d ++ refusal_in (header_tests_in (fields_at d)) ∷ []

abbrev tabbed : RuleKind → (ℕ → Bool) → Data → List (Option RuleRefusal)
tabbed kind is_taken d = tested is_taken d ++ refusal_in (tabs_in kind (fields_at d)) ∷ []

abbrev after_tabs : Data → List (Option RuleRefusal)
after_tabs d = refusal_in (action_in (groups_at d) (get (codes "action") d)) ∷ []

abbrev after_tests : RuleKind → Data → List (Option RuleRefusal)
after_tests kind d = refusal_in (tabs_in kind (fields_at d)) ∷ after_tabs d

abbrev after_frames : RuleKind → Data → List (Option RuleRefusal)
after_frames kind d = refusal_in (header_tests_in (fields_at d)) ∷ after_tests kind d

abbrev after_lists : RuleKind → Data → List (Option RuleRefusal)
after_lists kind d = refusal_in (frames_in (get (codes "action") d) (fields_at d)) ∷ after_frames kind d

abbrev after_domains : RuleKind → Data → List (Option RuleRefusal)
after_domains kind d = refusal_in (lists_in (fields_at d)) ∷ after_lists kind d

abbrev after_filters : RuleKind → Data → List (Option RuleRefusal)
after_filters kind d = refusal_in (domain_lists_in (fields_at d)) ∷ after_domains kind d

abbrev after_fields : RuleKind → Data → List (Option RuleRefusal)
after_fields kind d = refusal_in (filters_in (fields_at d)) ∷ after_filters kind d

abbrev after_numbers : RuleKind → Data → List (Option RuleRefusal)
after_numbers kind d = refusal_in (fields_in (condition_at d)) ∷ after_fields kind d

-- ---- the fields that were read are those of the definition

-- what is read of a rule up to its fields
pub record IsBegun (is_taken : ℕ → Bool) (d : Data) (n : Numbers) (f : Fields) : Type 0 where
  pub numbers : numbers_in is_taken d ≡ Ok n
  pub fields : fields_in (condition_at d) ≡ Ok f

pub begins : (is_taken : ℕ → Bool) (d c : Data) (n : Numbers) (f : Fields) → numbers_in is_taken d ≡ Ok n → c ≡ condition_at d → fields_in c ≡ Ok f → IsBegun is_taken d n f
begins is_taken d c n f numbers is fields = record { numbers = numbers; fields = subst (λ c. fields_in c ≡ Ok f) is fields }

pub these : (is_taken : ℕ → Bool) (d : Data) (n : Numbers) (f : Fields) → IsBegun is_taken d n f → f ≡ fields_at d
these is_taken d n f b = ap (λ r. result_unwrap_or r no_fields) (sym b.fields)

pub forms_pass : (is_taken : ℕ → Bool) (d : Data) (n : Numbers) (f : Fields) → IsBegun is_taken d n f → AllPass (formed is_taken d)
forms_pass is_taken d n f b = more (begun is_taken d) (fields_in (condition_at d)) f (more [] (numbers_in is_taken d) n begin b.numbers) b.fields

pub filters_pass : (is_taken : ℕ → Bool) (d : Data) (n : Numbers) (f : Fields) → IsBegun is_taken d n f → filters_in f ≡ Ok tt → AllPass (filtered is_taken d)
filters_pass is_taken d n f b is =
    more (formed is_taken d) (filters_in (fields_at d)) tt (forms_pass is_taken d n f b) (subst (λ f. filters_in f ≡ Ok tt) (these is_taken d n f b) is)

pub domains_pass : (is_taken : ℕ → Bool) (d : Data) (n : Numbers) (f : Fields) (lists : DomainLists) → IsBegun is_taken d n f → AllPass (filtered is_taken d) → domain_lists_in f ≡ Ok lists → AllPass (domained is_taken d)
domains_pass is_taken d n f lists b pass is =
    more (filtered is_taken d) (domain_lists_in (fields_at d)) lists pass (subst (λ f. domain_lists_in f ≡ Ok lists) (these is_taken d n f b) is)

pub lists_pass : (is_taken : ℕ → Bool) (d : Data) (n : Numbers) (f : Fields) → IsBegun is_taken d n f → AllPass (domained is_taken d) → lists_in f ≡ Ok tt → AllPass (listed is_taken d)
lists_pass is_taken d n f b pass is =
    more (domained is_taken d) (lists_in (fields_at d)) tt pass (subst (λ f. lists_in f ≡ Ok tt) (these is_taken d n f b) is)

pub frames_pass : (is_taken : ℕ → Bool) (d : Data) (n : Numbers) (f : Fields) (a : Option Data) → IsBegun is_taken d n f → a ≡ get (codes "action") d → AllPass (listed is_taken d)
    → frames_in a f ≡ Ok tt → AllPass (framed is_taken d)
frames_pass is_taken d n f a b same pass is =
    more (listed is_taken d) (frames_in (get (codes "action") d) (fields_at d)) tt pass
    (subst (λ f. frames_in (get (codes "action") d) f ≡ Ok tt) (these is_taken d n f b) (subst (λ a. frames_in a f ≡ Ok tt) same is))

pub tests_pass : (is_taken : ℕ → Bool) (d : Data) (n : Numbers) (f : Fields) → IsBegun is_taken d n f → AllPass (framed is_taken d) → header_tests_in f ≡ Ok tt → AllPass (tested is_taken d)
tests_pass is_taken d n f b pass is =
    more (framed is_taken d) (header_tests_in (fields_at d)) tt pass (subst (λ f. header_tests_in f ≡ Ok tt) (these is_taken d n f b) is)

pub tabs_pass : (kind : RuleKind) (is_taken : ℕ → Bool) (d : Data) (n : Numbers) (f : Fields) → IsBegun is_taken d n f → AllPass (tested is_taken d) → tabs_in kind f ≡ Ok tt → AllPass (tabbed kind is_taken d)
tabs_pass kind is_taken d n f b pass is =
    more (tested is_taken d) (tabs_in kind (fields_at d)) tt pass (subst (λ f. tabs_in kind f ≡ Ok tt) (these is_taken d n f b) is)

-- ---- what is refused

pub numbers_refuse : (kind : RuleKind) (is_taken : ℕ → Bool) (d : Data) (fault : Type 0) (refusal : RuleRefusal) → IsRefused (numbers_in is_taken d) refusal → MayRefuse (rule_in kind is_taken d) fault refusal
unfolding rule_in
numbers_refuse kind is_taken d fault refusal h =
    refused_on (numbers_in is_taken d) (after_numbers kind d) (rule_of is_taken d) fault refusal (calm (numbers_in is_taken d) fault refusal h)

pub fields_refuse : (kind : RuleKind) (is_taken : ℕ → Bool) (d c : Data) (n : Numbers) (fault : Type 0) (refusal : RuleRefusal) → numbers_in is_taken d ≡ Ok n → c ≡ condition_at d
    → IsRefused (fields_in c) refusal → MayRefuse (rule_in kind is_taken d) fault refusal
unfolding rule_in
fields_refuse kind is_taken d c n fault refusal numbers is h =
    behind (begun is_taken d) (fields_in (condition_at d)) (after_fields kind d) (rule_of is_taken d) fault refusal (none_more [] (numbers_in is_taken d) n refl numbers)
    (calm (fields_in (condition_at d)) fault refusal (subst (λ c. IsRefused (fields_in c) refusal) is h))

pub filters_refuse : (kind : RuleKind) (is_taken : ℕ → Bool) (d : Data) (n : Numbers) (f : Fields) (rose : Type 0) (refusal : RuleRefusal) → IsBegun is_taken d n f
    → MayRefuse (filters_in f) (rose × IsAtPattern f) refusal → MayRefuse (rule_in kind is_taken d) (rose × IsRuleAtPattern is_taken d) refusal
unfolding rule_in
filters_refuse kind is_taken d n f rose refusal b h =
    let at : rose × IsAtPattern (fields_at d) → rose × IsRuleAtPattern is_taken d =
    λ p. (p.0, record { numbers = ap refusal_in b.numbers; fields = ap refusal_in b.fields; filters = p.1 }) in
    behind (formed is_taken d) (filters_in (fields_at d)) (after_filters kind d) (rule_of is_taken d) (rose × IsRuleAtPattern is_taken d) refusal (forms_pass is_taken d n f b).none
    (blamed (filters_in (fields_at d)) (rose × IsAtPattern (fields_at d)) (rose × IsRuleAtPattern is_taken d) refusal at
    (subst (λ f. MayRefuse (filters_in f) (rose × IsAtPattern f) refusal) (these is_taken d n f b) h))

pub domains_refuse : (kind : RuleKind) (is_taken : ℕ → Bool) (d : Data) (n : Numbers) (f : Fields) (fault : Type 0) (refusal : RuleRefusal) → IsBegun is_taken d n f → AllPass (filtered is_taken d)
    → IsRefused (domain_lists_in f) refusal → MayRefuse (rule_in kind is_taken d) fault refusal
unfolding rule_in
domains_refuse kind is_taken d n f fault refusal b pass h =
    behind (filtered is_taken d) (domain_lists_in (fields_at d)) (after_domains kind d) (rule_of is_taken d) fault refusal pass.none
    (calm (domain_lists_in (fields_at d)) fault refusal (subst (λ f. IsRefused (domain_lists_in f) refusal) (these is_taken d n f b) h))

pub lists_refuse : (kind : RuleKind) (is_taken : ℕ → Bool) (d : Data) (n : Numbers) (f : Fields) (fault : Type 0) (refusal : RuleRefusal) → IsBegun is_taken d n f → AllPass (domained is_taken d)
    → IsRefused (lists_in f) refusal → MayRefuse (rule_in kind is_taken d) fault refusal
unfolding rule_in
lists_refuse kind is_taken d n f fault refusal b pass h =
    behind (domained is_taken d) (lists_in (fields_at d)) (after_lists kind d) (rule_of is_taken d) fault refusal pass.none
    (calm (lists_in (fields_at d)) fault refusal (subst (λ f. IsRefused (lists_in f) refusal) (these is_taken d n f b) h))

pub frames_refuse : (kind : RuleKind) (is_taken : ℕ → Bool) (d : Data) (n : Numbers) (f : Fields) (a : Option Data) (fault : Type 0) (refusal : RuleRefusal) → IsBegun is_taken d n f
    → a ≡ get (codes "action") d → AllPass (listed is_taken d) → IsRefused (frames_in a f) refusal → MayRefuse (rule_in kind is_taken d) fault refusal
unfolding rule_in
frames_refuse kind is_taken d n f a fault refusal b same pass h =
    behind (listed is_taken d) (frames_in (get (codes "action") d) (fields_at d)) (after_frames kind d) (rule_of is_taken d) fault refusal pass.none
    (calm (frames_in (get (codes "action") d) (fields_at d)) fault refusal
    (subst (λ f. IsRefused (frames_in (get (codes "action") d) f) refusal) (these is_taken d n f b) (subst (λ a. IsRefused (frames_in a f) refusal) same h)))

pub tests_refuse : (kind : RuleKind) (is_taken : ℕ → Bool) (d : Data) (n : Numbers) (f : Fields) (fault : Type 0) (refusal : RuleRefusal) → IsBegun is_taken d n f → AllPass (framed is_taken d)
    → IsRefused (header_tests_in f) refusal → MayRefuse (rule_in kind is_taken d) fault refusal
unfolding rule_in
tests_refuse kind is_taken d n f fault refusal b pass h =
    behind (framed is_taken d) (header_tests_in (fields_at d)) (after_tests kind d) (rule_of is_taken d) fault refusal pass.none
    (calm (header_tests_in (fields_at d)) fault refusal (subst (λ f. IsRefused (header_tests_in f) refusal) (these is_taken d n f b) h))

pub tabs_refuse : (kind : RuleKind) (is_taken : ℕ → Bool) (d : Data) (n : Numbers) (f : Fields) (fault : Type 0) (refusal : RuleRefusal) → IsBegun is_taken d n f → AllPass (tested is_taken d)
    → IsRefused (tabs_in kind f) refusal → MayRefuse (rule_in kind is_taken d) fault refusal
unfolding rule_in
tabs_refuse kind is_taken d n f fault refusal b pass h =
    behind (tested is_taken d) (tabs_in kind (fields_at d)) (after_tabs d) (rule_of is_taken d) fault refusal pass.none
    (calm (tabs_in kind (fields_at d)) fault refusal (subst (λ f. IsRefused (tabs_in kind f) refusal) (these is_taken d n f b) h))

-- the groups of the regexFilter and the action as they were read
these_groups : (is_taken : ℕ → Bool) (d : Data) (n : Numbers) (f : Fields) (groups : Option ℕ) → IsBegun is_taken d n f → groups ≡ option_map_or groups_of f.regex_filter None → groups ≡ groups_at d
these_groups is_taken d n f groups b is = is ∙ ap (λ f. option_map_or groups_of f.regex_filter None) (these is_taken d n f b)

pub action_refuse : (kind : RuleKind) (is_taken : ℕ → Bool) (d : Data) (n : Numbers) (f : Fields) (groups : Option ℕ) (a : Option Data) (fault : Type 0) (refusal : RuleRefusal)
    → IsBegun is_taken d n f → groups ≡ option_map_or groups_of f.regex_filter None → a ≡ get (codes "action") d → AllPass (tabbed kind is_taken d)
    → IsRefused (action_in groups a) refusal → MayRefuse (rule_in kind is_taken d) fault refusal
unfolding rule_in
action_refuse kind is_taken d n f groups a fault refusal b is same pass h =
    behind (tabbed kind is_taken d) (action_in (groups_at d) (get (codes "action") d)) [] (rule_of is_taken d) fault refusal pass.none
    (calm (action_in (groups_at d) (get (codes "action") d)) fault refusal
    (subst (λ g. IsRefused (action_in g (get (codes "action") d)) refusal) (these_groups is_taken d n f groups b is) (subst (λ a. IsRefused (action_in groups a) refusal) same h)))

-- ---- the rule

pub rule_is : (kind : RuleKind) (is_taken : ℕ → Bool) (d : Data) (n : Numbers) (f : Fields) (lists : DomainLists) (groups : Option ℕ) (a : Option Data) (condition : Condition) (action : Action)
    → IsBegun is_taken d n f → domain_lists_in f ≡ Ok lists → groups ≡ option_map_or groups_of f.regex_filter None → a ≡ get (codes "action") d → AllPass (tabbed kind is_taken d)
    → action_in groups a ≡ Ok action → condition ≡ condition_of f lists
    → rule_in kind is_taken d ≡ Ok (record { id = n.id; priority = n.priority; condition = condition; action = action })
unfolding rule_in
rule_is kind is_taken d n f lists groups a condition action b domains is same pass acts made_of =
    let acts_so : action_in (groups_at d) (get (codes "action") d) ≡ Ok action =
    subst (λ g. action_in g (get (codes "action") d) ≡ Ok action) (these_groups is_taken d n f groups b is) (subst (λ a. action_in groups a ≡ Ok action) same acts) in
    let all = none_more (tabbed kind is_taken d) (action_in (groups_at d) (get (codes "action") d)) action pass.none acts_so in
    let whole : Rule = rule_of is_taken d in
    let numbers_so : numbers_at is_taken d ≡ n = ap (λ r. result_unwrap_or r no_numbers) b.numbers in
    let fields_so : fields_at d ≡ f = sym (these is_taken d n f b) in
    let lists_so : lists_at d ≡ lists = ap (λ f. result_unwrap_or (domain_lists_in f) no_lists) fields_so ∙ ap (λ r. result_unwrap_or r no_lists) domains in
    let action_so : result_unwrap_or (action_in (groups_at d) (get (codes "action") d)) block ≡ action = ap (λ r. result_unwrap_or r block) acts_so in
    let condition_so : condition_of (fields_at d) (lists_at d) ≡ condition =
    ap (λ f. condition_of f (lists_at d)) fields_so ∙ ap (λ l. condition_of f l) lists_so ∙ sym made_of in
    ap (λ t. unless_refused t whole) all
    ∙ ap (λ (m : Numbers). Ok (record { id = m.id; priority = m.priority; condition = condition_of (fields_at d) (lists_at d); action = result_unwrap_or (action_in (groups_at d) (get (codes "action") d)) block })) numbers_so
    ∙ ap (λ c. Ok (record { id = n.id; priority = n.priority; condition = c; action = result_unwrap_or (action_in (groups_at d) (get (codes "action") d)) block })) condition_so
    ∙ ap (λ a. Ok (record { id = n.id; priority = n.priority; condition = condition; action = a })) action_so
