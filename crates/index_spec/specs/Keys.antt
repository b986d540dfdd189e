-- The keys of a rule and of a part. A list of keys is taken as a set.
use Rattle.std.specs.Prelude.{ℕ, List, [], ◌∷◌, ◌++◌, map, Bool, true, false, ◌==◌, Option, Some, None, option_and_then, if◌then◌else◌, bytes_eq}
use Rattle.std.specs.List.{list_any}
use Rattle.dnr_base.specs.View.{text_of, host_of}
use Rattle.dnr_base.specs.Request.{Part}
use Rattle.dnr_spec.specs.Domains.{lower_case}
use Rattle.dnr_spec.specs.Hosts.{is_ip_host}
use Rattle.rule_spec.specs.Rule.{Condition, Rule}
use Rattle.index_spec.specs.Words.{words_of, token_of}
use Rattle.index_spec.specs.declared.key.Key.{Key}
use Rattle.index_spec.specs.declared.key.Key.TheVariants.{Host, Token, Initiator, All}

abbrev pub same_key : Key → Key → Bool
same_key (Host domain) (Host other) = bytes_eq domain other
same_key (Token word) (Token other) = bytes_eq word other
same_key (Initiator domain) (Initiator other) = bytes_eq domain other
same_key All All = true
same_key _ _ = false

abbrev pub has_key : List Key → Key → Bool
has_key keys key = list_any (λ other. same_key other key) keys

-- ---- of a rule

abbrev pub keys_by_initiators : Option (List (List ℕ)) → List Key
keys_by_initiators (Some domains) = map Initiator domains
keys_by_initiators None = All ∷ []

abbrev pub keys_by_token : Option (List ℕ) → Condition → List Key
keys_by_token (Some token) condition = Token token ∷ []
keys_by_token None condition = keys_by_initiators condition.initiators

abbrev pub keys_by_hosts : Option (List (List ℕ)) → Condition → List Key
keys_by_hosts (Some domains) condition = map Host domains
keys_by_hosts None condition = keys_by_token (option_and_then token_of condition.url_filter) condition

-- the domains that it is for, else a word of its filter, else who asks, else none of these
abbrev pub keys_of_condition : Condition → List Key
keys_of_condition condition = keys_by_hosts condition.hosts condition

abbrev pub keys_of_rule : Rule → List Key
keys_of_rule rule = keys_of_condition rule.condition

-- ---- of a part

-- what follows each dot of a host
abbrev pub rests_of : List ℕ → List (List ℕ)
rests_of [] = []
rests_of (b ∷ rest) = (if b == 46 then rest ∷ [] else []) ++ rests_of rest

-- the texts by which a host is covered: itself and, unless it is an address, its rests
abbrev pub domains_over : List ℕ → List (List ℕ)
domains_over host = host ∷ (if is_ip_host host then [] else rests_of host)

abbrev pub domains_over_some : Option (List ℕ) → List (List ℕ)
domains_over_some None = []
domains_over_some (Some host) = domains_over host

abbrev pub keys_of_part : Part → List Key
keys_of_part part =
    map Host (domains_over (host_of part.view)) ++ map Token (map lower_case (words_of (text_of part.view)))
    ++ map Initiator (domains_over_some part.initiator) ++ All ∷ []
