-- The fields of a rule's condition: Chrome's reference of declarativeNetRequest, `RuleCondition`.
use Rattle.std.specs.Prelude.{ℕ, List, ◌++◌, codes}
use Rattle.rule_spec.specs.declared.rule_path.RulePath.{RulePath}
use Rattle.rule_spec.specs.declared.rule_path.RulePath.TheVariants as path

-- the keys from the condition down, with dots between them; the condition's own stands in the rule
abbrev pub key_of : RulePath → List ℕ
key_of path.Condition = codes "condition"
key_of path.TopDomains = codes "topDomains"
key_of path.ExcludedTopDomains = codes "excludedTopDomains"
key_of path.ResponseHeaders = codes "responseHeaders"
key_of path.ExcludedResponseHeaders = codes "excludedResponseHeaders"
key_of path.UrlFilter = codes "urlFilter"
key_of path.RegexFilter = codes "regexFilter"
key_of path.IsUrlFilterCaseSensitive = codes "isUrlFilterCaseSensitive"
key_of path.InitiatorDomains = codes "initiatorDomains"
key_of path.ExcludedInitiatorDomains = codes "excludedInitiatorDomains"
key_of path.Domains = codes "domains"
key_of path.ExcludedDomains = codes "excludedDomains"
key_of path.RequestDomains = codes "requestDomains"
key_of path.ExcludedRequestDomains = codes "excludedRequestDomains"
key_of path.DomainType = codes "domainType"
key_of path.ResourceTypes = codes "resourceTypes"
key_of path.ExcludedResourceTypes = codes "excludedResourceTypes"
key_of path.RequestMethods = codes "requestMethods"
key_of path.ExcludedRequestMethods = codes "excludedRequestMethods"
key_of path.TabIds = codes "tabIds"
key_of path.ExcludedTabIds = codes "excludedTabIds"
key_of path.ResponseHeaderValues = codes "responseHeaders.values"
key_of path.ExcludedResponseHeaderValues = codes "excludedResponseHeaders.values"

-- the keys from the rule down, with dots between them
abbrev pub path_name : RulePath → List ℕ
path_name path.Condition = codes "condition"
path_name field = codes "condition." ++ key_of field
