-- Examples of what `follow` prints, computed from the definitions alone.
use Rattle.std.specs.Prelude.{◌≡◌, ℕ, List, [], ◌∷◌, ◌++◌, codes, false, true, Some, None, Result, Ok, Err}
use Rattle.dnr_base.specs.declared.rule_name.RuleName.{RuleName}
use Rattle.rule_spec.specs.declared.rule_kind.RuleKind.TheVariants.{Static}
use Rattle.rule_spec.specs.Rule.{Rule}
use Rattle.rule_spec.specs.State.{State}
use Rattle.json_spec.specs.RulesFile.{FileRefusal, rules_of}
use Rattle.session_spec.specs.Answers.{Setting}
use Rattle.session_spec.specs.Examples.{replies}
use Rattle.session_spec.specs.Out.{local}
use Rattle.session_spec.specs.Output.{hop_fault_line}
use Rattle.session_spec.specs.Refusals.{install_line, refusal_line}
use Rattle.session_spec.specs.Words.{follow_files, task_of}
use Rattle.update_spec.specs.Entries.{RefusedInstall, opening}

abbrev pub following : Setting
following = record { suffixes = []; workers = 1; updates = false; follows = true }

abbrev followed_in : Result State RefusedInstall → List ℕ → List ℕ
followed_in (Ok state) script = replies following state script
followed_in (Err refused) script = install_line refused

abbrev followed_for : Result (List Rule) FileRefusal → List ℕ → List ℕ
followed_for (Ok rules) script = followed_in (opening (local rules ∷ [])) script
followed_for (Err refusal) script = refusal_line (codes "r.json") refusal

-- the bytes that `follow` writes for a rules file and a script
abbrev followed : List ℕ → List ℕ → List ℕ
followed file script = followed_for (rules_of Static file) script

-- a rule of this id that sends requests of a domain to a URL
abbrev redirect : List ℕ → List ℕ → List ℕ → List ℕ
redirect id domain url =
    codes "{\"id\":" ++ id ++ codes ",\"condition\":{\"urlFilter\":\"||" ++ domain ++ codes "^\"},"
    ++ codes "\"action\":{\"type\":\"redirect\",\"redirect\":{\"url\":\"" ++ url ++ codes "\"}}}"

-- rules that send `a.com` and `b.com` on
abbrev two_redirects : List ℕ → List ℕ → List ℕ
two_redirects first second =
    codes "[" ++ redirect (codes "1") (codes "a.com") first ++ codes "," ++ redirect (codes "2") (codes "b.com") second ++ codes "]"

abbrev asks_for_a : List ℕ
asks_for_a = codes "{\"url\":\"http://a.com/\",\"type\":\"script\"}"

-- the hops of `http://a.com/` and of `https://b.com/`, which rules 1 and 2 send on
abbrev first_hop : List ℕ
first_hop = codes "{\"line\":1,\"hops\":[{\"url\":\"http://a.com/\",\"verdict\":\"redirect\",\"rule\":[\"local\",\"rules\",1]}"

abbrev second_hop : List ℕ
second_hop = codes ",{\"url\":\"https://b.com/\",\"verdict\":\"redirect\",\"rule\":[\"local\",\"rules\",2]}"

-- `follow` takes two names of files.
abbrev pub FollowTakesTwoFileNames : Type 0
FollowTakesTwoFileNames =
    (task_of (codes "follow" ∷ codes "r" ∷ codes "q" ∷ []) ≡ Some (follow_files (codes "r") (codes "q")))
    × (task_of (codes "follow" ∷ codes "r" ∷ []) ≡ None)
    × (task_of (codes "follow" ∷ codes "-r" ∷ codes "q" ∷ []) ≡ None)

-- Each hop stands with what becomes of it, and the end says why no other follows.
abbrev pub TracesAreListed : Type 0
TracesAreListed =
    (followed (two_redirects (codes "https://b.com/") (codes "https://c.com/")) asks_for_a
    ≡ first_hop ++ second_hop ++ codes ",{\"url\":\"https://c.com/\",\"verdict\":\"none\"}],\"end\":\"settled\"}\n")
    × (followed (two_redirects (codes "https://b.com/") (codes "http://a.com/")) asks_for_a
    ≡ first_hop ++ second_hop ++ codes "],\"end\":\"repeated\"}\n")
    × (followed (two_redirects (codes "data:x") (codes "https://c.com/")) asks_for_a ≡ first_hop ++ codes "],\"end\":\"unreadable\"}\n")

-- Where requests are followed nothing is explained, and other lines are what they are in `match`.
abbrev pub FollowExplainsNothing : Type 0
FollowExplainsNothing =
    followed (codes "[]") (codes "{\"cmd\":\"explain\",\"url\":\"http://a.com/\",\"type\":\"script\"}\n{\"cmd\":\"sync\"}\n{}\n")
    ≡ codes "{\"line\":1,\"bad\":\"command\",\"path\":\"cmd\"}\n{\"line\":2,\"bad\":\"command\",\"path\":\"cmd\"}\n"
    ++ codes "{\"line\":3,\"bad\":\"command\",\"path\":\"url\"}\n"

-- A fault names the hop at which the host failed, and the rule.
abbrev pub HopsOfFaultsAreNamed : Type 0
HopsOfFaultsAreNamed =
    hop_fault_line 4 2 (record { ext = codes "local"; set = codes "rules"; id = 7 })
    ≡ codes "{\"line\":4,\"fault\":\"pattern-host\",\"hop\":2,\"rule\":[\"local\",\"rules\",7]}\n"
