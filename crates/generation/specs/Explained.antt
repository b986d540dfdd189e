-- What each extension says of a request, by what is kept of it.
use Rattle.std.specs.Prelude.{ℕ, List, option_map}
use Rattle.rule_spec.specs.Scan.{name_of}
use Rattle.explain_spec.specs.Explanation.{Why, WhyRule, ascending_lines}
use Rattle.generation.specs.Kept.{Found, Kept}

abbrev pub why_found : List ℕ → Found → WhyRule
why_found extension found = record {
  rule = name_of extension found.live;
  verb = found.candidate.action;
  priority = found.live.rule.priority;
  frame = found.frame;
  lines = ascending_lines found.live.lines;
}

abbrev pub why_in : Kept → Why
why_in kept = record { ext = kept.name; winner = option_map (why_found kept.name) kept.best }
