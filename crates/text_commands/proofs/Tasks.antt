-- How each command ends that writes one text, for a shelf that may tell what its files hold.
use Rattle.std.proofs.Common.{◌≡◌, ℕ, List, [], ◌∷◌, ◌++◌, length, codes, Option, Some, None, refl, ap, ◌∙◌, inl, inr, arith}
use Rattle.std.specs.Prelude.{IfSome}
use Rattle.dnr_base.specs.Faults.{Rose}
use Rattle.dnr_spec.specs.declared.status.Status.{Status}
use Rattle.load_spec.specs.Files.{Files, HoldsFile, HoldsRules, HoldsLongFile}
use Rattle.rule_spec.specs.declared.rule_kind.RuleKind.{RuleKind}
use Rattle.rule_spec.specs.declared.rule_kind.RuleKind.TheVariants.{Static}
use Rattle.rule_spec.specs.Rule.{Rule}
use Rattle.session_load.specs.declared.lists.CompiledList.{CompiledList}
use Rattle.session_load.specs.declared.stop.Stop.{Stop}
use Rattle.session_load.specs.declared.stop.Stop.TheVariants as stop
use Rattle.session_load.specs.Lists.{HoldsCompiled}
use Rattle.session_load.specs.Loads.{StopsInFile, StopsInRules, StopsInList}
use Rattle.session_spec.specs.Out.{Outside, HostRose, IsCompiled, conduct_of}
use Rattle.session_load.proofs.Stopped.{stops_map}
use Rattle.session_spec.specs.Hiding.{HidesTooMuch}
use Rattle.session_spec.specs.Loading.{PrintsRefusedRules}
use Rattle.session_spec.specs.Pruning.{RefusesPruning}
use Rattle.session_spec.specs.Refusals.{count_line, unsupported_lines}
use Rattle.session_spec.specs.Words.{check_file, compile_file, hide_page, prune_file}
use Rattle.compile_spec.specs.Compiled.{CompiledRule, rules_in}
use Rattle.compile_spec.specs.Report.{report}
use Rattle.compile_spec.specs.declared.reported.Reported.{Reported}
use Rattle.json_spec.specs.Written.{written as json_text}
use Rattle.list_spec.specs.LineKind as list
use Rattle.text_commands.specs.Ends.{EndsAtOnce, EndsStop, EndsWith, MayEnd}
use Rattle.text_commands.specs.Texts.{HidesTooMany, HoldsTooMany, ShowsPage, ShowsRest, text_of}
use Rattle.text_commands.proofs.Ended.{once_ends, stop_ends, text_ends}

-- ---- `check`

pub check_ends : (known : Option Files) (o : Outside) (kind : RuleKind) (name : List ℕ) (rules : List Rule) (before now : Option (List ℕ)) (n : ℕ) (ended : Status)
    → IfSome known (λ files. HoldsRules files kind name rules) → n ≡ length rules → EndsWith before now o.sink (count_line n) ended → MayEnd known (check_file kind name) o before now ended
check_ends None o kind name rules before now n ended held same ends = tt
check_ends (Some files) o kind name rules before now n ended held same ends =
    text_ends o (conduct_of files o (check_file kind name)) before now (count_line n) ended
    (record { rules = rules; loaded = held; output = ap count_line same }) (inl (record { rules = rules; loaded = held; output = ap count_line same })) ends

pub check_stops : (known : Option Files) (o : Outside) (kind : RuleKind) (name : List ℕ) (before now : Option (List ℕ)) (s : Stop) (ended : Status)
    → StopsInRules known (HostRose o 0) kind name s → (s ≡ stop.ReadFault → Rose o.shelf.before o.shelf.now) → EndsStop before now o.sink s ended → MayEnd known (check_file kind name) o before now ended
check_stops None o kind name before now s ended why fault ends = tt
check_stops (Some files) o kind name before now s ended why fault ends =
    stop_ends o (conduct_of files o (check_file kind name)) (HoldsLongFile files name) before now s ended (λ line refused. inr refused) (λ long. (long, refl)) refl why fault ends

-- ---- `compile`

-- the text of a list by its rules and its report, or by its bytes
same_text : (rules others : List Rule) (reported more : List Reported) → rules ≡ others → reported ≡ more
    → unsupported_lines reported ++ count_line (length rules) ++ json_text rules ++ codes "\n" ≡ unsupported_lines more ++ count_line (length others) ++ json_text others ++ codes "\n"
same_text rules others reported more same told =
    ap (λ r. unsupported_lines r ++ count_line (length rules) ++ json_text rules ++ codes "\n") told
    ∙ ap (λ r. unsupported_lines more ++ count_line (length r) ++ json_text r ++ codes "\n") same

count_in : (all : List CompiledRule) → length (rules_in all) ≡ length all
count_in [] = refl
count_in (one ∷ all) = omega (arith, count_in all)

compiled : (files : Files) (name : List ℕ) (l : CompiledList) → HoldsCompiled files name l → IsCompiled files name (text_of l)
compiled files name l held = record {
  bytes = held.bytes;
  rules = held.compiled.all;
  held = record { file = held.file; few = held.compiled.few; same = held.compiled.same };
  same = same_text l.rules.items (rules_in held.compiled.all) l.report.lines (report (list.lines_of held.bytes)) held.compiled.are_rules held.compiled.is_report
      ∙ ap (λ n. unsupported_lines (report (list.lines_of held.bytes)) ++ count_line n ++ json_text (rules_in held.compiled.all) ++ codes "\n") (count_in held.compiled.all);
}

pub compile_ends : (known : Option Files) (o : Outside) (name : List ℕ) (l : CompiledList) (before now : Option (List ℕ)) (ended : Status)
    → IfSome known (λ files. HoldsCompiled files name l) → EndsWith before now o.sink (text_of l) ended → MayEnd known (compile_file name) o before now ended
compile_ends None o name l before now ended held ends = tt
compile_ends (Some files) o name l before now ended held ends =
    text_ends o (conduct_of files o (compile_file name)) before now (text_of l) ended (compiled files name l held) (inl (compiled files name l held)) ends

pub compile_stops : (known : Option Files) (o : Outside) (name : List ℕ) (before now : Option (List ℕ)) (s : Stop) (ended : Status)
    → StopsInList known (HostRose o 0) name s → (s ≡ stop.ReadFault → Rose o.shelf.before o.shelf.now) → EndsStop before now o.sink s ended → MayEnd known (compile_file name) o before now ended
compile_stops None o name before now s ended why fault ends = tt
compile_stops (Some files) o name before now s ended why fault ends =
    stop_ends o (conduct_of files o (compile_file name)) (HoldsLongFile files name) before now s ended (λ line refused. inr refused) (λ long. (long, refl)) refl why fault ends

-- ---- `hide`

pub hide_ends : (known : Option Files) (o : Outside) (name host bytes : List ℕ) (before now : Option (List ℕ)) (ended : Status)
    → IfSome known (λ files. HoldsFile files name bytes) → EndsAtOnce (ShowsPage (list.lines_of bytes) host) (HidesTooMany name (list.lines_of bytes)) before now o.sink ended
    → MayEnd known (hide_page name host) o before now ended
hide_ends None o name host bytes before now ended held ends = tt
hide_ends (Some files) o name host bytes before now ended held ends =
    once_ends o (conduct_of files o (hide_page name host)) before now ended (ShowsPage (list.lines_of bytes) host) (HidesTooMany name (list.lines_of bytes))
    (λ text shows. record { bytes = bytes; file = held; few = shows.0; same = shows.1 })
    (λ line says. record { bytes = bytes; file = held; beyond = says.0; same = says.1 })
    (λ text done. inl done) (λ line refused. inr refused) ends

pub hide_stops : (known : Option Files) (o : Outside) (name host : List ℕ) (before now : Option (List ℕ)) (s : Stop) (ended : Status)
    → StopsInFile known name s → (s ≡ stop.ReadFault → Rose o.shelf.before o.shelf.now) → EndsStop before now o.sink s ended → MayEnd known (hide_page name host) o before now ended
hide_stops None o name host before now s ended why fault ends = tt
hide_stops (Some files) o name host before now s ended why fault ends =
    stop_ends o (conduct_of files o (hide_page name host)) (HoldsLongFile files name) before now s ended (λ line refused. inr refused) (λ long. (long, refl)) refl
    (stops_map (λ line. ⊥) (HidesTooMuch files name) (HoldsLongFile files name) (HoldsLongFile files name) s (λ line none. absurd none) (λ long. long) why) fault ends

-- ---- `prune`

pub prune_ends : (known : Option Files) (o : Outside) (name : List ℕ) (rules : List Rule) (before now : Option (List ℕ)) (ended : Status)
    → IfSome known (λ files. HoldsRules files Static name rules) → EndsAtOnce (ShowsRest rules) (HoldsTooMany name rules) before now o.sink ended → MayEnd known (prune_file name) o before now ended
prune_ends None o name rules before now ended held ends = tt
prune_ends (Some files) o name rules before now ended held ends =
    once_ends o (conduct_of files o (prune_file name)) before now ended (ShowsRest rules) (HoldsTooMany name rules)
    (λ text shows. record { rules = rules; loaded = held; few = shows.0; same = shows.1 })
    (λ line says. inr (record { rules = rules; loaded = held; beyond = says.0; same = says.1 }))
    (λ text done. inl done) (λ line refused. inr refused) ends

pub prune_stops : (known : Option Files) (o : Outside) (name : List ℕ) (before now : Option (List ℕ)) (s : Stop) (ended : Status)
    → StopsInRules known (HostRose o 0) Static name s → (s ≡ stop.ReadFault → Rose o.shelf.before o.shelf.now) → EndsStop before now o.sink s ended → MayEnd known (prune_file name) o before now ended
prune_stops None o name before now s ended why fault ends = tt
prune_stops (Some files) o name before now s ended why fault ends =
    stop_ends o (conduct_of files o (prune_file name)) (HoldsLongFile files name) before now s ended (λ line refused. inr refused) (λ long. (long, refl)) refl
    (stops_map (PrintsRefusedRules files (HostRose o 0) Static name) (RefusesPruning files (HostRose o 0) name) (HoldsLongFile files name) (HoldsLongFile files name) s
    (λ line refused. inl refused) (λ long. long) why) fault ends
